-- What `neighbor` lines set (RFC 4271), of a neighbour or of a peer group.
use Rattle.std.specs.Prelude.{◌||◌, false, true, Some, None}
use Rattle.std.specs.Option.{option_or}
use Rattle.rc_config.specs.declared.bgp.NeighborSetting.{NeighborSetting}
use Rattle.rc_config.specs.declared.bgp.NeighborSetting.TheVariants.{RemoteAs, UpdateSource, EbgpMultihop, Shutdown, NextHopSelf, DefaultOriginate, SendCommunity, Weight, RouteMap, PrefixList}
use Rattle.rc_config.specs.declared.interface.Direction.{Direction}
use Rattle.rc_config.specs.declared.interface.Direction.TheVariants.{In, Out}
use Rattle.rc_config.specs.declared.route_map.Mention.{Mention}
use Rattle.rc_config.specs.declared.settings.Settings.{Settings}

-- what no line sets
abbrev pub no_settings : Settings
no_settings = record {
  remote_as = None;
  update_source = None;
  is_multihop = false;
  is_shutdown = false;
  next_hop_self = false;
  default_originate = false;
  send_community = false;
  weight = None;
  map_in = None;
  map_out = None;
  list_in = None;
  list_out = None;
}

-- a route map, and a prefix list, for paths that are heard and for those that are sent
abbrev pub with_map : Settings → Mention → Direction → Settings
with_map s map In = record s { map_in = Some map }
with_map s map Out = record s { map_out = Some map }

abbrev pub with_list : Settings → Mention → Direction → Settings
with_list s list In = record s { list_in = Some list }
with_list s list Out = record s { list_out = Some list }

-- the settings with one more line: it counts in place of an earlier one of its kind, and of each direction by itself
abbrev pub with_setting : Settings → NeighborSetting → Settings
with_setting s (RemoteAs asn) = record s { remote_as = Some asn }
with_setting s (UpdateSource interface) = record s { update_source = Some interface }
with_setting s EbgpMultihop = record s { is_multihop = true }
with_setting s Shutdown = record s { is_shutdown = true }
with_setting s NextHopSelf = record s { next_hop_self = true }
with_setting s DefaultOriginate = record s { default_originate = true }
with_setting s SendCommunity = record s { send_community = true }
with_setting s (Weight weight) = record s { weight = Some weight }
with_setting s (RouteMap map direction) = with_map s map direction
with_setting s (PrefixList list direction) = with_list s list direction

-- A member's own settings over those of its group: a value is the member's own, else the group's, and a flag is on where one of them has it.
abbrev pub over : Settings → Settings → Settings
over own group = record {
  remote_as = option_or own.remote_as group.remote_as;
  update_source = option_or own.update_source group.update_source;
  is_multihop = own.is_multihop || group.is_multihop;
  is_shutdown = own.is_shutdown || group.is_shutdown;
  next_hop_self = own.next_hop_self || group.next_hop_self;
  default_originate = own.default_originate || group.default_originate;
  send_community = own.send_community || group.send_community;
  weight = option_or own.weight group.weight;
  map_in = option_or own.map_in group.map_in;
  map_out = option_or own.map_out group.map_out;
  list_in = option_or own.list_in group.list_in;
  list_out = option_or own.list_out group.list_out;
}
