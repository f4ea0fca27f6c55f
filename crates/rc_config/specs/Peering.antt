-- Peer groups, and which neighbours are active: what their lines say, and what holds of a neighbour by them.
use Rattle.std.specs.Prelude.{ℕ, Bool, true, List, [], Option, Some, None, unwrap_or}
use Rattle.std.specs.Option.{option_map, option_map_or, option_or}
use Rattle.rc_config.specs.ByNumber.{placed, with_number}
use Rattle.rc_config.specs.Named.{named, with_value}
use Rattle.rc_config.specs.Settings.{no_settings, over, with_setting}
use Rattle.rc_config.specs.declared.bgp.Neighbor.{Neighbor}
use Rattle.rc_config.specs.declared.bgp.NeighborSetting.{NeighborSetting}
use Rattle.rc_config.specs.declared.peering.Activity.{Activity}
use Rattle.rc_config.specs.declared.peering.Group.{Group}
use Rattle.rc_config.specs.declared.peering.Member.{Member}
use Rattle.rc_config.specs.declared.peering.Peer.{Peer}
use Rattle.rc_config.specs.declared.peering.Peer.TheVariants as peer
use Rattle.rc_config.specs.declared.peering.Peering.{Peering}

-- the addresses by which members of groups, and activities, stand among others
abbrev pub member_address : Member → ℕ
member_address m = m.address

abbrev pub activity_address : Activity → ℕ
activity_address a = a.address

-- a group of which no line says anything
abbrev pub no_group : Group
no_group = record { settings = no_settings; is_active = None }

-- no group and no line about activity: each neighbour is active
abbrev pub no_peering : Peering
no_peering = record { groups = []; members = []; activities = []; is_active_by_default = true }

-- the group of a name, one that says nothing where there is none
abbrev pub group_named : Peering → List ℕ → Group
group_named q name = unwrap_or (named q.groups name) no_group

-- ---- lines

-- with this group under a name, which keeps its place or goes last
abbrev pub with_group : Peering → List ℕ → Group → Peering
with_group q name g = record q { groups = with_value q.groups name g }

-- `neighbor NAME peer-group`: a group that is declared again stays as it is
abbrev pub with_declared : Peering → List ℕ → Peering
with_declared q name = with_group q name (group_named q name)

-- a line that sets something of a group
abbrev pub with_shared : Peering → List ℕ → NeighborSetting → Peering
with_shared q name setting = with_group q name (record (group_named q name) { settings = with_setting (group_named q name).settings setting })

-- an `activate` line about a neighbour or a group, or one that takes it back: the last one counts
abbrev pub with_activity : Peering → Peer → Bool → Peering
with_activity q (peer.Address a) is_active = record q { activities = placed activity_address (record { address = a; is_active = is_active }) q.activities }
with_activity q (peer.Group name) is_active = with_group q name (record (group_named q name) { is_active = Some is_active })

-- `neighbor A peer-group NAME`: a neighbour is a member of one group, that of its last line
abbrev pub with_member : Peering → ℕ → List ℕ → Peering
with_member q a name = record q { members = placed member_address (record { address = a; group = name }) q.members }

-- ---- what holds of a neighbour in the end

-- the group of a member; of a neighbour in none, one that says nothing
abbrev pub group_of : Peering → ℕ → Group
group_of q a = option_map_or (λ (m : Member). group_named q m.group) (with_number member_address a q.members) no_group

-- whether a neighbour is active by its own last line, where there is one
abbrev pub own_activity : Peering → ℕ → Option Bool
own_activity q a = option_map (λ (x : Activity). x.is_active) (with_number activity_address a q.activities)

-- A neighbour is active by its own last line, else by its group's last line, else as without a line.
abbrev pub is_active_in : Peering → ℕ → Bool
is_active_in q a = unwrap_or (option_or (own_activity q a) (group_of q a).is_active) q.is_active_by_default

-- A neighbour with what holds of it in the end: its own settings over those of its group, and whether it is active.
abbrev pub settled_in : Peering → Neighbor → Neighbor
settled_in q n = record n { settings = over n.settings (group_of q n.address).settings; is_active = is_active_in q n.address }
