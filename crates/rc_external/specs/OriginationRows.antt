-- Worked cases of what AS boundary routers send, each by computation.
use Rattle.std.specs.Prelude.{◌≡◌, ℕ, ◌+◌, ◌*◌, true, false, List, [], ◌∷◌, map, Some, None, codes, refl}
use Rattle.std.specs.List.{fold}
use Rattle.rc_base.specs.Prefix.{Cidr}
use Rattle.rc_config.specs.Cuts.{uncut}
use Rattle.rc_config.specs.Update.{after, empty}
use Rattle.rc_config.specs.declared.access_list.Action.{Action}
use Rattle.rc_config.specs.declared.access_list.Action.TheVariants.{Permit, Deny}
use Rattle.rc_config.specs.declared.command.Command.{Command}
use Rattle.rc_config.specs.declared.command.Command.TheVariants as command
use Rattle.rc_config.specs.declared.lists.ListLine.TheVariants as list_line
use Rattle.rc_config.specs.declared.map_line.MapLine.TheVariants.{Match, Set}
use Rattle.rc_config.specs.declared.map_line.MatchKind.TheVariants.{PrefixList, CommunityList}
use Rattle.rc_config.specs.declared.map_line.SetLine.{SetLine}
use Rattle.rc_config.specs.declared.map_line.SetLine.TheVariants as set
use Rattle.rc_config.specs.declared.network.Network.{Network}
use Rattle.rc_config.specs.declared.ospf.DefaultInformation.{DefaultInformation}
use Rattle.rc_config.specs.declared.ospf.OspfLine.TheVariants as line
use Rattle.rc_config.specs.declared.ospf.RedistributedSource.{RedistributedSource}
use Rattle.rc_config.specs.declared.ospf.RedistributedSource.TheVariants as source
use Rattle.rc_config.specs.declared.ospf.Redistribution.{Redistribution}
use Rattle.rc_config.specs.declared.router_text.RouterText.{RouterText}
use Rattle.rc_config.specs.declared.sets.MetricType.{MetricType}
use Rattle.rc_config.specs.declared.sets.MetricType.TheVariants.{Type1, Type2}
use Rattle.rc_base.specs.declared.origin.Origin.TheVariants.{Igp}
use Rattle.rc_route.specs.Best.{alone}
use Rattle.rc_route.specs.declared.path.BgpPath.{BgpPath}
use Rattle.rc_route.specs.declared.path.PathSource.TheVariants.{External}
use Rattle.rc_route.specs.declared.route.Hop.TheVariants.{Null}
use Rattle.rc_route.specs.declared.route.Route.{Route}
use Rattle.rc_route.specs.declared.route.Source.{Source}
use Rattle.rc_route.specs.declared.route.Source.TheVariants.{Connected, Static, Ebgp, Ospf, OspfIa, OspfE1, OspfE2, Ibgp}
use Rattle.rc_route.specs.declared.state.RouterState.{RouterState}
use Rattle.rc_external.specs.AsExternal.{AsExternal}
use Rattle.rc_external.specs.Externals.{by_prefix, externals}
use Rattle.rc_external.specs.Origination.{all_sent, sent_by_file}

-- a.b.c.0
abbrev pub address : ℕ → ℕ → ℕ → ℕ
address a b c = a * 16777216 + b * 65536 + c * 256

abbrev pub prefix : ℕ → ℕ → ℕ → ℕ → Cidr
prefix a b c len = record { network = address a b c; len = len }

abbrev route : Source → Cidr → Route
route s p = record { prefix = p; source = s; distance = 1; metric = 7; hops = Null ∷ [] }

abbrev file : List Command → RouterText
file commands = fold after empty commands

-- a process with these lines in its block
abbrev process : List Command → RouterText
process lines = file (command.OspfOpened 1 ∷ lines)

abbrev all_of : RedistributedSource → Redistribution
all_of s = record { source = s; metric = None; metric_type = None; subnets = true; route_map = None }

abbrev redistribute : Redistribution → Command
redistribute l = command.OspfLine (line.Redistribute l)

abbrev knows : List Route → RouterState
knows table = record { table = table; paths = [] }

-- what router 3 with this file sends of these routes
abbrev sends : RouterText → List Route → List AsExternal
sends file table = sent_by_file 3 file (knows table)

abbrev sent : Cidr → ℕ → MetricType → AsExternal
sent p metric type = record { boundary = 3; prefix = p; metric = metric; metric_type = type }

abbrev office : Cidr
office = prefix 172 16 5 24

-- the metric is 20 and the type 2, where the line says nothing else; the metric and the distance of the route don't count
pub by_default : sends (process (redistribute (all_of source.Static) ∷ [])) (route Static office ∷ []) ≡ sent office 20 Type2 ∷ []
by_default = refl

pub as_written : sends (process (redistribute (record (all_of source.Connected) { metric = Some 0; metric_type = Some Type1 }) ∷ [])) (route Connected office ∷ []) ≡ sent office 0 Type1 ∷ []
as_written = refl

-- each line takes the routes of its own source, and the order of the lines doesn't count
abbrev every_source : List Route
every_source =
    route Connected (prefix 10 0 0 24) ∷ route Static (prefix 10 0 1 24) ∷ route Ebgp (prefix 10 0 2 24) ∷ route Ospf (prefix 10 0 3 24) ∷ route OspfIa (prefix 10 0 4 24)
    ∷ route OspfE1 (prefix 10 0 5 24) ∷ route OspfE2 (prefix 10 0 6 24) ∷ route Ibgp (prefix 10 0 7 24) ∷ []

pub own_source : sends (process (redistribute (all_of source.Static) ∷ [])) every_source ≡ sent (prefix 10 0 1 24) 20 Type2 ∷ []
own_source = refl

pub both_sources : sends (process (redistribute (record (all_of source.Static) { metric = Some 5 }) ∷ redistribute (all_of source.Connected) ∷ [])) every_source
    ≡ sent (prefix 10 0 0 24) 20 Type2 ∷ sent (prefix 10 0 1 24) 5 Type2 ∷ []
both_sources = refl

pub no_line : sends (process []) every_source ≡ []
no_line = refl

-- a router without a process sends nothing
pub no_process : sends (file []) every_source ≡ []
no_process = refl

-- without `subnets` only routes with the length of their address's class pass, whatever their source
abbrev natural_only : RedistributedSource → RouterText
natural_only s = process (redistribute (record (all_of s) { subnets = false }) ∷ [])

abbrev lengths : Source → List Route
lengths s =
    route s (prefix 10 0 0 7) ∷ route s (prefix 10 0 0 8) ∷ route s (prefix 10 0 0 9) ∷ route s (prefix 172 16 0 8) ∷ route s (prefix 172 16 0 16) ∷ route s (prefix 172 16 5 24)
    ∷ route s (prefix 192 168 0 16) ∷ route s (prefix 192 168 5 24) ∷ route s (prefix 192 168 5 32) ∷ route s (prefix 224 0 0 8) ∷ route s (prefix 224 0 0 24) ∷ []

abbrev of_class : List AsExternal
of_class = sent (prefix 10 0 0 8) 20 Type2 ∷ sent (prefix 172 16 0 16) 20 Type2 ∷ sent (prefix 192 168 5 24) 20 Type2 ∷ []

pub natural_static : sends (natural_only source.Static) (lengths Static) ≡ of_class
natural_static = refl

pub natural_connected : sends (natural_only source.Connected) (lengths Connected) ≡ of_class
natural_connected = refl

-- with it those from 224.0.0.0 on pass too
pub beyond_classes : sends (process (redistribute (all_of source.Static) ∷ [])) (route Static (prefix 224 0 0 4) ∷ []) ≡ sent (prefix 224 0 0 4) 20 Type2 ∷ []
beyond_classes = refl

-- 0.0.0.0/0 never passes, and 0.0.0.0/8 does
pub default_kept : sends (process (redistribute (all_of source.Static) ∷ [])) (route Static (prefix 0 0 0 0) ∷ route Static (prefix 0 0 0 8) ∷ []) ≡ sent (prefix 0 0 0 8) 20 Type2 ∷ []
default_kept = refl

-- ---- route maps

abbrev by_map : Redistribution
by_map = record (all_of source.Static) { metric = Some 30; route_map = Some (record { name = codes "M"; line = 9 }) }

abbrev entry : Action → List Command → List Command
entry action lines = command.MapOpened (codes "M") 10 action ∷ lines

abbrev setting : SetLine → Command
setting l = command.MapLine (codes "M") 10 (Set l)

-- what is sent of the office's route by a line with this route map
abbrev through : List Command → List AsExternal
through map = sends (process (redistribute by_map ∷ map)) (route Static office ∷ [])

-- the map is given the line's metric and type, and its sets count
pub passed : through (entry Permit []) ≡ sent office 30 Type2 ∷ []
passed = refl

pub metric_set : through (entry Permit (setting (set.Metric 5) ∷ setting (set.MetricType Type1) ∷ [])) ≡ sent office 5 Type1 ∷ []
metric_set = refl

-- a metric above 16,777,214 counts as that
pub metric_above : through (entry Permit (setting (set.Metric 16777215) ∷ [])) ≡ sent office 16777214 Type2 ∷ []
metric_above = refl

pub metric_greatest : through (entry Permit (setting (set.Metric 4294967295) ∷ [])) ≡ sent office 16777214 Type2 ∷ []
metric_greatest = refl

-- what it denies isn't sent, nor what no entry of it matches, nor anything by a map that isn't there
pub denied : through (entry Deny []) ≡ []
denied = refl

abbrev listed : Cidr → List Command
listed p = command.ListLine (codes "P") (list_line.PrefixLine (record { sequence = 5; action = Permit; prefix = p; ge = None; le = None })) ∷ command.MapLine (codes "M") 10 (Match PrefixList (codes "P" ∷ []) 9) ∷ []

pub matched : through (entry Permit (listed office)) ≡ sent office 30 Type2 ∷ []
matched = refl

pub not_matched : through (entry Permit (listed (prefix 172 16 6 24))) ≡ []
not_matched = refl

pub no_map : through [] ≡ []
no_map = refl

-- a prefix that the line doesn't let pass doesn't come to the map
pub before_the_map : sends (process (redistribute (record by_map { subnets = false }) ∷ entry Permit [])) (route Static office ∷ []) ≡ []
before_the_map = refl

-- ---- routes of BGP

abbrev of_bgp : Redistribution
of_bgp = all_of (source.Bgp 65001)

-- a router of the AS of this number that redistributes so
abbrev speaker : ℕ → Redistribution → List Command → RouterText
speaker asn l map = process (redistribute l ∷ command.BgpOpened asn ∷ map)

-- those of another AS pass at the metric 1, where the number is that of the router's own AS; those of its own never do
pub from_other_as : sends (speaker 65001 of_bgp []) every_source ≡ sent (prefix 10 0 2 24) 1 Type2 ∷ []
from_other_as = refl

pub other_number : sends (speaker 65002 of_bgp []) every_source ≡ []
other_number = refl

pub no_speaker : sends (process (redistribute of_bgp ∷ [])) every_source ≡ []
no_speaker = refl

pub as_the_line_says : sends (speaker 65001 (record of_bgp { metric = Some 20; metric_type = Some Type1 }) []) every_source ≡ sent (prefix 10 0 2 24) 20 Type1 ∷ []
as_the_line_says = refl

-- a route map sees the attributes of the best path to the prefix, and of other routes those of what begins here
abbrev path : Cidr → List ℕ → BgpPath
path p communities = record {
  prefix = p;
  next_hop = 9;
  med = 7;
  local_preference = 100;
  weight = 0;
  origin = Igp;
  as_path = 65002 ∷ [];
  communities = communities;
  source = External;
  sender = 1;
  sender_id = 5;
  neighbor = 9;
  igp_metric = 0;
}

abbrev tagged : Action → List Command
tagged action =
    command.ListLine (codes "C") (list_line.CommunityLine (record { action = Permit; communities = 7 ∷ [] })) ∷ command.MapOpened (codes "M") 10 action
    ∷ command.MapLine (codes "M") 10 (Match CommunityList (codes "C" ∷ []) 9) ∷ setting (set.Metric 5) ∷ []

abbrev through_map : Redistribution → Redistribution
through_map l = record l { route_map = Some (record { name = codes "M"; line = 9 }) }

abbrev sends_with : RouterText → List Route → List BgpPath → List AsExternal
sends_with file table paths = sent_by_file 3 file (record { table = table; paths = map alone paths })

pub communities_seen : sends_with (speaker 65001 (through_map of_bgp) (tagged Permit)) (route Ebgp office ∷ []) (path (prefix 10 0 9 24) [] ∷ path office (7 ∷ []) ∷ []) ≡ sent office 5 Type2 ∷ []
communities_seen = refl

pub other_communities : sends_with (speaker 65001 (through_map of_bgp) (tagged Permit)) (route Ebgp office ∷ []) (path (prefix 10 0 9 24) (7 ∷ []) ∷ path office [] ∷ []) ≡ []
other_communities = refl

pub no_communities : sends_with (process (redistribute (through_map (all_of source.Static)) ∷ tagged Permit)) (route Static office ∷ []) (path office (7 ∷ []) ∷ []) ≡ []
no_communities = refl

-- ---- the default route

abbrev originate : DefaultInformation
originate = record { always = false; metric = None; metric_type = None }

abbrev sends_default : DefaultInformation → List Route → List AsExternal
sends_default l table = sends (process (command.OspfLine (line.DefaultInformation l) ∷ [])) table

abbrev default : Cidr
default = prefix 0 0 0 0

-- it is sent where the table has it from a source that is not OSPF, at the metric 1 and of type 2
pub default_there : sends_default originate (route Static default ∷ route Static office ∷ []) ≡ sent default 1 Type2 ∷ []
default_there = refl

pub default_from_bgp : sends_default originate (route Ibgp default ∷ []) ≡ sent default 1 Type2 ∷ []
default_from_bgp = refl

pub no_default : sends_default originate (route Static (prefix 0 0 0 8) ∷ []) ≡ []
no_default = refl

pub default_from_ospf :
    (sends_default originate (route Ospf default ∷ []) ≡ []) × (sends_default originate (route OspfIa default ∷ []) ≡ [])
    × (sends_default originate (route OspfE1 default ∷ []) ≡ []) × (sends_default originate (route OspfE2 default ∷ []) ≡ [])
default_from_ospf = (refl, refl, refl, refl)

-- with `always` in any case
pub default_always : sends_default (record originate { always = true }) [] ≡ sent default 1 Type2 ∷ []
default_always = refl

pub default_always_there : sends_default (record originate { always = true }) (route OspfE2 default ∷ []) ≡ sent default 1 Type2 ∷ []
default_always_there = refl

-- as the line says, and no metric is above 16,777,214
pub default_as_written : sends_default (record { always = true; metric = Some 0; metric_type = Some Type1 }) [] ≡ sent default 0 Type1 ∷ []
default_as_written = refl

pub default_above : sends_default (record { always = true; metric = Some 4294967295; metric_type = None }) [] ≡ sent default 16777214 Type2 ∷ []
default_above = refl

-- beside what is redistributed
pub default_beside : sends (process (redistribute (all_of source.Static) ∷ command.OspfLine (line.DefaultInformation originate) ∷ [])) (route Static default ∷ route Static office ∷ [])
    ≡ sent default 1 Type2 ∷ sent office 20 Type2 ∷ []
default_beside = refl

-- ---- a network

abbrev statics : RouterText
statics = process (redistribute (all_of source.Static) ∷ [])

abbrev net : Network
net = uncut ((codes "a", statics) ∷ (codes "b", file []) ∷ (codes "c", statics) ∷ [])

abbrev from : ℕ → Cidr → AsExternal
from r p = record { boundary = r; prefix = p; metric = 20; metric_type = Type2 }

-- each router sends of its own table, in the network's order
abbrev state : List RouterState
state = knows (route Static office ∷ []) ∷ knows (route Static (prefix 10 0 9 24) ∷ []) ∷ knows (route Static (prefix 10 0 1 24) ∷ route Static office ∷ []) ∷ []

pub of_all : all_sent net state ≡ from 0 office ∷ from 2 (prefix 10 0 1 24) ∷ from 2 office ∷ []
of_all = refl

-- of a state in which nobody knows anything nothing is sent
pub of_nothing : externals net [] ≡ []
unfolding by_prefix
of_nothing = refl

-- by address, and for each prefix in the order of the routers
pub in_rows : externals net state ≡ record { prefix = prefix 10 0 1 24; externals = from 2 (prefix 10 0 1 24) ∷ [] } ∷ record { prefix = office; externals = from 0 office ∷ from 2 office ∷ [] } ∷ []
unfolding by_prefix
in_rows = refl
