-- Worked cases of redistribution into BGP, each by computation.
use Rattle.std.specs.Prelude.{◌≡◌, ℕ, true, false, List, [], ◌∷◌, Some, None, codes, refl}
use Rattle.rc_base.specs.Prefix.{prefix_at}
use Rattle.rc_base.specs.declared.origin.Origin.TheVariants.{Incomplete}
use Rattle.rc_config.specs.Bgp.{no_lines}
use Rattle.rc_config.specs.Cuts.{uncut}
use Rattle.rc_config.specs.Ospf.{no_lines as no_ospf_lines}
use Rattle.rc_config.specs.RouteMap.{fresh_entry}
use Rattle.rc_config.specs.Sets.{no_sets}
use Rattle.rc_config.specs.Update.{empty}
use Rattle.rc_config.specs.IfType.{type_of}
use Rattle.rc_config.specs.declared.access_list.Action.TheVariants.{Permit}
use Rattle.rc_config.specs.declared.bgp.BgpRedistribution.{BgpRedistribution}
use Rattle.rc_config.specs.declared.bgp.OspfKinds.{OspfKinds}
use Rattle.rc_config.specs.declared.network.Network.{Network}
use Rattle.rc_config.specs.declared.router_text.RouterText.{RouterText}
use Rattle.rc_route.specs.declared.path.BgpPath.{BgpPath}
use Rattle.rc_route.specs.declared.path.PathSource.{PathSource}
use Rattle.rc_route.specs.declared.path.PathSource.TheVariants.{Connected, Static, Ospf}
use Rattle.rc_route.specs.declared.route.Route.{Route}
use Rattle.rc_route.specs.declared.route.Source.{Source}
use Rattle.rc_route.specs.declared.route.Source.TheVariants as source
use Rattle.rc_ospf_interfaces.specs.Interfaces.{ospf_interfaces}
use Rattle.rc_bgp_session.specs.Nets.{subnet, gigabit, loopback, on}
use Rattle.rc_bgp.specs.Originating.{originated}
use Rattle.rc_bgp.specs.AllOriginated.{own_paths}
use Rattle.rc_bgp.specs.Redistributing.{no_kinds, redistributed_paths}

-- 10.0.m.0/24 from a source, with the metric m
abbrev from : Source → ℕ → Route
from s m = record { prefix = subnet m; source = s; distance = 1; metric = m; hops = [] }

-- a table with a route of each source, that for 0.0.0.0/0 first
abbrev table : List Route
table = record (from source.Static 0) { prefix = prefix_at 0 0 } ∷ from source.Connected 1 ∷ from source.Static 2 ∷ from source.Ebgp 3 ∷ from source.Ospf 4 ∷ from source.OspfIa 5 ∷ from source.OspfE1 6 ∷ from source.OspfE2 7 ∷ from source.Ibgp 8 ∷ []

abbrev plain : BgpRedistribution
plain = record { metric = None; route_map = None }

-- the path of 10.0.m.0/24, with the route's metric
abbrev path : PathSource → ℕ → BgpPath
path s m = originated 3 s Incomplete m (subnet m)

abbrev kinds : OspfKinds
kinds = record { internal = true; external_1 = false; external_2 = false }

pub connected_routes : redistributed_paths 3 empty Connected no_kinds [] table plain ≡ path Connected 1 ∷ []
connected_routes = refl

-- 0.0.0.0/0 never passes
pub static_routes : redistributed_paths 3 empty Static no_kinds [] table plain ≡ path Static 2 ∷ []
static_routes = refl

-- the line's metric goes before the route's
pub given_metric : redistributed_paths 3 empty Static no_kinds [] table (record plain { metric = Some 70 }) ≡ originated 3 Static Incomplete 70 (subnet 2) ∷ []
given_metric = refl

pub internal_kind : redistributed_paths 3 empty Ospf kinds [] table plain ≡ path Ospf 4 ∷ path Ospf 5 ∷ []
internal_kind = refl

-- with the connected prefixes of OSPF interfaces, and no other
pub connected_on_ospf : redistributed_paths 3 empty Ospf kinds (subnet 1 ∷ subnet 2 ∷ []) table plain ≡ path Ospf 1 ∷ path Ospf 4 ∷ path Ospf 5 ∷ []
connected_on_ospf = refl

pub external_kind_1 : redistributed_paths 3 empty Ospf (record no_kinds { external_1 = true }) (subnet 1 ∷ []) table plain ≡ path Ospf 6 ∷ []
external_kind_1 = refl

pub external_kind_2 : redistributed_paths 3 empty Ospf (record no_kinds { external_2 = true }) (subnet 1 ∷ []) table plain ≡ path Ospf 7 ∷ []
external_kind_2 = refl

-- ---- route maps

abbrev mapping : RouterText
mapping = record empty { route_maps = (codes "SET", record { entries = record (fresh_entry 10 Permit) { sets = record no_sets { metric = Some 9; weight = Some 5; prepended = 65001 ∷ [] } } ∷ [] }) ∷ (codes "NONE", record { entries = [] }) ∷ [] }

abbrev through : List ℕ → BgpRedistribution
through name = record plain { route_map = Some (record { name = name; line = 7 }) }

pub map_sets : redistributed_paths 3 mapping Static no_kinds [] table (through (codes "SET")) ≡ record (path Static 2) { med = 9; weight = 5; as_path = 65001 ∷ [] } ∷ []
map_sets = refl

pub map_rejects : redistributed_paths 3 mapping Static no_kinds [] table (through (codes "NONE")) ≡ []
map_rejects = refl

-- ---- a router of AS 65001 with an OSPF process 1 on 10.0.1.1/24 and a loopback 10.0.9.1/24

abbrev with_process : ℕ → Network
with_process number = uncut ((
  codes "R1",
  record empty {
    interfaces = (gigabit, on 1 1 24) ∷ (loopback, on 9 1 24) ∷ [];
    ospf = Some (record (no_ospf_lines 1) { networks = record { address = 0; wildcard = 4294967295; area = 0 } ∷ [] });
    bgp = Some (record (no_lines 65001) { redistributions = record { connected = None; static_routes = None; ospf = record { process = number; kinds = kinds; redistribution = plain } ∷ [] } });
  },
) ∷ [])

abbrev own_table : List Route
own_table = record (from source.Connected 1) { metric = 0 } ∷ from source.Ospf 4 ∷ record (from source.Connected 9) { metric = 0 } ∷ []

pub own_process : own_paths (with_process 1) own_table 0
    ≡ [] ∷ [] ∷ [] ∷ (originated 0 Ospf Incomplete 0 (subnet 1) ∷ originated 0 Ospf Incomplete 4 (subnet 4) ∷ originated 0 Ospf Incomplete 0 (subnet 9) ∷ []) ∷ []
unfolding ospf_interfaces type_of
own_process = refl

pub another_process : own_paths (with_process 2) own_table 0 ≡ [] ∷ [] ∷ [] ∷ [] ∷ []
unfolding ospf_interfaces type_of
another_process = refl
