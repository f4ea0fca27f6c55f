-- Worked cases of a table that is mended at the prefixes whose best path changed, each by computation.
use Rattle.std.specs.Prelude.{◌≡◌, ℕ, ◌+◌, ◌*◌, List, [], ◌∷◌, map, None, refl}
use Rattle.rc_base.specs.Prefix.{Cidr, prefix_at}
use Rattle.rc_base.specs.declared.origin.Origin.TheVariants.{Igp}
use Rattle.rc_rib.specs.Connected.{connected_route_over}
use Rattle.rc_rib.specs.Mending.{mended}
use Rattle.rc_route.specs.Best.{alone}
use Rattle.rc_route.specs.declared.best.Best.{Best}
use Rattle.rc_route.specs.declared.path.BgpPath.{BgpPath}
use Rattle.rc_route.specs.declared.path.PathSource.{PathSource}
use Rattle.rc_route.specs.declared.path.PathSource.TheVariants as by_path
use Rattle.rc_route.specs.declared.route.Hop.{Hop}
use Rattle.rc_route.specs.declared.route.Hop.TheVariants.{Null, Via}
use Rattle.rc_route.specs.declared.route.Route.{Route}
use Rattle.rc_route.specs.declared.route.Source.{Source}
use Rattle.rc_route.specs.declared.route.Source.TheVariants.{Static, Ebgp, Ospf, Ibgp}

-- 10.0.m.n, and 10.0.m.0/24
abbrev address : ℕ → ℕ → ℕ
address m n = 10 * 16777216 + m * 256 + n

abbrev subnet : ℕ → Cidr
subnet m = prefix_at (address m 0) 24

abbrev route : Source → ℕ → Hop → ℕ → Route
route source distance hop m = record { prefix = subnet m; source = source; distance = distance; metric = 0; hops = hop ∷ [] }

abbrev own : Route
own = connected_route_over 7 (subnet 1) (0 ∷ [])

abbrev static : ℕ → Route
static m = route Static 1 Null m

abbrev ospf : ℕ → Route
ospf m = route Ospf 110 (Via (address 1 2) None) m

abbrev ebgp : ℕ → Route
ebgp m = route Ebgp 20 (Via (address 1 9) None) m

abbrev ibgp : ℕ → Route
ibgp m = route Ibgp 200 (Via (address 1 9) None) m

-- the best path of 10.0.m.0/24, which another AS told, or an internal peer
abbrev best : PathSource → ℕ → Best
best source m = alone record {
  prefix = subnet m;
  next_hop = address 1 9;
  med = 0;
  local_preference = 100;
  weight = 0;
  sender_id = 1;
  neighbor = address 1 9;
  igp_metric = 0;
  origin = Igp;
  source = source;
  sender = 3;
  communities = [];
  as_path = 65001 ∷ [];
}

-- a router with a static route of 10.0.5.0/24, and routes by OSPF of 10.0.6.0/24 and 10.0.7.0/24; these best paths give this table, where
-- those prefixes changed
abbrev Mends : List Route → List Best → List ℕ → List Route → Type 0
Mends known paths changed table = mended (own ∷ static 5 ∷ []) paths (ospf 6 ∷ ospf 7 ∷ []) known (map subnet changed) ≡ table

-- a prefix that had no route has that of its best path
pub a_path_comes : Mends (own ∷ static 5 ∷ ospf 6 ∷ ospf 7 ∷ []) (best by_path.External 4 ∷ []) (4 ∷ []) (own ∷ ebgp 4 ∷ static 5 ∷ ospf 6 ∷ ospf 7 ∷ [])
a_path_comes = refl

-- where it goes nothing is left of it
pub a_path_goes : Mends (own ∷ ebgp 4 ∷ static 5 ∷ ospf 6 ∷ ospf 7 ∷ []) [] (4 ∷ []) (own ∷ static 5 ∷ ospf 6 ∷ ospf 7 ∷ [])
a_path_goes = refl

-- by administrative distance: it goes before a route by OSPF, behind a static one, and from an internal peer behind both
pub by_distance : Mends (own ∷ static 5 ∷ ospf 6 ∷ ospf 7 ∷ []) (best by_path.External 5 ∷ best by_path.External 6 ∷ best by_path.Internal 7 ∷ []) (5 ∷ 6 ∷ 7 ∷ [])
    (own ∷ static 5 ∷ ebgp 6 ∷ ospf 7 ∷ [])
by_distance = refl

-- what stood behind it comes back
pub another_comes_back : Mends (own ∷ static 5 ∷ ebgp 6 ∷ ospf 7 ∷ []) [] (6 ∷ []) (own ∷ static 5 ∷ ospf 6 ∷ ospf 7 ∷ [])
another_comes_back = refl

-- a path of the router itself gives no route
pub an_own_path : Mends (own ∷ ibgp 4 ∷ static 5 ∷ ospf 6 ∷ ospf 7 ∷ []) (best by_path.Network 4 ∷ []) (4 ∷ []) (own ∷ static 5 ∷ ospf 6 ∷ ospf 7 ∷ [])
an_own_path = refl

-- what isn't told as changed stays
pub the_rest_stays : Mends (own ∷ ebgp 3 ∷ static 5 ∷ ospf 6 ∷ ospf 7 ∷ []) (best by_path.External 4 ∷ []) (4 ∷ []) (own ∷ ebgp 3 ∷ ebgp 4 ∷ static 5 ∷ ospf 6 ∷ ospf 7 ∷ [])
the_rest_stays = refl
