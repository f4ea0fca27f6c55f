-- Worked cases of a best path with further next hops, and of the route that it gives, each by computation.
use Rattle.std.specs.Prelude.{◌≡◌, ℕ, List, [], ◌∷◌, Option, Some, None, option_and_then, refl}
use Rattle.rc_bgp_decide.specs.Multipath.{multi_places}
use Rattle.rc_bgp_session.specs.Nets.{external, gigabit, ip, ninth, on, peer, process, router, subnet, two}
use Rattle.rc_bgp_session.specs.declared.session.Session.{Session}
use Rattle.rc_config.specs.declared.network.Network.{Network}
use Rattle.rc_route.specs.Best.{alone}
use Rattle.rc_route.specs.declared.best.Best.{Best}
use Rattle.rc_route.specs.declared.path.BgpPath.{BgpPath}
use Rattle.rc_route.specs.declared.path.PathSource.{PathSource}
use Rattle.rc_route.specs.declared.path.PathSource.TheVariants.{Network as ByNetwork, External, Internal}
use Rattle.rc_route.specs.declared.route.Hop.TheVariants.{Via}
use Rattle.rc_route.specs.declared.route.Source.TheVariants.{Ebgp, Ibgp}
use Rattle.rc_bgp.specs.Candidates.{advertised_best, best_with_further}
use Rattle.rc_bgp.specs.Learning.{learned_route}
use Rattle.rc_config.specs.declared.bgp.MaximumPaths.{MaximumPaths}

abbrev up_to : ℕ → ℕ → MaximumPaths
up_to external internal = record { external = external; internal = internal }

-- 10.0.9.0/24 over 10.0.12.n, from a sender of the identifier m
abbrev over : PathSource → ℕ → ℕ → BgpPath
over source m n = record (ninth 0 source) { next_hop = ip 12 n; weight = 0; as_path = 65001 ∷ []; sender_id = m; neighbor = ip 12 n }

-- the identifiers rise against the next hops
abbrev four : PathSource → List BgpPath
four source = over source 1 8 ∷ over source 4 5 ∷ over source 3 6 ∷ over source 2 7 ∷ []

abbrev with : BgpPath → List ℕ → Option Best
with x also = Some (record { path = x; also = also })

pub none_of_none : best_with_further (up_to 4 4) [] ≡ None
unfolding multi_places
none_of_none = refl

-- one path, two, as many as there are, and more; those beside the best one in their turn
pub up_to_one : best_with_further (up_to 1 1) (four External) ≡ with (over External 1 8) []
unfolding multi_places
up_to_one = refl

pub up_to_two : best_with_further (up_to 2 1) (four External) ≡ with (over External 1 8) (ip 12 7 ∷ [])
unfolding multi_places
up_to_two = refl

pub up_to_four : best_with_further (up_to 4 1) (four External) ≡ with (over External 1 8) (ip 12 7 ∷ ip 12 6 ∷ ip 12 5 ∷ [])
unfolding multi_places
up_to_four = refl

pub up_to_many : best_with_further (up_to 32 1) (four External) ≡ with (over External 1 8) (ip 12 7 ∷ ip 12 6 ∷ ip 12 5 ∷ [])
unfolding multi_places
up_to_many = refl

-- the number for the other kind doesn't count
pub internal_number : best_with_further (up_to 1 4) (four External) ≡ with (over External 1 8) []
unfolding multi_places
internal_number = refl

pub external_number : best_with_further (up_to 4 1) (four Internal) ≡ with (over Internal 1 8) []
unfolding multi_places
external_number = refl

pub internal_paths : best_with_further (up_to 1 3) (four Internal) ≡ with (over Internal 1 8) (ip 12 7 ∷ ip 12 6 ∷ [])
unfolding multi_places
internal_paths = refl

-- what the router originates stands alone
pub originated : best_with_further (up_to 4 4) (ninth 0 ByNetwork ∷ four External) ≡ with (ninth 0 ByNetwork) []
unfolding multi_places
originated = refl

-- the route goes over all of them, by address
pub route_over_three : option_and_then learned_route (best_with_further (up_to 3 1) (four External))
    ≡ Some (record { prefix = subnet 9; source = Ebgp; distance = 20; metric = 0; hops = Via (ip 12 6) None ∷ Via (ip 12 7) None ∷ Via (ip 12 8) None ∷ [] })
unfolding multi_places
route_over_three = refl

pub internal_route_over_two : option_and_then learned_route (best_with_further (up_to 1 2) (four Internal))
    ≡ Some (record { prefix = subnet 9; source = Ibgp; distance = 200; metric = 0; hops = Via (ip 12 7) None ∷ Via (ip 12 8) None ∷ [] })
unfolding multi_places
internal_route_over_two = refl

-- ---- to others the best path alone is told

abbrev pair : Network
pair = two (router ((gigabit, on 12 1 24) ∷ []) (process 65001 (peer (ip 12 2) 65002 ∷ []))) (router ((gigabit, on 12 2 24) ∷ []) (process 65002 (peer (ip 12 1) 65001 ∷ [])))

abbrev to_second : Session
to_second = external 0 (ip 12 1) 1 (ip 12 2)

abbrev told : List Best → Option BgpPath
told paths = advertised_best pair (record { table = []; paths = paths } ∷ []) to_second (subnet 9)

pub best_alone_is_told : told (record { path = over External 1 8; also = ip 12 7 ∷ [] } ∷ []) ≡ told (alone (over External 1 8) ∷ [])
best_alone_is_told = refl

pub its_next_hop_is_own : told (record { path = over External 1 8; also = ip 12 7 ∷ [] } ∷ []) ≡ Some (record (over External 1 8) { next_hop = ip 12 1; as_path = 65001 ∷ 65001 ∷ [] })
its_next_hop_is_own = refl
