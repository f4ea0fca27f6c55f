-- The decision of BGP (RFC 4271 s.9.1.1, s.9.1.2.2): which of the paths to one prefix is the best.
use Rattle.std.specs.Prelude.{ℕ, ◌==◌, nat_lt, Bool, true, false, not, ◌&&◌, List, [], ◌∷◌, Option, Some, None, length, slice_get, option_map}
use Rattle.std.specs.List.{enumerate_from}
use Rattle.rc_base.specs.Lists.{keep}
use Rattle.rc_base.specs.Orders.{origin_number}
use Rattle.rc_route.specs.Paths.{path_source_rank}
use Rattle.rc_route.specs.declared.path.BgpPath.{BgpPath}
use Rattle.rc_route.specs.declared.path.PathSource.{PathSource}
use Rattle.rc_route.specs.declared.path.PathSource.TheVariants.{External, Internal}
use Rattle.rc_bgp_decide.specs.declared.standing.Standing.{Standing}

-- what the decision reads of a path: of its AS path no more than the length and the first AS
abbrev pub standing : BgpPath → Standing
standing p = record {
  weight = p.weight;
  local_preference = p.local_preference;
  med = p.med;
  igp_metric = p.igp_metric;
  sender_id = p.sender_id;
  neighbor = p.neighbor;
  path_length = length p.as_path;
  first_as = slice_get p.as_path 0;
  origin = p.origin;
  source = p.source;
}

-- a peer in another AS sent the path
abbrev pub is_external : PathSource → Bool
is_external External = true
is_external _ = false

-- a peer in the router's own AS sent the path
abbrev pub is_internal : PathSource → Bool
is_internal Internal = true
is_internal _ = false

-- no peer sent it: the router originates it
abbrev pub is_originated : PathSource → Bool
is_originated s = not (is_external s) && not (is_internal s)

-- one neighbouring AS (RFC 4271 s.9.1.2.2 c); those without any are one group
abbrev pub same_first_as : Option ℕ → Option ℕ → Bool
same_first_as None None = true
same_first_as (Some a) (Some b) = a == b
same_first_as _ _ = false

-- ---- the tests: x is better than y

-- the higher weight, which is Cisco's
abbrev pub by_weight : Standing → Standing → Bool
by_weight x y = nat_lt y.weight x.weight

-- the higher local preference (RFC 4271 s.9.1.1)
abbrev pub by_local_preference : Standing → Standing → Bool
by_local_preference x y = nat_lt y.local_preference x.local_preference

-- what the router originates before what peers sent
abbrev pub by_origination : Standing → Standing → Bool
by_origination x y = is_originated x.source && not (is_originated y.source)

-- the shorter AS path (RFC 4271 s.9.1.2.2 a)
abbrev pub by_path_length : Standing → Standing → Bool
by_path_length x y = nat_lt x.path_length y.path_length

-- the lower origin: IGP, EGP, incomplete (b)
abbrev pub by_origin : Standing → Standing → Bool
by_origin x y = nat_lt (origin_number x.origin) (origin_number y.origin)

-- the lower MED, among paths of one first AS alone (c). No order of pairs says this: of three paths each may so be better than the
-- next one, in a circle
abbrev pub by_med : Standing → Standing → Bool
by_med x y = same_first_as x.first_as y.first_as && nat_lt x.med y.med

-- what a peer in another AS sent before what one in the own AS did (d)
abbrev pub by_session : Standing → Standing → Bool
by_session x y = is_external x.source && is_internal y.source

-- the lower metric of the route to the next hop (e)
abbrev pub by_igp_metric : Standing → Standing → Bool
by_igp_metric x y = nat_lt x.igp_metric y.igp_metric

-- the lower BGP identifier of the sender (f)
abbrev pub by_sender_id : Standing → Standing → Bool
by_sender_id x y = nat_lt x.sender_id y.sender_id

-- the lower address of the sender (g)
abbrev pub by_neighbor : Standing → Standing → Bool
by_neighbor x y = nat_lt x.neighbor y.neighbor

-- among paths that the router originates: `network`, then redistributed connected, static and OSPF routes
abbrev pub by_source : Standing → Standing → Bool
by_source x y = nat_lt (path_source_rank x.source) (path_source_rank y.source)

-- ---- the eliminations

-- one after another, each among those that the ones before left
abbrev pub eliminations : List (Standing → Standing → Bool)
eliminations =
    by_weight
    ∷ by_local_preference
    ∷ by_origination
    ∷ by_path_length
    ∷ by_origin
    ∷ by_med
    ∷ by_session
    ∷ by_igp_metric
    ∷ by_sender_id
    ∷ by_neighbor
    ∷ by_source
    ∷ []

-- those that are left: each elimination drops all for which a better one is there
abbrev pub eliminate : {X : Type 0} → (X → Standing) → List (Standing → Standing → Bool) → List X → List X
eliminate of [] xs = xs
eliminate of (better ∷ rest) xs = eliminate of rest (keep (λ x y. better (of x) (of y)) xs)

-- of those that are left the first one
abbrev pub first_left : {X : Type 0} → (X → Standing) → List X → Option X
first_left of xs = slice_get (eliminate of eliminations xs) 0

-- the best path: the first of those that the eliminations leave
abbrev pub best_path : List BgpPath → Option BgpPath
best_path paths = first_left standing paths

-- the place of the best one, counted from 0
abbrev pub place_of_best : {X : Type 0} → (X → Standing) → List X → Option ℕ
place_of_best {X} of xs = option_map (λ (e : ℕ × X). e.0) (first_left (λ (e : ℕ × X). of e.1) (enumerate_from 0 xs))

-- the place of the best path, counted from 0
abbrev pub best_place : List BgpPath → Option ℕ
best_place paths = place_of_best standing paths

-- the place of the best of some standings, counted from 0
abbrev pub best_standing : List Standing → Option ℕ
best_standing standings = place_of_best (λ s. s) standings
