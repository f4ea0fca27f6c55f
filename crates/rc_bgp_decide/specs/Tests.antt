-- The decision as one pass: all paths that the first six tests leave are equal by the first five, and of them the leader is the first
-- that none beats by the tests behind.
use Rattle.std.specs.Prelude.{ℕ, ◌+◌, Bool, true, false, cond, not, ◌&&◌, ◌||◌, List, [], ◌∷◌, Option, Some, None}
use Rattle.std.specs.List.{list_any}
use Rattle.rc_bgp_decide.specs.Decision.{is_internal, by_weight, by_local_preference, by_origination, by_path_length, by_origin, by_med, by_igp_metric, by_sender_id, by_neighbor, by_source}
use Rattle.rc_bgp_decide.specs.declared.standing.Standing.{Standing}
use Rattle.rc_bgp_decide.specs.declared.leader.Leader.{Leader}

-- better by the first of the tests in which the two differ
abbrev pub in_turn : List (Standing → Standing → Bool) → Standing → Standing → Bool
in_turn [] x y = false
in_turn (better ∷ rest) x y = better x y || (not (better y x) && in_turn rest x y)

-- what isn't from the own AS before what is: among paths of peers alone this is `by_session`
abbrev pub by_way : Standing → Standing → Bool
by_way x y = not (is_internal x.source) && is_internal y.source

-- the tests up to the one on the MED, and those behind it
unfoldable pub first_tests : Standing → Standing → Bool
first_tests = in_turn (by_weight ∷ by_local_preference ∷ by_origination ∷ by_path_length ∷ by_origin ∷ by_med ∷ [])

unfoldable pub last_tests : Standing → Standing → Bool
last_tests = in_turn (by_way ∷ by_igp_metric ∷ by_sender_id ∷ by_neighbor ∷ by_source ∷ [])

-- one of them is better by the first tests
abbrev pub is_beaten : {X : Type 0} → (X → Standing) → List X → Standing → Bool
is_beaten of all x = list_any (λ y. first_tests (of y) x) all

-- there is no leader, or one that is worse by the last tests
abbrev pub is_ahead : Option Leader → Standing → Bool
is_ahead None x = true
is_ahead (Some leader) x = last_tests x leader.standing

-- the leader after one more
abbrev pub leader_after : {X : Type 0} → (X → Standing) → List X → Option Leader → Leader → Option Leader
leader_after of all leader next = cond (is_ahead leader next.standing && not (is_beaten of all next.standing)) (Some next) leader

-- the leader after those from a place on
abbrev pub leader_from : {X : Type 0} → (X → Standing) → List X → Option Leader → ℕ → List X → Option Leader
leader_from of all leader place [] = leader
leader_from of all leader place (x ∷ xs) = leader_from of all (leader_after of all leader (record { place = place; standing = of x })) (place + 1) xs
