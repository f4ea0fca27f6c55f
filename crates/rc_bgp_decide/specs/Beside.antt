-- The paths beside the best one, as the code finds them: it holds each against the best one alone.
use Rattle.std.specs.Prelude.{◌≡◌, ℕ, ◌≤◌, ◌==◌, Bool, not, ◌&&◌, if◌then◌else◌, List, [], ◌∷◌, ◌++◌, filter, length, map, take}
use Rattle.std.specs.BTreeSet.{insert_key}
use Rattle.std.specs.List.{fold, list_any}
use Rattle.rc_base.specs.Lists.{in_order}
use Rattle.rc_base.specs.Orders.{origin_number}
use Rattle.rc_route.specs.Paths.{path_source_rank}
use Rattle.rc_route.specs.declared.path.BgpPath.{BgpPath}
use Rattle.rc_bgp_decide.specs.Decision.{is_originated, standing}
use Rattle.rc_bgp_decide.specs.Multipath.{same_as_path, same_next_hop, turn, turn_cmp}
use Rattle.rc_bgp_decide.specs.declared.standing.Standing.{Standing}
use Rattle.rc_bgp_decide.specs.declared.turn.Turn.{Turn}

-- equal in all that the eliminations up to the lowest IGP metric read, where the AS paths are the same
unfoldable pub is_equal : Standing → Standing → Bool
is_equal x y =
    (x.weight == y.weight)
    && (x.local_preference == y.local_preference)
    && (path_source_rank x.source == path_source_rank y.source)
    && (origin_number x.origin == origin_number y.origin)
    && (x.med == y.med)
    && (x.igp_metric == y.igp_metric)

-- another path than the best one, equal to it, and with its whole AS path
abbrev pub is_other : ℕ × BgpPath → ℕ × BgpPath → Bool
is_other best e = not (e.0 == best.0) && (is_equal (standing best.1) (standing e.1) && same_as_path best.1 e.1)

-- the turns of such paths
abbrev pub other_turns : ℕ × BgpPath → List (ℕ × BgpPath) → List Turn
other_turns best all = map turn (filter (is_other best) all)

-- those behind the best one
abbrev pub turns_behind : ℕ × BgpPath → List (ℕ × BgpPath) → List Turn
turns_behind best all = if is_originated best.1.source then [] else in_order turn_cmp (other_turns best all)

-- the turns after one more path
abbrev pub with_other : ℕ × BgpPath → List Turn → ℕ × BgpPath → List Turn
with_other best ts e = if is_other best e then insert_key turn_cmp ts (turn e) else ts

-- the turns after one more, which stays away where its next hop is there
abbrev pub with_new : List Turn → Turn → List Turn
with_new ts t = if list_any (same_next_hop t) ts then ts else ts ++ t ∷ []

-- what is chosen so far may grow by one turn, and what comes of it and the rest, up to so many, stays the same
pub record IsTaken (n : ℕ) (old : List Turn) (t : Turn) (new : List Turn) : Type 0 where
  pub same : (rest : List Turn) → take n (fold with_new new rest) ≡ take n (fold with_new old (t ∷ rest))
  pub within : length old ≤ n → length new ≤ n
