-- The places of paths to AS boundary routers, noted one after another, the last first.
use Rattle.std.proofs.Common.{◌≡◌, ap, sym, ◌∙◌, ℕ, zero, suc, ◌==◌, Bool, true, false, cond, List, [], ◌∷◌, drop, Option, Some}
use Rattle.std.specs.List.{slice_get}
use Rattle.std.specs.Option.{option_and_then}
use Rattle.std.proofs.lemmas.Option.{none-some, same_Some}
use Rattle.rc_ospf.specs.BoundaryPaths.{BoundaryPath}
use Rattle.rc_external.specs.BoundaryIndex.{ArePlaces, place_at}
use Rattle.rc_external.specs.Ways.{path_to}

rest_is : (paths : List BoundaryPath) (k : ℕ) (x : BoundaryPath) → slice_get paths k ≡ Some x → drop k paths ≡ x ∷ drop (suc k) paths
rest_is [] k x is = absurd (none-some x is)
rest_is (y ∷ ys) zero x is = ap (λ z. z ∷ ys) (same_Some y x is)
rest_is (y ∷ ys) (suc k) x is = rest_is ys k x is

-- the path before those that are noted
pub one_noted : (paths : List BoundaryPath) (k : ℕ) (x : BoundaryPath) (old new : List (Option ℕ)) → slice_get paths k ≡ Some x
    → ((s : ℕ) → place_at new s ≡ cond (x.router == s) (Some k) (place_at old s)) → ArePlaces paths (drop (suc k) paths) old → ArePlaces paths (drop k paths) new
one_noted paths k x old new at noted are = record {
  each = λ s. ap (option_and_then (slice_get paths)) (noted s) ∙ by (x.router == s) s (are.each s) ∙ sym (ap (λ l. path_to l s) (rest_is paths k x at));
}
  where
    by : (b : Bool) (s : ℕ) → option_and_then (slice_get paths) (place_at old s) ≡ path_to (drop (suc k) paths) s
        → option_and_then (slice_get paths) (cond b (Some k) (place_at old s)) ≡ cond b (Some x) (path_to (drop (suc k) paths) s)
    by true s rest = at
    by false s rest = rest
