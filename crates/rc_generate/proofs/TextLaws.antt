-- Texts that are put one behind another.
use Rattle.std.proofs.Common.{◌≡◌, ap, ◌∙◌, ℕ, List, ◌++◌, Result, Ok, Err, OnOk, append_assoc}
use Rattle.std.specs.Prelude.{is_ok, if◌then◌else◌}

pub put_then : (old a b : List ℕ) {x y : List ℕ} → x ≡ old ++ a → y ≡ x ++ b → y ≡ old ++ (a ++ b)
put_then old a b p q = q ∙ ap (λ l. l ++ b) p ∙ append_assoc old a b

-- the last one, where memory may run out
pub put_last : {E : Type 0} (r : Result (Unit {0}) E) (old a b : List ℕ) {x y : List ℕ} → x ≡ old ++ a → y ≡ (if is_ok r then x ++ b else x) → OnOk r (y ≡ old ++ (a ++ b))
put_last (Ok u) old a b p q = put_then old a b p q
put_last (Err e) old a b p q = tt
