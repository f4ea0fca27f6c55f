-- Values under names, given twice.
use Rattle.std.proofs.Common.{◌≡◌, ℕ, Bool, true, false, List, [], ◌∷◌, refl, ap}
use Rattle.std.specs.Cmp.Lexicographic.{bytes_decides}
use Rattle.rc_base.specs.Name.{same_name}
use Rattle.rc_config.specs.Named.{with_value}

pub same_name-self : (name : List ℕ) → same_name name name ≡ true
same_name-self name = (bytes_decides name name).1 refl

-- of two values that are put under one name, the later stays
pub with_value_again : {V : Type 0} (es : List (List ℕ × V)) (name : List ℕ) (v w : V) → with_value (with_value es name v) name w ≡ with_value es name w
with_value_again [] name v w = rw (same_name-self name) refl
with_value_again {V} (e ∷ es) name v w = by (same_name name e.0) refl (with_value_again es name v w)
  where
    by : (b : Bool) → same_name name e.0 ≡ b → with_value (with_value es name v) name w ≡ with_value es name w
        → with_value (with_value (e ∷ es) name v) name w ≡ with_value (e ∷ es) name w
    by true p rest = rw p (rw p refl)
    by false p rest = rw p (rw p (ap (λ t. e ∷ t) rest))
