-- What values under names end as, once a `&mut` to one of them has ended.
use Rattle.std.specs.Prelude.{ℕ, zero, suc, List, [], ◌∷◌, Option}
use Rattle.std.specs.Borrow.{Fml, RattleType, MutBor, LendsIf}
use Rattle.rc_config.specs.contracts.named.Named.{the_row}

-- the entries with another value at an index
abbrev pub set_value_at : {V : Type 0} → List (List ℕ × V) → ℕ → V → List (List ℕ × V)
set_value_at [] i w = []
set_value_at (e ∷ es) zero w = (e.0, w) ∷ es
set_value_at (e ∷ es) (suc i) w = e ∷ set_value_at es i w

-- the value at the index is the last that was written through r, and at `None` all stays as it is
abbrev pub lends_at : (V : RattleType) → MutBor (List (List ℕ × V.Denot)) → ℕ → Option (MutBor V.Denot) → Fml
lends_at V m i r = LendsIf (the_row V) V m r (set_value_at m.now i) m.now
