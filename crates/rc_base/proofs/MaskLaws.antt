-- The first length of a range that a mask has.
use Rattle.std.proofs.Common.{◌≡◌, ℕ, suc, ◌+◌, Bool, false, refl}
use Rattle.std.specs.Prelude.{find}
use Rattle.std.specs.List.{range_with_len}

pub other_length : (p : ℕ → Bool) (n k : ℕ) → p n ≡ false → find p (range_with_len n (suc k)) ≡ find p (range_with_len (n + 1) k)
other_length p n k h = rw h refl
