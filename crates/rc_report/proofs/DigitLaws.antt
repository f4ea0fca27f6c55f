-- The digits of a number below 1000, one behind another.
use Rattle.std.proofs.Common.{◌≡◌, ℕ, ◌+◌, ◌/◌, ◌%◌, ◌<◌, ◌≤◌, List, [], ◌∷◌, ◌++◌, arith, append_assoc}
use Rattle.std.specs.Fmt.{decimal}
use Rattle.std.proofs.lemmas.Fmt.{decimal_digit, decimal_step}

pub one_digit : (n : ℕ) (old new : List ℕ) → n < 10 → new ≡ old ++ (48 + n) ∷ [] → new ≡ old ++ decimal n
one_digit n old new small e = rw (decimal_digit n small) e

-- the last digit behind the others
pub last_digit : (n : ℕ) (old front new : List ℕ) → 10 ≤ n → n < 1000 → front ≡ old ++ decimal (n / 10) → new ≡ front ++ (48 + n % 10) ∷ [] → new ≡ old ++ decimal n
last_digit n old front new ten small f e = rw (decimal_step n ten (omega arith), e, f) (append_assoc old (decimal (n / 10)) ((48 + n % 10) ∷ []))

pub two_digits : (n : ℕ) (old front new : List ℕ) → 10 ≤ n → n < 100 → front ≡ old ++ (48 + n / 10) ∷ [] → new ≡ front ++ (48 + n % 10) ∷ [] → new ≡ old ++ decimal n
two_digits n old front new ten small f e = last_digit n old front new ten (omega arith) (one_digit (n / 10) old front (omega arith) f) e
