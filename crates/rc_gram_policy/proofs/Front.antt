-- Values that are read one by one.
use Rattle.std.proofs.Common.{ℕ, List, ◌++◌}

-- those so far, and then those that the words behind them are
abbrev pub all_followed : {A : Type 0} → List A → List A × List (List ℕ) → List A × List (List ℕ)
all_followed xs p = (xs ++ p.0, p.1)
