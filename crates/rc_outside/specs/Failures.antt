-- Calls that are to fail, each with the bytes to be taken before.
use Rattle.std.specs.Prelude.{ℕ, List, [], ◌∷◌, min, nat_eq, if◌then◌else◌, Option, Some, None}

-- the bytes to be taken before the failure of the call of this number: those of the first pair that names it
abbrev pub failure_of : List (ℕ × ℕ) → ℕ → Option ℕ
failure_of [] call = None
failure_of (f ∷ fs) call = if nat_eq f.0 call then Some f.1 else failure_of fs call

-- how many bytes of a piece a failing call takes: those that are listed for it, else as many as there is room for
abbrev pub limit_of : Option ℕ → ℕ → ℕ → ℕ
limit_of None free len = free
limit_of (Some taken) free len = min (min taken len) free
