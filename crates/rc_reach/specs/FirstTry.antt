-- In how large a table a set is tried first, and when it is tried again.
use Rattle.std.specs.Prelude.{ℕ, ◌<◌, Bool, true, false, Result, Ok, Err}
use Rattle.rc_bdd.specs.declared.work.SetError.{SetError}
use Rattle.rc_bdd.specs.declared.work.SetError.TheVariants.{Full, Memory}

-- how many nodes the table of a first try may have room for: fewer than are allowed
pub record IsFirstRoom (allowed room : ℕ) : Type 0 where
  pub some : 0 < room
  pub below : room < allowed

-- the table was full, and nothing else was lacking
abbrev pub is_full : {A : Type 0} → Result A SetError → Bool
is_full (Ok made) = false
is_full (Err Full) = true
is_full (Err Memory) = false
