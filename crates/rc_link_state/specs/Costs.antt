-- Costs as they are kept, in four bytes each: of what no walk leads from the greatest number stands for none.
use Rattle.std.specs.Prelude.{ℕ, ◌==◌, if◌then◌else◌, Option, Some, None, unwrap_or}

abbrev pub never : ℕ
never = 4294967295

abbrev pub told : ℕ → Option ℕ
told code = if code == never then None else Some code

abbrev pub code_of : Option ℕ → ℕ
code_of cost = unwrap_or cost never
