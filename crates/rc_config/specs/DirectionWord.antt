-- The words with which lines say in which direction a list filters (IOS).
use Rattle.std.specs.Prelude.{ℕ, List, Option, Some, None, if◌then◌else◌, codes}
use Rattle.std.specs.Str.{bytes_eq}
use Rattle.rc_config.specs.declared.interface.Direction.{Direction}
use Rattle.rc_config.specs.declared.interface.Direction.TheVariants.{In, Out}

-- the direction that a word is: `in` or `out`
abbrev pub direction_of : List ℕ → Option Direction
direction_of w = if bytes_eq w (codes "in") then Some In else (if bytes_eq w (codes "out") then Some Out else None)
