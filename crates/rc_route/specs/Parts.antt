-- Lists in parts.
use Rattle.std.specs.Prelude.{List}
use Rattle.std.specs.Arc.{arc_value}
use Rattle.std.specs.List.{flat_map}
use Rattle.std.specs.declared.alloc.Global.{Global}
use Rattle.std.specs.declared.sync.Arc.{Arc}

-- the elements of all parts, one part behind the other
abbrev pub joined_parts : {X : Type 0} → List (Arc (List X) Global) → List X
joined_parts parts = flat_map arc_value parts
