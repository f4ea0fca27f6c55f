-- Next hops beside that of a best path.
use Rattle.std.specs.Prelude.{ℕ, List, [], Option, Some, None}
use Rattle.std.specs.Arc.{arc_value}
use Rattle.std.specs.declared.alloc.Global.{Global}
use Rattle.std.specs.declared.sync.Arc.{Arc}

-- the addresses that are kept of further next hops
abbrev pub kept_addresses : Option (Arc (List ℕ) Global) → List ℕ
kept_addresses None = []
kept_addresses (Some addresses) = arc_value addresses
