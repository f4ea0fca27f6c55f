-- The parts of a hop that were made.
use Rattle.std.specs.Prelude.{ℕ, List, Option, Some, None, slice_get, unwrap_or}
use Rattle.rc_router_sets.specs.declared.hop_steps.Part.{Part}
use Rattle.rc_router_sets.specs.declared.hop_steps.Part.TheVariants.{Over, LetOut, Taken, Subnets}
use Rattle.rc_router_sets.specs.declared.router_sets.HopParts.{HopParts}
use Rattle.rc_nodes.specs.declared.words.Ref.{Ref}

-- none of the sets of a hop is made
abbrev pub no_parts : HopParts
no_parts = record { over = None; let_out = None; taken = None; subnets = None }

abbrev pub part_in : HopParts → Part → Option Ref
part_in s Over = s.over
part_in s LetOut = s.let_out
part_in s Taken = s.taken
part_in s Subnets = s.subnets

abbrev pub with_part : HopParts → Part → Ref → HopParts
with_part s Over r = record s { over = Some r }
with_part s LetOut r = record s { let_out = Some r }
with_part s Taken r = record s { taken = Some r }
with_part s Subnets r = record s { subnets = Some r }

-- those of an index, none where there is no such hop
abbrev pub parts_of : List HopParts → ℕ → HopParts
parts_of all k = unwrap_or (slice_get all k) no_parts
