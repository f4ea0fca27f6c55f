use Rattle.std.proofs.Common.{◌≡◌, take}
use Rattle.std.specs.Slots.{slots_items}
use Rattle.rc_nodes.proofs.table.words_of.Given as goal

abbrev pub invariant-loop-slot : goal.invariant-loop-slot
invariant-loop-slot l = record { so_far : l.words.items ≡ take l.slot (slots_items l.closed.words) }
