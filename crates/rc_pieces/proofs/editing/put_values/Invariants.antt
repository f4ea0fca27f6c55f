use Rattle.std.proofs.Common.{◌≡◌, ◌++◌, [], length}
use Rattle.rc_pieces.specs.Editing.{edited}
use Rattle.rc_pieces.proofs.editing.put_values.Given as goal

-- what is put together, and then what the edits left say
abbrev pub invariant-loop-edit : goal.invariant-loop-edit
invariant-loop-edit g l = l.values ++ edited g.T.HasPrefix.prefix_of [] l.edits.items ≡ edited g.T.HasPrefix.prefix_of [] l.fn.edits.items

abbrev pub decreases-loop-edit : goal.decreases-loop-edit
decreases-loop-edit g l = length l.edits.items
