use Rattle.std.proofs.Common.{length}
use Rattle.rc_route.specs.Tables.{IsListed}
use Rattle.rc_pieces.specs.Editing.{KeepsWhole}
use Rattle.rc_pieces.proofs.editing.with_edits.Given as goal

abbrev pub invariant-loop-edit : goal.invariant-loop-edit
invariant-loop-edit g l = record {
  whole : KeepsWhole g.T.HasPrefix.prefix_of l.items l.end l.fn.edits.items l.made l.left l.edits.items;
  up : IsListed g.T.HasPrefix.prefix_of l.left;
}

abbrev pub decreases-loop-edit : goal.decreases-loop-edit
decreases-loop-edit g l = length l.edits.items
