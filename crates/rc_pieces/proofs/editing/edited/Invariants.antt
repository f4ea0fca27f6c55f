use Rattle.std.proofs.Common.{◌≡◌, ◌++◌, length}
use Rattle.rc_route.specs.Tables.{IsListed}
use Rattle.rc_pieces.specs.Editing.{edited}
use Rattle.rc_pieces.specs.Pieces.{AreFilled, joined}
use Rattle.rc_pieces.proofs.editing.edited.Given as goal

-- what is put together, and then what is left with the edits left
abbrev pub invariant-loop-piece : goal.invariant-loop-piece
invariant-loop-piece g l = record {
  whole : l.made ++ edited g.T.HasPrefix.prefix_of (joined l.left) l.edits.items ≡ edited g.T.HasPrefix.prefix_of l.known l.fn.edits.items;
  up : IsListed g.T.HasPrefix.prefix_of (joined l.left);
  filled : AreFilled l.left;
}

abbrev pub decreases-loop-piece : goal.decreases-loop-piece
decreases-loop-piece g l = length l.left
