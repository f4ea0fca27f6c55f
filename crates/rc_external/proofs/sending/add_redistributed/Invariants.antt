use Rattle.std.proofs.Common.{◌≡◌, ◌++◌, drop}
use Rattle.std.specs.List.{filter_map}
use Rattle.rc_pieces.specs.Pieces.{joined}
use Rattle.rc_external.specs.Origination.{redistributed}
use Rattle.rc_external.proofs.sending.add_redistributed.Given as goal

abbrev pub invariant-loop-piece : goal.invariant-loop-piece
invariant-loop-piece l =
    l.all ++ filter_map (redistributed l.router l.file l.process l.paths) (joined (drop l.piece-index l.pieces))
    ≡ l.initial.all ++ filter_map (redistributed l.router l.file l.process l.paths) l.table
