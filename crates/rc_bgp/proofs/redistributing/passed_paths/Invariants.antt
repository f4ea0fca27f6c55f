use Rattle.std.proofs.Common.{◌≡◌, ◌++◌, drop}
use Rattle.std.specs.List.{filter_map}
use Rattle.rc_pieces.specs.Pieces.{joined}
use Rattle.rc_bgp.specs.Redistributing.{redistributed, redistributed_paths}
use Rattle.rc_bgp.proofs.redistributing.passed_paths.Given as goal

abbrev pub invariant-loop-piece : goal.invariant-loop-piece
invariant-loop-piece l =
    l.paths ++ filter_map (redistributed l.router l.file l.source l.kinds l.prefixes l.line) (joined (drop l.piece-index l.piece-items)) ≡ redistributed_paths l.router l.file l.source l.kinds l.prefixes l.table l.line
