use Rattle.std.proofs.Common.{◌≡◌, drop}
use Rattle.std.specs.List.{fold}
use Rattle.std.specs.BTreeSet.{keys, insert_key}
use Rattle.rc_base.specs.Prefix.{prefix_cmp}
use Rattle.rc_pieces.specs.Pieces.{joined}
use Rattle.rc_bgp.specs.Candidates.{best_prefixes}
use Rattle.rc_bgp.proofs.deciding.add_best_prefixes.Given as goal

abbrev pub invariant-loop-piece : goal.invariant-loop-piece
invariant-loop-piece l = fold (insert_key prefix_cmp) (keys l.set) (best_prefixes (joined (drop l.piece-index l.piece-items))) ≡ fold (insert_key prefix_cmp) (keys l.initial.set) (best_prefixes l.paths)
