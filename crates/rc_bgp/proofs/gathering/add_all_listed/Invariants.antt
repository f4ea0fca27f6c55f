use Rattle.std.proofs.Common.{◌≡◌, drop}
use Rattle.std.specs.List.{filter_map}
use Rattle.rc_pieces.specs.Pieces.{joined}
use Rattle.rc_bgp.specs.Gathering.{told_of, with_paths}
use Rattle.rc_bgp.proofs.gathering.add_all_listed.Given as goal

abbrev pub invariant-loop-piece : goal.invariant-loop-piece
invariant-loop-piece l = record {
  kept : with_paths l.rows (filter_map (told_of l.initial.listener.net l.initial.resolver l.session) (joined (drop l.piece-index l.piece-items))) ≡ with_paths l.initial.rows (filter_map (told_of l.initial.listener.net l.initial.resolver l.session) l.paths);
  same : l.resolver ≡ l.initial.resolver;
  listener : l.listener ≡ l.initial.listener;
}
