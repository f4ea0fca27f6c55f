use Rattle.std.proofs.Common.{◌≡◌, drop}
use Rattle.std.specs.List.{flat_map}
use Rattle.rc_bgp.specs.Gathering.{heard_over, with_paths}
use Rattle.rc_bgp.proofs.gathering.add_over_all.Given as goal

abbrev pub invariant-loop-session : goal.invariant-loop-session
invariant-loop-session l = record {
  kept : with_paths l.rows (flat_map (heard_over l.net l.initial.resolver l.state) (drop l.session-index l.sessions)) ≡ with_paths l.initial.rows (flat_map (heard_over l.net l.initial.resolver l.state) l.sessions);
  same : l.resolver ≡ l.initial.resolver;
}
