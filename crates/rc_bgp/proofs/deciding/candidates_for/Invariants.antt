use Rattle.std.proofs.Common.{◌≡◌, ◌++◌, drop}
use Rattle.std.specs.List.{flat_map}
use Rattle.rc_bgp.specs.Candidates.{candidates_at}
use Rattle.rc_bgp.specs.Listening.{tellers}
use Rattle.rc_bgp.proofs.deciding.candidates_for.Given as goal

abbrev pub invariant-loop-prefix : goal.invariant-loop-prefix
invariant-loop-prefix l = record {
  kept : l.all ++ flat_map (candidates_at l.net l.state l.fn.resolver l.own l.sessions) (drop l.prefix-index l.prefixes) ≡ flat_map (candidates_at l.net l.state l.fn.resolver l.own l.sessions) l.prefixes;
  same : l.resolver ≡ l.fn.resolver;
  senders : l.senders.items ≡ tellers l.net l.state l.sessions;
}
