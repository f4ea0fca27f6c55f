use Rattle.std.proofs.Common.{◌≡◌, ◌++◌, drop, map}
use Rattle.rc_route.specs.declared.best.Best.{Best}
use Rattle.rc_bgp.specs.Candidates.{best_among}
use Rattle.rc_bgp.specs.Listening.{tellers}
use Rattle.rc_bgp.specs.Updating.{AreTaken, edit_of}
use Rattle.rc_bgp.proofs.redeciding.decided.Given as goal

-- those that are taken, and then those that are left
abbrev pub invariant-loop-prefix : goal.invariant-loop-prefix
invariant-loop-prefix l = record {
  taken : AreTaken (λ (b : Best). b.path.prefix) (best_among l.net l.state l.most l.fn.resolver l.own l.sessions) l.known l.prefixes (l.changed ++ drop l.prefix-index l.prefixes);
  edits : l.edits.items ≡ map (edit_of (best_among l.net l.state l.most l.fn.resolver l.own l.sessions)) l.changed;
  same : l.resolver ≡ l.fn.resolver;
  finder : l.finder ≡ l.known;
  senders : l.senders.items ≡ tellers l.net l.state l.sessions;
}
