use Rattle.std.proofs.Common.{◌≡◌, drop}
use Rattle.std.specs.List.{flat_map, fold}
use Rattle.std.specs.BTreeSet.{keys, insert_key}
use Rattle.rc_base.specs.Prefix.{prefix_cmp}
use Rattle.rc_bgp.specs.Candidates.{sender_prefixes}
use Rattle.rc_bgp.proofs.deciding.add_senders.Given as goal

abbrev pub invariant-loop-session : goal.invariant-loop-session
invariant-loop-session l = fold (insert_key prefix_cmp) (keys l.set) (flat_map (sender_prefixes l.state) (drop l.session-index l.sessions)) ≡ fold (insert_key prefix_cmp) (keys l.initial.set) (flat_map (sender_prefixes l.state) l.sessions)
