use Rattle.std.proofs.Common.{◌≡◌, ◌-◌, ◌++◌, length}
use Rattle.std.specs.List.{flat_map, range_with_len}
use Rattle.rc_external.specs.Origination.{all_sent, sent_by_router}
use Rattle.rc_external.proofs.sending.all_sent.Given as goal

abbrev pub invariant-loop-index : goal.invariant-loop-index
invariant-loop-index l = l.all ++ flat_map (sent_by_router l.net l.state) (range_with_len l.index (length l.net.routers - l.index)) ≡ all_sent l.net l.state
