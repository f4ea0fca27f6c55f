use Rattle.std.proofs.Common.{◌≡◌, ◌++◌, drop}
use Rattle.std.specs.List.{filter_map}
use Rattle.rc_bgp.specs.Listening.{candidates_by, heard_from}
use Rattle.rc_bgp.proofs.hearing.candidates_at.Given as goal

abbrev pub invariant-loop-index : goal.invariant-loop-index
invariant-loop-index l = record {
  kept : l.paths.items ++ filter_map (heard_from l.fn.resolver l.prefix) (drop l.index l.fn.senders.items) ≡ candidates_by l.fn.resolver l.own l.fn.senders.items l.prefix;
  same : l.resolver ≡ l.fn.resolver;
  senders : l.senders.items ≡ l.fn.senders.items;
}
