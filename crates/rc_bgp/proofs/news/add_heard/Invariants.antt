use Rattle.std.proofs.Common.{◌≡◌, ◌++◌, drop}
use Rattle.std.specs.List.{filter}
use Rattle.rc_bgp.specs.Changes.{may_hear_either}
use Rattle.rc_bgp.proofs.news.add_heard.Given as goal

abbrev pub invariant-loop-prefix : goal.invariant-loop-prefix
invariant-loop-prefix l = record {
  kept : l.news ++ filter (may_hear_either l.own l.before l.now) (drop l.prefix-index l.prefixes) ≡ l.initial.news ++ filter (may_hear_either l.own l.before l.now) l.prefixes;
  earlier : l.earlier ≡ l.before;
  later : l.later ≡ l.now;
}
