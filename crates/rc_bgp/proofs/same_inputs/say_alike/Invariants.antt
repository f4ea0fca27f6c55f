use Rattle.std.proofs.Common.{◌≡◌, take}
use Rattle.rc_bgp.specs.AllOriginated.{SayAlike}
use Rattle.rc_bgp.proofs.same_inputs.say_alike.Given as goal

abbrev pub invariant-loop-prefix : goal.invariant-loop-prefix
invariant-loop-prefix l = record {
  alike : SayAlike l.before l.now (take l.prefix-index l.networks);
  earlier : l.earlier ≡ l.before;
  later : l.later ≡ l.now;
}
