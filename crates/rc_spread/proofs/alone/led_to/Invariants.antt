use Rattle.std.proofs.Common.{◌≡◌, length}
use Rattle.rc_spread.specs.Alone.{AreListed}
use Rattle.rc_spread.proofs.AloneLaws.{AreLed}
use Rattle.rc_spread.proofs.alone.led_to.Given as goal

abbrev pub invariant-loop-p : goal.invariant-loop-p
invariant-loop-p l = record {
  many : length l.marked.items ≡ length l.out;
  listed : AreListed l.marked.items l.found.items;
  led : AreLed l.out l.from l.p-index l.found.items;
}
