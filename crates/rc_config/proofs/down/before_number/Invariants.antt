use Rattle.std.proofs.Common.{◌≡◌, [], take, drop}
use Rattle.rc_config.specs.Down.{before_number}
use Rattle.rc_config.proofs.down.before_number.Given as goal

abbrev pub invariant-loop-index : goal.invariant-loop-index
invariant-loop-index l = before_number (take l.index l.text) (drop l.index l.text) ≡ before_number [] l.text
