use Rattle.std.proofs.Common.{◌≡◌, ◌++◌}
use Rattle.rc_bgp.proofs.deciding.append.Given as goal

abbrev pub invariant-loop-path : goal.invariant-loop-path
invariant-loop-path l = l.all ≡ l.initial.all ++ l.yielded
