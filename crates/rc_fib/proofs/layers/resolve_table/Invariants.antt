use Rattle.std.proofs.Common.{◌≡◌, ◌-◌}
use Rattle.rc_fib.specs.Forwarding.{resolved}
use Rattle.rc_fib.proofs.LayerLaws.{more_layers}
use Rattle.rc_fib.proofs.layers.resolve_table.Given as goal

-- the layers that are left give the resolved table
abbrev pub invariant-loop-depth : goal.invariant-loop-depth
invariant-loop-depth l = more_layers l.table (16 - l._depth) l.fib ≡ resolved l.table
