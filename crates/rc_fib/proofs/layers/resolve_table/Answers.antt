use Rattle.std.proofs.Common.{ap, ◌∙◌}
use Rattle.rc_fib.proofs.LayerLaws.{more_layers, all_layers, next_of_layers, no_layers, last_layer, plain_layer}
use Rattle.rc_fib.proofs.layers.resolve_table.Goals as goal

pub loop-depth-init : goal.loop-depth-init
loop-depth-init c = ap (more_layers c.args.table.now 16) c.none-fib.ensures ∙ all_layers c.args.table.now

pub returns-then-is_plain : goal.returns-then-is_plain
returns-then-is_plain c = plain_layer c.args.table.now c.loop-depth.fib _ c.in_ok-next.ensures.value (c.in_ok-next.ensures.plain c.if-is_plain.true)

pub returns-then-is_same : goal.returns-then-is_same
returns-then-is_same c = last_layer _ _ _ _ c.in_ok-next.ensures.value (c.is_same.ensures c.if-is_same.true) c.loop-depth.invariant

pub loop-depth-preserved : goal.loop-depth-preserved
loop-depth-preserved c = next_of_layers _ _ _ _ c.loop-depth-test.true c.in_ok-next.ensures.value ∙ c.loop-depth.invariant

pub returns : goal.returns
returns c = no_layers _ _ _ c.loop-depth-test.false c.loop-depth.invariant
