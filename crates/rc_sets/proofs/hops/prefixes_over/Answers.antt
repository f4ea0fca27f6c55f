use Rattle.std.proofs.Common.{ap, ◌∙◌, ◌++◌, List, [], cond}
use Rattle.std.specs.List.{list_any}
use Rattle.rc_route.specs.Hops.{same_hop}
use Rattle.rc_route.specs.declared.route.Hop.{Hop}
use Rattle.rc_sets.proofs.StretchLaws.{all_found, fits, more_found, nothing_found}
use Rattle.rc_sets.proofs.hops.prefixes_over.Goals as goal

pub loop-stretch-init : goal.loop-stretch-init
loop-stretch-init c = nothing_found c.args.hop.now c.args.fib.now c.stretches-stretches.result.now c.prefixes-left.result.now _ c.prefixes-left.ensures.value c.in_ok-given.ensures.items c.stretches-stretches.ensures

pub split_at-requires : goal.split_at-requires
split_at-requires c = fits c.args.hop.now c.args.fib.now c.stretches-stretches.result.now c.loop-stretch.stretch-index c.loop-stretch.from c.loop-stretch.left.now c.loop-stretch.given.items c.loop-stretch.invariant c.stretch-item.result c.loop-stretch-test.true c.stretch-item.is

pub loop-stretch-preserved : goal.loop-stretch-preserved
loop-stretch-preserved c =
    more_found c.args.hop.now c.args.fib.now c.stretches-stretches.result.now c.loop-stretch.stretch-index c.loop-stretch.from c.loop-stretch.left.now c.loop-stretch.given.items c.loop-stretch.invariant c.stretch-item.result c.loop-stretch-test.true
    c.stretch-item.is _ _ _ c.split_at.ensures.front c.split_at.ensures.back
    (c.in_ok-push_stretch.ensures ∙ ap (λ (hops : List Hop). c.loop-stretch.given.items ++ cond (list_any (same_hop c.args.hop.now) hops) c.split_at.result.0.now []) c.as_slice.ensures)

pub returns : goal.returns
returns c = all_found c.args.hop.now c.args.fib.now c.stretches-stretches.result.now c.loop-stretch.stretch-index c.loop-stretch.from c.loop-stretch.left.now c.loop-stretch.given.items c.loop-stretch-test.false c.loop-stretch.invariant
