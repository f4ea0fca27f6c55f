use Rattle.std.proofs.Common.{List, [], sym, subst, ◌∙◌}
use Rattle.rc_route.specs.declared.route.Route.{Route}
use Rattle.rc_fib.specs.Growing.{IsLayer}
use Rattle.rc_fib.proofs.GrowingLaws.{canonical_entries, no_layer}
use Rattle.rc_fib.proofs.LayerLaws.{in_order_over}
use Rattle.rc_fib.proofs.layers.layer_over.Goals as goal

pub grown-requires-clause-covers : goal.grown-requires-clause-covers
grown-requires-clause-covers c = (c.in_ok-push_parts.ensures [] (no_layer _ _ c.in_ok-made.ensures.0 c.in_ok-made.ensures.1)).covers

pub grown-requires-clause-in_order : goal.grown-requires-clause-in_order
grown-requires-clause-in_order c =
    let layer = c.in_ok-push_parts.ensures [] (no_layer _ _ c.in_ok-made.ensures.0 c.in_ok-made.ensures.1) in
    let whole = subst (λ (routes : List Route). IsLayer c.args.fib.now routes c.push_parts.new.made) c.parts.ensures layer in
    in_order_over c.args.fib.now _ c.args.table.now c.requires whole.value (canonical_entries _ _ whole.covers whole.canonical)

pub returns-clause-value : goal.returns-clause-value
returns-clause-value c =
    let layer = c.in_ok-push_parts.ensures [] (no_layer _ _ c.in_ok-made.ensures.0 c.in_ok-made.ensures.1) in
    let whole = subst (λ (routes : List Route). IsLayer c.args.fib.now routes c.push_parts.new.made) c.parts.ensures layer in
    c.grown.ensures.fib ∙ whole.value

pub returns-clause-plain : goal.returns-clause-plain
returns-clause-plain c =
    let layer = c.in_ok-push_parts.ensures [] (no_layer _ _ c.in_ok-made.ensures.0 c.in_ok-made.ensures.1) in
    let whole = subst (λ (routes : List Route). IsLayer c.args.fib.now routes c.push_parts.new.made) c.parts.ensures layer in
    λ is. whole.plain (sym c.grown.ensures.plain ∙ is)
