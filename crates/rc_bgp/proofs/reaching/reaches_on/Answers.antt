use Rattle.std.proofs.Common.{◌≡◌, ◌∙◌, ap, sym, true, false}
use Rattle.std.specs.List.{flat_map, list_any}
use Rattle.std.specs.Ordering.{nat_cmp}
use Rattle.rc_base.specs.Lists.{in_order}
use Rattle.rc_bgp.specs.Levels.{is_direct, gateways_of}
use Rattle.rc_bgp.specs.Reaching.{reaches}
use Rattle.rc_bgp.proofs.ReachLaws.{found_level, next_level, last_level}
use Rattle.rc_bgp.proofs.reaching.reaches_on.Goals as goal

pub returns-then-some_direct : goal.returns-then-some_direct
returns-then-some_direct c =
    let table = c.args.table.now in
    let here : list_any (is_direct table) c.loop-depth.front.items ≡ true = sym (c.some_direct.ensures ∙ ap (list_any (is_direct table)) c.as_slice.ensures.value) ∙ c.if-some_direct.true in
    found_level table c.loop-depth._depth c.loop-depth.front.items (reaches table c.args.addr) c.loop-depth-test.true here c.loop-depth.invariant

pub loop-depth-preserved : goal.loop-depth-preserved
loop-depth-preserved c =
    let table = c.args.table.now in
    let none : list_any (is_direct table) c.loop-depth.front.items ≡ false = sym (c.some_direct.ensures ∙ ap (list_any (is_direct table)) c.as_slice.ensures.value) ∙ c.if-some_direct.false in
    let made : c.in_ok-front.front.items ≡ in_order nat_cmp (flat_map (gateways_of table) c.loop-depth.front.items) =
    c.in_ok-front.ensures ∙ c.in_ok-gateways.ensures ∙ ap (λ xs. in_order nat_cmp (flat_map (gateways_of table) xs)) c.as_slice-in-loop-depth.ensures.value in
    next_level table c.loop-depth._depth c.loop-depth.front.items c.in_ok-front.front.items (reaches table c.args.addr) c.loop-depth-test.true none made c.loop-depth.invariant

pub returns : goal.returns
returns c = last_level c.args.table.now c.loop-depth._depth c.loop-depth.front.items (reaches c.args.table.now c.args.addr) c.loop-depth-test.false c.loop-depth.invariant
