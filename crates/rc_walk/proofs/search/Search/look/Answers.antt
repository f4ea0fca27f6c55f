use Rattle.std.proofs.Common.{rules, ◌≡◌, ◌+◌, ◌<◌, length, slice_index_or, ap, sym, ◌∙◌, arith}
use Rattle.std.specs.List.{slice_get}
use Rattle.rc_moves.specs.Moves.{moves}
use Rattle.rc_walk.specs.Searching.{Entry}
use Rattle.rc_moves.specs.declared.walk.Move.{Move}
use Rattle.rc_walk.proofs.SearchState.{get_read, here_is, looked_on}
use Rattle.rc_walk.proofs.search.Search.look.Goals as goal

pub loop-choice-init : goal.loop-choice-init
loop-choice-init c =
    let at_place = here_is c.requires in
    let found_there = c.at-here.ensures in
    let same : c.at-here.result ≡ c.requires.here.0 = cc in
    record { way = c.requires; all = c.in_ok-all.ensures ∙ ap (moves c.args.seeking.now.plane.now c.args.seeking.now.header) same }

pub returns-then-is_met : goal.returns-then-is_met
returns-then-is_met c =
    let i = c.loop-choice.invariant in
    let next : Move = c.index.result.now in
    let low : c.loop-choice.choice < length c.in_ok-all.all.items = (let test = c.loop-choice-test.true in omega (arith, c.in_ok-all.all.ok.0)) in
    let read : next ≡ slice_index_or c.in_ok-all.all.items c.loop-choice.choice next = search rules in
    record { way = i.way; ended = ap (λ ms. slice_get ms c.loop-choice.choice) (sym i.all) ∙ get_read c.in_ok-all.all.items c.loop-choice.choice next low read; met = sym c.is_met.ensures ∙ c.if-is_met.true }

pub loop-choice-preserved : goal.loop-choice-preserved
loop-choice-preserved c =
    let i = c.loop-choice.invariant in
    let next : Move = c.index.result.now in
    let low : c.loop-choice.choice < length c.in_ok-all.all.items = (let test = c.loop-choice-test.true in omega (arith, c.in_ok-all.all.ok.0)) in
    let read : next ≡ slice_index_or c.in_ok-all.all.items c.loop-choice.choice next = search rules in
    let at = ap (λ ms. slice_get ms c.loop-choice.choice) (sym i.all) ∙ get_read c.in_ok-all.all.items c.loop-choice.choice next low read in
    let (way, here) = looked_on i.way next at (sym c.is_met.ensures ∙ c.if-is_met.false) c.follow.new.self.found c.follow.new.self.from.items c.follow.new.self.by.items (c.loop-choice.choice + 1) c.in_ok-follow.ensures.found c.in_ok-follow.ensures.from c.in_ok-follow.ensures.by (omega arith) in
    record { way = way; all = i.all ∙ ap (λ (e : Entry). moves c.args.seeking.now.plane.now c.args.seeking.now.header e.0) (sym here) }

pub returns : goal.returns
returns c =
    let i = c.loop-choice.invariant in
    let many = ap length i.all in
    let test = c.loop-choice-test.false in
    record { many = c.loop-choice.choice; way = i.way; all = omega (arith, c.in_ok-all.all.ok.0) }
