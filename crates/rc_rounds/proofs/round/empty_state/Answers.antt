use Rattle.std.proofs.Common.{rules, ◌≡◌, ◌++◌, [], ◌∷◌, ap, sym, ◌∙◌, length, arith}
use Rattle.rc_rounds.specs.Rounds.{empty_state}
use Rattle.rc_rounds.proofs.ShareLaws.{empty_states, empty_states-none, empty_states-more, empty_states-all, empty-in_order}
use Rattle.rc_rounds.proofs.round.empty_state.Goals as goal

pub loop-init : goal.loop-init
loop-init c = c.new-state.ensures ∙ sym empty_states-none

pub loop-preserved : goal.loop-preserved
loop-preserved c =
    let pushed : c.push.new.self ≡ c.loop.state ++ record { table = []; paths = [] } ∷ [] = search rules in
    pushed ∙ ap (λ s. s ++ record { table = []; paths = [] } ∷ []) c.loop.invariant ∙ sym (empty_states-more c.loop.counter)

pub returns-clause-value : goal.returns-clause-value
returns-clause-value c =
    let all : c.loop.counter ≡ length c.args.net.now.routers = omega (arith, c.len-end.ensures, c.loop-test.false, c.loop.auto.counter-end) in
    c.loop.invariant ∙ ap empty_states all ∙ empty_states-all c.args.net.now

pub returns-clause-in_order : goal.returns-clause-in_order
returns-clause-in_order c =
    let all : c.loop.counter ≡ length c.args.net.now.routers = omega (arith, c.len-end.ensures, c.loop-test.false, c.loop.auto.counter-end) in
    let whole : c.loop.state ≡ empty_state c.args.net.now = c.loop.invariant ∙ ap empty_states all ∙ empty_states-all c.args.net.now in
    rw whole (empty-in_order c.args.net.now)
