use Rattle.std.proofs.Common.{ap, ◌++◌, Result, Ok, Err, OnOk}
use Rattle.rc_sets.proofs.DecidingLaws.{idle_pushed, own_empty, own_some, used_step}
use Rattle.rc_sets.proofs.idle_lines.push_idle.Goals as goal

on_done : {A E : Type 0} (result : Result A E) (P Q : Type 0) → (P → Q) → OnOk result P → OnOk result Q
on_done (Ok v) P Q next done = next done
on_done (Err e) P Q next done = tt

pub returns-then-line-ne0-clause-pushed : goal.returns-then-line-ne0-clause-pushed
returns-then-line-ne0-clause-pushed g c = λ lines rest l all is. ap (λ xs. c.args.idle.now ++ xs) (used_step lines l rest (own_some c.requires.seat.sound is c.if-line-ne0.true))

pub returns-clause-pushed : goal.returns-clause-pushed
returns-clause-pushed g c = on_done c.push.result _ _
    (λ pushed lines rest l all is. idle_pushed c.args.idle.now c.push.new.self lines l rest c.args.line.now.sequence c.in_ok-by.by pushed is.sequence (c.in_ok-by.ensures.deciders lines l all is) (own_empty is c.if-line-ne0.false)) c.push.ensures.ok
