use Rattle.std.proofs.Common.{inr, sym, subst}
use Rattle.rc_walk.specs.Ways.{IsBest, IsOneOfFirst, IsUpTo, itself}
use Rattle.rc_walk.proofs.RoundLaws.{better_before, better_here, none_here, none_yet}
use Rattle.rc_walk.proofs.turning_back.first_of.Goals as goal

pub returns-in-None-default : goal.returns-in-None-default
returns-in-None-default c = λ plane h q t found place at best other.
    none_yet plane h q t found place at (subst (IsBest plane h q (IsOneOfFirst found place)) c.in-None-default.is-0 best) c.args.other other

pub returns-in-Some-None : goal.returns-in-Some-None
returns-in-Some-None c = λ plane h q t found place at best other.
    none_here plane h q t found place at c.in-Some-None.best (subst (IsBest plane h q (IsOneOfFirst found place)) c.in-Some-None.is-0 best) (subst (IsBest plane h q (itself t)) c.in-Some-None.is-1 other)

pub returns-then-come_before : goal.returns-then-come_before
returns-then-come_before c = λ plane h q t found place at best other.
    let up : IsUpTo c.in-Some-Some.other.choices.items c.in-Some-Some.best.choices.items = inr (rw (sym c.as_slice.ensures.value, sym c.as_slice-in-Some-Some.ensures.value) (c.come_before.ensures.before c.if-come_before.true)) in
    better_here plane h q t found place at c.in-Some-Some.best c.in-Some-Some.other (subst (IsBest plane h q (IsOneOfFirst found place)) c.in-Some-Some.is-0 best) (subst (IsBest plane h q (itself t)) c.in-Some-Some.is-1 other) up

pub returns-else-come_before : goal.returns-else-come_before
returns-else-come_before c = λ plane h q t found place at best other.
    let up : IsUpTo c.in-Some-Some.best.choices.items c.in-Some-Some.other.choices.items = rw (sym c.as_slice.ensures.value, sym c.as_slice-in-Some-Some.ensures.value) (c.come_before.ensures.behind c.if-come_before.false) in
    better_before plane h q t found place at c.in-Some-Some.best c.in-Some-Some.other (subst (IsBest plane h q (IsOneOfFirst found place)) c.in-Some-Some.is-0 best) (subst (IsBest plane h q (itself t)) c.in-Some-Some.is-1 other) up
