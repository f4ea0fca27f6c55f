use Rattle.std.proofs.Common.{rules, ◌≡◌, ◌≢◌, sym, subst}
use Rattle.rc_spread.proofs.PassageLaws.{no_set, no_through, takes_none, takes_one}
use Rattle.rc_spread.specs.United.{Takes}
use Rattle.rc_spread.proofs.united.put_passage.Goals as goal

pub returns-then-eq : goal.returns-then-eq
returns-then-eq c = λ seat sets flows flow known set through.
    let none : c.args.set.index ≡ 0 = search rules in
    takes_none seat sets c.args.passages.now.items flows flow (no_set seat sets c.args.set.index flow none set) known

pub returns-then-eq-2 : goal.returns-then-eq-2
returns-then-eq-2 c = λ seat sets flows flow known set through.
    let none : c.args.through.index ≡ 0 = search rules in
    takes_none seat sets c.args.passages.now.items flows flow (no_through seat sets c.args.through.index flow none through) known

pub returns : goal.returns
returns c =
    let some_set : c.args.set.index ≢ 0 = search rules in
    let some_through : c.args.through.index ≢ 0 = search rules in
    subst (λ ps. Takes c.args.passages.now.items ps c.args.set.index c.args.through.index) (sym c.in_ok-push.ensures.items)
    (λ seat sets flows flow known set through. takes_one seat sets c.args.passages.now.items flows flow c.args.set c.args.through some_set some_through known set through)
