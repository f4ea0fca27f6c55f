use Rattle.std.proofs.Common.{◌≡◌, ◌<◌, inl, inr, length, slice_index_or, sym, arith}
use Rattle.std.proofs.lemmas.Bool.Decides.{nat_tests}
use Rattle.rc_walk.proofs.RoundLaws.{all_same, comes_first}
use Rattle.rc_walk.proofs.way.come_before.Goals as goal

pub returns-then-one-at-clause-before : goal.returns-then-one-at-clause-before
returns-then-one-at-clause-before c = λ e.
    let one = c.args.one.now in
    let other = c.args.other.now in
    let less : slice_index_or one c.loop-at.at 0 < slice_index_or other c.loop-at.at 0 = grind (arith, nat_tests) in
    comes_first one other c.loop-at.at c.if-one-other.false c.loop-at-test.true c.loop-at.invariant less

pub returns-then-one-at-clause-behind : goal.returns-then-one-at-clause-behind
returns-then-one-at-clause-behind c = λ e.
    let one = c.args.one.now in
    let other = c.args.other.now in
    let long : length other ≡ length one = sym c.if-one-other.false in
    let low = c.loop-at-test.true in
    let differ = c.if-one-at.true in
    let less : slice_index_or other c.loop-at.at 0 < slice_index_or one c.loop-at.at 0 = grind (arith, nat_tests) in
    inr (comes_first other one c.loop-at.at long (omega arith) (λ k small. sym (c.loop-at.invariant k small)) less)

pub returns-clause-behind : goal.returns-clause-behind
returns-clause-behind c = λ e.
    let one = c.args.one.now in
    let other = c.args.other.now in
    let long : length other ≡ length one = sym c.if-one-other.false in
    let stop = c.loop-at-test.false in
    inl (all_same other one long (λ k small. sym (c.loop-at.invariant k (omega arith))))
