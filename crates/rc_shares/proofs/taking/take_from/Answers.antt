use Rattle.std.proofs.Common.{rules}
use Rattle.std.proofs.lemmas.List.Elements.{All-set}
use Rattle.rc_shares.specs.Hands.{IsHand}
use Rattle.rc_shares.proofs.HandLaws.{taken}
use Rattle.rc_shares.proofs.taking.take_from.Goals as goal

pub returns-then-is_some-clause-value : goal.returns-then-is_some-clause-value
returns-then-is_some-clause-value g c =
    let makes = g.W.Each.makes c.args.each.now in
    let hand = c.index_mut.result.now in
    let is : IsHand makes hand = search rules in
    (taken makes hand c.take-taken.new.self c.args.item c.take-taken.result c.take-taken.ensures is).0

pub returns-then-is_some-clause-hands : goal.returns-then-is_some-clause-hands
returns-then-is_some-clause-hands g c =
    let makes = g.W.Each.makes c.args.each.now in
    let hand = c.index_mut.result.now in
    let is : IsHand makes hand = search rules in
    All-set (IsHand makes) c.loop-index.hands.items c.loop-index.index c.take-taken.new.self (taken makes hand c.take-taken.new.self c.args.item c.take-taken.result c.take-taken.ensures is).1 c.loop-index.invariant
