use Rattle.std.proofs.Common.{rules, ◌≡◌, ◌++◌, ◌+◌, [], ◌∷◌, All, sym, subst}
use Rattle.rc_shares.specs.Hands.{IsHand}
use Rattle.rc_shares.specs.Stretches.{IsStretch}
use Rattle.rc_shares.proofs.StretchLaws.{nothing_made, one_made}
use Rattle.rc_shares.proofs.taking.Taking.in_order.Goals as goal

pub loop-item-init : goal.loop-item-init
loop-item-init g c =
    let makes = g.W.Each.makes c.args.self.now.each.now in
    let none : c.in_ok-all.all ≡ [] = search rules in
    let same : c.into_vec-hands.result.items ≡ c.args.hands = search rules in
    (subst (IsStretch makes 0 0) (sym none) (nothing_made makes 0), subst (All (IsHand makes)) (sym same) c.requires.hands)

pub loop-item-preserved : goal.loop-item-preserved
loop-item-preserved g c =
    let makes = g.W.Each.makes c.args.self.now.each.now in
    let item = c.loop-item.item in
    let pushed : c.push.new.self ≡ c.loop-item.all ++ c.in_ok-made.made ∷ [] = search rules in
    (subst (IsStretch makes 0 (item + 1)) (sym pushed) (one_made makes 0 item c.loop-item.all c.in_ok-made.made c.loop-item.invariant.0 c.in_ok-made.ensures.value), c.made_of.ensures.hands)
