use Rattle.std.proofs.Common.{rules, ◌≡◌, ◌++◌, [], ◌∷◌, sym, subst}
use Rattle.rc_shares.specs.Hands.{IsHand}
use Rattle.rc_shares.proofs.HandLaws.{none_taken, one_more}
use Rattle.rc_shares.proofs.taking.TakingEach.make.Goals as goal

pub loop-turn-init : goal.loop-turn-init
loop-turn-init g c =
    let makes = g.W.Each.makes c.args.self.now.each.now in
    subst (IsHand makes) (sym c.new-made.ensures) (none_taken makes)

pub loop-turn-preserved : goal.loop-turn-preserved
loop-turn-preserved g c =
    let makes = g.W.Each.makes c.args.self.now.each.now in
    let item = c.fetch_add-item.result in
    let pushed : c.push.new.self ≡ c.loop-turn.made ++ (item, c.in_ok-make.field-0) ∷ [] = search rules in
    subst (IsHand makes) (sym pushed) (one_more makes c.loop-turn.made item c.in_ok-make.field-0 c.loop-turn.invariant c.in_ok-make.ensures)
