use Rattle.std.proofs.Common.{rules, ◌≡◌, ◌++◌, ◌+◌, [], ◌∷◌, sym, subst}
use Rattle.rc_shares.specs.Stretches.{IsStretch}
use Rattle.rc_shares.proofs.StretchLaws.{nothing_made, one_made}
use Rattle.rc_shares.proofs.each.ListsShared.share.Goals as goal

pub loop-item-init : goal.loop-item-init
loop-item-init g c =
    let makes = g.W.Each.makes c.args.self.now.each.now in
    subst (IsStretch makes c.args.from c.args.from) (sym c.in_ok-made.ensures) (nothing_made makes c.args.from)

pub loop-item-preserved : goal.loop-item-preserved
loop-item-preserved g c =
    let makes = g.W.Each.makes c.args.self.now.each.now in
    let pushed : c.push.new.self ≡ c.loop-item.made ++ c.in_ok-make.field-0 ∷ [] = search rules in
    subst (IsStretch makes c.args.from (c.loop-item.item + 1)) (sym pushed) (one_made makes c.args.from c.loop-item.item c.loop-item.made c.in_ok-make.field-0 c.loop-item.invariant c.in_ok-make.ensures)
