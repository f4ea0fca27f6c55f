use Rattle.std.proofs.Common.{rules, ◌≡◌, ◌++◌, ◌+◌, [], ◌∷◌, sym, subst}
use Rattle.rc_shares.proofs.StretchLaws.{nothing_made, one_made}
use Rattle.rc_shares.specs.Stretches.{IsStretch}
use Rattle.rc_failures.specs.Shares.{IsRowAt}
use Rattle.rc_failures.proofs.rows.rows_of.Goals as goal

pub loop-number-init : goal.loop-number-init
loop-number-init g c =
    let rows = IsRowAt c.args.net.now c.args.limit c.args.packet.now c.args.pairs.now in
    subst (IsStretch rows c.args.from c.args.from) (sym c.new-rows.ensures) (nothing_made rows c.args.from)

pub loop-number-preserved : goal.loop-number-preserved
loop-number-preserved g c =
    let rows = IsRowAt c.args.net.now c.args.limit c.args.packet.now c.args.pairs.now in
    let pushed : c.push.new.self ≡ c.loop-number.rows ++ c.in_ok-row.row ∷ [] = search rules in
    subst (IsStretch rows c.args.from (c.loop-number.number + 1)) (sym pushed) (one_made rows c.args.from c.loop-number.number c.loop-number.rows c.in_ok-row.row c.loop-number.invariant c.in_ok-row.ensures)
