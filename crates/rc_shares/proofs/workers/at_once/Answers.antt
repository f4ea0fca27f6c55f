use Rattle.std.proofs.Common.{subst, arith}
use Rattle.rc_outside.specs.Shares.{share_start}
use Rattle.rc_shares.proofs.StartLaws.{start-first, start-last}
use Rattle.rc_shares.proofs.workers.at_once.Goals as goal

pub returns-clause-made : goal.returns-clause-made
returns-clause-made g c =
    let makes = g.W.Shared.makes c.args.work.now c.args.own in
    let n = g.W.Shared.count c.args.work.now in
    let w = c.args.workers in
    subst (λ b. makes 0 b c.by_halves.result.1) (start-last n w (omega arith))
    (subst (λ a. makes a (share_start n w w) c.by_halves.result.1) (start-first n w) c.by_halves.ensures.made)
