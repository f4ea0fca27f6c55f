use Rattle.rc_shares.proofs.StretchLaws.{both_made}
use Rattle.rc_failures.specs.Shares.{IsRowAt}
use Rattle.rc_failures.proofs.sharing.+fn-rows_at_once-join+arg2+fn-rows_at_once-join+arg3+rows_at_once.Goals as goal

pub returns-clause-rows : goal.returns-clause-rows
returns-clause-rows g t c =
    let rows = IsRowAt c.args.net.now c.args.limit c.args.packet.now c.args.pairs.now in
    let made = c.join-passed in
    both_made rows made.result.0.1 made.result.1.1 c.both.result _ _ _ c.both.ensures made.ensures.first.1 made.ensures.second.1
