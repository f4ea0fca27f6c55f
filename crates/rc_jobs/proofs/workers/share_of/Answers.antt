use Rattle.std.proofs.Common.{arith}
use Rattle.rc_shares.proofs.StartLaws.{start-rises}
use Rattle.rc_jobs.proofs.workers.share_of.Goals as goal

pub share-requires-clause-order : goal.share-requires-clause-order
share-requires-clause-order g c =
    let rises = start-rises c.items-count.result c.args.workers c.first.result c.last.result (omega (arith, c.first.ensures.some, c.requires.end)) (omega (arith, c.first.ensures.some, c.last.ensures)) in
    omega (arith, rises, c.share_start-from.ensures, c.share_start-to.ensures)
