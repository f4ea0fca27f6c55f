use Rattle.rc_shares.proofs.StartLaws.{start-by_parts}
use Rattle.rc_shares.proofs.starts.share_start.Goals as goal

pub returns : goal.returns
returns c = start-by_parts c.args.items c.args.workers c.args.worker c.requires.some
