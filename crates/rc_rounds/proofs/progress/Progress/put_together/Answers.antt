use Rattle.rc_rounds.proofs.ProgressLaws.{is_round}
use Rattle.rc_rounds.proofs.progress.Progress.put_together.Goals as goal

pub returns : goal.returns
returns c net internal at are = is_round net internal c.args.self.now c.in_ok-round.round c.args.fresh at are c.in_ok-round.ensures.state c.in_ok-round.ensures.changes c.in_ok-round.ensures.stayed
