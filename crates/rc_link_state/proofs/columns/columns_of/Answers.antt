use Rattle.std.proofs.lemmas.Result.{IfOk-weaker}
use Rattle.rc_link_state.proofs.InwardLaws.{all_made}
use Rattle.rc_link_state.proofs.columns.columns_of.Goals as goal

pub returns : goal.returns
returns g c = IfOk-weaker c.each_at_once-passed.result.1 _ _ (λ columns is. all_made c.args.inward.now columns is) c.each_at_once-passed.ensures.made
