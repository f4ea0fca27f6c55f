use Rattle.std.proofs.lemmas.Result.{IfOk-weaker}
use Rattle.rc_shares.proofs.MakingLaws.{made_of_all}
use Rattle.rc_shares.proofs.making.made_at_once.Goals as goal

pub returns : goal.returns
returns g c =
    IfOk-weaker c.each_at_once-passed.result.1 _ _ (λ ys is. made_of_all (g.W.Makes.made c.args.work.now) c.args.things.now ys is) c.each_at_once-passed.ensures.made
