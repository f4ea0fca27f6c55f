use Rattle.rc_bdd.proofs.WorkLaws.{blank_memo}
use Rattle.rc_bdd.proofs.memo.memo_of.Goals as goal

pub returns : goal.returns
returns c = blank_memo c.in_ok-memo.memo.items c.args.size (c.in_ok-memo.ensures.items_if_clones_equal (λ y e. e))
