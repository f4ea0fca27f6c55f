use Rattle.std.proofs.Common.{◌≡◌, subst, arith}
use Rattle.rc_reach.specs.Kept.{sectors_kept}
use Rattle.rc_reach.specs.Sectored.{answer_in}
use Rattle.rc_spread.specs.Known.{KnowsShare}
use Rattle.rc_reach.proofs.sectored.answers_of.Goals as goal

pub answer_in-requires-clause-ready : goal.answer_in-requires-clause-ready
answer_in-requires-clause-ready g c = sectors_kept c.args.work.now c.loop-index.work c.loop-index.invariant.keeps c.requires.ready

pub returns-clause-made : goal.returns-clause-made
returns-clause-made g c =
    let order = c.requires.order in
    let most = c.loop-index.auto.index-end order in
    let least = c.loop-index-test.false in
    let end : c.loop-index.index ≡ c.args.to = omega arith in
    subst (KnowsShare c.loop-index.work c.loop-index.sets.items (answer_in c.args.asked.now) c.args.from) end c.loop-index.invariant.known
