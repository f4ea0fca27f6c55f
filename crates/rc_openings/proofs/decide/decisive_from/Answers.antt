use Rattle.std.proofs.lemmas.List.{append-nil}
use Rattle.std.proofs.lemmas.List.{take_all}
use Rattle.rc_openings.proofs.DecisiveLemmas.{answer_more}
use Rattle.rc_openings.proofs.decide.decisive_from.Goals as goal

pub loop-opening-init : goal.loop-opening-init
loop-opening-init c = λ rows was. rw append-nil was

pub loop-opening-preserved : goal.loop-opening-preserved
loop-opening-preserved c =
    λ rows was. answer_more rows c.args.openings.now c.loop-opening.opening-index _ _ _ _ c.loop-opening-test.true (c.loop-opening.invariant rows was) c.better-decided.ensures

pub returns : goal.returns
returns c = λ rows was. rw (take_all c.loop-opening.opening-index c.args.openings.now c.loop-opening-test.false) at (c.loop-opening.invariant rows was)
