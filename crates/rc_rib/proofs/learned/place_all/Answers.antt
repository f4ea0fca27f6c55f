use Rattle.std.proofs.Common.{refl, arith}
use Rattle.rc_rib.proofs.LearnedLaws.{all_placed, next_learned}
use Rattle.rc_rib.proofs.learned.place_all.Goals as goal

pub loop-best-init : goal.loop-best-init
loop-best-init c rest = refl

pub loop-best-preserved : goal.loop-best-preserved
loop-best-preserved c rest =
    next_learned c.args.paths.now c.loop-best.best-index c.best-item.result c.loop-best.left.items c.loop-best.made c.place_learned.new.left.items c.place_learned.new.made c.loop-best-test.true c.best-item.is
    (c.in_ok-place_learned.ensures) rest _ (c.loop-best.invariant rest)

pub returns : goal.returns
returns c = all_placed c.args.paths.now c.loop-best.best-index c.args.left.now.items c.args.made.now c.loop-best.left.items c.loop-best.made (omega (arith, c.loop-best-test.false)) c.loop-best.invariant
