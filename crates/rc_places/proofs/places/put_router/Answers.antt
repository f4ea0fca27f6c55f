use Rattle.std.proofs.Common.{rules, ◌≡◌, ◌∷◌, [], ◌++◌}
use Rattle.rc_base.specs.declared.position.Pos.TheVariants.{Entering}
use Rattle.rc_places.proofs.PlaceLaws.{entering-more}
use Rattle.rc_places.proofs.places.put_router.Goals as goal

pub loop-index-preserved : goal.loop-index-preserved
loop-index-preserved c =
    let pushed : c.push-in-loop-index.new.self.items ≡ c.loop-index.all.items ++ Entering (record { router = c.args.router; index = c.loop-index.index }) ∷ [] = search rules in
    entering-more c.args.all.now.items c.loop-index.all.items c.push-in-loop-index.new.self.items c.args.router c.loop-index.index c.loop-index.invariant pushed
