use Rattle.std.proofs.Common.{rules, ◌≡◌, ◌∷◌, [], ◌++◌, length}
use Rattle.rc_places.specs.Places.{positions_of}
use Rattle.rc_places.proofs.PlaceLaws.{positions-more, starts-more}
use Rattle.rc_places.proofs.places.Places.of.Goals as goal

pub loop-router-preserved : goal.loop-router-preserved
loop-router-preserved c =
    let i = c.loop-router.invariant in
    let net = c.args.net.now in
    let pushed : c.push.new.self.items ≡ c.loop-router.starts.items ++ length c.loop-router.all.items ∷ [] = search rules in
    let put : c.put_router.new.all.items ≡ c.loop-router.all.items ++ positions_of net c.loop-router.router = search rules in
    record {
      all = positions-more net c.loop-router.router c.loop-router.all.items c.put_router.new.all.items i.all put;
      starts = starts-more net c.loop-router.router c.loop-router.all.items c.loop-router.starts.items c.push.new.self.items i.all i.starts pushed;
    }
