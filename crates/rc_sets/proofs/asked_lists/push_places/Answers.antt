use Rattle.std.proofs.Common.{◌<◌, length, arith}
use Rattle.rc_sets.specs.LinesQuery.{access_lists_at}
use Rattle.rc_sets.proofs.AskedLaws.{place_more}
use Rattle.rc_sets.proofs.asked_lists.push_places.Goals as goal

pub loop-list-preserved : goal.loop-list-preserved
loop-list-preserved c =
    let less : c.loop-list.list < length (access_lists_at c.args.network.now c.args.router) = (let same = c.list_count-list-end.ensures in let under = c.loop-list-test.true in omega arith) in
    place_more c.args.network.now c.loop-list.places.items c.args.places.now.items c.push.new.self.items c.args.router c.loop-list.list less c.in_ok-push.ensures.items c.loop-list.invariant
