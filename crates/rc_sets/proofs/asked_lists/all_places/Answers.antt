use Rattle.std.proofs.Common.{◌<◌, Some, length, map, arith}
use Rattle.std.specs.List.{flat_map, range_with_len}
use Rattle.rc_sets.specs.LinesQuery.{access_lists_at}
use Rattle.rc_sets.proofs.AskedLaws.{router_more}
use Rattle.rc_sets.proofs.asked_lists.all_places.Goals as goal

pub loop-router-preserved : goal.loop-router-preserved
loop-router-preserved c =
    let net = c.args.network.now in
    let less : c.loop-router.router < length net.routers = (let same = c.len-router-end.ensures in let under = c.loop-router-test.true in omega arith) in
    router_more net c.loop-router.places.items c.push_places.new.places.items c.loop-router.router (length net.routers) (map Some (flat_map (access_lists_at net) (range_with_len 0 (length net.routers)))) less c.in_ok-push_places.ensures c.loop-router.invariant
