use Rattle.std.proofs.Common.{◌≡◌, ◌<◌, Some, length, slice_index_or, arith}
use Rattle.std.specs.List.{slice_get}
use Rattle.rc_base.specs.declared.position.Pos.{Pos}
use Rattle.rc_walk.proofs.SearchState.{get_there}
use Rattle.rc_walk.proofs.turning_back.best_round.Goals as goal

pub loop-place-init : goal.loop-place-init
loop-place-init c = record { none = λ others l turns. absurd (let low = turns.low in omega arith) }

pub loop-place-preserved : goal.loop-place-preserved
loop-place-preserved c =
    let found = c.args.all.now.found in
    let place = c.loop-place.place in
    let low : place < length found = (let test = c.loop-place-test.true in let long = c.len-place-end.ensures in omega arith) in
    let t : Pos = slice_index_or found place c.args.start.now in
    let there : slice_get found place ≡ Some t = get_there found place c.args.start.now low in
    c.first_of-next.ensures c.args.plane.now c.args.header.now c.args.start.now t found place there c.loop-place.invariant (c.in_ok-round.ensures t there)
