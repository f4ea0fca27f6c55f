use Rattle.std.proofs.Common.{rules, ◌≡◌, ◌<◌, length, slice_index_or}
use Rattle.rc_spread.proofs.TurnLaws.{next_out}
use Rattle.rc_spread.proofs.turning.flows_out.Goals as goal

pub loop-onto-preserved : goal.loop-onto-preserved
loop-onto-preserved c =
    let into = c.args.into.now in
    let fits : c.loop-onto.onto < length into = c.loop-onto-test.true in
    let rows : c.as_slice.result.now ≡ slice_index_or into c.loop-onto.onto c.as_slice.result.now = search rules in
    next_out into c.loop-onto.out.items c.turn_row.new.out.items c.loop-onto.onto c.as_slice.result.now fits rows c.loop-onto.invariant c.in_ok-turn_row.ensures
