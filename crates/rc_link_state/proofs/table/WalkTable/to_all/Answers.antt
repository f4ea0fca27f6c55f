use Rattle.rc_link_state.specs.Whole.{AreSplit}
use Rattle.rc_link_state.proofs.ReachLaws.{table_to_all}
use Rattle.rc_link_state.proofs.SplitFits.{split_of}
use Rattle.rc_link_state.proofs.SplitKept.{split_as, split_little}
use Rattle.rc_link_state.proofs.table.WalkTable.to_all.Goals as goal

pub walks_in_all-requires-clause-of : goal.walks_in_all-requires-clause-of
walks_in_all-requires-clause-of g c κs within =
    let listed = c.as_slice-listed.result.now in
    let transits = c.as_slice-transits.result.now in
    split_of c.args.links.now c.args.interfaces.now listed transits
    (split_as c.args.links.now c.args.interfaces.now c.in_ok-split.split.listed listed c.in_ok-split.split.transits transits c.as_slice-listed.ensures c.as_slice-transits.ensures c.in_ok-split.ensures) c.args.routers c.requires.fit

pub walks_in_all-requires-clause-little : goal.walks_in_all-requires-clause-little
walks_in_all-requires-clause-little g c κs within =
    let listed = c.as_slice-listed.result.now in
    let transits = c.as_slice-transits.result.now in
    split_little c.args.links.now c.args.interfaces.now listed transits
    (split_as c.args.links.now c.args.interfaces.now c.in_ok-split.split.listed listed c.in_ok-split.split.transits transits c.as_slice-listed.ensures c.as_slice-transits.ensures c.in_ok-split.ensures) c.args.routers c.requires.fit

pub returns : goal.returns
returns g c =
    let listed = c.as_slice-listed.result.now in
    let transits = c.as_slice-transits.result.now in
    let split : AreSplit c.args.links.now c.args.interfaces.now listed transits =
    split_as c.args.links.now c.args.interfaces.now c.in_ok-split.split.listed listed c.in_ok-split.split.transits transits c.as_slice-listed.ensures c.as_slice-transits.ensures c.in_ok-split.ensures in
    table_to_all c.args.links.now c.args.interfaces.now listed transits split c.args.routers c.requires.fit _ _ c.in_ok-walks.walks c.of.result c.of.ensures c.in_ok-areas.ensures c.in_ok-walks.ensures
