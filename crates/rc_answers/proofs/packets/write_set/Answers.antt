use Rattle.std.proofs.Common.{refl, true, false, ◌++◌}
use Rattle.rc_cubes.specs.Cubes.{cubes}
use Rattle.rc_report.specs.CubeText.{cubes_text, shown}
use Rattle.rc_report.specs.StateText.{routes_line}
use Rattle.rc_answers.proofs.PutLaws.{cubes_put, first_cube_put}
use Rattle.rc_answers.proofs.packets.write_set.Goals as goal

pub returns-in-Examples-clause-put : goal.returns-in-Examples-clause-put
returns-in-Examples-clause-put g c =
    let at = c.args.at.now in
    let (t, knows, exact, are) = c.requires.set in
    let net = c.network-net.result.now in
    let walks = c.args.examples.items in
    cubes_put at.request.now at.plane.now at.end at.routes c.args.packets.now t walks net c.in-Examples.is c.network-net.ensures exact are
    (c.write_ended.ensures.put (cubes_text net (shown false (cubes t)) walks) (t, knows, refl))

pub returns-in-First-clause-put : goal.returns-in-First-clause-put
returns-in-First-clause-put g c =
    let at = c.args.at.now in
    let (t, knows, exact, are) = c.requires.set in
    let net = c.network-net.result.now in
    let walks = c.args.examples.items in
    let text = cubes_text net (shown true (cubes t)) walks in
    first_cube_put at.request.now at.plane.now at.end at.routes c.args.packets.now t walks net c.in-First.is c.network-net.ensures exact are
    (c.write_ended-in-First.ensures.put (routes_line at.routes ++ text) (routes_line at.routes, text, refl, (t, knows, refl), refl))
