use Rattle.rc_edges.proofs.MakingLaws.{filled}
use Rattle.rc_edges.specs.declared.position_sets.Sending.{Sending}
use Rattle.rc_edges.proofs.position_sets.fill.Goals as goal

pub returns-clause-sends : goal.returns-clause-sends
returns-clause-sends g c =
    let after : Sending = record { made = c.add_endings.new.made; row = c.add_edges.new.row; stops = c.add_endings.new.stops } in
    filled c.args.nodes.now c.add_edges.new.work c.add_endings.new.work c.args.site.now.plane.now c.args.ends c.args.site.now.position c.args.places.now c.requires.places c.args.sending.now.stops.items c.requires.stops
    after c.add_endings.result c.in_ok-add_edges.ensures.row c.add_endings.ensures.keeps c.add_endings.ensures.made c.add_endings.ensures.stops
