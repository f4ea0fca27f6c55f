use Rattle.std.proofs.Common.{rules, length}
use Rattle.rc_edges.specs.Prepare.{edge_at}
use Rattle.rc_sectors.specs.Sectors.{edges_within}
use Rattle.rc_reach.specs.Rounds.{reached_at, reached_in}
use Rattle.rc_spread.proofs.ComingLaws.{first_after, round_within}
use Rattle.rc_spread.proofs.StillLaws.{gathered_still}
use Rattle.rc_reach.proofs.JoinLaws.{place_next}
use Rattle.rc_reach.proofs.SectorJoins.{edge_reduced, rest_in, sector_first, sets_reduced, stay_within}
use Rattle.rc_reach.proofs.coming.propagate_alone.Goals as goal

pub rounds_alone-requires-clause-first : goal.rounds_alone-requires-clause-first
rounds_alone-requires-clause-first g c =
    let plane = c.args.plane.now in
    let place = c.args.place.now in
    let sector = c.args.sector.now in
    let m = length c.args.into.now in
    first_after c.args.work.now c.in-Ok.sets.items c.in-Ok-first_fresh.fresh.items (reached_in plane place sector) m c.args.number
    (sector_first plane place sector c.requires.place c.args.number m c.requires.number c.requires.may.as_many) (search rules) (search rules)

pub rounds_alone-requires-clause-still : goal.rounds_alone-requires-clause-still
rounds_alone-requires-clause-still g c =
    let plane = c.args.plane.now in
    let place = c.args.place.now in
    let sector = c.args.sector.now in
    let into = c.args.into.now in
    let may = c.requires.may in
    gathered_still (edges_within sector (edge_at plane)) (length into) (reached_in plane place sector)
    (round_within sector may.short into (edge_at plane) (reached_at plane place) (place_next plane place (length into) may.as_many) (sets_reduced plane may.plane_is place) (edge_reduced plane may.plane_is))

pub rounds_alone-requires-clause-within : goal.rounds_alone-requires-clause-within
rounds_alone-requires-clause-within g c = stay_within c.args.work.now c.args.into.now c.args.out.now (edge_at c.args.plane.now) c.requires.may.edges c.requires.out

pub rounds_alone-requires-clause-rest : goal.rounds_alone-requires-clause-rest
rounds_alone-requires-clause-rest g c =
    let may = c.requires.may in
    rest_in c.args.plane.now may.plane_is c.args.place.now c.args.sector.now may.short c.args.nodes.now c.args.work.now c.args.into.now c.args.out.now may.as_many may.edges c.requires.out
