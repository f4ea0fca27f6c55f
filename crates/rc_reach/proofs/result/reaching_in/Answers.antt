use Rattle.std.proofs.Common.{refl, ◌∙◌, ap, sym, length, subst}
use Rattle.std.proofs.lemmas.Result.{IfOk-weaker}
use Rattle.rc_config.specs.Members.{positions}
use Rattle.rc_edges.specs.Prepare.{ends_at}
use Rattle.rc_jobs.specs.Flows.{real_endings}
use Rattle.rc_nodes.specs.Seats.{SeatKnows}
use Rattle.rc_reach.proofs.JoinLaws.{place_end, place_result}
use Rattle.rc_reach.proofs.SectorJoins.{sets_reduced}
use Rattle.rc_reach.proofs.result.reaching_in.Goals as goal
use Rattle.rc_reach.specs.Rounds.{reached_at}
use Rattle.rc_sectors.specs.Sectors.{within}
use Rattle.rc_spread.proofs.UnitedEnds.{ends_there, may_unite_ends, real_gathered}
use Rattle.rc_spread.specs.United.{ArePassages}

pub passages_of-requires-clause-known : goal.passages_of-requires-clause-known
passages_of-requires-clause-known g c =
    let plane = c.args.plane.now in
    let n = length (positions plane.network) in
    let last = reached_at plane c.args.place.now n in
    record {
      sets = last;
      whole = real_endings (ends_at plane c.args.ends) n;
      are = ends_there c.args.nodes.now c.args.work.now c.args.sets.now c.args.flows.now (ends_at plane c.args.ends) n last (sets_reduced plane c.requires.plane c.args.place.now n) c.requires.seat c.requires.endings c.args.sector.now c.requires.sets;
    }

pub united_set-requires-clause-may : goal.united_set-requires-clause-may
united_set-requires-clause-may g c =
    let plane = c.args.plane.now in
    let place = c.args.place.now in
    let sector = c.args.sector.now in
    let n = length (positions plane.network) in
    let last = reached_at plane place n in
    let reduced = sets_reduced plane c.requires.plane place n in
    let ends = ends_at plane c.args.ends in
    let there = ends_there c.args.nodes.now c.args.work.now c.args.sets.now c.args.flows.now ends n last reduced c.requires.seat c.requires.endings sector c.requires.sets in
    may_unite_ends c.args.nodes.now c.args.work.now c.args.sets.now c.args.flows.now ends n last reduced c.requires.seat c.requires.endings sector (place_end plane place n refl c.args.ends c.args.nodes.now.may c.requires.may)
    c.passages_of.new.work c.as_slice.result.now
    (subst (λ ps. ArePassages c.passages_of.new.work ps (length sector) sector last (real_endings ends n)) (sym c.as_slice.ensures.value) (c.in-Ok.ensures.passages last (real_endings ends n) there))
    (length sector) refl

pub returns-clause-set : goal.returns-clause-set
returns-clause-set g c =
    let plane = c.args.plane.now in
    let place = c.args.place.now in
    let sector = c.args.sector.now in
    let n = length (positions plane.network) in
    let last = reached_at plane place n in
    let reduced = sets_reduced plane c.requires.plane place n in
    let ends = ends_at plane c.args.ends in
    let there = ends_there c.args.nodes.now c.args.work.now c.args.sets.now c.args.flows.now ends n last reduced c.requires.seat c.requires.endings sector c.requires.sets in
    let passages = subst (λ ps. ArePassages c.passages_of.new.work ps (length sector) sector last (real_endings ends n)) (sym c.as_slice.ensures.value) (c.in-Ok.ensures.passages last (real_endings ends n) there) in
    let whole = ap (within sector) (real_gathered c.args.nodes.now c.args.work.now c.args.sets.now c.args.flows.now ends n last reduced c.requires.seat c.requires.endings ∙ place_result plane place n refl c.args.ends) in
    IfOk-weaker c.united_set.result _ _ (λ r made. subst (SeatKnows c.united_set.new.work r.index) whole (made sector last (real_endings ends n) passages)) c.united_set.ensures.set
