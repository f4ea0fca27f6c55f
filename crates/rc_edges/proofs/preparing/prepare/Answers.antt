use Rattle.std.proofs.Common.{length, IfOk, ap, subst, arith}
use Rattle.std.proofs.lemmas.Result.{IfErr-at_err, IfErr-weaker}
use Rattle.rc_bdd.specs.Work.{IsCause}
use Rattle.rc_config.specs.Members.{positions}
use Rattle.rc_places.proofs.PlaceLaws.{few_positions}
use Rattle.rc_edges.specs.Shares.{IsShare}
use Rattle.rc_edges.proofs.preparing.prepare.Goals as goal

pub returns-clause-prepared : goal.returns-clause-prepared
returns-clause-prepared g c =
    let plane = c.args.plane.now in
    let seat = c.by_workers-seat.result.0 in
    c.prepared_of.ensures.prepared seat plane c.args.ends
    (subst (λ net. IfOk c.by_workers-seat.result.2 (IsShare seat plane c.args.ends 0 (length (positions net)))) c.requires.places c.by_workers-seat.ensures.made)

pub returns-clause-cause : goal.returns-clause-cause
returns-clause-cause g c =
    IfErr-weaker c.prepared_of.result _ (IsCause c.args.nodes.now c.by_workers-seat.result.0)
    (λ e is. IfErr-at_err (IsCause c.args.nodes.now c.by_workers-seat.result.0) is c.by_workers-seat.ensures.cause) c.prepared_of.ensures.error
