use Rattle.std.proofs.Common.{ap, ◌∙◌}
use Rattle.std.specs.List.{fold}
use Rattle.rc_edges.proofs.MakingLaws.{share_more}
use Rattle.rc_jobs.specs.declared.collected.Collected.{Collected}
use Rattle.rc_edges.proofs.position_sets.put_sending.Goals as goal
use Rattle.rc_jobs.specs.Collecting.{with_ending}

pub returns-in-Ok-put_stops-clause-share : goal.returns-in-Ok-put_stops-clause-share
returns-in-Ok-put_stops-clause-share c = λ nodes seat plane ends from share is.
    let after : Collected = record { into = c.flush.new.into; ends = c.put_stops.new.endings } in
    share_more nodes seat plane ends from c.args.number c.args.share.now after c.args.sending.now share is c.in-Ok.ensures
    (c.in-Ok-put_stops.ensures ∙ ap (fold (λ es s. with_ending es c.args.number s.kind s.set) c.args.share.now.ends) c.as_slice.ensures.value)
