use Rattle.std.proofs.Common.{◌≡◌, ap, ◌∙◌, subst}
use Rattle.rc_jobs.specs.Kept.{collected_kept}
use Rattle.rc_edges.proofs.MakingLaws.{on_done}
use Rattle.rc_edges.specs.Sendings.{IsSending}
use Rattle.rc_places.specs.Places.{position_at}
use Rattle.rc_edges.proofs.worker_shares.put_position.Goals as goal

pub returns-clause-share : goal.returns-clause-share
returns-clause-share g c =
    let plane = c.args.plane.now in
    let n = c.args.number in
    let w = c.follow.new.work in
    let here : c.at.result ≡ position_at plane.network n = c.at.ensures ∙ ap (λ net. position_at net n) c.requires.ready.same in
    on_done c.put_sending.result _ _
    (λ share from before. share c.args.nodes.now w plane c.args.ends from (collected_kept c.args.work.now w c.in_ok-follow.ensures.keeps before)
    (subst (λ q. IsSending c.args.nodes.now w plane c.args.ends q c.follow.new.sending) here c.in_ok-follow.ensures.sends))
    c.put_sending.ensures.share
