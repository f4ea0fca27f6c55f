use Rattle.std.proofs.Common.{[], ap, ◌∙◌, length, replicate}
use Rattle.rc_config.specs.Members.{positions}
use Rattle.rc_edges.proofs.MakingLaws.{nothing_shared}
use Rattle.rc_edges.proofs.worker_shares.share_of.Goals as goal

pub put_positions-requires-clause-share : goal.put_positions-requires-clause-share
put_positions-requires-clause-share g c =
    nothing_shared c.args.work.now c.args.plane.now c.args.ends c.args.from c.in_ok-share.share (c.in_ok-share.ensures.share.0 ∙ ap (λ k. replicate k []) (c.len.ensures ∙ ap (λ n. length (positions n)) c.requires.ready.same)) c.in_ok-share.ensures.share.1
