use Rattle.std.proofs.Common.{◌≡◌, subst, arith}
use Rattle.rc_jobs.specs.Kept.{collected_kept}
use Rattle.rc_edges.specs.Shares.{IsShare}
use Rattle.rc_edges.proofs.worker_shares.put_positions.Goals as goal

pub loop-number-init : goal.loop-number-init
loop-number-init g c =
    let other = c.if-from-to.false in
    let order = c.requires.order in
    let end = c.requires.end in
    record {
      keeps = c.in_ok-sending.ensures.keeps;
      last = omega arith;
      sends = c.in_ok-sending.ensures.sends;
      share = collected_kept c.args.work.now c.begin.new.work c.in_ok-sending.ensures.keeps c.requires.share;
    }

pub loop-number-preserved : goal.loop-number-preserved
loop-number-preserved g c =
    let i = c.loop-number.invariant in
    let test = c.loop-number-test.true in
    let end = c.requires.end in
    record {
      keeps = λ r t k. c.in_ok-put_position.ensures.keeps r t (i.keeps r t k);
      last = omega arith;
      sends = c.in_ok-put_position.ensures.sends;
      share = c.in_ok-put_position.ensures.share c.args.from i.share;
    }

pub returns-clause-seat : goal.returns-clause-seat
returns-clause-seat g c = c.loop-number.invariant.sends.made.table

pub returns-clause-share : goal.returns-clause-share
returns-clause-share g c =
    let most = c.loop-number.auto.number-end in
    let least = c.loop-number-test.false in
    let end : c.loop-number.number ≡ c.args.to = omega arith in
    subst (λ n. IsShare c.loop-number.work c.args.plane.now c.args.ends c.args.from n c.loop-number.share) end c.loop-number.invariant.share

pub returns-then-from-to-clause-share : goal.returns-then-from-to-clause-share
returns-then-from-to-clause-share g c = subst (λ n. IsShare c.args.work.now c.args.plane.now c.args.ends c.args.from n c.args.share.now) c.if-from-to.true c.requires.share

pub put_position-requires-clause-last : goal.put_position-requires-clause-last
put_position-requires-clause-last g c = c.loop-number.invariant.last

pub put_position-requires-clause-sends : goal.put_position-requires-clause-sends
put_position-requires-clause-sends g c = c.loop-number.invariant.sends

pub put_position-requires-clause-rows : goal.put_position-requires-clause-rows
put_position-requires-clause-rows g c = c.loop-number.invariant.share.as_many

pub returns-in_err-put_position-clause-keeps : goal.returns-in_err-put_position-clause-keeps
returns-in_err-put_position-clause-keeps g c = λ r t k. c.put_position.ensures.keeps r t (c.loop-number.invariant.keeps r t k)

pub returns-clause-keeps : goal.returns-clause-keeps
returns-clause-keeps g c = c.loop-number.invariant.keeps
