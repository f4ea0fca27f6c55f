-- A line at hand, with those before it, is idle or not; and then come those that are left.
use Rattle.std.proofs.Common.{◌+◌, [], drop, take, sym, subst}
use Rattle.rc_sets.specs.Deciding.{IsDecided}
use Rattle.rc_sets.specs.declared.deciding.Decided.{Decided}
use Rattle.rc_sets.proofs.DecidingLaws.{all_found, all_kept, decided_kept, found_now, placed, rest_at, taken_at}
use Rattle.rc_sets.proofs.idle_lines.idle_among.Goals as goal

pub push_idle-requires-clause-known : goal.push_idle-requires-clause-known
push_idle-requires-clause-known g c =
    let (lines, all) = c.requires.known in
    let i = c.loop-index.index in
    let one = c.index-all-index.result in
    let p = placed c.args.work.now [] lines c.args.all.now i one c.loop-index-test.true all in
    let keeps = c.loop-index.invariant.keeps in (
      take i lines,
      p.line,
      all_kept c.args.work.now c.loop-index.work keeps [] (take i lines) (take i c.args.all.now) p.earlier,
      decided_kept {w = c.loop-index.work} keeps (subst (λ (x : Decided). IsDecided c.args.work.now (take i lines) p.line x) (sym c.index-all-index.is) p.is),
    )

pub loop-index-preserved : goal.loop-index-preserved
loop-index-preserved g c =
    let v = c.loop-index.invariant in
    let i = c.loop-index.index in
    let one = c.index-all-index.result in
    record {
      seat = c.push_idle.ensures.seat;
      keeps = λ r t k. c.push_idle.ensures.keeps r t (v.keeps r t k);
      so_far = λ lines all.
          let p = placed c.args.work.now [] lines c.args.all.now i one c.loop-index-test.true all in
          found_now lines p.line i c.loop-index.idle c.push_idle.new.idle (rest_at p) (taken_at p)
          (c.in_ok-push_idle.ensures.pushed (take i lines) (drop (i + 1) lines) p.line (all_kept c.args.work.now c.loop-index.work v.keeps [] (take i lines) (take i c.args.all.now) p.earlier)
          (decided_kept {w = c.loop-index.work} v.keeps (subst (λ (x : Decided). IsDecided c.args.work.now (take i lines) p.line x) (sym c.index-all-index.is) p.is)))
          (v.so_far lines all);
    }

pub returns-clause-idle : goal.returns-clause-idle
returns-clause-idle g c = λ lines all. all_found c.args.work.now lines c.args.all.now c.loop-index.index c.loop-index.idle all c.loop-index-test.false (c.loop-index.invariant.so_far lines all)
