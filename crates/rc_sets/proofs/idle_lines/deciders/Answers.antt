-- An earlier line is named or not; and then come those that are left.
use Rattle.std.proofs.Common.{◌≡◌, ◌++◌, ◌+◌, [], drop, take, sym, subst, ◌∙◌}
use Rattle.rc_sets.specs.Deciding.{IsDecided}
use Rattle.rc_sets.specs.IdleLines.{deciders, is_empty, shared}
use Rattle.rc_sets.specs.declared.deciding.Decided.{Decided}
use Rattle.rc_sets.proofs.DecidingLaws.{all_named, decided_kept, known_sets, named_now, none_of, passed_by, placed, rest_at, some_of, taken_at}
use Rattle.rc_sets.proofs.idle_lines.deciders.Goals as goal
use Rattle.rc_sets.proofs.idle_lines.deciders.Goals.{then-decides_of+in_ok-push, else-decides_of}

pub decides_of-requires-clause-known : goal.decides_of-requires-clause-known
decides_of-requires-clause-known g c =
    let (lines, k, all, is) = c.requires.known in
    let i = c.loop-earlier.earlier-index in
    let p = placed c.args.work.now [] lines c.args.before.now i c.earlier-item.result c.loop-earlier-test.true all in
    let keeps = c.loop-earlier.invariant.keeps in (
      known_sets (decided_kept {w = c.loop-earlier.work} keeps (subst (λ (x : Decided). IsDecided c.args.work.now (take i lines) p.line x) (sym c.earlier-item.is) p.is)),
      known_sets (decided_kept {w = c.loop-earlier.work} keeps is),
    )

pub loop-earlier-preserved : goal.loop-earlier-preserved
loop-earlier-preserved g c =
    let v = c.loop-earlier.invariant in
    let i = c.loop-earlier.earlier-index in
    let one = c.earlier-item.result in
    record {
      seat = c.decides_of.ensures.seat;
      keeps = λ r t k. c.decides_of.ensures.keeps r t (v.keeps r t k);
      so_far = λ lines k all is.
          let p = placed c.args.work.now [] lines c.args.before.now i one c.loop-earlier-test.true all in
          let here : IsDecided c.args.work.now (take i lines) p.line one = subst (λ (x : Decided). IsDecided c.args.work.now (take i lines) p.line x) (sym c.earlier-item.is) p.is in
          let told : c.decides_of.result ≡ _ = c.decides_of.ensures.decides (take i lines) lines p.line k (decided_kept {w = c.loop-earlier.work} v.keeps here) (decided_kept {w = c.loop-earlier.work} v.keeps is) in
          elim c.if-decides_of.branch [
            | then-decides_of+in_ok-push w ↦
                named_now k lines p.line i c.loop-earlier.by c.if-decides_of.by one.sequence (w.by-is ∙ w.in_ok-push.ensures.ok) here.sequence (rest_at p) (taken_at p)
                (some_of (is_empty (shared k (take i lines) p.line)) c.decides_of.result told w.if-decides_of.true) (v.so_far lines k all is)
            | else-decides_of w ↦
                subst (λ by. by ++ deciders k (take (i + 1) lines) (drop (i + 1) lines) ≡ deciders k [] lines) (sym w.by-is)
                (passed_by k lines p.line i c.loop-earlier.by (rest_at p) (taken_at p) (none_of (is_empty (shared k (take i lines) p.line)) c.decides_of.result told w.if-decides_of.false) (v.so_far lines k all is))
          ];
    }

pub returns-clause-deciders : goal.returns-clause-deciders
returns-clause-deciders g c = λ lines k all is. all_named c.args.work.now k lines c.args.before.now c.loop-earlier.earlier-index c.loop-earlier.by all c.loop-earlier-test.false (c.loop-earlier.invariant.so_far lines k all is)
