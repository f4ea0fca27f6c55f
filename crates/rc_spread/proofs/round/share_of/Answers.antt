use Rattle.std.proofs.Common.{rules, ◌≡◌, ◌+◌, [], ◌∷◌, ◌++◌, sym, subst, arith}
use Rattle.std.proofs.lemmas.List.{length-append}
use Rattle.rc_spread.specs.Known.{KnowsShare}
use Rattle.rc_spread.specs.Kept.{after_kept}
use Rattle.rc_spread.proofs.Rounding.{no_share, sets_push}
use Rattle.rc_spread.proofs.round.share_of.Goals as goal

pub loop-q-init : goal.loop-q-init
loop-q-init g c = record {
  mine = c.requires.seat;
  keeps = λ r t h. h;
  known = no_share c.args.work.now c.in-Ok.made.items _ c.args.from c.in-Ok.ensures.items;
}

pub next_set-requires-clause-ready : goal.next_set-requires-clause-ready
next_set-requires-clause-ready g c =
    let laws = g.met.S.Spread in
    laws.stays_ready c.args.round.now.spread.now c.args.nodes.now c.args.work.now c.loop-q.work c.loop-q.invariant.keeps c.requires.ready.ready

pub next_set-requires-clause-after : goal.next_set-requires-clause-after
next_set-requires-clause-after g c = after_kept c.args.work.now c.loop-q.work c.loop-q.invariant.keeps c.requires.ready.after

pub next_set-requires-clause-round : goal.next_set-requires-clause-round
next_set-requires-clause-round g c = c.requires.ready.further

pub next_set-requires-clause-position : goal.next_set-requires-clause-position
next_set-requires-clause-position g c = let a = c.loop-q-test.true in let b = c.requires.end in omega arith

pub loop-q-preserved : goal.loop-q-preserved
loop-q-preserved g c =
    let keeps = c.loop-q.invariant.keeps in
    let pushed : c.push.new.self.items ≡ c.loop-q.made.items ++ c.in_ok-set.set ∷ [] = search rules in
    let known = c.loop-q.invariant.known in
    let count = known.count in
    rw pushed (record {
      mine = c.next_set.ensures.seat;
      keeps = λ r t h. c.next_set.ensures.keeps r t (keeps r t h);
      known = record {
        count = omega (arith, length-append c.loop-q.made.items (c.in_ok-set.set ∷ []));
        each = sets_push c.loop-q.work c.next_set.new.work c.next_set.ensures.keeps c.loop-q.made.items c.in_ok-set.set (g.S.Spread.set_after c.args.round.now.spread.now (c.args.round.now.number + 1)) c.args.from c.loop-q.q (sym count) known.each c.in_ok-set.ensures.made;
      };
    })

pub returns-clause-made : goal.returns-clause-made
returns-clause-made g c =
    let round = c.args.round.now in
    let most = c.loop-q.auto.q-end c.requires.order in
    let least = c.loop-q-test.false in
    let end : c.loop-q.q ≡ c.args.to = omega arith in
    subst (λ b. KnowsShare c.loop-q.work c.loop-q.made.items (g.S.Spread.set_after round.spread.now (round.number + 1)) c.args.from b) end c.loop-q.invariant.known
