use Rattle.std.proofs.Common.{rules, ◌≡◌, ◌+◌, [], ◌∷◌, ◌++◌, length, slice_index_or, arith}
use Rattle.std.proofs.lemmas.List.{length-append}
use Rattle.rc_nodes.specs.Seats.{SeatKnows}
use Rattle.rc_spread.specs.Kept.{after_kept}
use Rattle.rc_spread.proofs.AloneLaws.{none_these, these_push}
use Rattle.rc_spread.proofs.alone.sets_at.Goals as goal

pub loop-q-init : goal.loop-q-init
loop-q-init g c = record {
  mine = c.requires.seat;
  keeps = λ r t h. h;
  many = rw c.in-Ok.ensures.items;
  known = none_these c.args.work.now c.in-Ok.made.items c.args.positions.now _ c.in-Ok.ensures.items;
}

pub next_set-requires-clause-ready : goal.next_set-requires-clause-ready
next_set-requires-clause-ready g c =
    let laws = g.met.S.Spread in
    laws.stays_ready c.args.spread.now c.args.nodes.now c.args.work.now c.loop-q.work c.loop-q.invariant.keeps c.requires.ready

pub next_set-requires-clause-after : goal.next_set-requires-clause-after
next_set-requires-clause-after g c = after_kept c.args.work.now c.loop-q.work c.loop-q.invariant.keeps c.requires.after

pub loop-q-preserved : goal.loop-q-preserved
loop-q-preserved g c =
    let qs = c.args.positions.now in
    let sets = g.S.Spread.set_after c.args.spread.now (c.args.number + 1) in
    let keeps = c.loop-q.invariant.keeps in
    let many = c.loop-q.invariant.many in
    let pushed : c.push.new.self.items ≡ c.loop-q.made.items ++ c.in_ok-set.set ∷ [] = search rules in
    let here : SeatKnows c.next_set.new.work c.in_ok-set.set.index (sets (slice_index_or qs (length c.loop-q.made.items) 0)) = rw many c.in_ok-set.ensures.made in
    rw pushed (record {
      mine = c.next_set.ensures.seat;
      keeps = λ r t h. c.next_set.ensures.keeps r t (keeps r t h);
      many = omega (arith, length-append c.loop-q.made.items (c.in_ok-set.set ∷ []));
      known = these_push c.loop-q.work c.next_set.new.work c.next_set.ensures.keeps c.loop-q.made.items c.in_ok-set.set qs sets c.loop-q.invariant.known here;
    })

pub next_set-requires-clause-position : goal.next_set-requires-clause-position
next_set-requires-clause-position g c = c.requires.positions c.loop-q.q-index 0 c.loop-q-test.true

pub returns-clause-many : goal.returns-clause-many
returns-clause-many g c =
    let many = c.loop-q.invariant.many in
    let most = c.loop-q.auto.q-index-end in
    let least = c.loop-q-test.false in
    omega arith

pub returns-clause-made : goal.returns-clause-made
returns-clause-made g c = c.loop-q.invariant.known
