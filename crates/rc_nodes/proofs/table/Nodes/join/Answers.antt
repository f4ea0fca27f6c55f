use Rattle.std.proofs.Common.{◌≡◌, ℕ, false, arith, ap, sym, subst, ◌∙◌}
use Rattle.rc_nodes.specs.Views.{View, Has, Grows, Knows, joined}
use Rattle.rc_nodes.specs.Seats.{SeatView, TableView, SeatKnows}
use Rattle.rc_nodes.proofs.Moves.{joins, looks, has_left, has_right}
use Rattle.rc_nodes.proofs.Probe.{knows_more, looked_grows}
use Rattle.rc_nodes.proofs.table.Nodes.join.Goals as goal

pub join_seat-requires : goal.join_seat-requires
join_seat-requires g c =
    let p = c.seat.inside.place in
    let q = c.other.inside.place in
    let tv = ap (λ (s : TableView). s.table) c.self.view_is in
    let o : p.me.0.spent ≡ false = ap (λ (s : SeatView). s.view.spent) c.seat.view_is ∙ c.requires.seat.sound.open_ in
    let oq : q.me.0.spent ≡ false = ap (λ (s : SeatView). s.view.spent) c.other.view_is ∙ c.requires.other.sound.open_ in (
      ap (λ (s : SeatView). s.table) c.seat.view_is ∙ c.requires.seat.table ∙ sym tv,
      ap (λ (s : SeatView). s.table) c.other.view_is ∙ c.requires.other.table ∙ sym tv,
      c.other.invariant,
      (let i = c.self.invariant in omega arith),
      joins c.self.inside.table.shared.key.capacity (g.M.May.trees c.self.inside.table.shared.key.may.value) p.id q.id p.me.0 q.me.0 o oq,
    )

pub load-requires : goal.load-requires
load-requires g c =
    let p = c.seat.inside.place in
    let n = c.join_seat.new.seat in
    let tv = ap (λ (s : TableView). s.table) c.self.view_is in
    let o : p.me.0.spent ≡ false = ap (λ (s : SeatView). s.view.spent) c.seat.view_is ∙ c.requires.seat.sound.open_ in
    let e = c.join_seat.ensures.2 in
    let on : n.me.0.spent ≡ false = ap (λ m. m.0.spent) e ∙ o in (
      c.join_seat.ensures.0 ∙ ap (λ (s : SeatView). s.table) c.seat.view_is ∙ c.requires.seat.table ∙ sym tv,
      (let i = c.self.invariant in omega arith),
      looks c.self.inside.table.shared.key.capacity (g.M.May.trees c.self.inside.table.shared.key.may.value)
          c.self.inside.table.shared.table_id.slots n.id 0 n.me.0 n.me.1 on,
    )

grown : (v w u : View) (n : ℕ) → u ≡ joined v w → (z : View) → Grows u z → Grows v z × Grows w z
grown v w u n e z f = (
  (λ k x h. f k x (subst (λ (y : View). Has y.seen k x) (sym e) (has_left v.seen w.seen k x h))),
  (λ k x h. f k x (subst (λ (y : View). Has y.seen k x) (sym e) (has_right v.seen w.seen k x h))),
)

pub returns-clause-keeps : goal.returns-clause-keeps
unfolding SeatKnows
returns-clause-keeps g c = λ r t u.
    let p = c.seat.inside.place.me.0 in let q = c.other.inside.place.me.0 in let z = c.load.new.seat.me.0 in
    let both = grown p q c.join_seat.new.seat.me.0 0 (ap (λ m. m.0) c.join_seat.ensures.2) z (looked_grows _ z 0 c.load.result c.load.ensures.2.1) in
    knows_more p z both.0 r t (subst (λ (s : SeatView). Knows s.view r t) (sym c.seat.view_is) u)

pub returns-clause-gains : goal.returns-clause-gains
unfolding SeatKnows
returns-clause-gains g c = λ r t u.
    let p = c.seat.inside.place.me.0 in let q = c.other.inside.place.me.0 in let z = c.load.new.seat.me.0 in
    let both = grown p q c.join_seat.new.seat.me.0 0 (ap (λ m. m.0) c.join_seat.ensures.2) z (looked_grows _ z 0 c.load.result c.load.ensures.2.1) in
    knows_more q z both.1 r t (subst (λ (s : SeatView). Knows s.view r t) (sym c.other.view_is) u)
