use Rattle.std.proofs.Common.{◌≡◌, arith, ap, sym, ◌∙◌}
use Rattle.rc_nodes.specs.Seats.{SeatView, TableView}
use Rattle.rc_nodes.proofs.Moves.{splits}
use Rattle.rc_nodes.proofs.Probe.{same_seen}
use Rattle.rc_nodes.proofs.table.Nodes.split.Goals as goal

pub split_seat-place-requires : goal.split_seat-place-requires
split_seat-place-requires g c =
    let p = c.seat.inside.place in
    let st = ap (λ (s : SeatView). s.table) c.seat.view_is in
    let tv = ap (λ (s : TableView). s.table) c.self.view_is in (
      st ∙ c.requires.table ∙ sym tv,
      (let i = c.self.invariant in omega arith),
      splits c.self.inside.table.shared.key.capacity (g.M.May.trees c.self.inside.table.shared.key.may.value) p.id p.me.0,
    )

pub returns-clause-keeps : goal.returns-clause-keeps
returns-clause-keeps g c =
    let old : c.args.seat.now.view.seen ≡ c.seat.inside.place.me.0.seen = sym (ap (λ (s : SeatView). s.view.seen) c.seat.view_is) in
    same_seen _ _ (old ∙ sym (ap (λ m. m.0.seen) c.split_seat-place.ensures.2))

pub returns-clause-same : goal.returns-clause-same
returns-clause-same g c =
    let old : c.args.seat.now.view.seen ≡ c.seat.inside.place.me.0.seen = sym (ap (λ (s : SeatView). s.view.seen) c.seat.view_is) in
    let new = sym (ap (λ m. m.0.seen) c.split_seat-place.ensures.4) in
    (same_seen _ _ (old ∙ new), same_seen _ _ (sym (old ∙ new)))
