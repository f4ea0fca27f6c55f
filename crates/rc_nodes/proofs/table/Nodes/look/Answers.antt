use Rattle.std.proofs.Common.{◌≡◌, arith, ap, sym, ◌∙◌, false}
use Rattle.rc_nodes.specs.Views.{View}
use Rattle.rc_nodes.specs.Seats.{SeatView, TableView}
use Rattle.rc_nodes.proofs.Moves.{looks}
use Rattle.rc_nodes.proofs.table.Nodes.look.Goals as goal

pub load-requires : goal.load-requires
load-requires g c =
    let p = c.seat.inside.place in
    let sv = ap (λ (s : SeatView). s.view) c.seat.view_is in
    let st = ap (λ (s : SeatView). s.table) c.seat.view_is in
    let tv = ap (λ (s : TableView). s.table) c.self.view_is in
    let tc = ap (λ (s : TableView). s.capacity) c.self.view_is in
    let o : p.me.0.spent ≡ false = ap (λ (v : View). v.spent) sv ∙ c.requires.seat.sound.open_ in (
      st ∙ c.requires.seat.table ∙ sym tv,
      (let i = c.self.invariant.0 in omega arith),
      looks c.self.inside.table.shared.key.capacity (g.M.May.trees c.self.inside.table.shared.key.may.value)
          c.self.inside.table.shared.table_id.slots p.id c.args.at p.me.0 p.me.1 o,
    )
