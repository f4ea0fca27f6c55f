use Rattle.std.proofs.Common.{◌≡◌, arith, ap, sym, subst, ◌∙◌, false}
use Rattle.rc_nodes.specs.Views.{View, MayWrite}
use Rattle.rc_nodes.specs.Seats.{SeatView, TableView}
use Rattle.rc_nodes.proofs.Moves.{claims}
use Rattle.rc_nodes.proofs.table.Nodes.claim.Goals as goal

pub compare_exchange-requires : goal.compare_exchange-requires
compare_exchange-requires g c =
    let p = c.seat.inside.place in
    let sv = ap (λ (s : SeatView). s.view) c.seat.view_is in
    let st = ap (λ (s : SeatView). s.table) c.seat.view_is in
    let tv = ap (λ (s : TableView). s.table) c.self.view_is in
    let o : p.me.0.spent ≡ false = ap (λ (v : View). v.spent) sv ∙ c.requires.seat.sound.open_ in (
      st ∙ c.requires.seat.table ∙ sym tv,
      (let i = c.self.invariant.0 in let tc = ap (λ (s : TableView). s.capacity) c.self.view_is in omega arith),
      claims c.self.inside.table.shared.key.capacity (g.M.May.trees c.self.inside.table.shared.key.may.value)
          c.self.inside.table.shared.table_id.slots p.id c.args.at c.args.word p.me.0 p.me.1 o
          (subst (λ (v : View). MayWrite v c.args.at c.args.word) (sym sv) c.requires.may),
    )
