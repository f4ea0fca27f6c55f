use Rattle.std.proofs.Common.{ℕ, List, sym, subst}
use Rattle.std.specs.Slots.{slots_items}
use Rattle.rc_nodes.specs.Good.{IsLeft}
use Rattle.rc_nodes.specs.Seats.{SeatView, TableView}
use Rattle.rc_nodes.proofs.CloseLaws.{left_over, once, seen, copied, follows}
use Rattle.rc_nodes.proofs.table.Nodes.close.Goals as goal

pub returns-clause-good : goal.returns-clause-good
returns-clause-good g c =
    let n = c.self.inside in
    let p = c.seat.inside.place in
    let words : List ℕ = slots_items c.close_with-closed.result.words in
    let table : ℕ → TableView = λ k. record { table = n.table.shared.table_id; capacity = k; may = g.M.May.trees n.table.shared.key.may.value } in
    let seat : SeatView = record { table = p.table_id; view = p.me.0 } in
    let first : IsLeft (table n.table.shared.key.capacity) seat words = left_over (table n.table.shared.key.capacity) seat p.id words (slots_items c.close_with-closed.result.slots) c.close_with-closed.ensures.values.2 in
    let second : IsLeft (table n.capacity) seat words = subst (λ k. IsLeft (table k) seat words) (sym c.self.invariant.1) first in
    let third : IsLeft c.args.self seat words = subst (λ (t : TableView). IsLeft t seat words) c.self.view_is second in
    let left : IsLeft c.args.self c.args.seat words = subst (λ (s : SeatView). IsLeft c.args.self s words) c.seat.view_is third in
    copied (λ v. v.items) (IsLeft c.args.self c.args.seat) words c.words_of-words.result c.words_of-words.ensures left

pub returns-clause-once : goal.returns-clause-once
returns-clause-once g c = follows _ _ (λ v left. once c.args.self c.args.seat v.items left) c.words_of-words.result (returns-clause-good g c)

pub returns-clause-seen : goal.returns-clause-seen
returns-clause-seen g c = follows _ _ (λ v left. seen c.args.self c.args.seat v.items left c.requires.sound.open_) c.words_of-words.result (returns-clause-good g c)
