use Rattle.std.proofs.Common.{rules, ◌≡◌, ◌∷◌, Some, slice_get}
use Rattle.rc_idle.proofs.telling.list_told.Goals as goal

pub returns : goal.returns
returns c =
    let there : slice_get c.args.lists.now c.args.index ≡ Some (c.in_ok-name.name.now, c.in_ok-name.field-0-1.now) = search rules in
    let next : c.args.left.now.items ≡ c.in_ok-idle.idle ∷ c.pop_front.new.self.items = search rules in
    (c.in_ok-name.field-0-1.now, there, next)
