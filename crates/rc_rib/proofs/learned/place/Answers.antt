use Rattle.std.proofs.Common.{◌≡◌, sym, ◌∙◌, Some}
use Rattle.std.proofs.lemmas.Result.{IfOk-weaker}
use Rattle.std.specs.declared.cmp.Ordering.TheVariants.{Greater}
use Rattle.rc_rib.specs.Merging.{front_prefix, which}
use Rattle.rc_rib.proofs.LearnedLaws.{one_placed, placed_behind}
use Rattle.rc_rib.proofs.learned.place.Goals as goal

pub returns-in-Greater : goal.returns-in-Greater
returns-in-Greater c =
    let left = c.loop-left.left.items in
    let greater : which (front_prefix left) (Some c.args.route.prefix) ≡ Greater = sym c.which_is_first.ensures ∙ c.in-Greater.is in
    IfOk-weaker _ _ _ (λ done pushed.
    placed_behind c.args.left.now.items c.args.made.now left c.loop-left.made left c.push.new.self c.args.route c.loop-left.invariant
    (one_placed left c.loop-left.made c.push.new.self c.args.route greater pushed)) c.push.ensures.ok
