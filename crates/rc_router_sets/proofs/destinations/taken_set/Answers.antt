use Rattle.std.proofs.Common.{sym, ap, ◌∙◌}
use Rattle.rc_router_sets.specs.Sent.{taken, to_interface}
use Rattle.rc_trees.specs.Recipes.{union_of}
use Rattle.rc_router_sets.proofs.PieceLaws.{taken_is}
use Rattle.rc_router_sets.proofs.JoinLaws.{known_like, may_like}
use Rattle.rc_router_sets.proofs.destinations.taken_set.Goals as goal

pub interfaces_set-requires-clause-may : goal.interfaces_set-requires-clause-may
interfaces_set-requires-clause-may g c =
    let e = ap (union_of (to_interface c.args.plane.now)) (c.as_slice.ensures.value ∙ c.in-Ok.ensures) ∙ taken_is c.args.plane.now c.args.interface.now in
    may_like c.args.nodes.now.may (taken c.args.plane.now c.args.interface.now) (union_of (to_interface c.args.plane.now) c.as_slice.result.now) (sym e) c.requires.may

pub returns-clause-set : goal.returns-clause-set
returns-clause-set g c =
    let e = ap (union_of (to_interface c.args.plane.now)) (c.as_slice.ensures.value ∙ c.in-Ok.ensures) ∙ taken_is c.args.plane.now c.args.interface.now in
    known_like c.interfaces_set.new.work c.interfaces_set.result (union_of (to_interface c.args.plane.now) c.as_slice.result.now) (taken c.args.plane.now c.args.interface.now) e c.interfaces_set.ensures.set
