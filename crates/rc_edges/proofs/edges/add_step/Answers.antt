use Rattle.std.proofs.Common.{refl, inl, [], ◌∷◌}
use Rattle.rc_edges.proofs.GiveLaws.{get_each, gives_after, may_give}
use Rattle.rc_router_sets.proofs.MadeLaws.{made_kept, whenever}
use Rattle.rc_router_sets.specs.Steps.{step_at}
use Rattle.rc_edges.proofs.edges.add_step.Goals as goal

pub step_set-requires-clause-may : goal.step_set-requires-clause-may
step_set-requires-clause-may g c =
    let s = step_at c.args.site.now.plane.now c.args.site.now.position c.args.step c.args.at.now.hop in
    get_each c.args.nodes.now c.args.work.now c.args.row.now c.args.onto (s ∷ []) c.requires.may s (inl refl)

pub add-requires-clause-may : goal.add-requires-clause-may
add-requires-clause-may g c =
    may_give c.args.nodes.now c.args.work.now c.args.row.now c.args.onto c.step_set.new.work c.in_ok-set.set.index (step_at c.args.site.now.plane.now c.args.site.now.position c.args.step c.args.at.now.hop) c.requires.may c.in_ok-set.ensures.keeps c.in_ok-set.ensures.set

pub returns-clause-made : goal.returns-clause-made
returns-clause-made g c = whenever c.add.result _ (made_kept c.args.nodes.now c.args.site.now.plane.now c.args.site.now.position c.step_set.new.made c.step_set.new.work c.add.new.work c.in_ok-set.ensures.made c.add.ensures.seat c.add.ensures.keeps)

pub returns-clause-given : goal.returns-clause-given
returns-clause-given g c =
    gives_after c.args.work.now c.step_set.new.work c.add.new.work c.args.row.now c.add.new.self c.args.onto c.in_ok-set.set.index (step_at c.args.site.now.plane.now c.args.site.now.position c.args.step c.args.at.now.hop) c.add.result c.in_ok-set.ensures.keeps c.in_ok-set.ensures.set c.add.ensures.added
