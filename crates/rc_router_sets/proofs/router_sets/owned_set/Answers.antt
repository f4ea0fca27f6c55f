use Rattle.std.proofs.Common.{refl}
use Rattle.rc_router_sets.proofs.MadeLaws.{made_kept, with_owned}
use Rattle.rc_router_sets.proofs.router_sets.owned_set.Goals as goal

pub returns-clause-made : goal.returns-clause-made
returns-clause-made g c =
    let plane = c.args.site.now.plane.now in
    let q = c.args.site.now.position in
    let m = made_kept c.args.nodes.now plane q c.args.made.now c.args.work.now c.router_set.new.work c.requires.made c.in_ok-set.ensures.seat c.in_ok-set.ensures.keeps in
    with_owned c.args.nodes.now plane q c.args.made.now _ c.router_set.new.work m refl refl refl c.in_ok-set.set refl c.in_ok-set.ensures.set
