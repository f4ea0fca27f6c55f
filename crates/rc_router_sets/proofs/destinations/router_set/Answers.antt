use Rattle.std.proofs.Common.{sym, ap, ◌∙◌, flat_map}
use Rattle.rc_router_sets.specs.Made.{hosts_by_port}
use Rattle.rc_router_sets.specs.Sent.{to_router}
use Rattle.rc_topology.specs.Links.{ports_at}
use Rattle.rc_trees.specs.Fields.{chain}
use Rattle.rc_trees.specs.Recipes.{union_of}
use Rattle.rc_router_sets.proofs.PieceLaws.{router_is}
use Rattle.rc_router_sets.proofs.JoinLaws.{known_like, may_like}
use Rattle.rc_moves.specs.Moves.{router_of}
use Rattle.rc_router_sets.proofs.destinations.router_set.Goals as goal

pub prefixes_set-requires-clause-may : goal.prefixes_set-requires-clause-may
prefixes_set-requires-clause-may g c =
    let e = ap (union_of chain) (c.as_slice.ensures.value ∙ c.in-Ok.ensures ∙ ap (flat_map hosts_by_port) (c.ports-ports.ensures ∙ (λ i. ports_at (c.links.ensures i) (c.router.ensures i)))) ∙ router_is c.args.site.now.plane.now (router_of c.args.site.now.position) in
    may_like c.args.nodes.now.may (to_router c.args.site.now.plane.now (router_of c.args.site.now.position)) (union_of chain c.as_slice.result.now) (sym e) c.requires.may

pub returns-clause-set : goal.returns-clause-set
returns-clause-set g c =
    let e = ap (union_of chain) (c.as_slice.ensures.value ∙ c.in-Ok.ensures ∙ ap (flat_map hosts_by_port) (c.ports-ports.ensures ∙ (λ i. ports_at (c.links.ensures i) (c.router.ensures i)))) ∙ router_is c.args.site.now.plane.now (router_of c.args.site.now.position) in
    known_like c.prefixes_set.new.work c.prefixes_set.result (union_of chain c.as_slice.result.now) (to_router c.args.site.now.plane.now (router_of c.args.site.now.position)) e c.prefixes_set.ensures.set
