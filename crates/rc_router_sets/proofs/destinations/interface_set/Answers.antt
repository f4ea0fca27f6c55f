use Rattle.std.proofs.Common.{sym, ap, ◌∙◌, map}
use Rattle.rc_base.specs.Prefix.{prefix_at}
use Rattle.rc_router_sets.specs.Sent.{to_interface}
use Rattle.rc_topology.specs.declared.port.PortAddr.{PortAddr}
use Rattle.rc_trees.specs.Fields.{chain}
use Rattle.rc_trees.specs.Recipes.{union_of}
use Rattle.rc_router_sets.proofs.PieceLaws.{interface_is}
use Rattle.rc_router_sets.proofs.JoinLaws.{known_like, may_like}
use Rattle.rc_router_sets.proofs.destinations.interface_set.Goals as goal

pub prefixes_set-requires-clause-may : goal.prefixes_set-requires-clause-may
prefixes_set-requires-clause-may g c =
    let e = ap (union_of chain) (c.as_slice.ensures.value ∙ c.in-Ok.ensures ∙ ap (map (λ (a : PortAddr). prefix_at a.addr 32)) c.addresses_at.ensures) ∙ interface_is c.args.plane.now c.args.interface.now in
    may_like c.args.nodes.now.may (to_interface c.args.plane.now c.args.interface.now) (union_of chain c.as_slice.result.now) (sym e) c.requires.may

pub returns-clause-set : goal.returns-clause-set
returns-clause-set g c =
    let e = ap (union_of chain) (c.as_slice.ensures.value ∙ c.in-Ok.ensures ∙ ap (map (λ (a : PortAddr). prefix_at a.addr 32)) c.addresses_at.ensures) ∙ interface_is c.args.plane.now c.args.interface.now in
    known_like c.prefixes_set.new.work c.prefixes_set.result (union_of chain c.as_slice.result.now) (to_interface c.args.plane.now c.args.interface.now) e c.prefixes_set.ensures.set
