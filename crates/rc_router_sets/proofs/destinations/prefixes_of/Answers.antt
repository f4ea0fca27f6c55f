use Rattle.std.proofs.Common.{ap, ◌∙◌, ◌∷◌, ◌++◌, [], map}
use Rattle.rc_topology.specs.declared.port.PortAddr.{PortAddr}
use Rattle.rc_router_sets.proofs.JoinLaws.{take-whole}
use Rattle.rc_router_sets.proofs.PieceLaws.{mapped_more}
use Rattle.rc_router_sets.proofs.destinations.prefixes_of.Goals as goal

pub loop-address-preserved : goal.loop-address-preserved
loop-address-preserved c =
    c.in_ok-push.ensures.items
    ∙ ap (λ ps. ps ++ c.address-item.result.prefix ∷ []) c.loop-address.invariant
    ∙ mapped_more (λ (a : PortAddr). a.prefix) c.args.addresses.now c.loop-address.address-index c.address-item.result c.address-item.is c.loop-address-test.true

pub returns : goal.returns
returns c = c.loop-address.invariant ∙ ap (map (λ (a : PortAddr). a.prefix)) (take-whole c.loop-address.address-index c.args.addresses.now c.loop-address-test.false)
