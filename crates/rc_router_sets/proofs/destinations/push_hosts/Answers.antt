use Rattle.std.proofs.Common.{ap, sym, ◌∙◌, ◌∷◌, ◌++◌, [], map, append_assoc, append-nil, take}
use Rattle.rc_base.specs.Prefix.{prefix_at}
use Rattle.rc_topology.specs.declared.port.PortAddr.{PortAddr}
use Rattle.rc_router_sets.proofs.JoinLaws.{take-whole}
use Rattle.rc_router_sets.proofs.PieceLaws.{mapped_more}
use Rattle.rc_router_sets.proofs.destinations.push_hosts.Goals as goal

pub loop-address-preserved : goal.loop-address-preserved
loop-address-preserved c =
    let f = λ (a : PortAddr). prefix_at a.addr 32 in
    c.in_ok-push.ensures.items
    ∙ ap (λ ps. ps ++ c.host.result ∷ []) c.loop-address.invariant
    ∙ append_assoc c.args.hosts.now.items (map f (take c.loop-address.address-index c.args.addresses.now)) (c.host.result ∷ [])
    ∙ ap (λ p. c.args.hosts.now.items ++ (map f (take c.loop-address.address-index c.args.addresses.now) ++ p ∷ [])) c.host.ensures
    ∙ ap (λ ps. c.args.hosts.now.items ++ ps) (mapped_more f c.args.addresses.now c.loop-address.address-index c.address-item.result c.address-item.is c.loop-address-test.true)

pub loop-address-init : goal.loop-address-init
loop-address-init c = sym (append-nil c.args.hosts.now.items)

pub returns : goal.returns
returns c = c.loop-address.invariant ∙ ap (λ xs. c.args.hosts.now.items ++ map (λ (a : PortAddr). prefix_at a.addr 32) xs) (take-whole c.loop-address.address-index c.args.addresses.now c.loop-address-test.false)
