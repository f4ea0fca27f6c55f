use Rattle.std.proofs.Common.{ap, sym, ◌∙◌, ◌∷◌, [], cond}
use Rattle.rc_edges.proofs.GiveLaws.{get_front, get_second, gives_both_if, gives_like}
use Rattle.rc_router_sets.proofs.StepLaws.{link_front, link_one, link_two, owned_part, rest_part}
use Rattle.rc_router_sets.specs.Edges as spec
use Rattle.rc_topology.specs.Links.{port_is}
use Rattle.rc_topology.specs.Ports.{is_serial}
use Rattle.rc_edges.proofs.edges.add_on_link.Goals as goal

pub add_owned-requires-clause-may : goal.add_owned-requires-clause-may
add_owned-requires-clause-may g c =
    let plane = c.args.site.now.plane.now in
    let q = c.args.site.now.position in
    get_front c.args.nodes.now c.args.work.now c.args.row.now c.args.onto (spec.onto_link plane q c.args.next.now c.args.interface.now) (owned_part plane q c.args.next.now c.args.at.now.hop c.args.interface.now)
    (cond (port_is plane.links is_serial c.args.interface.now) (rest_part plane q c.args.next.now c.args.at.now.hop c.args.interface.now ∷ []) []) (link_front plane q c.args.next.now c.args.at.now.hop c.args.interface.now c.requires.at.1) c.requires.may

pub add_step-requires-clause-may : goal.add_step-requires-clause-may
add_step-requires-clause-may g c =
    let plane = c.args.site.now.plane.now in
    let q = c.args.site.now.position in
    let serial = ap (λ l. port_is l is_serial c.args.interface.now) (sym c.links.ensures) ∙ sym c.is_serial.ensures ∙ c.if-not-is_serial.false in
    get_second c.args.nodes.now c.args.work.now c.args.row.now c.args.onto (spec.onto_link plane q c.args.next.now c.args.interface.now) (owned_part plane q c.args.next.now c.args.at.now.hop c.args.interface.now) (rest_part plane q c.args.next.now c.args.at.now.hop c.args.interface.now)
    (link_two plane q c.args.next.now c.args.at.now.hop c.args.interface.now c.requires.at.1 serial) c.requires.may c.add_owned.new.work c.add_owned.new.row c.in_ok-add_owned.ensures.given

pub returns-clause-given : goal.returns-clause-given
returns-clause-given g c =
    let plane = c.args.site.now.plane.now in
    let q = c.args.site.now.position in
    let serial = ap (λ l. port_is l is_serial c.args.interface.now) (sym c.links.ensures) ∙ sym c.is_serial.ensures ∙ c.if-not-is_serial.false in
    gives_both_if c.args.work.now c.add_owned.new.work c.add_step.new.work c.args.row.now c.add_owned.new.row c.add_step.new.row c.args.onto (owned_part plane q c.args.next.now c.args.at.now.hop c.args.interface.now) (rest_part plane q c.args.next.now c.args.at.now.hop c.args.interface.now)
    (spec.onto_link plane q c.args.next.now c.args.interface.now) c.add_step.result (link_two plane q c.args.next.now c.args.at.now.hop c.args.interface.now c.requires.at.1 serial) c.in_ok-add_owned.ensures.given c.add_step.ensures.given

pub returns-then-not-is_serial-clause-given : goal.returns-then-not-is_serial-clause-given
returns-then-not-is_serial-clause-given g c =
    let plane = c.args.site.now.plane.now in
    let q = c.args.site.now.position in
    let none = ap (λ l. port_is l is_serial c.args.interface.now) (sym c.links.ensures) ∙ sym c.is_serial.ensures ∙ c.if-not-is_serial.true in
    gives_like c.args.work.now c.add_owned.new.work c.args.row.now c.add_owned.new.row c.args.onto (owned_part plane q c.args.next.now c.args.at.now.hop c.args.interface.now ∷ []) (spec.onto_link plane q c.args.next.now c.args.interface.now)
    (sym (link_one plane q c.args.next.now c.args.at.now.hop c.args.interface.now c.requires.at.1 none)) c.in_ok-add_owned.ensures.given

pub returns-clause-keeps : goal.returns-clause-keeps
returns-clause-keeps g c = λ r t k. c.add_step.ensures.keeps r t (c.in_ok-add_owned.ensures.keeps r t k)
