use Rattle.std.proofs.Common.{◌≡◌, Bool, ap, sym, ◌∙◌, false, true, [], ◌∷◌}
use Rattle.rc_edges.proofs.GiveLaws.{get_like, gives_like_if, towards_linked, towards_taker}
use Rattle.rc_router_sets.specs.Edges.{onto_link, towards}
use Rattle.rc_edges.specs.Given.{leads_onto}
use Rattle.rc_router_sets.specs.Sent.{leaving}
use Rattle.rc_router_sets.specs.Steps.{device}
use Rattle.rc_route.specs.declared.route.Hop.{Hop}
use Rattle.rc_route.specs.declared.route.Hop.TheVariants.{Via}
use Rattle.rc_edges.proofs.edges.add_towards.Goals as goal

pub returns-in-Null-clause-given : goal.returns-in-Null-clause-given
returns-in-Null-clause-given g c = absurd (let e : false ≡ true = ap (λ x. leads_onto c.args.site.now.plane.now.links x c.args.next.now) (sym c.in-Null.is) ∙ c.requires.leads in cc)

pub returns-in-None-clause-given : goal.returns-in-None-clause-given
returns-in-None-clause-given g c =
    let leads : Hop → Bool = λ x. leads_onto c.args.site.now.plane.now.links x c.args.next.now in
    absurd (let e : false ≡ true = ap (λ o. leads (Via c.in-Via.field-0 o)) (sym c.in-None.is) ∙ ap leads (sym c.in-Via.is) ∙ c.requires.leads in cc)

pub add_on_link-requires-clause-at : goal.add_on_link-requires-clause-at
add_on_link-requires-clause-at g c = (c.requires.at, c.in-Dev.is)

pub add_on_link-requires-clause-may : goal.add_on_link-requires-clause-may
add_on_link-requires-clause-may g c =
    let plane = c.args.site.now.plane.now in
    let q = c.args.site.now.position in
    let t = c.args.next.now in
    let x = c.args.at.now.hop in
    let i = c.in-Dev.interface in
    get_like c.args.nodes.now c.args.work.now c.args.row.now c.args.onto (towards plane q t x) (onto_link plane q t i) (sym (towards_linked plane q t x c.requires.leads i c.in-Dev.is)) c.requires.may

pub returns-in-Dev-clause-given : goal.returns-in-Dev-clause-given
returns-in-Dev-clause-given g c =
    let plane = c.args.site.now.plane.now in
    let q = c.args.site.now.position in
    let t = c.args.next.now in
    let x = c.args.at.now.hop in
    let i = c.in-Dev.interface in
    gives_like_if c.args.work.now c.add_on_link.new.work c.args.row.now c.add_on_link.new.row c.args.onto (onto_link plane q t i) (towards plane q t x) c.add_on_link.result (towards_linked plane q t x c.requires.leads i c.in-Dev.is) c.add_on_link.ensures.given

pub add_step-requires-clause-may : goal.add_step-requires-clause-may
add_step-requires-clause-may g c =
    let plane = c.args.site.now.plane.now in
    let q = c.args.site.now.position in
    let t = c.args.next.now in
    let x = c.args.at.now.hop in
    let is = c.in-Via.is ∙ ap (Via c.in-Via.field-0) c.in-Some.is in
    get_like c.args.nodes.now c.args.work.now c.args.row.now c.args.onto (towards plane q t x) (leaving plane q x (device x) ∷ []) (sym (towards_taker plane q t x c.requires.leads c.in-Via.field-0 c.in-Some.field-0 is)) c.requires.may

pub returns-in-Some-clause-given : goal.returns-in-Some-clause-given
returns-in-Some-clause-given g c =
    let plane = c.args.site.now.plane.now in
    let q = c.args.site.now.position in
    let t = c.args.next.now in
    let x = c.args.at.now.hop in
    let is = c.in-Via.is ∙ ap (Via c.in-Via.field-0) c.in-Some.is in
    gives_like_if c.args.work.now c.add_step.new.work c.args.row.now c.add_step.new.row c.args.onto (leaving plane q x (device x) ∷ []) (towards plane q t x) c.add_step.result (towards_taker plane q t x c.requires.leads c.in-Via.field-0 c.in-Some.field-0 is) c.add_step.ensures.given
