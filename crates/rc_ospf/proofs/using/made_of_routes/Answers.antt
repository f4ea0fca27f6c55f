use Rattle.std.proofs.Common.{ap, sym, subst, length, map}
use Rattle.std.specs.Prelude.{slice_index_or}
use Rattle.std.proofs.lemmas.Result.{IfOk-at_ok}
use Rattle.rc_ospf.specs.Internal.{adverts_in, steps_of}
use Rattle.rc_ospf.specs.Members.{known, table_of}
use Rattle.rc_ospf.specs.Routes.{offered_rows, with_default}
use Rattle.rc_ospf.specs.Wanted.{IsDestination}
use Rattle.rc_ospf.specs.declared.member.StubAreas.TheVariants.{Kept}
use Rattle.rc_ospf.specs.declared.ospf_router.Member.{Member}
use Rattle.rc_shares.specs.Making.{AreMade}
use Rattle.rc_shares.specs.Stretches.{IsStretch}
use Rattle.rc_ospf.proofs.GroundLaws.{alike_over, each_is_table, made_of_them}
use Rattle.rc_ospf.proofs.using.made_of_routes.Goals as goal

pub each_at_once-passed-requires-clause-ready : goal.each_at_once-passed-requires-clause-ready
each_at_once-passed-requires-clause-ready g c κs within =
    let net = c.args.net.now in
    let grounds = c.args.grounds.now in
    let ms = c.as_slice-members.result.now in
    let alike = alike_over net grounds c.requires.grounds c.as_slice.result.now c.in_ok-members.members ms c.as_slice.ensures c.as_slice-members.ensures c.in_ok-members.ensures in
    each_is_table net (steps_of net grounds.internal.links) ms c.as_slice-2.result.now alike
    (subst (AreMade (IsDestination (map (known Kept) ms)) (with_default (offered_rows (adverts_in net)))) (sym c.as_slice-2.ensures) c.in_ok-destinations.ensures)

pub returns-clause-made : goal.returns-clause-made
returns-clause-made g c i is same =
    let net = c.args.net.now in
    let grounds = c.args.grounds.now in
    let ms = c.as_slice-members.result.now in
    let ds = c.as_slice-2.result.now in
    let makes = g.U.UsesRoutes.makes c.args.uses.now in
    let alike = alike_over net grounds c.requires.grounds c.as_slice.result.now c.in_ok-members.members ms c.as_slice.ensures c.as_slice-members.ensures c.in_ok-members.ensures in
    made_of_them net (steps_of net grounds.internal.links) ms ds alike
    (subst (AreMade (IsDestination (map (known Kept) ms)) (with_default (offered_rows (adverts_in net)))) (sym c.as_slice-2.ensures) c.in_ok-destinations.ensures)
    i is (ap (steps_of net) (sym same)) makes c.in-Ok.made
    (IfOk-at_ok (IsStretch (λ k made. (d : Member) → makes k (table_of ds (slice_index_or ms k d)) made) 0 (length ms)) c.in-Ok.is c.each_at_once-passed.ensures.made)
