use Rattle.std.proofs.Common.{◌≡◌, ◌∙◌, sym, subst, map, All}
use Rattle.std.proofs.lemmas.Result.{IfOk-weaker}
use Rattle.rc_ospf.specs.Internal.{adverts_in, tables_asked}
use Rattle.rc_ospf.specs.Members.{known, table_of}
use Rattle.rc_ospf.specs.Routes.{IsShortRoute, internal_routes, offered_rows, rows_asked, with_default}
use Rattle.rc_shares.specs.Making.{AreMade}
use Rattle.rc_ospf.specs.Wanted.{IsDestination}
use Rattle.rc_ospf.specs.declared.member.StubAreas.TheVariants.{Kept}
use Rattle.rc_shares.proofs.MakingLaws.{all_given, all_of_kind}
use Rattle.rc_ospf.proofs.HoldingLaws.{asked_are}
use Rattle.rc_ospf.proofs.WantedLaws.{tables_alike}
use Rattle.rc_ospf.proofs.tables.tables.Goals as goal

pub made_at_once-requires-clause-fits : goal.made_at_once-requires-clause-fits
made_at_once-requires-clause-fits g c κs within = λ k d lt. tt

pub returns-clause-short : goal.returns-clause-short
returns-clause-short g c = IfOk-weaker c.made_at_once.result _ (All (All IsShortRoute)) (λ ts made. all_of_kind (table_of c.as_slice.result.now) (All IsShortRoute) c.args.members.now ts made) c.made_at_once.ensures

pub returns-clause-value : goal.returns-clause-value
returns-clause-value g c =
    let ms = c.args.members.now in
    let adverts = adverts_in c.args.net.now in
    IfOk-weaker c.made_at_once.result _ (λ ts. ts ≡ tables_asked c.args.asked (map (internal_routes (map (known Kept) ms) adverts) (map (known Kept) ms)))
    (λ ts made. all_given (table_of c.as_slice.result.now) (All IsShortRoute) ms ts made
    ∙ tables_alike ms (rows_asked c.args.asked (with_default (offered_rows adverts))) c.as_slice.result.now
    (subst (AreMade (IsDestination (map (known Kept) ms)) (rows_asked c.args.asked (with_default (offered_rows adverts)))) (sym c.as_slice.ensures) c.in_ok-destinations.ensures)
    ∙ asked_are c.args.asked (map (known Kept) ms) adverts ms) c.made_at_once.ensures
