use Rattle.std.proofs.Common.{◌≡◌, ◌∙◌, ap, map}
use Rattle.std.proofs.lemmas.Result.{IfOk-weaker}
use Rattle.rc_ospf.specs.ByPrefix.{row_of}
use Rattle.rc_ospf.specs.Routes.{offered_rows}
use Rattle.rc_ospf.proofs.RowLaws.{rows_are}
use Rattle.rc_ospf.proofs.grouping.offers_by_prefix.Goals as goal

pub returns : goal.returns
returns c = IfOk-weaker _ _ (λ rows. rows ≡ offered_rows c.args.adverts.now)
    (λ rows made. made ∙ ap (map row_of) c.in_ok-groups.ensures ∙ rows_are c.args.adverts.now) c.rows_of_groups.ensures
