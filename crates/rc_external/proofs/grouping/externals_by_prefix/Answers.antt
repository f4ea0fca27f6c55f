use Rattle.std.proofs.Common.{◌≡◌, ◌∙◌, ap, map}
use Rattle.std.proofs.lemmas.Result.{IfOk-weaker}
use Rattle.rc_external.specs.ByPrefix.{row_of}
use Rattle.rc_external.specs.Externals.{by_prefix}
use Rattle.rc_external.proofs.RowLaws.{rows_are}
use Rattle.rc_external.proofs.grouping.externals_by_prefix.Goals as goal

pub returns : goal.returns
returns c = IfOk-weaker _ _ (λ rows. rows ≡ by_prefix c.args.sent.now)
    (λ rows made. made ∙ ap (map row_of) c.in_ok-groups.ensures ∙ rows_are c.args.sent.now) c.rows_of_groups.ensures
