use Rattle.std.proofs.Common.{false, subst, ◌≡◌, Some}
use Rattle.std.specs.Prelude.{MatchResult, slice_get}
use Rattle.std.specs.List.{list_any}
use Rattle.rc_link_state.specs.Tables.{is_number}
use Rattle.rc_link_state.proofs.TableLaws.{bisected}
use Rattle.rc_link_state.proofs.table.place_by_bisection.Goals as goal

pub returns-in-Ok-clause-found : goal.returns-in-Ok-clause-found
returns-in-Ok-clause-found c =
    subst (λ r. MatchResult r (λ i. slice_get c.args.numbers.now i ≡ Some c.args.number) (λ i. list_any (is_number c.args.number) c.args.numbers.now ≡ false)) c.in-Ok.is
    (bisected c.args.numbers.now c.args.number c.binary_search.result c.requires c.binary_search.ensures.position)

pub returns-in-Err-clause-absent : goal.returns-in-Err-clause-absent
returns-in-Err-clause-absent c =
    subst (λ r. MatchResult r (λ i. slice_get c.args.numbers.now i ≡ Some c.args.number) (λ i. list_any (is_number c.args.number) c.args.numbers.now ≡ false)) c.in-Err.is
    (bisected c.args.numbers.now c.args.number c.binary_search.result c.requires c.binary_search.ensures.position)
