use Rattle.std.proofs.Common.{◌∙◌, ap, subst, sym}
use Rattle.std.specs.List.Sorted.{IsStrictlySortedBy}
use Rattle.std.specs.Ordering.{nat_cmp}
use Rattle.rc_base.specs.Communities.{has_community}
use Rattle.rc_base.proofs.CommunityLaws.{bisected}
use Rattle.rc_base.proofs.communities.Communities.has.Goals as goal

pub returns : goal.returns
returns c =
    let rising : IsStrictlySortedBy nat_cmp c.as_slice.result.now = subst (IsStrictlySortedBy nat_cmp) (sym c.as_slice.ensures.numbers) c.as_slice.ensures.rising in
    c.is_ok.ensures.value
    ∙ bisected c.as_slice.result.now c.args.number c.binary_search.result rising c.binary_search.ensures.bound c.binary_search.ensures.position
    ∙ ap (λ xs. has_community xs c.args.number) c.as_slice.ensures.numbers
