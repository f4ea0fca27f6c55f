use Rattle.std.proofs.Common.{◌≡◌, ◌∙◌, ap, subst, Bool, List}
use Rattle.std.specs.List.{dedup}
use Rattle.std.specs.List.Sorted.{IsPermutation, IsSorted}
use Rattle.std.specs.declared.cmp.Ordering.{Ordering}
use Rattle.std.proofs.lemmas.List.Filters.{dedup_is}
use Rattle.rc_base.specs.Prefix.{Cidr, prefix_cmp, same_prefix}
use Rattle.rc_base.specs.contracts.prefix.PrefixPartialEq.TheImpl as eq_impl
use Rattle.rc_base.proofs.GroupLaws.{code_cmp}
use Rattle.rc_bgp.proofs.SettledLaws.{code_eq, settled}
use Rattle.rc_bgp.proofs.news.each_once.Goals as goal

pub returns : goal.returns
returns c =
    let ys = c.sort.new.self.items in
    let sorted : IsSorted prefix_cmp ys = subst (λ (r : Cidr → Cidr → Ordering). IsSorted r ys) code_cmp c.in_ok-sort.ensures.sorted in
    let moved : IsPermutation c.args.prefixes ys = subst (λ (xs : List Cidr). IsPermutation xs ys) c.into_vec-once.ensures c.in_ok-sort.ensures.permutation in
    let once : c.dedup.new.self.items ≡ dedup same_prefix ys = dedup_is eq_impl.eq-value.it ys c.dedup.new.self.items c.dedup.ensures.filtered ∙ ap (λ (eq : Cidr → Cidr → Bool). dedup eq ys) code_eq in
    c.from_vec.ensures ∙ settled c.args.prefixes ys c.dedup.new.self.items moved sorted once
