use Rattle.std.proofs.Common.{◌^◌, ◌<◌, ap, sym, ◌∙◌, subst}
use Rattle.std.specs.Int.Bits.{bit_xor}
use Rattle.std.specs.Int.Count.{count_leading_zeros}
use Rattle.rc_base.specs.Prefix.{Cidr, prefix_at}
use Rattle.rc_trie.specs.Search.{IsShared}
use Rattle.rc_trie.proofs.SearchLaws.{shared_at}
use Rattle.rc_trie.proofs.search.shared.Goals as goal

pub returns : goal.returns
returns c =
    let x = c.args.first in
    let a = c.args.second in
    let fits_x : x < 2 ^ 32 = subst (λ n. n < 2 ^ 32) c.bits.ensures c.bits.type_inv in
    let fits_a : a < 2 ^ 32 = subst (λ n. n < 2 ^ 32) c.bits-2.ensures c.bits-2.type_inv in
    let both = ap (λ (p : Cidr). p.network) (c.prefix_of.ensures ∙ (λ i. prefix_at a (count_leading_zeros 32 (bit_xor (c.bits.ensures i) (c.bits-2.ensures i))))) in
    subst (IsShared x a) (sym (c.network.ensures.value ∙ both)) (shared_at x a fits_x fits_a)
