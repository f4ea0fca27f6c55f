-- Two reduced trees that hold the same headers are one.
use Rattle.std.proofs.Common.{◌≡◌, sym, ◌∙◌, ℕ, Bool}
use Rattle.rc_base.specs.Header.{HasBits, IsHeader, bit}
use Rattle.rc_base.specs.declared.header.Header.{Header}
use Rattle.rc_base.proofs.HeaderLaws.{headers_are_bits}
use Rattle.rc_trees.specs.Trees.{Tree, value, holds, IsReduced}
use Rattle.rc_trees.proofs.OneTree.{by_bits, one_tree}

-- each set of headers has one reduced tree
pub one_tree_per_set : (s t : Tree) → IsReduced s → IsReduced t → ((h : Header) → IsHeader h → holds s h ≡ holds t h) → s ≡ t
one_tree_per_set s t r q same = one_tree s t r q (λ b. on b (headers_are_bits b))
  where
    on : (b : ℕ → Bool) → HasBits b → value s b ≡ value t b
    on b has =
        by_bits s r b (bit has.header) (λ v less. sym (has.same v less))
        ∙ same has.header has.fits
        ∙ by_bits t q (bit has.header) b has.same
