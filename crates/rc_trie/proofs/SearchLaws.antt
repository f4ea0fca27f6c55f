-- Look-ups in a list that is in order of prefix.
use Rattle.std.proofs.Common.{refl, ◌≡◌, ap, sym, ◌∙◌, subst, ℕ, ◌+◌, ◌-◌, ◌*◌, ◌/◌, ◌^◌, ◌<◌, ◌≤◌, min, div-mul-le_self, eqb-true, pow_pos, Bool, true, false, List, length, map, get_or, None, nat_le, inl, inr, leb-true, le-leb, arith}
use Rattle.std.specs.List.Sorted.{IsPartitionedBy, IsPartitionPoint}
use Rattle.std.specs.Int.Bits.{bit_xor, xor_self}
use Rattle.std.specs.Int.Count.{count_leading_zeros}
use Rattle.std.proofs.lemmas.Bool.{cases_lt}
use Rattle.std.proofs.Math.Pow.{pow_mono}
use Rattle.std.proofs.lemmas.Nat.{leading_le, leading_length, pow-add, xor_of_32, xor_shr}
use Rattle.std.proofs.lemmas.Bool.Decides.{nat_tests}
use Rattle.std.specs.declared.cmp.Ordering.TheVariants.{Less}
use Rattle.std.proofs.lemmas.List.{get_or-map, get_or_default, length-map}
use Rattle.std.proofs.lemmas.Option.{slice_get_read}
use Rattle.std.proofs.lemmas.Map.Keys.{Less-from_sorted}
use Rattle.rc_base.specs.Prefix.{Cidr, IsCidr, contains, prefix_at, prefix_cmp}
use Rattle.rc_route.specs.Tables.{IsListed}
use Rattle.rc_trie.specs.Tree.{AreInOrder, IsLongestAt, longest_by}
use Rattle.rc_trie.specs.Search.{IsReach, IsShared, NoneHolds}
use Rattle.rc_trie.proofs.OrderLaws.{begins_at, begins_before, holds_between, holds_is, later_longer, networks_rise}
use Rattle.rc_trie.proofs.ScanLaws.{none_holds}

either : (b : Bool) → (b ≡ true → ⊥) → b ≡ false
either true h = absurd (h refl)
either false h = refl

both_ways : (b : Bool) → b ≡ true → b ≡ false → ⊥
both_ways true e f = cc
both_ways false e f = cc

not_le : (m n : ℕ) → nat_le m n ≡ false → n < m
not_le m n e = grind (arith, nat_tests)

-- what is so before each step of a look-up: the rows before the place begin at the address or before it, and no other holds it
pub record IsLeft {X : Type 0} (f : X → Cidr) (rows : List X) (a end : ℕ) : Type 0 where
  pub within : end ≤ length rows
  pub begin : (k : ℕ) (d : X) → k < end → (f (get_or rows k d)).network ≤ a
  pub none : NoneHolds f rows end a

-- so many of the prefixes are known to be some
pub record AreRead {X : Type 0} (f : X → Cidr) (rows : List X) (n : ℕ) : Type 0 where
  pub canonical : (k : ℕ) (d : X) → k < n → IsCidr (f (get_or rows k d))

module _ {X : Type 0} (f : X → Cidr) (rows : List X) where
  pub none_read : AreRead f rows 0
  none_read = record { canonical = λ k d less. absurd (omega arith) }

  pub read_more : (n : ℕ) (r : X) → AreRead f rows n → n < length rows → r ≡ get_or rows n r → IsCidr (f r) → AreRead f rows (n + 1)
  read_more n r are less is canonical = record {
    canonical = λ k d within. elim (cases_lt k n) [
      | inl sooner ↦ are.canonical k d sooner
      | inr rest ↦
          let same : k ≡ n = omega arith in
          let one : get_or rows k d ≡ r = ap (λ j. get_or rows j d) same ∙ get_or_default rows n d r less ∙ sym is in
          subst (λ (x : X). IsCidr (f x)) (sym one) canonical
    ];
  }

  pub all_read : (n : ℕ) → length rows ≤ n → IsListed f rows → AreRead f rows n → AreInOrder f rows
  all_read n long sorted are = record { sorted = sorted; canonical = λ k d less. are.canonical k d (omega arith) }

module _ {X : Type 0} (f : X → Cidr) (rows : List X) (are : AreInOrder f rows) where
  canonical_at : (k : ℕ) (d : X) → k < length rows → IsCidr (f (get_or rows k d))
  canonical_at k d less = are.canonical k d less

  pub rises : (i j : ℕ) (d : X) → i < j → j < length rows → prefix_cmp (f (get_or rows i d)) (f (get_or rows j d)) ≡ Less
  rises i j d less within =
      let long : length (map f rows) ≡ length rows = length-map rows f in
      let at_i : get_or (map f rows) i (f d) ≡ f (get_or rows i d) = get_or-map f rows i d (f d) (omega arith) in
      let at_j : get_or (map f rows) j (f d) ≡ f (get_or rows j d) = get_or-map f rows j d (f d) within in
      let both : prefix_cmp (get_or (map f rows) i (f d)) (get_or (map f rows) j (f d)) ≡ prefix_cmp (f (get_or rows i d)) (f (get_or rows j d)) = λ k. prefix_cmp (at_i k) (at_j k) in
      sym both ∙ Less-from_sorted prefix_cmp (map f rows) i j (f d) are.sorted less (omega arith)

  -- the rows that begin at an address or before it come first
  pub begin_first : (a : ℕ) → IsPartitionedBy (λ (x : X). nat_le (f x).network a) rows
  begin_first a i j d le within passes = elim (cases_lt i j) [
    | inl less ↦ le-leb (f (get_or rows i d)).network a (omega (arith, begins_before (f (get_or rows i d)) (f (get_or rows j d)) (rises i j d less within), leb-true (f (get_or rows j d)).network a passes))
    | inr same ↦ let one : i ≡ j = omega arith in subst (λ k. nat_le (f (get_or rows k d)).network a ≡ true) (sym one) passes
  ]

  pub reached : (a m : ℕ) → m ≤ length rows → IsPartitionPoint (λ (x : X). nat_le (f x).network a ≡ true) (λ (x : X). nat_le (f x).network a ≡ false) rows m → IsReach f rows a m
  reached a m within point = record {
    within = within;
    before = λ k d less. leb-true (f (get_or rows k d)).network a (point.0 k d (omega arith) less);
    behind = λ k d low less. not_le (f (get_or rows k d)).network a (point.1 k d low less);
  }

  -- ---- from a place downwards

  module _ (a : ℕ) where
    pub first_left : (m : ℕ) → IsReach f rows a m → IsLeft f rows a m
    first_left m reach = record {
      within = reach.within;
      begin = reach.before;
      none = λ k d low less. either (contains (f (get_or rows k d)) a) (λ holds. let from = begins_at (f (get_or rows k d)) a (canonical_at k d less) holds in let past = reach.behind k d low less in absurd (omega arith));
    }

    module _ (end : ℕ) (left : IsLeft f rows a end) (some : 0 < end) (r : X) (is : r ≡ get_or rows (end - 1) r) where
      within_rows : end - 1 < length rows
      within_rows = let within = left.within in omega arith

      -- a row of an index before the last that is left
      earlier : (k : ℕ) (d : X) → k < end - 1 → prefix_cmp (f (get_or rows k d)) (f r) ≡ Less
      earlier k d less =
          let w = within_rows in
          let here : get_or rows k d ≡ get_or rows k r = get_or_default rows k d r (omega arith) in
          (λ i. prefix_cmp (f (here i)) (f (is i))) ∙ rises k (end - 1) r less w

      first_address : (f r).network ≤ a
      first_address = subst (λ (x : X). (f x).network ≤ a) (sym is) (left.begin (end - 1) r (omega arith))

      pub next_left : (s m next : ℕ) → contains (f r) a ≡ false → IsShared (f r).network a s → IsReach f rows s m → next ≡ min m (end - 1) → IsLeft f rows a next
      next_left s m next apart both reach e =
          let within = left.within in
          record {
            within = omega arith;
            begin = λ k d less. left.begin k d (omega arith);
            none = λ k d low less. elim (cases_lt k (end - 1)) [
              | inl sooner ↦
                  let past = reach.behind k d (omega arith) less in
                  let begins = begins_before (f (get_or rows k d)) (f r) (earlier k d sooner) in
                  let first = first_address in
                  either (contains (f (get_or rows k d)) a) (λ holds.
                  let there = holds_between (f (get_or rows k d)) a (f r).network holds begins first in
                  let low_first = both.last (f (get_or rows k d)) (canonical_at k d less) there holds in
                  absurd (omega arith))
              | inr rest ↦ elim (cases_lt k end) [
                | inl here ↦
                    let same : k ≡ end - 1 = omega arith in
                    let w = within_rows in
                    let one : get_or rows k d ≡ r = ap (λ j. get_or rows j d) same ∙ get_or_default rows (end - 1) d r w ∙ sym is in
                    ap (λ (x : X). contains (f x) a) one ∙ apart
                | inr above ↦ left.none k d above less
              ]
            ];
          }

      -- it is the longest that holds the address, at its place
      pub found_at : contains (f r) a ≡ true → IsLongestAt f rows a (end - 1)
      found_at holds =
          let w = within_rows in
          let canonical : IsCidr (f r) = subst (λ (x : X). IsCidr (f x)) (sym is) (canonical_at (end - 1) r w) in
          let before : (k : ℕ) (d : X) → k < end - 1 → contains (f (get_or rows k d)) a ≡ true → (f (get_or rows k d)).len < (f r).len =
          λ k d less there. later_longer (f (get_or rows k d)) (f r) a (canonical_at k d (omega arith)) canonical there holds (earlier k d less)
          in
          let all : (k : ℕ) (d : X) → k < length rows → contains (f (get_or rows k d)) a ≡ true → (f (get_or rows k d)).len ≤ (f r).len =
          λ k d less there. elim (cases_lt k (end - 1)) [
            | inl below ↦ let shorter = before k d below there in omega arith
            | inr rest ↦ elim (cases_lt k end) [
              | inl here ↦
                  let same : k ≡ end - 1 = omega arith in
                  let one : get_or rows k d ≡ r = ap (λ j. get_or rows j d) same ∙ get_or_default rows (end - 1) d r w ∙ sym is in
                  let lens = ap (λ (x : X). (f x).len) one in
                  omega arith
              | inr above ↦ absurd (both_ways (contains (f (get_or rows k d)) a) there (left.none k d above less))
            ]
          ]
          in
          record { thing = r; is = slice_get_read rows (length rows) (end - 1) r refl w is; holds = holds; before = before; others = all }

    pub none_found : (end : ℕ) → end ≡ 0 → IsLeft f rows a end → None ≡ longest_by f rows a
    none_found end is left = sym (none_holds f a rows (λ k d less there. both_ways (contains (f (get_or rows k d)) a) there (left.none k d (omega arith) less)))

-- ---- the prefixes that hold two addresses

-- each of them has no more bits than the two addresses share
few_bits : (q : Cidr) (x a : ℕ) → x < 2 ^ 32 → a < 2 ^ 32 → IsCidr q → contains q x ≡ true → contains q a ≡ true → q.len ≤ count_leading_zeros 32 (bit_xor x a)
few_bits q x a fits_x fits_a canonical in_x in_a =
    let host = 32 - q.len in
    let same : x / 2 ^ host ≡ a / 2 ^ host = eqb-true _ _ in_x ∙ sym (eqb-true _ _ in_a) in
    let none : bit_xor x a / 2 ^ host ≡ 0 = xor_shr x a host ∙ ap (λ n. bit_xor n (a / 2 ^ host)) same ∙ xor_self (a / 2 ^ host) in
    let below : bit_xor x a < 2 ^ host = small (bit_xor x a) (2 ^ host) (pow_pos host) none in
    let (m, long, fits, top) = leading_length 32 (bit_xor x a) (xor_of_32 x a fits_x fits_a) in
    let short = canonical.short in
    elim (cases_lt host m) [
      | inl more ↦
          let twice : 2 ^ (host + 1) ≤ 2 ^ m = pow_mono (omega arith) in
          let double : 2 ^ (host + 1) ≡ 2 ^ host * 2 = pow-add 2 host 1 in
          absurd (omega (arith, twice, double, top, below))
      | inr le ↦ omega (arith, long, short, le)
    ]
  where
    small : (n d : ℕ) → 0 < d → n / d ≡ 0 → n < d
    small n d some zero = grind (arith, div-mul-le_self)

pub shared_at : (x a : ℕ) → x < 2 ^ 32 → a < 2 ^ 32 → IsShared x a (prefix_at a (count_leading_zeros 32 (bit_xor x a))).network
shared_at x a fits_x fits_a = record {
  last = λ q canonical in_x in_a.
      let len = count_leading_zeros 32 (bit_xor x a) in
      let few = few_bits q x a fits_x fits_a canonical in_x in_a in
      let short = leading_le 32 (bit_xor x a) in
      let network = ap (λ (p : Cidr). p.network) (holds_is q a canonical in_a) in
      elim (cases_lt q.len len) [
        | inl shorter ↦ let rise = networks_rise a q.len len shorter short in subst (λ n. n ≤ (prefix_at a len).network) (sym network) rise
        | inr rest ↦
            let same : q.len ≡ len = omega arith in
            let one = network ∙ ap (λ n. (prefix_at a n).network) same in
            omega (arith, one)
      ];
}
