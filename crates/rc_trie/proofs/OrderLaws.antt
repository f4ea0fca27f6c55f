-- Rows in order.
use Rattle.std.proofs.Common.{refl, Some, ◌≡◌, ap, sym, ◌∙◌, subst, ℕ, ◌+◌, ◌-◌, ◌*◌, ◌/◌, ◌^◌, ◌<◌, ◌≤◌, true, div-mul-le_self, mul-le-mul_left, eq-eqb, eqb-true, pow_pos, inl, inr, arith}
use Rattle.std.specs.Ordering.{is_lt, is_some_and, partial_lt, partial_ordering_then, nat_cmp, ordering_reverse, ordering_then}
use Rattle.std.specs.declared.cmp.Ordering.{Ordering}
use Rattle.std.specs.declared.cmp.Ordering.TheVariants.{Less, Equal, Greater}
use Rattle.std.proofs.lemmas.Bool.{cases_lt}
use Rattle.std.proofs.lemmas.Bool.Decides.{nat_tests}
use Rattle.std.proofs.lemmas.Nat.{le-div, pow-add}
use Rattle.std.proofs.Math.Nat.{div-div-eq-div-mul}
use Rattle.rc_base.specs.Addr.{leading_bits}
use Rattle.rc_base.specs.Prefix.{Cidr, IsCidr, contains, prefix_at, prefix_cmp}
use Rattle.rc_base.specs.contracts.prefix.PrefixPartialOrd.TheImpl as partial_impl
use Rattle.rc_base.proofs.GroupLaws.{code_cmp}
use Rattle.rc_base.proofs.OrderedLaws.{prefix_cmp_total}
use Rattle.std.proofs.lemmas.Cmp.{tied_itself}

pub turned : (p q : Cidr) → prefix_cmp p q ≡ Less → prefix_cmp q p ≡ Greater
turned p q e = prefix_cmp_total.antisymm q p ∙ ap ordering_reverse e

pub same_itself : (p : Cidr) → prefix_cmp p p ≡ Equal
same_itself p = tied_itself prefix_cmp_total p

by_network : (p q : Cidr) → p.network < q.network → prefix_cmp p q ≡ Less
by_network p q less = grind (arith, nat_tests)

by_parts : (p q : Cidr) → p.network ≤ q.network → p.len < q.len → prefix_cmp p q ≡ Less
by_parts p q low less = grind (arith, nat_tests)

-- what stands before begins at no higher address
pub begins_before : (p q : Cidr) → prefix_cmp p q ≡ Less → p.network ≤ q.network
begins_before p q less = elim (cases_lt q.network p.network) [
  | inl higher ↦ let clash : Less ≡ Greater = sym less ∙ turned q p (by_network q p higher) in absurd (cc clash)
  | inr rest ↦ omega arith
]

pub less_turned : (p q : Cidr) → prefix_cmp p q ≡ Greater → prefix_cmp q p ≡ Less
less_turned p q e = prefix_cmp_total.antisymm q p ∙ ap ordering_reverse e

div_rises : (x y d : ℕ) → 0 < d → x ≤ y → x / d ≤ y / d
div_rises x y d some le = le-div (x / d) y d some (omega (arith, div-mul-le_self x d))

-- a prefix that holds an address holds all from its first one up to that
pub holds_between : (p : Cidr) (a b : ℕ) → contains p a ≡ true → p.network ≤ b → b ≤ a → contains p b ≡ true
holds_between p a b holds low high =
    let d = 2 ^ (32 - p.len) in
    let some = pow_pos (32 - p.len) in
    let first = div_rises p.network b d some low in
    let last = div_rises b a d some high in
    let same : leading_bits p.len a ≡ leading_bits p.len p.network = eqb-true _ _ holds in
    eq-eqb _ _ (omega (arith, first, last, same))

-- ---- the code's order

both_lt : (a b : Ordering) → is_some_and is_lt (partial_ordering_then (Some a) (Some b)) ≡ is_lt (ordering_then a b)
both_lt Less b = refl
both_lt Equal b = refl
both_lt Greater b = refl

-- what `<` of prefixes says
pub lt_code : (p q : Cidr) → partial_lt partial_impl.partial_cmp-value.it p q ≡ is_lt (prefix_cmp p q)
lt_code p q = both_lt (nat_cmp p.network q.network) (nat_cmp p.len q.len) ∙ (λ i. is_lt (code_cmp i p q))

-- ---- prefixes of one address

scaled : (t e q d : ℕ) → t * e ≤ q → t * (d * e) ≤ q * d
scaled t e q d h = omega (arith, mul-le-mul_left d h)

pub networks_rise : (a m n : ℕ) → m < n → n ≤ 32 → (prefix_at a m).network ≤ (prefix_at a n).network
networks_rise a m n less short =
    let d = 2 ^ (32 - n) in
    let e = 2 ^ (n - m) in
    let bits : 32 - m ≡ 32 - n + (n - m) = omega arith in
    let size : 2 ^ (32 - m) ≡ d * e = ap (λ k. 2 ^ k) bits ∙ pow-add 2 (32 - n) (n - m) in
    let At : ℕ → Type 0 = λ s. a / s * s ≤ a / d * d in
    let Cut : ℕ → Type 0 = λ t. t * (d * e) ≤ a / d * d in
    subst At (sym size) (subst Cut (div-div-eq-div-mul a d e) (scaled (a / d / e) e (a / d) d (div-mul-le_self (a / d) e)))

prefixes_rise : (a m n : ℕ) → m < n → n ≤ 32 → prefix_cmp (prefix_at a m) (prefix_at a n) ≡ Less
prefixes_rise a m n less short = by_parts (prefix_at a m) (prefix_at a n) (networks_rise a m n less short) less

pub holds_is : (p : Cidr) (a : ℕ) → IsCidr p → contains p a ≡ true → p ≡ prefix_at a p.len
holds_is p a canonical holds =
    let bits : leading_bits p.len a ≡ leading_bits p.len p.network = eqb-true _ _ holds in
    let network : p.network ≡ leading_bits p.len a * 2 ^ (32 - p.len) = canonical.no_host_bits ∙ ap (λ n. n * 2 ^ (32 - p.len)) (sym bits) in
    λ i. record { network = network i; len = p.len }

-- of two that hold an address the later one is longer
pub later_longer : (p q : Cidr) (a : ℕ) → IsCidr p → IsCidr q → contains p a ≡ true → contains q a ≡ true → prefix_cmp p q ≡ Less → p.len < q.len
later_longer p q a at_p at_q in_p in_q less = elim (cases_lt p.len q.len) [
  | inl it ↦ it
  | inr more ↦ elim (cases_lt q.len p.len) [
    | inl shorter ↦
        let few = at_p.short in
        let back : prefix_cmp q p ≡ Less = (λ i. prefix_cmp (holds_is q a at_q in_q i) (holds_is p a at_p in_p i)) ∙ prefixes_rise a q.len p.len shorter few in
        let clash : Less ≡ Greater = sym less ∙ turned q p back in
        absurd (cc clash)
    | inr same ↦
        let lens : p.len ≡ q.len = omega arith in
        let one : p ≡ q = holds_is p a at_p in_p ∙ ap (prefix_at a) lens ∙ sym (holds_is q a at_q in_q) in
        let clash : Less ≡ Equal = sym less ∙ ap (λ r. prefix_cmp r q) one ∙ same_itself q in
        absurd (cc clash)
  ]
]

-- a prefix begins at the addresses that it holds, or before them
pub begins_at : (p : Cidr) (a : ℕ) → IsCidr p → contains p a ≡ true → p.network ≤ a
begins_at p a canonical holds =
    let is = ap (λ (q : Cidr). q.network) (holds_is p a canonical holds) in
    omega (arith, is, div-mul-le_self a (2 ^ (32 - p.len)))
