-- Prefixes that hold one address.
use Rattle.std.proofs.Common.{◌≡◌, ap, sym, ◌∙◌, subst, ℕ, ◌+◌, ◌-◌, ◌*◌, ◌/◌, ◌^◌, ◌<◌, ◌≤◌, true, div-mul-le_self, mul-le-mul_left, eqb-true, inl, inr, arith}
use Rattle.std.specs.Ordering.{ordering_reverse}
use Rattle.std.specs.declared.cmp.Ordering.TheVariants.{Less, Equal, Greater}
use Rattle.std.proofs.lemmas.Bool.{cases_lt}
use Rattle.std.proofs.lemmas.Bool.Decides.{nat_tests}
use Rattle.std.proofs.lemmas.Cmp.{tied_itself}
use Rattle.std.proofs.lemmas.Nat.{pow-add}
use Rattle.std.proofs.Math.Nat.{div-div-eq-div-mul}
use Rattle.rc_base.specs.Addr.{leading_bits}
use Rattle.rc_base.specs.Prefix.{Cidr, IsCidr, contains, prefix_at, prefix_cmp}
use Rattle.rc_base.proofs.OrderedLaws.{prefix_cmp_total}

turned : (p q : Cidr) → prefix_cmp p q ≡ Less → prefix_cmp q p ≡ Greater
turned p q e = prefix_cmp_total.antisymm q p ∙ ap ordering_reverse e

same_itself : (p : Cidr) → prefix_cmp p p ≡ Equal
same_itself p = tied_itself prefix_cmp_total p

by_parts : (p q : Cidr) → p.network ≤ q.network → p.len < q.len → prefix_cmp p q ≡ Less
by_parts p q low less = grind (arith, nat_tests)

-- ---- prefixes of one address

scaled : (t e q d : ℕ) → t * e ≤ q → t * (d * e) ≤ q * d
scaled t e q d h = omega (arith, mul-le-mul_left d h)

networks_rise : (a m n : ℕ) → m < n → n ≤ 32 → (prefix_at a m).network ≤ (prefix_at a n).network
networks_rise a m n less short =
    let d = 2 ^ (32 - n) in
    let e = 2 ^ (n - m) in
    let bits : 32 - m ≡ 32 - n + (n - m) = omega arith in
    let size : 2 ^ (32 - m) ≡ d * e = ap (λ k. 2 ^ k) bits ∙ pow-add 2 (32 - n) (n - m) in
    let At : ℕ → Type 0 = λ s. a / s * s ≤ a / d * d in
    let Cut : ℕ → Type 0 = λ t. t * (d * e) ≤ a / d * d in
    subst At (sym size) (subst Cut (div-div-eq-div-mul a d e) (scaled (a / d / e) e (a / d) d (div-mul-le_self (a / d) e)))

prefixes_rise : (a m n : ℕ) → m < n → n ≤ 32 → prefix_cmp (prefix_at a m) (prefix_at a n) ≡ Less
prefixes_rise a m n less short = by_parts (prefix_at a m) (prefix_at a n) (networks_rise a m n less short) less

holds_is : (p : Cidr) (a : ℕ) → IsCidr p → contains p a ≡ true → p ≡ prefix_at a p.len
holds_is p a canonical holds =
    let bits : leading_bits p.len a ≡ leading_bits p.len p.network = eqb-true _ _ holds in
    let network : p.network ≡ leading_bits p.len a * 2 ^ (32 - p.len) = canonical.no_host_bits ∙ ap (λ n. n * 2 ^ (32 - p.len)) (sym bits) in
    λ i. record { network = network i; len = p.len }

-- of two that hold an address the later one is longer
pub later_longer : (p q : Cidr) (a : ℕ) → IsCidr p → IsCidr q → contains p a ≡ true → contains q a ≡ true → prefix_cmp p q ≡ Less → p.len < q.len
later_longer p q a at_p at_q in_p in_q less = elim (cases_lt p.len q.len) [
  | inl it ↦ it
  | inr more ↦ elim (cases_lt q.len p.len) [
    | inl shorter ↦
        let few = at_p.short in
        let back : prefix_cmp q p ≡ Less = (λ i. prefix_cmp (holds_is q a at_q in_q i) (holds_is p a at_p in_p i)) ∙ prefixes_rise a q.len p.len shorter few in
        let clash : Less ≡ Greater = sym less ∙ turned q p back in
        absurd (cc clash)
    | inr same ↦
        let lens : p.len ≡ q.len = omega arith in
        let one : p ≡ q = holds_is p a at_p in_p ∙ ap (prefix_at a) lens ∙ sym (holds_is q a at_q in_q) in
        let clash : Less ≡ Equal = sym less ∙ ap (λ r. prefix_cmp r q) one ∙ same_itself q in
        absurd (cc clash)
  ]
]

-- none that holds an address stands behind the prefix of just that
pub none_later : (q : Cidr) (a : ℕ) → IsCidr q → contains q a ≡ true → prefix_cmp (prefix_at a 32) q ≡ Less → ⊥
none_later q a at_q in_q less = elim (cases_lt q.len 32) [
  | inl shorter ↦
      let back : prefix_cmp q (prefix_at a 32) ≡ Less = ap (λ r. prefix_cmp r (prefix_at a 32)) (holds_is q a at_q in_q) ∙ prefixes_rise a q.len 32 shorter (omega arith) in
      let clash : Greater ≡ Less = sym (turned (prefix_at a 32) q less) ∙ back in
      cc clash
  | inr rest ↦
      let few = at_q.short in
      let lens : q.len ≡ 32 = omega arith in
      let one : q ≡ prefix_at a 32 = holds_is q a at_q in_q ∙ ap (prefix_at a) lens in
      let clash : Less ≡ Equal = sym less ∙ ap (prefix_cmp (prefix_at a 32)) one ∙ same_itself (prefix_at a 32) in
      cc clash
]
