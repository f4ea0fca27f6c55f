-- Marked prefixes in order, and the last of them that holds a header's destination.
use Rattle.std.proofs.Common.{◌≡◌, ℕ, zero, suc, ◌+◌, ◌-◌, ◌*◌, ◌^◌, ◌<◌, ◌≤◌, Bool, true, sym, ap, subst, ◌∙◌, arith, eqb-true, zero-add}
use Rattle.std.specs.declared.cmp.Ordering.TheVariants.{Less}
use Rattle.std.proofs.lemmas.Bool.Decides.{nat_tests}
use Rattle.std.proofs.Math.Nat.{pow-suc, suc-add}
use Rattle.std.proofs.Math.Decide.{dec_lt}
use Rattle.rc_base.specs.Addr.{leading_bits}
use Rattle.rc_base.specs.Prefix.{Cidr, prefix_cmp}
use Rattle.rc_sets.specs.Marks.{digit, lead, inside, Before, IsPrefix}

-- ---- two prefixes that hold the same bits

-- a network is at least that of a shorter front
lead_low : (bits : ℕ → Bool) (k n : ℕ) → n + k ≤ 32 → lead bits k * 2 ^ (32 - k) ≤ lead bits (n + k) * 2 ^ (32 - (n + k))
lead_low bits k zero le = subst (λ m. lead bits k * 2 ^ (32 - k) ≤ lead bits m * 2 ^ (32 - m)) (sym (zero-add k)) (omega arith)
lead_low bits k (suc n) le =
    let m : ℕ = n + k in
    let before = lead_low bits k n (omega arith) in
    let j : ℕ = 31 - m in
    let size : 2 ^ (32 - m) ≡ 2 ^ j * 2 = (let e : 32 - m ≡ suc j = omega arith in ap (λ x. 2 ^ x) e ∙ pow-suc 2 j) in
    let next : 32 - suc m ≡ j = omega arith in
    let up : lead bits m * (2 ^ j * 2) ≤ (2 * lead bits m + digit (bits m)) * 2 ^ j = omega arith in
    let up' : lead bits m * 2 ^ (32 - m) ≤ lead bits (suc m) * 2 ^ (32 - suc m) = subst (λ x. lead bits m * x ≤ lead bits (suc m) * 2 ^ (32 - suc m)) (sym size) (subst (λ x. lead bits m * (2 ^ j * 2) ≤ lead bits (suc m) * 2 ^ x) (sym next) up) in
    let all : lead bits k * 2 ^ (32 - k) ≤ lead bits (suc m) * 2 ^ (32 - suc m) = omega arith in
    subst (λ x. lead bits k * 2 ^ (32 - k) ≤ lead bits x * 2 ^ (32 - x)) (sym (suc-add n k)) all

-- the network of a prefix that holds the bits
network_is : (p : Cidr) → IsPrefix p → (bits : ℕ → Bool) → inside p bits ≡ true → p.network ≡ lead bits p.len * 2 ^ (32 - p.len)
network_is p i bits e =
    let same : lead bits p.len ≡ leading_bits p.len p.network = eqb-true _ _ e in
    i.canonical.no_host_bits ∙ ap (λ n. n * 2 ^ (32 - p.len)) (sym same)

pub later_longer : (p q : Cidr) → IsPrefix p → IsPrefix q → (bits : ℕ → Bool) → inside p bits ≡ true → inside q bits ≡ true → Before p q → p.len < q.len
later_longer p q i j bits ep eq before = elim (dec_lt p.len q.len) [
  | yes lt ↦ lt
  | no ge ↦
      let k : ℕ = p.len - q.len in
      let whole : k + q.len ≡ p.len = omega arith in
      let short = i.canonical.short in
      let low = lead_low bits q.len k (omega arith) in
      let low' : lead bits q.len * 2 ^ (32 - q.len) ≤ lead bits p.len * 2 ^ (32 - p.len) = subst (λ x. lead bits q.len * 2 ^ (32 - q.len) ≤ lead bits x * 2 ^ (32 - x)) whole low in
      let np = network_is p i bits ep in let nq = network_is q j bits eq in
      absurd (omega arith)
]

-- ---- the order of a table

pub before_is : (p q : Cidr) → prefix_cmp p q ≡ Less → Before p q
before_is p q e = grind (arith, nat_tests)
