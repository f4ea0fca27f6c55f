-- Routes that hold all that is on a way: what each of them says is said of all of it.
use Rattle.std.proofs.Common.{◌≡◌, ℕ, zero, suc, ◌+◌, ◌-◌, ◌*◌, ◌^◌, ◌<◌, ◌≤◌, ◌==◌, ◌||◌, inl, inr, Bool, true, false, not, cond, refl, sym, ap, subst, ◌∙◌, arith, eq-eqb, ne_eqb, zero-add, List, [], ◌∷◌, length}
use Rattle.std.specs.Bool.{beq}
use Rattle.std.specs.List.{AllByRecursion, list_all, list_any}
use Rattle.std.proofs.lemmas.Nat.{pow_pos}
use Rattle.std.proofs.Math.Decide.{ℕ_discrete, dec_lt}
use Rattle.std.proofs.Math.Nat.{pow-suc, suc-add}
use Rattle.rc_base.specs.Addr.{leading_bits}
use Rattle.rc_base.specs.Prefix.{Cidr, IsCidr}
use Rattle.rc_trees.specs.Combine.{constant}
use Rattle.rc_trees.specs.Trees.{Tree}
use Rattle.rc_sets.specs.Marks.{Mark, address_bit, digit, lead, Before, IsPrefix, Rises, IsWhole, decided, held}
use Rattle.rc_sets.proofs.BuildLaws.{AreBelow, network_low, nothing_left}
use Rattle.rc_sets.proofs.GivenLaws.{all_marks}
use Rattle.rc_sets.proofs.LeadLaws.{leading_more, digit_small}
use Rattle.rc_sets.proofs.StepLaws.{IsPart, all_say, and_true, as_many, decided_same}

-- ---- as many rising numbers as a stretch has are all of them

module _ {A : Type 0} (number : A → ℕ) where
  abbrev RiseBy : List A → Type 0
  RiseBy [] = Unit {0}
  RiseBy (x ∷ xs) = AllByRecursion (λ y. number x < number y) xs × RiseBy xs

  abbrev Lies : ℕ → ℕ → A → Type 0
  Lies a b x = (a ≤ number x) × (number x < b)

  -- those behind one lie behind its number
  behind : (a b c d n : ℕ) → c ≤ n + 1 → b ≤ d → (xs : List A) → AllByRecursion (Lies a b) xs → AllByRecursion (λ y. n < number y) xs → AllByRecursion (Lies c d) xs
  behind a b c d n low high [] all more = tt
  behind a b c d n low high (x ∷ xs) all more =
      let (at, below) = all.0 in
      let past = more.0 in
      ((omega arith, omega arith), behind a b c d n low high xs all.1 more.1)

  room : (xs : List A) (a b : ℕ) → a ≤ b → AllByRecursion (Lies a b) xs → RiseBy xs → a + length xs ≤ b
  room [] a b le all rise = omega arith
  room (x ∷ xs) a b le all rise =
      let (low, high) = all.0 in
      let fits = room xs (number x + 1) b (omega arith) (behind a b (number x + 1) b (number x) (omega arith) (omega arith) xs all.1 rise.0) rise.1 in
      omega arith

  found : (xs : List A) (a v : ℕ) → AllByRecursion (Lies a (a + length xs)) xs → RiseBy xs → a ≤ v → v < a + length xs → list_any (λ x. number x == v) xs ≡ true
  found [] a v all rise low high = absurd (omega arith)
  found (x ∷ xs) a v all rise low high =
      let (from, below) = all.0 in
      let b : ℕ = a + suc (length xs) in
      let fits = room xs (number x + 1) b (omega arith) (behind a b (number x + 1) b (number x) (omega arith) (omega arith) xs all.1 rise.0) rise.1 in
      let first : number x ≡ a = omega arith in
      elim (ℕ_discrete (number x) v) [
        | yes e ↦ ap (λ t. t || list_any (λ y. number y == v) xs) (eq-eqb (number x) v e)
        | no ne ↦ ap (λ t. t || list_any (λ y. number y == v) xs) (ne_eqb (number x) v ne)
            ∙ found xs (a + 1) v (behind a b (a + 1) (a + 1 + length xs) (number x) (omega arith) (omega arith) xs all.1 rise.0) rise.1 (omega arith) (omega arith)
      ]

-- ---- where the numbers on a way lie

-- a number that takes on bit by bit, after k bits more
module _ (f : ℕ → ℕ) (bits : ℕ → Bool) (more : (n : ℕ) → n < 32 → f (suc n) ≡ 2 * f n + digit (bits n)) where
  stretch : (d k : ℕ) → k + d ≤ 32 → (f d * 2 ^ k ≤ f (k + d)) × (f (k + d) < f d * 2 ^ k + 2 ^ k)
  stretch d zero le = subst (λ n. (f d * 2 ^ 0 ≤ f n) × (f n < f d * 2 ^ 0 + 2 ^ 0)) (sym (zero-add d)) (omega arith, omega arith)
  stretch d (suc k) le =
      let m : ℕ = k + d in
      let (low, high) = stretch d k (omega arith) in
      let next = more m (omega arith) in
      let small = digit_small (bits m) in
      let s : ℕ = 2 ^ k in
      let size : 2 ^ suc k ≡ s * 2 = pow-suc 2 k in
      let up : (f d * (s * 2) ≤ f (suc m)) × (f (suc m) < f d * (s * 2) + s * 2) = (omega arith, omega arith) in
      subst (λ n. (f d * 2 ^ suc k ≤ f n) × (f n < f d * 2 ^ suc k + 2 ^ suc k)) (sym (suc-add k d)) (subst (λ n. (f d * n ≤ f (suc m)) × (f (suc m) < f d * n + n)) (sym size) up)

-- ---- marks of one length

module _ (len : ℕ) where
  abbrev number : Mark → ℕ
  number m = leading_bits len m.prefix.network

  before_number : (p q : Cidr) → IsCidr p → IsCidr q → p.len ≡ len → q.len ≡ len → Before p q → leading_bits len p.network < leading_bits len q.network
  before_number p q i j ep eq before = elim (dec_lt (leading_bits len p.network) (leading_bits len q.network)) [
    | yes lt ↦ lt
    | no ge ↦
        let k : ℕ = leading_bits len p.network - leading_bits len q.network in
        let s : ℕ = 2 ^ (32 - len) in
        let e : leading_bits len p.network ≡ leading_bits len q.network + k = omega arith in
        let np : p.network ≡ (leading_bits len q.network + k) * s = network_low len p i ep ∙ ap (λ n. n * s) e in
        let nq : q.network ≡ leading_bits len q.network * s = network_low len q j eq in
        let up : q.network ≤ p.network = omega arith in
        absurd (other before up)
  ]
    where
      other : Before p q → q.network ≤ p.network → ⊥
      other (inl lt) up = absurd (omega arith)
      other (inr e) up = let f = e.1 in absurd (omega arith)

  all_before : (m : Mark) (ms : List Mark) → IsPrefix m.prefix → m.prefix.len ≡ len → AllByRecursion (λ (n : Mark). IsPrefix n.prefix) ms → AllByRecursion (λ (n : Mark). n.prefix.len ≡ len) ms
      → AllByRecursion (λ (n : Mark). Before m.prefix n.prefix) ms → AllByRecursion (λ (n : Mark). number m < number n) ms
  all_before m [] i e is alike rise = tt
  all_before m (n ∷ ns) i e is alike rise =
      (before_number m.prefix n.prefix i.canonical (let j : IsPrefix n.prefix = is.0 in j.canonical) e alike.0 rise.0, all_before m ns i e is.1 alike.1 rise.1)

  rise_by : (ms : List Mark) → AllByRecursion (λ (n : Mark). IsPrefix n.prefix) ms → AllByRecursion (λ (n : Mark). n.prefix.len ≡ len) ms → Rises ms → RiseBy number ms
  rise_by [] is alike rise = tt
  rise_by (m ∷ ms) is alike rise = (all_before m ms is.0 alike.0 is.1 alike.1 rise.0, rise_by ms is.1 alike.1 rise.1)

  any_held : (bits : ℕ → Bool) (ms : List Mark) → AllByRecursion (λ (n : Mark). n.prefix.len ≡ len) ms → list_any (λ m. number m == lead bits len) ms ≡ true → list_any (held bits) ms ≡ true
  any_held bits ms alike any = sym (same ms alike) ∙ any
    where
      here : (m : Mark) → m.prefix.len ≡ len → (number m == lead bits len) ≡ held bits m
      here m e = turned (number m) (lead bits len) ∙ ap (λ n. lead bits n == leading_bits n m.prefix.network) (sym e)
        where
          turned : (a b : ℕ) → (a == b) ≡ (b == a)
          turned a b = elim (ℕ_discrete a b) [
            | yes e ↦ eq-eqb a b e ∙ sym (eq-eqb b a (sym e))
            | no ne ↦ ne_eqb a b ne ∙ sym (ne_eqb b a (λ e. ne (sym e)))
          ]

      same : (ns : List Mark) → AllByRecursion (λ (n : Mark). n.prefix.len ≡ len) ns → list_any (λ m. number m == lead bits len) ns ≡ list_any (held bits) ns
      same [] h = refl
      same (n ∷ ns) h = λ i. here n h.0 i || same ns h.1 i

module _ (d : ℕ) (way : ℕ → Bool) (len : ℕ) where
  abbrev Below : Mark → Type 0
  Below m = IsPrefix m.prefix × (d < m.prefix.len) × (leading_bits d m.prefix.network ≡ lead way d)

  prefixes : (ms : List Mark) → AllByRecursion Below ms → AllByRecursion (λ (n : Mark). IsPrefix n.prefix) ms
  prefixes [] all = tt
  prefixes (m ∷ ms) all = (all.0.0, prefixes ms all.1)

  module _ (k : ℕ) (whole : k + d ≡ len) (short : len ≤ 32) where
    abbrev from : ℕ
    from = lead way d * 2 ^ k

    lie : (ms : List Mark) → AllByRecursion Below ms → AllByRecursion (Lies (number len) from (from + 2 ^ k)) ms
    lie [] all = tt
    lie (m ∷ ms) all =
        let (i, lt, e) = all.0 in
        let a : ℕ = m.prefix.network in
        let at : (leading_bits d a * 2 ^ k ≤ leading_bits (k + d) a) × (leading_bits (k + d) a < leading_bits d a * 2 ^ k + 2 ^ k) = stretch (λ n. leading_bits n a) (address_bit a) (leading_more a) d k (omega arith) in
        let here : (lead way d * 2 ^ k ≤ leading_bits len a) × (leading_bits len a < lead way d * 2 ^ k + 2 ^ k) =
        subst (λ w. (w * 2 ^ k ≤ leading_bits len a) × (leading_bits len a < w * 2 ^ k + 2 ^ k)) e
        (subst (λ n. (leading_bits d a * 2 ^ k ≤ leading_bits n a) × (leading_bits n a < leading_bits d a * 2 ^ k + 2 ^ k)) whole at) in
        (here, lie ms all.1)

    at_bits : (bits : ℕ → Bool) → lead bits d ≡ lead way d → (from ≤ lead bits len) × (lead bits len < from + 2 ^ k)
    at_bits bits on =
        let at : (lead bits d * 2 ^ k ≤ lead bits (k + d)) × (lead bits (k + d) < lead bits d * 2 ^ k + 2 ^ k) = stretch (lead bits) bits (λ n lt. refl) d k (omega arith) in
        subst (λ w. (w * 2 ^ k ≤ lead bits len) × (lead bits len < w * 2 ^ k + 2 ^ k)) on
        (subst (λ n. (lead bits d * 2 ^ k ≤ lead bits n) × (lead bits n < lead bits d * 2 ^ k + 2 ^ k)) whole at)

    holds_at : (ms : List Mark) → AreBelow d way ms → AllByRecursion (λ (m : Mark). m.prefix.len ≡ len) ms → length ms ≡ 2 ^ k → (bits : ℕ → Bool) → lead bits d ≡ lead way d → list_any (held bits) ms ≡ true
    holds_at ms o alike many bits on =
        let (low, high) = at_bits bits on in
        any_held len bits ms alike (found (number len) ms from (lead bits len) (subst (λ n. AllByRecursion (Lies (number len) from (from + n)) ms) (sym many) (lie ms o.all)) (rise_by len ms (prefixes ms o.all) alike o.rises)
        low (subst (λ n. lead bits len < from + n) (sym many) high))

  holds : (ms : List Mark) → AreBelow d way ms → AllByRecursion (λ (m : Mark). m.prefix.len ≡ len) ms → length ms ≡ 2 ^ (len - d) → (bits : ℕ → Bool) → lead bits d ≡ lead way d → list_any (held bits) ms ≡ true
  holds [] o alike many bits on = let some = pow_pos (len - d) in absurd (omega arith)
  holds (m ∷ ms) o alike many bits on =
      let (i, lt, e) = o.all.0 in
      let s = i.canonical.short in
      let l = alike.0 in
      holds_at (len - d) (omega arith) (omega arith) (m ∷ ms) o alike many bits on

-- ---- what all of them say

decided_other : (known : Bool) (ms : List Mark) (bits : ℕ → Bool) → list_all (λ (m : Mark). beq m.gives (not known)) ms ≡ true → list_any (held bits) ms ≡ true → decided known ms bits ≡ not known
decided_other known [] bits says any = absurd (cc any)
decided_other known (m ∷ ms) bits says any =
    let (here, later) = and_true (beq m.gives (not known)) (list_all (λ (n : Mark). beq n.gives (not known)) ms) says in
    by (held bits m) m.gives here later (decided_other known ms bits later) any
  where
    by : (b gives : Bool) → beq gives (not known) ≡ true → list_all (λ (n : Mark). beq n.gives (not known)) ms ≡ true → (list_any (held bits) ms ≡ true → decided known ms bits ≡ not known) → (b || list_any (held bits) ms) ≡ true → decided (cond b gives known) ms bits ≡ not known
    by true gives here later others any = ap (λ b. decided b ms bits) (is gives known here) ∙ decided_same (not known) ms bits later
      where
        is : (x y : Bool) → beq x (not y) ≡ true → x ≡ not y
        is true true e = absurd (cc e)
        is true false e = refl
        is false true e = refl
        is false false e = absurd (cc e)
    by false gives here later others any = others any

-- routes that hold all, each of which says otherwise than what was known, decide for all that is on the way
pub whole_part : (d : ℕ) (known : Bool) (rest left : List Cidr) (t : Tree) → IsPart d known rest left t → (length left == cond (not known) (length rest) 0) ≡ true → IsWhole d rest → t ≡ constant (not known)
whole_part d known rest left t p e w = nothing_left d p.way (not known) t (record {
  reduced = p.set.reduced;
  above = p.set.above;
  values = λ bits on.
      let alike : AllByRecursion (λ (m : Mark). m.prefix.len ≡ w.len) p.marked = all_marks (λ q. q.len ≡ w.len) p.marked (subst (AllByRecursion (λ (q : Cidr). q.len ≡ w.len)) p.routes w.alike) in
      let many : length p.marked ≡ 2 ^ (w.len - d) = as_many p ∙ w.many in
      p.set.values bits on ∙ decided_other known p.marked bits (all_say p (not known) e) (holds d p.way w.len p.marked p.below alike many bits on);
})
