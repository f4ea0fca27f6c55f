-- One step of the look-up of marked prefixes bit by bit.
use Rattle.std.proofs.Common.{◌≡◌, ◌≢◌, ℕ, zero, suc, ◌+◌, ◌-◌, ◌*◌, ◌^◌, ◌<◌, ◌≤◌, ◌==◌, inl, inr, Bool, true, false, not, cond, refl, sym, ap, subst, ◌∙◌, arith, eq-eqb, ne_eqb, nat_lt, List, [], ◌∷◌, length, take, drop, get_or}
use Rattle.std.specs.List.{AllByRecursion, AllWithin}
use Rattle.std.specs.List.Sorted.{IsPartitionedBy}
use Rattle.std.proofs.lemmas.Bool.Decides.{nat_tests}
use Rattle.std.proofs.Math.Decide.{ℕ_discrete}
use Rattle.std.proofs.Math.Nat.{div-mul-le_self}
use Rattle.std.proofs.Math.Pow.{shr_mono}
use Rattle.rc_base.specs.Addr.{leading_bits}
use Rattle.rc_base.specs.Prefix.{Cidr, IsCidr}
use Rattle.rc_trees.specs.Trees.{Tree, never, always, node, top, IsReduced}
use Rattle.rc_trees.specs.Trees.{value}
use Rattle.rc_trees.specs.Combine.{constant}
use Rattle.rc_trees.specs.Trees.{low_side, high_side}
use Rattle.rc_trees.proofs.OneTree.{one_tree}
use Rattle.rc_trees.proofs.SideLaws.{low_reduced, high_reduced, low_top, high_top, low_value, high_value}
use Rattle.rc_sets.specs.Marks.{address_bit}
use Rattle.rc_sets.specs.Marks.{Mark, digit, lead, Before, IsPrefix, Rises, held, decided, AreOn, IsSetOf}
use Rattle.rc_sets.proofs.LeadLaws.{with_bit, at_bit, off_bit, leading_more, lead_front, last_bit, digit_small, same_digit}

-- ---- what all marks of a list have

all_take : {A : Type 0} (P : A → Type 0) (n : ℕ) (xs : List A) → AllByRecursion P xs → AllByRecursion P (take n xs)
all_take P zero xs h = tt
all_take P (suc n) [] h = tt
all_take P (suc n) (x ∷ xs) h = (h.0, all_take P n xs h.1)

all_drop : {A : Type 0} (P : A → Type 0) (n : ℕ) (xs : List A) → AllByRecursion P xs → AllByRecursion P (drop n xs)
all_drop P zero xs h = h
all_drop P (suc n) [] h = tt
all_drop P (suc n) (x ∷ xs) h = all_drop P n xs h.1

all_same : {A : Type 0} (P Q R : A → Type 0) → ((x : A) → P x → Q x → R x) → (xs : List A) → AllByRecursion P xs → AllByRecursion Q xs → AllByRecursion R xs
all_same P Q R f [] p q = tt
all_same P Q R f (x ∷ xs) p q = (f x p.0 q.0, all_same P Q R f xs p.1 q.1)

all_weaker : {A : Type 0} (P R : A → Type 0) → ((x : A) → P x → R x) → (xs : List A) → AllByRecursion P xs → AllByRecursion R xs
all_weaker P R f [] p = tt
all_weaker P R f (x ∷ xs) p = (f x p.0, all_weaker P R f xs p.1)

rises_take : (n : ℕ) (ms : List Mark) → Rises ms → Rises (take n ms)
rises_take zero ms r = tt
rises_take (suc n) [] r = tt
rises_take (suc n) (m ∷ ms) r = (all_take (λ (x : Mark). Before m.prefix x.prefix) n ms r.0, rises_take n ms r.1)

rises_drop : (n : ℕ) (ms : List Mark) → Rises ms → Rises (drop n ms)
rises_drop zero ms r = r
rises_drop (suc n) [] r = tt
rises_drop (suc n) (m ∷ ms) r = rises_drop n ms r.1

pub front_all : {A : Type 0} (P : A → Type 0) (n : ℕ) (xs : List A) → n ≤ length xs → AllWithin P xs 0 n → AllByRecursion P (take n xs)
front_all P zero xs le h = tt
front_all P (suc n) [] le h = tt
front_all P (suc n) (x ∷ xs) le h = (h 0 x (omega arith) (omega arith), front_all P n xs (omega arith) (λ k d low lt. h (suc k) d (omega arith) (omega arith)))

pub behind_all : {A : Type 0} (P : A → Type 0) (n : ℕ) (xs : List A) → AllWithin P xs n (length xs) → AllByRecursion P (drop n xs)
behind_all P zero [] h = tt
behind_all P zero (x ∷ xs) h = (h 0 x (omega arith) (omega arith), behind_all P zero xs (λ k d low lt. h (suc k) d (omega arith) (omega arith)))
behind_all P (suc n) [] h = tt
behind_all P (suc n) (x ∷ xs) h = behind_all P n xs (λ k d low lt. h (suc k) d (omega arith) (omega arith))

-- ---- values

decided_split : (n : ℕ) (known : Bool) (ms : List Mark) (bits : ℕ → Bool) → decided known ms bits ≡ decided (decided known (take n ms) bits) (drop n ms) bits
decided_split zero known ms bits = refl
decided_split (suc n) known [] bits = refl
decided_split (suc n) known (m ∷ ms) bits = decided_split n (cond (held bits m) m.gives known) ms bits

decided_skip : (known : Bool) (ms : List Mark) (bits : ℕ → Bool) → AllByRecursion (λ (m : Mark). held bits m ≡ false) ms → decided known ms bits ≡ known
decided_skip known [] bits h = refl
decided_skip known (m ∷ ms) bits h = ap (λ b. decided (cond b m.gives known) ms bits) h.0 ∙ decided_skip known ms bits h.1

-- a tree reads no bit before its top
value_from : (t : Tree) → IsReduced t → (b c : ℕ → Bool) → ((k : ℕ) → top t ≤ k → b k ≡ c k) → value t b ≡ value t c
value_from never r b c f = refl
value_from always r b c f = refl
value_from (node v l h) r b c f =
    let low = value_from l r.3 b c (λ k le. f k (let d = r.0 in omega arith)) in
    let high = value_from h r.4 b c (λ k le. f k (let d = r.1 in omega arith)) in
    let here = f v (omega arith) in
    λ i. cond (here i) (high i) (low i)

lead_same : (b c : ℕ → Bool) (d : ℕ) → ((k : ℕ) → k < d → b k ≡ c k) → lead b d ≡ lead c d
lead_same b c zero f = refl
lead_same b c (suc d) f =
    let before = lead_same b c d (λ k lt. f k (omega arith)) in
    let here = f d (omega arith) in
    λ i. 2 * before i + digit (here i)

is_lt : (m n : ℕ) → m < n → nat_lt m n ≡ true
is_lt m n less = grind (arith, nat_tests)

not_lt : (m n : ℕ) → n ≤ m → nat_lt m n ≡ false
not_lt m n le = grind (arith, nat_tests)

abbrev mixed : (ℕ → Bool) → ℕ → (ℕ → Bool) → ℕ → Bool
mixed way d bits k = cond (nat_lt k d) (way k) (bits k)

constant_value : (b : Bool) (bits : ℕ → Bool) → value (constant b) bits ≡ b
constant_value true bits = refl
constant_value false bits = refl

constant_reduced : (b : Bool) → IsReduced (constant b)
constant_reduced true = tt
constant_reduced false = tt

-- where no mark is left the tree is a constant
pub nothing_left : (d : ℕ) (way : ℕ → Bool) (known : Bool) (t : Tree) → IsSetOf d way known [] t → t ≡ constant known
nothing_left d way known t s = one_tree t (constant known) s.reduced (constant_reduced known) (λ bits.
    let m = mixed way d bits in
    let same : lead m d ≡ lead way d = lead_same m way d (λ k lt. ap (λ b. cond b (way k) (bits k)) (is_lt k d lt)) in
    let later : value t m ≡ value t bits = value_from t s.reduced m bits (λ k le. let up = s.above in ap (λ b. cond b (way k) (bits k)) (not_lt k d (omega arith))) in
    sym later ∙ s.values m same ∙ sym (constant_value known bits))

-- ---- the mark of the way itself

-- it decides for all that is on the way
abbrev pub own_known : ℕ → Bool → List Mark → Bool
own_known depth known [] = known
own_known depth known (m ∷ ms) = cond (m.prefix.len == depth) m.gives known

-- and the others are longer
abbrev pub own_rest : ℕ → List Mark → List Mark
own_rest depth [] = []
own_rest depth (m ∷ ms) = cond (m.prefix.len == depth) ms (m ∷ ms)

pub network_low : (d : ℕ) (p : Cidr) → IsCidr p → p.len ≡ d → p.network ≡ leading_bits d p.network * 2 ^ (32 - d)
network_low d p i e = subst (λ n. p.network ≡ leading_bits n p.network * 2 ^ (32 - n)) e i.no_host_bits

network_least : (d : ℕ) (n : ℕ) → leading_bits d n * 2 ^ (32 - d) ≤ n
network_least d n = div-mul-le_self n (2 ^ (32 - d))

-- a prefix behind one of at least so many bits, which begins with the same ones, is longer
longer : (d : ℕ) (p q : Cidr) → IsCidr q → d ≤ p.len → d ≤ q.len → leading_bits d p.network ≡ leading_bits d q.network → Before p q → d < q.len
longer d p q i lp lq same before = elim (ℕ_discrete q.len d) [
  | no ne ↦ omega arith
  | yes e ↦
      let low = network_low d q i e in
      let least = network_least d p.network in
      let at : leading_bits d p.network * 2 ^ (32 - d) ≡ q.network = ap (λ n. n * 2 ^ (32 - d)) same ∙ sym low in
      absurd (omega arith)
]

-- marks that are all longer than the way
pub record AreBelow (d : ℕ) (way : ℕ → Bool) (ms : List Mark) : Type 0 where
  pub all : AllByRecursion (λ (m : Mark). IsPrefix m.prefix × (d < m.prefix.len) × (leading_bits d m.prefix.network ≡ lead way d)) ms
  pub rises : Rises ms

pub all_longer : (d : ℕ) (way : ℕ → Bool) (m : Mark) (ms : List Mark) → d ≤ m.prefix.len → leading_bits d m.prefix.network ≡ lead way d
    → AllByRecursion (λ (n : Mark). IsPrefix n.prefix × (d ≤ n.prefix.len) × (leading_bits d n.prefix.network ≡ lead way d)) ms → AllByRecursion (λ (n : Mark). Before m.prefix n.prefix) ms
    → AllByRecursion (λ (n : Mark). IsPrefix n.prefix × (d < n.prefix.len) × (leading_bits d n.prefix.network ≡ lead way d)) ms
all_longer d way m ms lm em all r =
    all_same (λ (n : Mark). IsPrefix n.prefix × (d ≤ n.prefix.len) × (leading_bits d n.prefix.network ≡ lead way d)) (λ (n : Mark). Before m.prefix n.prefix)
    (λ (n : Mark). IsPrefix n.prefix × (d < n.prefix.len) × (leading_bits d n.prefix.network ≡ lead way d))
    (λ n a b. (a.0, longer d m.prefix n.prefix a.0.canonical lm a.1 (em ∙ sym a.2) b, a.2)) ms all r

pub rest_below : (d : ℕ) (way : ℕ → Bool) (ms : List Mark) → AreOn d way ms → AreBelow d way (own_rest d ms)
rest_below d way [] o = record { all = tt; rises = tt }
rest_below d way (m ∷ ms) o =
    let (i, le, e) = o.all.0 in
    let later = all_longer d way m ms le e o.all.1 o.rises.0 in
    elim (ℕ_discrete m.prefix.len d) [
      | yes same ↦ subst (λ b. AreBelow d way (cond b ms (m ∷ ms))) (sym (eq-eqb m.prefix.len d same)) (let below : AreBelow d way ms = record { all = later; rises = o.rises.1 } in below)
      | no ne ↦ subst (λ b. AreBelow d way (cond b ms (m ∷ ms))) (sym (ne_eqb m.prefix.len d ne))
          (let lt : d < m.prefix.len = omega arith in let below : AreBelow d way (m ∷ ms) = record { all = ((i, lt, e), later); rises = o.rises } in below)
    ]

pub rest_set : (d : ℕ) (way : ℕ → Bool) (known : Bool) (ms : List Mark) (t : Tree) → AreOn d way ms → IsSetOf d way known ms t → IsSetOf d way (own_known d known ms) (own_rest d ms) t
rest_set d way known [] t o s = s
rest_set d way known (m ∷ ms) t o s =
    let (i, le, e) = o.all.0 in
    elim (ℕ_discrete m.prefix.len d) [
      | yes same ↦ subst (λ b. IsSetOf d way (cond b m.gives known) (cond b ms (m ∷ ms)) t) (sym (eq-eqb m.prefix.len d same))
          (let now : IsSetOf d way m.gives ms t = record {
            reduced = s.reduced;
            above = s.above;
            values = λ bits on.
                let here : held bits m ≡ true = eq-eqb _ _ (ap (lead bits) same ∙ on ∙ sym e ∙ ap (λ n. leading_bits n m.prefix.network) (sym same)) in
                s.values bits on ∙ ap (λ b. decided (cond b m.gives known) ms bits) here;
          } in now)
      | no ne ↦ subst (λ b. IsSetOf d way (cond b m.gives known) (cond b ms (m ∷ ms)) t) (sym (ne_eqb m.prefix.len d ne)) s
    ]

-- ---- the sides

module _ (d : ℕ) (way : ℕ → Bool) (ms : List Mark) (o : AreBelow d way ms) (some : ms ≢ []) where
  pub short : d < 32
  short = go ms refl
    where
      go : (xs : List Mark) → ms ≡ xs → d < 32
      go [] e = absurd (some e)
      go (x ∷ xs) e =
          let all = subst (AllByRecursion (λ (m : Mark). IsPrefix m.prefix × (d < m.prefix.len) × (leading_bits d m.prefix.network ≡ lead way d))) e o.all in
          let (i, lt, f) = all.0 in let s = i.canonical.short in omega arith

-- a mark with another bit doesn't hold the bits
not_held : (d : ℕ) (way bits : ℕ → Bool) (m : Mark) → IsPrefix m.prefix → d < m.prefix.len → bits d ≢ address_bit m.prefix.network d → held bits m ≡ false
not_held d way bits m i lt ne = ne_eqb _ _ (λ e.
    let k : ℕ = m.prefix.len - suc d in
    let whole : k + suc d ≡ m.prefix.len = omega arith in
    let s = i.canonical.short in
    let f : lead bits (suc d) ≡ leading_bits (suc d) m.prefix.network = lead_front bits m.prefix.network (suc d) k (omega arith) (subst (λ n. lead bits n ≡ leading_bits n m.prefix.network) (sym whole) e) in
    ne (last_bit bits m.prefix.network d (omega arith) f))

lead_with : (way : ℕ → Bool) (d : ℕ) (x : Bool) → lead (with_bit way d x) d ≡ lead way d
lead_with way d x = lead_same (with_bit way d x) way d (λ k lt. off_bit way d x k (omega arith))

lead_next : (way : ℕ → Bool) (d : ℕ) (x : Bool) → lead (with_bit way d x) (suc d) ≡ 2 * lead way d + digit x
lead_next way d x = λ i. 2 * lead_with way d x i + digit (at_bit way d x i)

-- bits on a side are on the way, and have that bit
on_way : (way bits : ℕ → Bool) (d : ℕ) (x : Bool) → lead bits (suc d) ≡ lead (with_bit way d x) (suc d) → (lead bits d ≡ lead way d) × (bits d ≡ x)
on_way way bits d x e =
    let f : 2 * lead bits d + digit (bits d) ≡ 2 * lead way d + digit x = e ∙ lead_next way d x in
    let p = digit_small (bits d) in let q = digit_small x in
    (omega arith, same_digit (bits d) x (omega arith))

module _ (d : ℕ) (way : ℕ → Bool) (known : Bool) (ms : List Mark) (t : Tree) (o : AreBelow d way ms) (s : IsSetOf d way known ms t) (short : d < 32) (n : ℕ)
    (zeros : AllByRecursion (λ (m : Mark). address_bit m.prefix.network d ≡ false) (take n ms)) (ones : AllByRecursion (λ (m : Mark). address_bit m.prefix.network d ≡ true) (drop n ms)) where
  abbrev Below : Mark → Type 0
  Below m = IsPrefix m.prefix × (d < m.prefix.len) × (leading_bits d m.prefix.network ≡ lead way d)

  on_side : (x : Bool) (m : Mark) → Below m → address_bit m.prefix.network d ≡ x → IsPrefix m.prefix × (suc d ≤ m.prefix.len) × (leading_bits (suc d) m.prefix.network ≡ lead (with_bit way d x) (suc d))
  on_side x m (i, lt, e) b = (i, lt, leading_more m.prefix.network d short ∙ (λ j. 2 * e j + digit (b j)) ∙ sym (lead_next way d x))

  pub low_on : AreOn (suc d) (with_bit way d false) (take n ms)
  low_on = record {
    all = all_same Below (λ (m : Mark). address_bit m.prefix.network d ≡ false) (λ (m : Mark). IsPrefix m.prefix × (suc d ≤ m.prefix.len) × (leading_bits (suc d) m.prefix.network ≡ lead (with_bit way d false) (suc d)))
        (on_side false) (take n ms) (all_take Below n ms o.all) zeros;
    rises = rises_take n ms o.rises;
  }

  pub high_on : AreOn (suc d) (with_bit way d true) (drop n ms)
  high_on = record {
    all = all_same Below (λ (m : Mark). address_bit m.prefix.network d ≡ true) (λ (m : Mark). IsPrefix m.prefix × (suc d ≤ m.prefix.len) × (leading_bits (suc d) m.prefix.network ≡ lead (with_bit way d true) (suc d)))
        (on_side true) (drop n ms) (all_drop Below n ms o.all) ones;
    rises = rises_drop n ms o.rises;
  }

  pub low_set : IsSetOf (suc d) (with_bit way d false) known (take n ms) (low_side d t)
  low_set = record {
    reduced = low_reduced d t s.reduced;
    above = low_top d t s.reduced (omega arith) s.above;
    values = λ bits on.
        let (front, bit) = on_way way bits d false on in
        let others = all_same Below (λ (m : Mark). address_bit m.prefix.network d ≡ true) (λ (m : Mark). held bits m ≡ false)
        (λ m b one. not_held d way bits m b.0 b.1 (λ e. let c : false ≡ true = sym bit ∙ e ∙ one in absurd (cc c))) (drop n ms) (all_drop Below n ms o.all) ones in
        low_value d t bits bit ∙ s.values bits front ∙ decided_split n known ms bits ∙ decided_skip (decided known (take n ms) bits) (drop n ms) bits others;
  }

  pub high_set : IsSetOf (suc d) (with_bit way d true) known (drop n ms) (high_side d t)
  high_set = record {
    reduced = high_reduced d t s.reduced;
    above = high_top d t s.reduced (omega arith) s.above;
    values = λ bits on.
        let (front, bit) = on_way way bits d true on in
        let others = all_same Below (λ (m : Mark). address_bit m.prefix.network d ≡ false) (λ (m : Mark). held bits m ≡ false)
        (λ m b zero_bit. not_held d way bits m b.0 b.1 (λ e. let c : true ≡ false = sym bit ∙ e ∙ zero_bit in absurd (cc c))) (take n ms) (all_take Below n ms o.all) zeros in
        high_value d t bits bit ∙ s.values bits front ∙ decided_split n known ms bits ∙ ap (λ k. decided k (drop n ms) bits) (decided_skip known (take n ms) bits others);
  }

-- ---- where the bit turns

bit_falls : (d a b : ℕ) → d < 32 → a ≤ b → leading_bits d a ≡ leading_bits d b → not (address_bit b d) ≡ true → not (address_bit a d) ≡ true
bit_falls d a b lt le same e = go (address_bit a d) (address_bit b d) refl refl
  where
    up : leading_bits (suc d) a ≤ leading_bits (suc d) b
    up = shr_mono (32 - suc d) le

    go : (x y : Bool) → address_bit a d ≡ x → address_bit b d ≡ y → not (address_bit a d) ≡ true
    go false y ex ey = ap not ex
    go true true ex ey = absurd (let c : false ≡ true = sym (ap not ey) ∙ e in cc c)
    go true false ex ey =
        let p : leading_bits (suc d) a ≡ 2 * leading_bits d a + 1 = leading_more a d lt ∙ ap (λ z. 2 * leading_bits d a + digit z) ex in
        let q : leading_bits (suc d) b ≡ 2 * leading_bits d b + 0 = leading_more b d lt ∙ ap (λ z. 2 * leading_bits d b + digit z) ey in
        let r = up in
        absurd (omega arith)

at_place : {A : Type 0} (P : A → Type 0) (xs : List A) (j : ℕ) (d : A) → j < length xs → AllByRecursion P xs → P (get_or xs j d)
at_place P [] j d lt h = absurd (omega arith)
at_place P (x ∷ xs) zero d lt h = h.0
at_place P (x ∷ xs) (suc j) d lt h = at_place P xs j d (omega arith) h.1

before_le : (p q : Cidr) → Before p q → p.network ≤ q.network
before_le p q (inl lt) = omega arith
before_le p q (inr e) = let f = e.0 in omega arith

-- each prefix stands before those after it
abbrev pub Rising : List Cidr → Type 0
Rising [] = Unit {0}
Rising (p ∷ ps) = AllByRecursion (Before p) ps × Rising ps

abbrev pub IsBelow : ℕ → (ℕ → Bool) → Cidr → Type 0
IsBelow d way p = IsPrefix p × (d < p.len) × (leading_bits d p.network ≡ lead way d)

module _ (d : ℕ) (way : ℕ → Bool) (short : d < 32) where
  pub parted : (ps : List Cidr) → AllByRecursion (IsBelow d way) ps → Rising ps → IsPartitionedBy (λ (p : Cidr). not (address_bit p.network d)) ps
  parted [] all rises i j p le within e = absurd (omega arith)
  parted (q ∷ qs) all rises zero zero p le within e = e
  parted (q ∷ qs) all rises zero (suc j) p le within e =
      let b = at_place (Before q) qs j p (omega arith) rises.0 in
      let g = at_place (IsBelow d way) qs j p (omega arith) all.1 in
      let h = all.0 in
      bit_falls d q.network (get_or qs j p).network short (before_le q (get_or qs j p) b) (h.2 ∙ sym g.2) e
  parted (q ∷ qs) all rises (suc i) zero p le within e = absurd (omega arith)
  parted (q ∷ qs) all rises (suc i) (suc j) p le within e = parted qs all.1 rises.1 i j p (omega arith) (omega arith) e

pub is_zero_bit : (b : Bool) → not b ≡ true → b ≡ false
is_zero_bit true e = absurd (cc e)
is_zero_bit false e = refl

pub is_one_bit : (b : Bool) → not b ≡ false → b ≡ true
is_one_bit true e = refl
is_one_bit false e = absurd (cc e)
