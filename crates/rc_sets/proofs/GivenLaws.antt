-- The prefixes of the routes that give a hop, beside those of all routes.
use Rattle.std.proofs.Common.{◌≡◌, ℕ, zero, suc, ◌<◌, ◌≤◌, ◌==◌, ◌&&◌, Bool, true, false, cond, refl, sym, ap, ◌∙◌, arith, eq-eqb, ne_eqb, List, [], ◌∷◌, ◌++◌, length, map, filter, take, drop}
use Rattle.std.specs.Bool.{beq}
use Rattle.std.specs.List.{AllByRecursion, list_all}
use Rattle.std.proofs.lemmas.List.{map-append}
use Rattle.std.proofs.lemmas.List.Elements.{filter-append}
use Rattle.std.proofs.Math.Decide.{ℕ_discrete}
use Rattle.rc_base.specs.Prefix.{Cidr}
use Rattle.rc_fib.specs.Entry.{Entry}
use Rattle.rc_route.specs.declared.route.Hop.{Hop}
use Rattle.rc_sets.specs.Marks.{Mark, mark_of, marks, prefixes, giving, prefixes_over, Before, Rises, AreOn, begins, known_at, prefixes_below}
use Rattle.rc_sets.specs.Regions.{gives}
use Rattle.rc_sets.proofs.BuildLaws.{IsBelow, Rising, all_longer, own_known, own_rest}

-- ---- the marks of a table

module _ (x : Hop) where
  pub routes_marked : (es : List Entry) → map (λ (e : Entry). e.prefix) es ≡ prefixes (marks x es)
  routes_marked [] = refl
  routes_marked (e ∷ es) = ap (λ ps. e.prefix ∷ ps) (routes_marked es)

  pub given_marked : (es : List Entry) → prefixes_over x es ≡ giving (marks x es)
  given_marked [] = refl
  given_marked (e ∷ es) = by (gives x e) (given_marked es)
    where
      by : (b : Bool) → prefixes_over x es ≡ giving (marks x es)
          → map (λ (f : Entry). f.prefix) (cond b (e ∷ filter (gives x) es) (filter (gives x) es)) ≡ prefixes (cond b (mark_of x e ∷ filter (λ (m : Mark). m.gives) (marks x es)) (filter (λ (m : Mark). m.gives) (marks x es)))
      by true later = ap (λ ps. e.prefix ∷ ps) later
      by false later = later

-- ---- what holds of all marks holds of their prefixes, and of those of the routes that give the hop

-- those of a list with one mark more
abbrev with_mark : Mark → List Mark → Bool → List Cidr
with_mark m ms b = prefixes (cond b (m ∷ filter (λ (n : Mark). n.gives) ms) (filter (λ (n : Mark). n.gives) ms))

module _ (P : Cidr → Type 0) where
  pub all_prefixes : (ms : List Mark) → AllByRecursion (λ (m : Mark). P m.prefix) ms → AllByRecursion P (prefixes ms)
  all_prefixes [] h = tt
  all_prefixes (m ∷ ms) h = (h.0, all_prefixes ms h.1)

  pub all_marks : (ms : List Mark) → AllByRecursion P (prefixes ms) → AllByRecursion (λ (m : Mark). P m.prefix) ms
  all_marks [] h = tt
  all_marks (m ∷ ms) h = (h.0, all_marks ms h.1)

  pub all_given : (ms : List Mark) → AllByRecursion (λ (m : Mark). P m.prefix) ms → AllByRecursion P (giving ms)
  all_given [] h = tt
  all_given (m ∷ ms) h = by m.gives (all_given ms h.1)
    where
      by : (b : Bool) → AllByRecursion P (giving ms) → AllByRecursion P (with_mark m ms b)
      by true later = (h.0, later)
      by false later = later

pub rises_prefixes : (ms : List Mark) → Rises ms → Rising (prefixes ms)
rises_prefixes [] r = tt
rises_prefixes (m ∷ ms) r = (all_prefixes (Before m.prefix) ms r.0, rises_prefixes ms r.1)

pub rises_given : (ms : List Mark) → Rises ms → Rising (giving ms)
rises_given [] r = tt
rises_given (m ∷ ms) r = by m.gives (rises_given ms r.1)
  where
    by : (b : Bool) → Rising (giving ms) → Rising (with_mark m ms b)
    by true later = (all_given (Before m.prefix) ms r.0, later)
    by false later = later

-- ---- the route of the way itself

none_begins : (d : ℕ) (ps : List Cidr) → AllByRecursion (λ (p : Cidr). d < p.len) ps → begins d ps ≡ false
none_begins d [] h = refl
none_begins d (p ∷ ps) h = ne_eqb p.len d (λ e. let less : d < p.len = h.0 in absurd (omega arith))

all_below : (d : ℕ) (ps : List Cidr) → AllByRecursion (λ (p : Cidr). d < p.len) ps → prefixes_below d ps ≡ ps
all_below d [] h = refl
all_below d (p ∷ ps) h = ap (λ b. cond b ps (p ∷ ps)) (ne_eqb p.len d (λ e. let less : d < p.len = h.0 in absurd (omega arith)))

module _ (d : ℕ) where
  pub routes_below : (ms : List Mark) → prefixes_below d (prefixes ms) ≡ prefixes (own_rest d ms)
  routes_below [] = refl
  routes_below (m ∷ ms) = by (m.prefix.len == d)
    where
      by : (b : Bool) → cond b (prefixes ms) (m.prefix ∷ prefixes ms) ≡ prefixes (cond b ms (m ∷ ms))
      by true = refl
      by false = refl

  module _ (m : Mark) (ms : List Mark) (later : AllByRecursion (λ (n : Mark). d < n.prefix.len) ms) where
    longer : AllByRecursion (λ (p : Cidr). d < p.len) (giving ms)
    longer = all_given (λ p. d < p.len) ms later

    begins_is : m.prefix.len ≡ d → (b : Bool) → begins d (with_mark m ms b) ≡ b
    begins_is same true = eq-eqb m.prefix.len d same
    begins_is same false = none_begins d (giving ms) longer

    below_is : m.prefix.len ≡ d → (b : Bool) → prefixes_below d (with_mark m ms b) ≡ giving ms
    below_is same true = ap (λ c. cond c (giving ms) (m.prefix ∷ giving ms)) (eq-eqb m.prefix.len d same)
    below_is same false = all_below d (giving ms) longer

    below_other : d < m.prefix.len → (b : Bool) → prefixes_below d (with_mark m ms b) ≡ with_mark m ms b
    below_other less true = all_below d (m.prefix ∷ giving ms) (less, longer)
    below_other less false = all_below d (giving ms) longer

  module _ (way : ℕ → Bool) where
    later_of : (m : Mark) (ms : List Mark) → AreOn d way (m ∷ ms) → AllByRecursion (λ (n : Mark). d < n.prefix.len) ms
    later_of m ms o =
        let (i, le, same) = o.all.0 in
        lengths ms (all_longer d way m ms le same o.all.1 o.rises.0)
      where
        lengths : (ns : List Mark) → AllByRecursion (λ (n : Mark). IsBelow d way n.prefix) ns → AllByRecursion (λ (n : Mark). d < n.prefix.len) ns
        lengths [] h = tt
        lengths (n ∷ ns) h = (h.0.1, lengths ns h.1)

    pub known_is : (known : Bool) (ms : List Mark) → AreOn d way ms → known_at d known (prefixes ms) (giving ms) ≡ own_known d known ms
    known_is known [] o = refl
    known_is known (m ∷ ms) o = elim (ℕ_discrete m.prefix.len d) [
      | yes same ↦ ap (λ b. cond (m.prefix.len == d) b known) (begins_is m ms (later_of m ms o) same m.gives)
      | no ne ↦ ap (λ b. cond b (begins d (giving (m ∷ ms))) known) (ne_eqb m.prefix.len d ne) ∙ sym (ap (λ b. cond b m.gives known) (ne_eqb m.prefix.len d ne))
    ]

    pub given_below : (ms : List Mark) → AreOn d way ms → prefixes_below d (giving ms) ≡ giving (own_rest d ms)
    given_below [] o = refl
    given_below (m ∷ ms) o =
        let (i, le, same) = o.all.0 in
        elim (ℕ_discrete m.prefix.len d) [
          | yes equal ↦ below_is m ms (later_of m ms o) equal m.gives ∙ ap (λ b. giving (cond b ms (m ∷ ms))) (sym (eq-eqb m.prefix.len d equal))
          | no ne ↦ below_other m ms (later_of m ms o) (omega arith) m.gives ∙ ap (λ b. giving (cond b ms (m ∷ ms))) (sym (ne_eqb m.prefix.len d ne))
        ]

-- ---- how many routes give the hop

pub few : (ms : List Mark) → length (giving ms) ≤ length ms
few [] = omega arith
few (m ∷ ms) = by m.gives (few ms)
  where
    by : (b : Bool) → length (giving ms) ≤ length ms → length (with_mark m ms b) ≤ suc (length ms)
    by true less = omega arith
    by false less = omega arith

pub each_gives : (ms : List Mark) → length (giving ms) ≡ length ms → list_all (λ (m : Mark). beq m.gives true) ms ≡ true
each_gives [] same = refl
each_gives (m ∷ ms) same = by m.gives (each_gives ms) same
  where
    by : (b : Bool) → (length (giving ms) ≡ length ms → list_all (λ (n : Mark). beq n.gives true) ms ≡ true) → length (with_mark m ms b) ≡ suc (length ms) → (beq b true && list_all (λ (n : Mark). beq n.gives true) ms) ≡ true
    by true later as_many = later (omega arith)
    by false later as_many = let less = few ms in absurd (omega arith)

pub none_gives : (ms : List Mark) → length (giving ms) ≡ 0 → list_all (λ (m : Mark). beq m.gives false) ms ≡ true
none_gives [] same = refl
none_gives (m ∷ ms) same = by m.gives (none_gives ms) same
  where
    by : (b : Bool) → (length (giving ms) ≡ 0 → list_all (λ (n : Mark). beq n.gives false) ms ≡ true) → length (with_mark m ms b) ≡ 0 → (beq b false && list_all (λ (n : Mark). beq n.gives false) ms) ≡ true
    by true later as_many = absurd (omega arith)
    by false later as_many = later as_many

-- ---- the routes before a place, and those from it on

pub given-append : (ms ns : List Mark) → giving (ms ++ ns) ≡ giving ms ++ giving ns
given-append ms ns =
    ap prefixes (filter-append (λ (m : Mark). m.gives) ms ns)
    ∙ map-append (λ (m : Mark). m.prefix) (filter (λ (m : Mark). m.gives) ms) (filter (λ (m : Mark). m.gives) ns)

-- a list is parted at one place only
module _ (P Q : Cidr → Type 0) (apart : (p : Cidr) → P p → Q p → ⊥) where
  pub one_place : (n : ℕ) (ps qs : List Cidr) → AllByRecursion P ps → AllByRecursion Q qs → AllByRecursion P (take n (ps ++ qs)) → AllByRecursion Q (drop n (ps ++ qs))
      → (take n (ps ++ qs) ≡ ps) × (drop n (ps ++ qs) ≡ qs)
  one_place zero [] qs front back here there = (refl, refl)
  one_place zero (p ∷ ps) qs front back here there = absurd (apart p front.0 there.0)
  one_place (suc n) [] [] front back here there = (refl, refl)
  one_place (suc n) [] (q ∷ qs) front back here there = absurd (apart q here.0 back.0)
  one_place (suc n) (p ∷ ps) qs front back here there =
      let rest = one_place n ps qs front.1 back here.1 there in
      (ap (λ rs. p ∷ rs) rest.0, rest.1)
