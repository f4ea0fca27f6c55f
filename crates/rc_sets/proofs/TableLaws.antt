-- What the marks of a table decide: the last mark that holds a destination is that of its longest prefix.
use Rattle.std.proofs.Common.{◌≡◌, ℕ, zero, suc, ◌+◌, ◌-◌, ◌*◌, ◌^◌, ◌<◌, ◌≤◌, ◌==◌, Bool, true, false, cond, refl, sym, ap, ◌∙◌, arith, List, [], ◌∷◌, map, nat_lt, Option}
use Rattle.std.specs.Prelude.{if◌then◌else◌}
use Rattle.std.specs.List.{AllByRecursion, list_any, filter, fold, reduce}
use Rattle.std.specs.List.Sorted.{IsStrictlySortedBy}
use Rattle.std.specs.Option.{option_map_or}
use Rattle.std.specs.declared.cmp.Ordering.TheVariants.{Less}
use Rattle.std.proofs.lemmas.Bool.Decides.{nat_tests}
use Rattle.std.proofs.lemmas.List.Elements.{recursion_from_All}
use Rattle.rc_base.specs.Addr.{leading_bits}
use Rattle.rc_base.specs.Header.{HasBits, IsHeader, bit, bit_count, last_bit}
use Rattle.rc_base.specs.Prefix.{Cidr, IsCidr, contains, prefix_cmp}
use Rattle.rc_base.specs.declared.field.Field.TheVariants.{Dst}
use Rattle.rc_base.specs.declared.header.Header.{Header}
use Rattle.rc_base.proofs.HeaderLaws.{headers_are_bits}
use Rattle.rc_fib.specs.Entries.{IsFib}
use Rattle.rc_fib.specs.Entry.{Entry}
use Rattle.rc_route.specs.Hops.{same_hop}
use Rattle.rc_route.specs.declared.route.Hop.{Hop}
use Rattle.rc_trees.specs.Recipes.{tree}
use Rattle.rc_trees.specs.Trees.{Tree, IsReduced, value, HasNodesOf}
use Rattle.rc_trees.proofs.FieldLaws.{reads}
use Rattle.rc_trees.proofs.OneTree.{by_bits}
use Rattle.rc_trees.proofs.RecipeLaws.{reduced-tree}
use Rattle.rc_sets.specs.Marks.{Mark, address_bit, mark_of, prefixes_over, digit, lead, inside, Before, IsPrefix, AreMarks, Rises, held, decided, IsHopSet, MayBuild}
use Rattle.rc_sets.specs.Regions.{hop_set}
use Rattle.rc_sets.proofs.GivenLaws.{given_marked, routes_marked}
use Rattle.rc_sets.proofs.LeadLaws.{leading_more, same_lead}
use Rattle.rc_sets.proofs.MarkLaws.{before_is, later_longer}
use Rattle.rc_sets.proofs.RegionLaws.{has-hop_set}
use Rattle.rc_sets.proofs.RegionsReduced.{of_reduced-hop_set}

-- no bit of an address of 32 bits stands before the first
no_bits : (a : ℕ) → a < 2 ^ 32 → 0 ≡ leading_bits 0 a
no_bits a small = omega arith

-- ---- the table's order is that of the marks

rises_all : (x : Hop) (p : Cidr) (es : List Entry) → AllByRecursion (λ q. prefix_cmp p q ≡ Less) (map (λ (e : Entry). e.prefix) es) → AllByRecursion (λ (m : Mark). Before p m.prefix) (map (mark_of x) es)
rises_all x p [] h = tt
rises_all x p (e ∷ es) h = (before_is p e.prefix h.0, rises_all x p es h.1)

pub rises_of : (x : Hop) (es : List Entry) → IsStrictlySortedBy prefix_cmp (map (λ (e : Entry). e.prefix) es) → Rises (map (mark_of x) es)
unfolding IsStrictlySortedBy
rises_of x [] h = tt
rises_of x (e ∷ es) h = (rises_all x e.prefix es h.0, rises_of x es h.1)

pub marks_from : (x : Hop) (es : List Entry) → AllByRecursion (λ (e : Entry). IsCidr e.prefix) es → AreMarks (map (mark_of x) es)
marks_from x [] c = tt
marks_from x (e ∷ es) c = (record { canonical = c.0; small = c.0.below }, marks_from x es c.1)

pub no_way : ℕ → Bool
no_way k = false

on_no_way : (ms : List Mark) → AreMarks ms → AllByRecursion (λ (m : Mark). IsPrefix m.prefix × (0 ≤ m.prefix.len) × (leading_bits 0 m.prefix.network ≡ lead no_way 0)) ms
on_no_way [] i = tt
on_no_way (m ∷ ms) i = ((i.0, omega arith, sym (no_bits m.prefix.network i.0.small)), on_no_way ms i.1)

is_lt : (m n : ℕ) → m < n → nat_lt m n ≡ true
is_lt m n less = grind (arith, nat_tests)

destination_bit : (h : Header) (k : ℕ) → k < 32 → bit h k ≡ address_bit h.dst k
destination_bit h k lt = ap (bit h) (let at : k ≡ last_bit Dst - (31 - k) = omega arith in at) ∙ reads h Dst (31 - k) (omega arith)

-- the first bits of a header are its destination's
first_bits : (h : Header) → IsHeader h → (n : ℕ) → n ≤ 32 → lead (bit h) n ≡ leading_bits n h.dst
first_bits h i zero le = no_bits h.dst (i Dst)
first_bits h i (suc n) le =
    let before = first_bits h i n (omega arith) in
    (λ j. 2 * before j + digit (destination_bit h n (omega arith) j)) ∙ sym (leading_more h.dst n (omega arith))

inside_is : (h : Header) → IsHeader h → (p : Cidr) → p.len ≤ 32 → inside p (bit h) ≡ contains p h.dst
inside_is h i p short = ap (λ n. n == leading_bits p.len p.network) (first_bits h i p.len short)

-- ---- the last prefix that holds the destination is the longest one

module _ (x : Hop) (h : Header) (i : IsHeader h) where
  abbrev over : Entry → Bool
  over e = list_any (same_hop x) e.hops

  abbrev holding : Entry → Bool
  holding e = contains e.prefix h.dst

  abbrev pick : Entry → Entry → Entry
  pick y e = if nat_lt y.prefix.len e.prefix.len then e else y

  abbrev Longer : Entry → List Entry → Type 0
  Longer y es = AllByRecursion (λ (e : Entry). holding e ≡ true → y.prefix.len < e.prefix.len) es

  held_is : (e : Entry) → IsPrefix e.prefix → held (bit h) (mark_of x e) ≡ holding e
  held_is e p = inside_is h i e.prefix p.canonical.short

  longer : (y : Entry) (es : List Entry) → IsPrefix y.prefix → holding y ≡ true → AreMarks (map (mark_of x) es) → AllByRecursion (λ (m : Mark). Before y.prefix m.prefix) (map (mark_of x) es) → Longer y es
  longer y [] p c ms r = tt
  longer y (e ∷ es) p c ms r = (
    (λ d. later_longer y.prefix e.prefix p ms.0 (bit h) (held_is y p ∙ c) (held_is e ms.0 ∙ d) r.0),
    longer y es p c ms.1 r.1,
  )

  abbrev left : List Entry → List Entry
  left es = filter holding es

  abbrev later : Bool → List Entry → Bool
  later known es = decided known (map (mark_of x) es) (bit h)

  picked : (y e : Entry) → y.prefix.len < e.prefix.len → pick y e ≡ e
  picked y e lt = ap (λ b. if b then e else y) (is_lt y.prefix.len e.prefix.len lt)

  some_step : (y e : Entry) (es : List Entry) → (holding e ≡ true → y.prefix.len < e.prefix.len) → later (over y) es ≡ over (fold pick y (left es)) → (holding e ≡ true → later (over e) es ≡ over (fold pick e (left es)))
      → (b : Bool) → holding e ≡ b → later (cond b (over e) (over y)) es ≡ over (fold pick y (cond b (e ∷ left es) (left es)))
  some_step y e es lt skip take_it true c = take_it c ∙ ap (λ z. over (fold pick z (left es))) (sym (picked y e (lt c)))
  some_step y e es lt skip take_it false c = skip

  from_some : (y : Entry) (es : List Entry) → AreMarks (map (mark_of x) es) → Rises (map (mark_of x) es) → Longer y es → later (over y) es ≡ over (fold pick y (left es))
  from_some y [] ms r l = refl
  from_some y (e ∷ es) ms r l =
      ap (λ b. later (cond b (over e) (over y)) es) (held_is e ms.0)
      ∙ some_step y e es l.0 (from_some y es ms.1 r.1 l.1) (λ c. from_some e es ms.1 r.1 (longer e es ms.0 c ms.1 r.0)) (holding e) refl

  abbrev first_over : Option Entry → Bool
  first_over o = list_any (same_hop x) (option_map_or (λ (e : Entry). e.hops) o [])

  none_step : (e : Entry) (es : List Entry) → later false es ≡ first_over (reduce pick (left es)) → (holding e ≡ true → later (over e) es ≡ over (fold pick e (left es)))
      → (b : Bool) → holding e ≡ b → later (cond b (over e) false) es ≡ first_over (reduce pick (cond b (e ∷ left es) (left es)))
  none_step e es skip take_it true c = take_it c
  none_step e es skip take_it false c = skip

  from_none : (es : List Entry) → AreMarks (map (mark_of x) es) → Rises (map (mark_of x) es) → later false es ≡ first_over (reduce pick (left es))
  from_none [] ms r = refl
  from_none (e ∷ es) ms r =
      ap (λ b. later (cond b (over e) false) es) (held_is e ms.0)
      ∙ none_step e es (from_none es ms.1 r.1) (λ c. from_some e es ms.1 r.1 (longer e es ms.0 c ms.1 r.0)) (holding e) refl

-- ---- the set of a hop is what the marks decide

same_decided : (b c : ℕ → Bool) → ((v : ℕ) → v < bit_count → b v ≡ c v) → (known : Bool) (ms : List Mark) → AreMarks ms → decided known ms b ≡ decided known ms c
same_decided b c same known [] ok = refl
same_decided b c same known (m ∷ ms) ok =
    let short = ok.0.canonical.short in
    let here : held b m ≡ held c m = ap (λ n. n == leading_bits m.prefix.len m.prefix.network) (same_lead b c m.prefix.len (λ v less. same v (omega arith))) in
    ap (λ x. decided (cond x m.gives known) ms b) here ∙ same_decided b c same (cond (held c m) m.gives known) ms ok.1

module _ (fib : List Entry) (o : IsFib fib) (x : Hop) where
  abbrev whole : Tree
  whole = tree (hop_set fib x)

  marks : AreMarks (map (mark_of x) fib)
  marks = marks_from x fib (recursion_from_All (λ (f : Entry). IsCidr f.prefix) fib o.canonical)

  rises : Rises (map (mark_of x) fib)
  rises = rises_of x fib o.sorted

  reduced : IsReduced whole
  reduced = reduced-tree (hop_set fib x) (of_reduced-hop_set fib o x)

  on_header : (h : Header) → IsHeader h → value whole (bit h) ≡ decided false (map (mark_of x) fib) (bit h)
  on_header h is = has-hop_set fib o h is x ∙ sym (from_none x h is fib marks rises)

  values : (bits : ℕ → Bool) → value whole bits ≡ decided false (map (mark_of x) fib) bits
  values bits = of_bits (headers_are_bits bits)
    where
      of_bits : HasBits bits → value whole bits ≡ decided false (map (mark_of x) fib) bits
      of_bits has =
          by_bits whole reduced bits (bit has.header) (λ v less. sym (has.same v less))
          ∙ on_header has.header has.fits
          ∙ same_decided (bit has.header) bits has.same false (map (mark_of x) fib) marks

  module _ (rs : List Cidr) (are : rs ≡ map (λ (e : Entry). e.prefix) fib) (gs : List Cidr) (given : gs ≡ prefixes_over x fib) where
    pub set_all : IsHopSet 0 false rs gs whole
    set_all = record {
      marked = map (mark_of x) fib;
      way = no_way;
      are_routes = are ∙ routes_marked x fib;
      are_given = given ∙ given_marked x fib;
      on = record { all = on_no_way (map (mark_of x) fib) marks; rises = rises };
      set = record { reduced = reduced; above = omega arith; values = λ bits on. values bits };
    }

    pub may_all : (may : List Tree) → HasNodesOf may whole → MayBuild may 0 false rs gs
    may_all may allowed = record { tree = whole; set = set_all; allowed = allowed }
