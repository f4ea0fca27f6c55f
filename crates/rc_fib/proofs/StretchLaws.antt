-- What stands in a table that is told by prefixes and stretches.
use Rattle.std.proofs.Common.{refl, ◌≡◌, ap, sym, ◌∙◌, subst, ℕ, zero, suc, ◌+◌, ◌-◌, ◌<◌, ◌≤◌, nat_le, nat_lt, leb-true, le-leb, slice_get, Bool, true, false, cond, arith, List, [], ◌∷◌, ◌++◌, append-nil, append_assoc, length, map, take, drop, get_or, find, Some, None}
use Rattle.std.specs.List.{AllByRecursion}
use Rattle.std.specs.Option.{option_map_or}
use Rattle.std.proofs.lemmas.List.{map-append, map-id, take-append-drop, take_all, drop_all, length-map, length-append, get_or_append_left, get_or-append_right}
use Rattle.std.proofs.lemmas.List.Elements.{All-map, All-nil}
use Rattle.std.proofs.lemmas.Bool.Decides.{nat_tests}
use Rattle.std.proofs.lemmas.Option.{slice_get-get_or, slice_get_within}
use Rattle.std.specs.List.Sorted.{IsPartitionedBy, IsPartitionPoint, IsStrictlySortedBy}
use Rattle.rc_base.specs.Prefix.{Cidr, IsCidr, prefix_cmp}
use Rattle.rc_route.specs.declared.route.Hop.{Hop}
use Rattle.rc_fib.specs.Entry.{Entry}
use Rattle.rc_fib.specs.Entries.{HasCidr, IsFib}
use Rattle.rc_fib.specs.Forwarding.{resolved_hops, resolved_prefix}
use Rattle.rc_fib.specs.Stretches.{AreStretches, Cover, Rise, entry_with, hops_at, spread}
use Rattle.rc_fib.specs.declared.stretch.Stretch.{Stretch}
use Rattle.rc_trie.specs.Tree.{AreInOrder, IsLongestAt, longest_by}
use Rattle.rc_trie.proofs.ScanLaws.{longest_among_made, longest_map, none_among_made}

abbrev prefix : Entry → Cidr
prefix e = e.prefix

-- ---- the front and the back of a list

take-long : {A : Type 0} (n : ℕ) (xs ys : List A) → n ≤ length xs → take n (xs ++ ys) ≡ take n xs
take-long zero xs ys le = refl
take-long (suc n) [] ys le = absurd (omega arith)
take-long (suc n) (x ∷ xs) ys le = ap (λ zs. x ∷ zs) (take-long n xs ys (omega arith))

drop-long : {A : Type 0} (n : ℕ) (xs ys : List A) → n ≤ length xs → drop n (xs ++ ys) ≡ drop n xs ++ ys
drop-long zero xs ys le = refl
drop-long (suc n) [] ys le = absurd (omega arith)
drop-long (suc n) (x ∷ xs) ys le = drop-long n xs ys (omega arith)

length-taken : {A : Type 0} (n : ℕ) (xs : List A) → n ≤ length xs → length (take n xs) ≡ n
length-taken zero xs le = refl
length-taken (suc n) [] le = absurd (omega arith)
length-taken (suc n) (x ∷ xs) le = ap suc (length-taken n xs (omega arith))

length-dropped : {A : Type 0} (n : ℕ) (xs : List A) → n ≤ length xs → length (drop n xs) + n ≡ length xs
length-dropped zero xs le = omega arith
length-dropped (suc n) [] le = absurd (omega arith)
length-dropped (suc n) (x ∷ xs) le = let rest = length-dropped n xs (omega arith) in omega arith

-- ---- the prefixes of the entries

with-prefix : (hops : List Hop) (ps : List Cidr) → map prefix (map (entry_with hops) ps) ≡ ps
with-prefix hops [] = refl
with-prefix hops (p ∷ ps) = ap (λ qs. p ∷ qs) (with-prefix hops ps)

pub prefixes_are : (from : ℕ) (ps : List Cidr) (ss : List Stretch) → Cover from ps ss → map prefix (spread from ps ss) ≡ ps
prefixes_are from ps [] covers = sym covers
prefixes_are from ps (s ∷ ss) covers =
    let n = s.end - from in
    map-append prefix (map (entry_with s.hops) (take n ps)) (spread s.end (drop n ps) ss)
    ∙ (λ i. with-prefix s.hops (take n ps) i ++ prefixes_are s.end (drop n ps) ss covers.2 i)
    ∙ take-append-drop n ps

pub as_many : (ps : List Cidr) (ss : List Stretch) → Cover 0 ps ss → length ps ≡ length (spread 0 ps ss)
as_many ps ss covers = sym (ap length (prefixes_are 0 ps ss covers)) ∙ length-map (spread 0 ps ss) prefix

-- ---- the stretches of the entries

all_with : (hops : List Hop) (ps : List Cidr) → AllByRecursion (λ (e : Entry). e.hops ≡ hops) (map (entry_with hops) ps)
all_with hops [] = tt
all_with hops (p ∷ ps) = (refl, all_with hops ps)

pub stretches_are : (from : ℕ) (ps : List Cidr) (ss : List Stretch) → Cover from ps ss → AreStretches from ss (spread from ps ss)
stretches_are from ps [] covers = refl
stretches_are from ps (s ∷ ss) covers =
    let n : ℕ = s.end - from in
    let front : List Entry = map (entry_with s.hops) (take n ps) in
    let back : List Entry = spread s.end (drop n ps) ss in
    let long : length front ≡ n = length-map (take n ps) (entry_with s.hops) ∙ length-taken n ps covers.1 in
    let all : length (front ++ back) ≡ length front + length back = length-append front back in
    let taken : take n (front ++ back) ≡ front = take-long n front back (omega arith) ∙ take_all n front (omega arith) in
    let dropped : drop n (front ++ back) ≡ back = drop-long n front back (omega arith) ∙ ap (λ es. es ++ back) (drop_all n front (omega arith)) in (
      covers.0,
      omega arith,
      subst (AllByRecursion (λ (e : Entry). e.hops ≡ s.hops)) (sym taken) (all_with s.hops (take n ps)),
      subst (AreStretches s.end ss) (sym dropped) (stretches_are s.end (drop n ps) ss covers.2),
    )

pub rising : (from : ℕ) (ps : List Cidr) (ss : List Stretch) → Cover from ps ss → Rise from ss
rising from ps [] covers = tt
rising from ps (s ∷ ss) covers = (covers.0, rising s.end (drop (s.end - from) ps) ss covers.2)

-- ---- one stretch more behind the others

module _ (qs : List Cidr) (some : 0 < length qs) (last : Stretch) where
  pub run_more : (from : ℕ) (ps : List Cidr) (ss : List Stretch) → Cover from ps ss → last.end ≡ from + length (ps ++ qs) →
      spread from (ps ++ qs) (ss ++ last ∷ []) ≡ spread from ps ss ++ map (entry_with last.hops) qs
  run_more from ps [] covers ends =
      let n : ℕ = last.end - from in
      let all : ps ++ qs ≡ qs = ap (λ rs. rs ++ qs) covers in
      let long : n ≡ length qs = (let same = ap length all in omega arith) in
      ap (λ rs. map (entry_with last.hops) (take n rs) ++ []) all ∙ append-nil (map (entry_with last.hops) (take n qs))
      ∙ ap (map (entry_with last.hops)) (take_all n qs (omega arith))
  run_more from ps (s ∷ ss) covers ends =
      let n : ℕ = s.end - from in
      let front : List Entry = map (entry_with s.hops) (take n ps) in
      let less = covers.0 in
      let fits = covers.1 in
      let counted = length-dropped n ps fits in
      let long = length-append ps qs in
      let later = length-append (drop n ps) qs in
      let ends_there : last.end ≡ s.end + length (drop n ps ++ qs) = omega arith in
      ap (λ rs. map (entry_with s.hops) rs ++ spread s.end (drop n (ps ++ qs)) (ss ++ last ∷ [])) (take-long n ps qs fits)
      ∙ ap (λ rs. front ++ spread s.end rs (ss ++ last ∷ [])) (drop-long n ps qs fits)
      ∙ ap (λ es. front ++ es) (run_more s.end (drop n ps) ss covers.2 ends_there)
      ∙ sym (append_assoc front (spread s.end (drop n ps) ss) (map (entry_with last.hops) qs))

  pub covers_more : (from : ℕ) (ps : List Cidr) (ss : List Stretch) → Cover from ps ss → last.end ≡ from + length (ps ++ qs) → Cover from (ps ++ qs) (ss ++ last ∷ [])
  covers_more from ps [] covers ends =
      let n : ℕ = last.end - from in
      let all : ps ++ qs ≡ qs = ap (λ rs. rs ++ qs) covers in
      let same = ap length all in
      (omega arith, omega arith, drop_all n (ps ++ qs) (omega arith))
  covers_more from ps (s ∷ ss) covers ends =
      let n : ℕ = s.end - from in
      let less = covers.0 in
      let fits = covers.1 in
      let counted = length-dropped n ps fits in
      let long = length-append ps qs in
      let later = length-append (drop n ps) qs in
      let ends_there : last.end ≡ s.end + length (drop n ps ++ qs) = omega arith in
      (less, omega arith, subst (λ rs. Cover s.end rs (ss ++ last ∷ [])) (sym (drop-long n ps qs fits)) (covers_more s.end (drop n ps) ss covers.2 ends_there))

-- ---- the hops of a place

lt_true : (m n : ℕ) → m < n → nat_lt m n ≡ true
lt_true m n less = grind (arith, nat_tests)

lt_false : (m n : ℕ) → n ≤ m → nat_lt m n ≡ false
lt_false m n le = grind (arith, nat_tests)

abbrev ends_behind : ℕ → Stretch → Bool
ends_behind place s = nat_lt place s.end

get-made : (hops : List Hop) (ps : List Cidr) (i : ℕ) (d : Entry) → i < length ps → (get_or (map (entry_with hops) ps) i d).hops ≡ hops
get-made hops [] i d within = absurd (omega arith)
get-made hops (p ∷ ps) zero d within = refl
get-made hops (p ∷ ps) (suc i) d within = get-made hops ps i d (omega arith)

pub hops_there : (from : ℕ) (ps : List Cidr) (ss : List Stretch) (place : ℕ) (d : Entry) → Cover from ps ss → from ≤ place → place - from < length ps →
    (get_or (spread from ps ss) (place - from) d).hops ≡ hops_at ss place
hops_there from ps [] place d covers le within = absurd (let none = ap length covers in omega arith)
hops_there from ps (s ∷ ss) place d covers le within = at (nat_lt place s.end) refl (λ above fits. hops_there s.end (drop (s.end - from) ps) ss place d covers.2 above fits)
  where
    n : ℕ
    n = s.end - from

    front : List Entry
    front = map (entry_with s.hops) (take n ps)

    long : length front ≡ n
    long = length-map (take n ps) (entry_with s.hops) ∙ length-taken n ps covers.1

    not_less : nat_lt place s.end ≡ false → s.end ≤ place
    not_less e = grind (arith, nat_tests)

    is_less : nat_lt place s.end ≡ true → place < s.end
    is_less e = grind (arith, nat_tests)

    at : (b : Bool) → nat_lt place s.end ≡ b → (s.end ≤ place → place - s.end < length (drop n ps) → (get_or (spread s.end (drop n ps) ss) (place - s.end) d).hops ≡ hops_at ss place)
        → (get_or (front ++ spread s.end (drop n ps) ss) (place - from) d).hops ≡ hops_at (s ∷ ss) place
    at true e later =
        let below = is_less e in
        let less = covers.0 in
        let count = length-taken n ps covers.1 in
        let as_long = long in
        ap (λ (x : Entry). x.hops) (get_or_append_left front (spread s.end (drop n ps) ss) d (place - from) (omega arith))
        ∙ get-made s.hops (take n ps) (place - from) d (omega arith)
        ∙ sym (ap (λ b. option_map_or (λ (t : Stretch). t.hops) (cond b (Some s) (find (ends_behind place) ss)) []) e)
    at false e later =
        let above = not_less e in
        let less = covers.0 in
        let counted = length-dropped n ps covers.1 in
        let there : place - from - n ≡ place - s.end = omega arith in
        ap (λ (x : Entry). x.hops) (get_or-append_right front (spread s.end (drop n ps) ss) n (place - from) d long (omega arith))
        ∙ ap (λ k. (get_or (spread s.end (drop n ps) ss) k d).hops) there
        ∙ later above (omega arith)
        ∙ sym (ap (λ b. option_map_or (λ (t : Stretch). t.hops) (cond b (Some s) (find (ends_behind place) ss)) []) e)

-- ---- by bisection

rises : (from : ℕ) (ss : List Stretch) → Rise from ss → (j : ℕ) (d : Stretch) → j < length ss → from < (get_or ss j d).end
rises from [] r j d within = absurd (omega arith)
rises from (s ∷ ss) r zero d within = r.0
rises from (s ∷ ss) r (suc j) d within = let less = r.0 in let later = rises s.end ss r.1 j d (omega arith) in omega arith

pub ends_rise : (place from : ℕ) (ss : List Stretch) → Rise from ss → IsPartitionedBy (λ (s : Stretch). nat_le s.end place) ss
ends_rise place from [] r i j d le within passes = absurd (omega arith)
ends_rise place from (s ∷ ss) r zero zero d le within passes = passes
ends_rise place from (s ∷ ss) r zero (suc j) d le within passes =
    let later = rises s.end ss r.1 j d (omega arith) in
    let end : (get_or ss j d).end ≤ place = leb-true (get_or ss j d).end place passes in
    le-leb s.end place (omega arith)
ends_rise place from (s ∷ ss) r (suc i) zero d le within passes = absurd (omega arith)
ends_rise place from (s ∷ ss) r (suc i) (suc j) d le within passes = ends_rise place s.end ss r.1 i j d (omega arith) (omega arith) passes

past : (m n : ℕ) → nat_le m n ≡ true → nat_lt n m ≡ false
past m n e = grind (arith, nat_tests)

ahead : (m n : ℕ) → nat_le m n ≡ false → nat_lt n m ≡ true
ahead m n e = grind (arith, nat_tests)

first_behind : (place : ℕ) (ss : List Stretch) (k : ℕ) → ((j : ℕ) (d : Stretch) → j < k → nat_lt place (get_or ss j d).end ≡ false)
    → ((j : ℕ) (d : Stretch) → k ≤ j → j < length ss → nat_lt place (get_or ss j d).end ≡ true) → k ≤ length ss → find (ends_behind place) ss ≡ slice_get ss k
first_behind place [] zero before from le = refl
first_behind place [] (suc k) before from le = absurd (omega arith)
first_behind place (s ∷ ss) zero before from le = ap (λ b. cond b (Some s) (find (ends_behind place) ss)) (from 0 s (omega arith) (omega arith))
first_behind place (s ∷ ss) (suc k) before from le =
    ap (λ b. cond b (Some s) (find (ends_behind place) ss)) (before 0 s (omega arith))
    ∙ first_behind place ss k (λ j d less. before (suc j) d (omega arith)) (λ j d low less. from (suc j) d (omega arith) (omega arith)) (omega arith)

-- the stretch that bisection finds
pub found_there : (place : ℕ) (ss : List Stretch) (k : ℕ) → k ≤ length ss → IsPartitionPoint (λ (s : Stretch). nat_le s.end place ≡ true) (λ (s : Stretch). nat_le s.end place ≡ false) ss k →
    option_map_or (λ (s : Stretch). s.hops) (slice_get ss k) [] ≡ hops_at ss place
found_there place ss k within point =
    sym (ap (λ o. option_map_or (λ (s : Stretch). s.hops) o []) (first_behind place ss k
    (λ j d less. past (get_or ss j d).end place (point.0 j d (omega arith) less))
    (λ j d low less. ahead (get_or ss j d).end place (point.1 j d low less)) within))

-- ---- the hops of an address

module _ (ps : List Cidr) (ss : List Stretch) (covers : Cover 0 ps ss) (a : ℕ) where
  abbrev all : List Entry
  all = spread 0 ps ss

  -- the prefixes are those of the entries
  its_prefixes : map prefix all ≡ ps
  its_prefixes = prefixes_are 0 ps ss covers

  pub hops_of_longest : (place : ℕ) → IsLongestAt (λ (p : Cidr). p) ps a place → hops_at ss place ≡ resolved_hops all a
  hops_of_longest place longest =
      let there : IsLongestAt (λ (p : Cidr). p) (map prefix all) a place = subst (λ qs. IsLongestAt (λ (p : Cidr). p) qs a place) (sym its_prefixes) longest in
      let within : place < length ps = slice_get_within ps place longest.thing longest.is in
      let some : place < length all = (let count = as_many ps ss covers in omega arith) in
      let d : Entry = record { prefix = longest.thing; hops = [] } in
      let found : longest_by prefix all a ≡ Some (get_or all place d) = longest_among_made prefix a all place there ∙ slice_get-get_or all place d some in
      let same : place ≡ place - 0 = omega arith in
      sym (ap (λ o. option_map_or (λ (e : Entry). e.hops) o []) found ∙ ap (λ k. (get_or all k d).hops) same ∙ hops_there 0 ps ss place d covers (omega arith) (omega arith))

  pub no_hops : longest_by (λ (p : Cidr). p) ps a ≡ None → [] ≡ resolved_hops all a
  no_hops none =
      sym (ap (λ o. option_map_or (λ (e : Entry). e.hops) o []) (none_among_made prefix a all (ap (λ qs. longest_by (λ (p : Cidr). p) qs a) its_prefixes ∙ none)))

  pub longest_prefix : longest_by (λ (p : Cidr). p) ps a ≡ resolved_prefix all a
  longest_prefix = sym (ap (λ qs. longest_by (λ (p : Cidr). p) qs a) its_prefixes) ∙ longest_map prefix (λ (p : Cidr). p) a all

  -- the prefixes are in order where the entries are
  pub prefixes_in_order : IsFib all → AreInOrder (λ (p : Cidr). p) ps
  unfolding IsStrictlySortedBy
  prefixes_in_order fib = subst (AreInOrder (λ (p : Cidr). p)) its_prefixes (record {
    sorted = subst (IsStrictlySortedBy prefix_cmp) (sym (map-id (map prefix all))) fib.sorted;
    canonical = All-map IsCidr prefix all fib.canonical;
  })

-- ---- a table without routes

none_in_order : IsFib []
unfolding IsStrictlySortedBy
none_in_order = record { sorted = tt; canonical = All-nil HasCidr }

pub nothing : (ps : List Cidr) (ss : List Stretch) → ps ≡ [] → ss ≡ [] → Cover 0 ps ss × IsFib (spread 0 ps ss)
nothing ps ss no_prefix no_stretch =
    (subst (Cover 0 ps) (sym no_stretch) no_prefix, subst (λ ts. IsFib (spread 0 ps ts)) (sym no_stretch) none_in_order)
