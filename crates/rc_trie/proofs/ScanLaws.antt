-- The longest as a scan.
use Rattle.std.proofs.Common.{refl, ◌≡◌, ap, sym, ◌∙◌, ℕ, zero, suc, ◌<◌, ◌≤◌, Bool, true, false, ◌&&◌, cond, List, [], ◌∷◌, length, map, get_or, slice_get, subst, Option, Some, None, nat_lt, arith}
use Rattle.std.specs.List.{filter, fold, reduce}
use Rattle.std.specs.Option.{option_map}
use Rattle.std.proofs.lemmas.Bool.Decides.{nat_tests}
use Rattle.std.proofs.Math.ListN.{get_or-map}
use Rattle.std.proofs.lemmas.List.{length-map}
use Rattle.std.proofs.lemmas.Option.{get_or_from_slice_get, same_Some, slice_get-map, slice_get_within}
use Rattle.rc_base.specs.Prefix.{Cidr, contains}
use Rattle.rc_trie.specs.Tree.{IsLongestAt, longest_by}

not_lt : (m n : ℕ) → n ≤ m → nat_lt m n ≡ false
not_lt m n le = grind (arith, nat_tests)

is_lt : (m n : ℕ) → m < n → nat_lt m n ≡ true
is_lt m n less = grind (arith, nat_tests)

-- a thing that stands at a place
read_at : {X : Type 0} (xs : List X) (i : ℕ) (x : X) → slice_get xs i ≡ Some x → (i < length xs) × (x ≡ get_or xs i x)
read_at xs i x is = (slice_get_within xs i x is, sym (get_or_from_slice_get xs i x x is))

-- ---- the longest as a scan

module _ {A : Type 0} (prefix : A → Cidr) (a : ℕ) where
  -- the longer of what was found and a thing whose prefix holds the address
  abbrev longer : Option A → A → Option A
  longer None x = cond (contains (prefix x) a) (Some x) None
  longer (Some y) x = cond (contains (prefix x) a && nat_lt (prefix y).len (prefix x).len) (Some x) (Some y)

  abbrev pick : A → A → A
  pick x y = cond (nat_lt (prefix x).len (prefix y).len) y x

  abbrev left : List A → List A
  left xs = filter (λ x. contains (prefix x) a) xs

  chosen : (b : Bool) (x y : A) → cond b (Some y) (Some x) ≡ Some (cond b y x)
  chosen true x y = refl
  chosen false x y = refl

  from_some : (y : A) (xs : List A) → fold longer (Some y) xs ≡ Some (fold pick y (left xs))
  from_some y [] = refl
  from_some y (x ∷ xs) =
      let later : (z : A) → fold longer (Some z) xs ≡ Some (fold pick z (left xs)) = λ z. from_some z xs in
      elim (contains (prefix x) a) as (λ b. fold longer (cond (b && nat_lt (prefix y).len (prefix x).len) (Some x) (Some y)) xs ≡ Some (fold pick y (cond b (x ∷ left xs) (left xs)))) [
        | true ↦ ap (λ o. fold longer o xs) (chosen (nat_lt (prefix y).len (prefix x).len) y x) ∙ later (pick y x)
        | false ↦ later y
      ]

  from_none : (xs : List A) → fold longer None xs ≡ longest_by prefix xs a
  from_none [] = refl
  from_none (x ∷ xs) =
      let later = from_none xs in
      elim (contains (prefix x) a) as (λ b. fold longer (cond b (Some x) None) xs ≡ reduce pick (cond b (x ∷ left xs) (left xs))) [ true ↦ from_some x xs | false ↦ later ]

  -- what was found is shorter
  abbrev IsShort : ℕ → Option A → Type 0
  IsShort m None = Unit {0}
  IsShort m (Some y) = (prefix y).len < m

  take_it : (o : Option A) (e : A) → contains (prefix e) a ≡ true → IsShort (prefix e).len o → longer o e ≡ Some e
  take_it None e holds short = ap (λ b. cond b (Some e) None) holds
  take_it (Some y) e holds short =
      ap (λ b. cond (b && nat_lt (prefix y).len (prefix e).len) (Some e) (Some y)) holds ∙ ap (λ b. cond b (Some e) (Some y)) (is_lt (prefix y).len (prefix e).len short)

  kept : (e x : A) → (contains (prefix x) a ≡ true → (prefix x).len ≤ (prefix e).len) → longer (Some e) x ≡ Some e
  kept e x h = at (contains (prefix x) a) h
    where
      at : (b : Bool) → (b ≡ true → (prefix x).len ≤ (prefix e).len) → cond (b && nat_lt (prefix e).len (prefix x).len) (Some x) (Some e) ≡ Some e
      at false h = refl
      at true h = ap (λ b. cond b (Some x) (Some e)) (not_lt (prefix e).len (prefix x).len (h refl))

  still_short : (m : ℕ) (o : Option A) (x : A) → IsShort m o → (contains (prefix x) a ≡ true → (prefix x).len < m) → IsShort m (longer o x)
  still_short m None x short h = at (contains (prefix x) a) h
    where
      at : (b : Bool) → (b ≡ true → (prefix x).len < m) → IsShort m (cond b (Some x) None)
      at false h = tt
      at true h = h refl
  still_short m (Some y) x short h = at (contains (prefix x) a) h
    where
      both : (b : Bool) → (prefix x).len < m → IsShort m (cond b (Some x) (Some y))
      both false less = short
      both true less = less

      at : (b : Bool) → (b ≡ true → (prefix x).len < m) → IsShort m (cond (b && nat_lt (prefix y).len (prefix x).len) (Some x) (Some y))
      at false h = short
      at true h = both (nat_lt (prefix y).len (prefix x).len) (h refl)

  stays : (e : A) (xs : List A) → ((k : ℕ) (d : A) → k < length xs → contains (prefix (get_or xs k d)) a ≡ true → (prefix (get_or xs k d)).len ≤ (prefix e).len) → fold longer (Some e) xs ≡ Some e
  stays e [] h = refl
  stays e (x ∷ xs) h =
      ap (λ o. fold longer o xs) (kept e x (h 0 x (omega arith))) ∙ stays e xs (λ k d within. h (suc k) d (omega arith))

  reached : (xs : List A) (i : ℕ) (e : A) (o : Option A) → i < length xs → e ≡ get_or xs i e → contains (prefix e) a ≡ true
      → ((k : ℕ) (d : A) → k < i → contains (prefix (get_or xs k d)) a ≡ true → (prefix (get_or xs k d)).len < (prefix e).len)
      → ((k : ℕ) (d : A) → k < length xs → contains (prefix (get_or xs k d)) a ≡ true → (prefix (get_or xs k d)).len ≤ (prefix e).len)
      → IsShort (prefix e).len o → fold longer o xs ≡ Some e
  reached [] i e o within is holds before all short = absurd (omega arith)
  reached (x ∷ xs) zero e o within is holds before all short =
      ap (λ y. fold longer (longer o y) xs) (sym is) ∙ ap (λ q. fold longer q xs) (take_it o e holds short) ∙ stays e xs (λ k d less. all (suc k) d (omega arith))
  reached (x ∷ xs) (suc i) e o within is holds before all short =
      reached xs i e (longer o x) (omega arith) is holds (λ k d less. before (suc k) d (omega arith)) (λ k d less. all (suc k) d (omega arith)) (still_short (prefix e).len o x short (before 0 x (omega arith)))

  -- a thing that holds the address, after shorter ones that do and before none that is longer
  pub best_at : (xs : List A) (i : ℕ) (e : A) → i < length xs → e ≡ get_or xs i e → contains (prefix e) a ≡ true
      → ((k : ℕ) (d : A) → k < i → contains (prefix (get_or xs k d)) a ≡ true → (prefix (get_or xs k d)).len < (prefix e).len)
      → ((k : ℕ) (d : A) → k < length xs → contains (prefix (get_or xs k d)) a ≡ true → (prefix (get_or xs k d)).len ≤ (prefix e).len)
      → longest_by prefix xs a ≡ Some e
  best_at xs i e within is holds before all = sym (from_none xs) ∙ reached xs i e None within is holds before all tt

  -- the thing that is told to be the longest at its place
  pub longest_is_at : (xs : List A) (i : ℕ) → IsLongestAt prefix xs a i → longest_by prefix xs a ≡ slice_get xs i
  longest_is_at xs i l =
      let (within, reads) = read_at xs i l.thing l.is in
      best_at xs i l.thing within reads l.holds l.before l.others ∙ sym l.is

  none_scanned : (xs : List A) → ((k : ℕ) (d : A) → k < length xs → contains (prefix (get_or xs k d)) a ≡ true → ⊥) → fold longer None xs ≡ None
  none_scanned [] h = refl
  none_scanned (x ∷ xs) h =
      ap (λ o. fold longer o xs) (at (contains (prefix x) a) (h 0 x (omega arith))) ∙ none_scanned xs (λ k d within. h (suc k) d (omega arith))
    where
      at : (b : Bool) → (b ≡ true → ⊥) → cond b (Some x) None ≡ None
      at false h = refl
      at true h = absurd (h refl)

  pub none_holds : (xs : List A) → ((k : ℕ) (d : A) → k < length xs → contains (prefix (get_or xs k d)) a ≡ true → ⊥) → longest_by prefix xs a ≡ None
  none_holds xs h = sym (from_none xs) ∙ none_scanned xs h

-- ---- among things made of others

module _ {X Y : Type 0} (g : X → Y) (f : Y → Cidr) (a : ℕ) where
  abbrev pick_y : Y → Y → Y
  pick_y x y = cond (nat_lt (f x).len (f y).len) y x

  abbrev pick' : X → X → X
  pick' x y = cond (nat_lt (f (g x)).len (f (g y)).len) y x

  kept_map : (b : Bool) (x : X) (xs : List X) → cond b (g x ∷ map g xs) (map g xs) ≡ map g (cond b (x ∷ xs) xs)
  kept_map true x xs = refl
  kept_map false x xs = refl

  picked : (b : Bool) (x y : X) → cond b (g y) (g x) ≡ g (cond b y x)
  picked true x y = refl
  picked false x y = refl

  filtered : (xs : List X) → filter (λ y. contains (f y) a) (map g xs) ≡ map g (filter (λ x. contains (f (g x)) a) xs)
  filtered [] = refl
  filtered (x ∷ xs) = ap (λ zs. cond (contains (f (g x)) a) (g x ∷ zs) zs) (filtered xs) ∙ kept_map (contains (f (g x)) a) x (filter (λ z. contains (f (g z)) a) xs)

  folded : (x : X) (xs : List X) → fold pick_y (g x) (map g xs) ≡ g (fold pick' x xs)
  folded x [] = refl
  folded x (y ∷ ys) = ap (λ z. fold pick_y z (map g ys)) (picked (nat_lt (f (g x)).len (f (g y)).len) x y) ∙ folded (pick' x y) ys

  reduced : (xs : List X) → reduce pick_y (map g xs) ≡ option_map g (reduce pick' xs)
  reduced [] = refl
  reduced (x ∷ xs) = ap Some (folded x xs)

  pub longest_map : (xs : List X) → longest_by f (map g xs) a ≡ option_map g (longest_by (λ x. f (g x)) xs a)
  longest_map xs = ap (reduce pick_y) (filtered xs) ∙ reduced (filter (λ x. contains (f (g x)) a) xs)

-- ---- at a place of what is made of other things

module _ {X : Type 0} (f : X → Cidr) (a : ℕ) where
  pub longest_among_made : (xs : List X) (i : ℕ) → IsLongestAt (λ (p : Cidr). p) (map f xs) a i → longest_by f xs a ≡ slice_get xs i
  longest_among_made xs i l = at (slice_get xs i) refl
    where
      made : (o : Option X) → slice_get xs i ≡ o → option_map f o ≡ Some l.thing
      made o is = ap (option_map f) (sym is) ∙ sym (slice_get-map f xs i) ∙ l.is

      at : (o : Option X) → slice_get xs i ≡ o → longest_by f xs a ≡ o
      at None is = absurd (let none : None ≡ Some l.thing = made None is in cc none)
      at (Some x) is =
          let same : f x ≡ l.thing = same_Some (f x) l.thing (made (Some x) is) in
          longest_is_at f a xs i (record {
            thing = x;
            is = is;
            holds = ap (λ p. contains p a) same ∙ l.holds;
            before = λ k d less holds. subst (λ (p : Cidr). (f (get_or xs k d)).len < p.len) (sym same) (subst (λ (p : Cidr). p.len < l.thing.len) (get_or-map f xs k d) (l.before k (f d) less (ap (λ p. contains p a) (get_or-map f xs k d) ∙ holds)));
            others = λ k d less holds. subst (λ (p : Cidr). (f (get_or xs k d)).len ≤ p.len) (sym same) (subst (λ (p : Cidr). p.len ≤ l.thing.len) (get_or-map f xs k d) (l.others k (f d) (subst (λ n. k < n) (sym (length-map xs f)) less) (ap (λ p. contains p a) (get_or-map f xs k d) ∙ holds)));
          }) ∙ is

  pub none_among_made : (xs : List X) → longest_by (λ (p : Cidr). p) (map f xs) a ≡ None → longest_by f xs a ≡ None
  none_among_made xs none = at (longest_by f xs a) (sym (longest_map f (λ (p : Cidr). p) a xs) ∙ none)
    where
      at : (o : Option X) → option_map f o ≡ None → o ≡ None
      at None e = refl
      at (Some x) e = absurd (cc e)
