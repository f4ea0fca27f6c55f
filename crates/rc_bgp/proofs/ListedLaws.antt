-- A list in order of prefix is told by what it says at each prefix.
use Rattle.std.proofs.Common.{refl, ◌≡◌, ap, sym, ◌∙◌, subst, Bool, true, false, cond, ◌&&◌, ◌||◌, List, [], ◌∷◌, ◌++◌, map, filter, Option, Some, None}
use Rattle.std.specs.List.{AllByRecursion, cons_option, filter_map, find, list_any}
use Rattle.std.specs.List.Sorted.{IsStrictlySortedBy}
use Rattle.std.specs.Option.{option_or, option_to_list}
use Rattle.std.specs.Ordering.{is_eq, is_lt, ordering_reverse}
use Rattle.std.specs.declared.cmp.Ordering.{Ordering}
use Rattle.std.specs.declared.cmp.Ordering.TheVariants.{Less, Equal, Greater}
use Rattle.rc_base.specs.Prefix.{Cidr, prefix_cmp, same_prefix}
use Rattle.rc_base.proofs.GroupLaws.{same_itself}
use Rattle.rc_base.proofs.OrderedLaws.{all-weaker, prefix_cmp_total, same_by_prefix_cmp}
use Rattle.rc_topology.proofs.ListLaws.{find_each, find_filter, find_never}
use Rattle.rc_bgp.specs.Updating.{updated}
use Rattle.rc_pieces.specs.Editing.{before, behind}
use Rattle.rc_bgp.proofs.PrefixLaws.{below, map_itself, none_later, same_is}

turned : (p q : Cidr) (o : Ordering) → prefix_cmp p q ≡ o → prefix_cmp q p ≡ ordering_reverse o
turned p q o is = prefix_cmp_total.antisymm q p ∙ ap ordering_reverse is

same_value : {A : Type 0} (x y : A) → Some x ≡ Some y → x ≡ y
same_value x y e = cc

some_none : {A : Type 0} (x : A) → Some x ≡ None → ⊥
some_none x e = absurd (cc)

either_way : {A : Type 0} (x : Option A) (b : Bool) → x ≡ cond b x x
either_way x true = refl
either_way x false = refl

or_none : {A : Type 0} (o : Option A) → option_or o None ≡ o
or_none None = refl
or_none (Some x) = refl

-- no prefix of those behind one is one that stands before it, or that one itself
none_behind : (q : Cidr) (ps : List Cidr) → AllByRecursion (λ r. prefix_cmp q r ≡ Less) ps → list_any (same_prefix q) ps ≡ false
none_behind q [] all = refl
none_behind q (p ∷ ps) all = ap (λ o. is_eq o || list_any (same_prefix q) ps) all.0 ∙ none_behind q ps all.1

farther : (p q : Cidr) (rs : List Cidr) → prefix_cmp p q ≡ Less → AllByRecursion (λ r. prefix_cmp q r ≡ Less) rs → AllByRecursion (λ r. prefix_cmp p r ≡ Less) rs
farther p q rs less all = all-weaker (λ r. prefix_cmp q r ≡ Less) (λ r. prefix_cmp p r ≡ Less) (λ r is. prefix_cmp_total.trans p q r less is) rs all

module _ {A : Type 0} (prefix_of : A → Cidr) where
  abbrev IsUp : List A → Type 0
  IsUp xs = IsStrictlySortedBy prefix_cmp (map prefix_of xs)

  abbrev Below : Cidr → List A → Type 0
  Below p xs = AllByRecursion (λ q. prefix_cmp p q ≡ Less) (map prefix_of xs)

  abbrev at : Cidr → List A → Option A
  at p xs = find (λ x. same_prefix p (prefix_of x)) xs

  found_here : (x : A) (xs : List A) → at (prefix_of x) (x ∷ xs) ≡ Some x
  found_here x xs = ap (λ o. cond (is_eq o) (Some x) (at (prefix_of x) xs)) (same_itself (prefix_of x))

  missed : (p : Cidr) (x : A) (xs : List A) → prefix_cmp p (prefix_of x) ≡ Less → Below (prefix_of x) xs → at p (x ∷ xs) ≡ None
  missed p x xs less all = none_later prefix_of p (x ∷ xs) (less, farther p (prefix_of x) (map prefix_of xs) less all)

  -- ---- two lists that say the same everywhere are one
  pub same_lists : (xs ys : List A) → IsUp xs → IsUp ys → ((p : Cidr) → at p xs ≡ at p ys) → xs ≡ ys
  unfolding IsStrictlySortedBy
  same_lists [] [] up up' same = refl
  same_lists [] (y ∷ ys) up up' same = absurd (some_none y (sym (same (prefix_of y) ∙ found_here y ys)))
  same_lists (x ∷ xs) [] up up' same = absurd (some_none x (sym (found_here x xs) ∙ same (prefix_of x)))
  same_lists (x ∷ xs) (y ∷ ys) up up' same = by (prefix_cmp (prefix_of x) (prefix_of y)) refl (same_lists xs ys up.1 up'.1)
    where
      tails : prefix_of x ≡ prefix_of y → (q : Cidr) → at q xs ≡ at q ys
      tails is q = one (prefix_cmp q (prefix_of x)) refl
        where
          apart : (o : Ordering) → prefix_cmp q (prefix_of x) ≡ o → is_eq o ≡ false → at q xs ≡ at q ys
          apart o e miss =
              ap (λ b. cond b (Some x) (at q xs)) (sym (ap is_eq e ∙ miss)) ∙ same q ∙ ap (λ r. cond (is_eq (prefix_cmp q r)) (Some y) (at q ys)) (sym is)
              ∙ ap (λ b. cond b (Some y) (at q ys)) (ap is_eq e ∙ miss)

          one : (o : Ordering) → prefix_cmp q (prefix_of x) ≡ o → at q xs ≡ at q ys
          one Less e = apart Less e refl
          one Greater e = apart Greater e refl
          one Equal e =
              let here : q ≡ prefix_of x = same_by_prefix_cmp q (prefix_of x) e in
              ap (λ r. at r xs) here ∙ none_later prefix_of (prefix_of x) xs up.0 ∙ sym (ap (λ r. at r ys) (here ∙ is) ∙ none_later prefix_of (prefix_of y) ys up'.0)

      by : (o : Ordering) → prefix_cmp (prefix_of x) (prefix_of y) ≡ o → (((p : Cidr) → at p xs ≡ at p ys) → xs ≡ ys) → x ∷ xs ≡ y ∷ ys
      by Less e rest = absurd (some_none x (sym (found_here x xs) ∙ same (prefix_of x) ∙ missed (prefix_of x) y ys e up'.0))
      by Greater e rest = absurd (some_none y (sym (found_here y ys) ∙ sym (same (prefix_of y)) ∙ missed (prefix_of y) x xs (turned (prefix_of x) (prefix_of y) Greater e) up.0))
      by Equal e rest =
          let keys : prefix_of x ≡ prefix_of y = same_by_prefix_cmp (prefix_of x) (prefix_of y) e in
          let values : x ≡ y = same_value x y (sym (found_here x xs) ∙ same (prefix_of x) ∙ ap (λ p. at p (y ∷ ys)) keys ∙ found_here y ys) in
          let others : xs ≡ ys = rest (tails keys) in
          λ i. values i ∷ others i

  -- ---- tests that prefixes alone decide
  at_filter : (b : Cidr → Bool) (q : Cidr) (xs : List A) → at q (filter (λ x. b (prefix_of x)) xs) ≡ cond (b q) (at q xs) None
  at_filter b q xs =
      find_filter (λ x. b (prefix_of x)) (λ x. same_prefix q (prefix_of x)) xs
      ∙ find_each (λ x. b (prefix_of x) && same_prefix q (prefix_of x)) (λ x. b q && same_prefix q (prefix_of x)) (λ x. one x (same_prefix q (prefix_of x)) refl) xs ∙ either (b q)
    where
      no_and : (c : Bool) → (c && false) ≡ false
      no_and true = refl
      no_and false = refl

      one : (x : A) (t : Bool) → same_prefix q (prefix_of x) ≡ t → (b (prefix_of x) && same_prefix q (prefix_of x)) ≡ (b q && same_prefix q (prefix_of x))
      one x true e = ap (λ r. b r && same_prefix q (prefix_of x)) (sym (same_is q (prefix_of x) e))
      one x false e = ap (λ t. b (prefix_of x) && t) e ∙ no_and (b (prefix_of x)) ∙ sym (ap (λ t. b q && t) e ∙ no_and (b q))

      either : (c : Bool) → find (λ x. c && same_prefix q (prefix_of x)) xs ≡ cond c (at q xs) None
      either true = refl
      either false = find_never xs

  all_kept : (P : Cidr → Type 0) (t : A → Bool) (xs : List A) → AllByRecursion P (map prefix_of xs) → AllByRecursion P (map prefix_of (filter t xs))
  all_kept P t [] all = tt
  all_kept P t (x ∷ xs) all = by (t x) (all_kept P t xs all.1)
    where
      by : (b : Bool) → AllByRecursion P (map prefix_of (filter t xs)) → AllByRecursion P (map prefix_of (cond b (x ∷ filter t xs) (filter t xs)))
      by true rest = (all.0, rest)
      by false rest = rest

  up_filter : (t : A → Bool) (xs : List A) → IsUp xs → IsUp (filter t xs)
  unfolding IsStrictlySortedBy
  up_filter t [] up = tt
  up_filter t (x ∷ xs) up = by (t x) (up_filter t xs up.1)
    where
      by : (b : Bool) → IsUp (filter t xs) → IsUp (cond b (x ∷ filter t xs) (filter t xs))
      by true rest = (all_kept (λ q. prefix_cmp (prefix_of x) q ≡ Less) t xs up.0, rest)
      by false rest = rest

  -- what passes a test on its prefix, where that tells something of the prefix
  all_passed : (P : Cidr → Type 0) (t : Cidr → Bool) → ((q : Cidr) → t q ≡ true → P q) → (xs : List A) → AllByRecursion P (map prefix_of (filter (λ x. t (prefix_of x)) xs))
  all_passed P t tells [] = tt
  all_passed P t tells (x ∷ xs) = by (t (prefix_of x)) refl (all_passed P t tells xs)
    where
      by : (b : Bool) → t (prefix_of x) ≡ b → AllByRecursion P (map prefix_of (filter (λ y. t (prefix_of y)) xs)) → AllByRecursion P (map prefix_of (cond b (x ∷ filter (λ y. t (prefix_of y)) xs) (filter (λ y. t (prefix_of y)) xs)))
      by true e rest = (tells (prefix_of x) e, rest)
      by false e rest = rest

  -- ---- two lists, one behind the other
  at_append : (q : Cidr) (xs ys : List A) → at q (xs ++ ys) ≡ option_or (at q xs) (at q ys)
  at_append q [] ys = refl
  at_append q (x ∷ xs) ys = by (same_prefix q (prefix_of x)) (at_append q xs ys)
    where
      by : (b : Bool) → at q (xs ++ ys) ≡ option_or (at q xs) (at q ys) → cond b (Some x) (at q (xs ++ ys)) ≡ option_or (cond b (Some x) (at q xs)) (at q ys)
      by true rest = refl
      by false rest = rest

  all_behind : (P : Cidr → Type 0) (xs ys : List A) → AllByRecursion P (map prefix_of xs) → AllByRecursion P (map prefix_of ys) → AllByRecursion P (map prefix_of (xs ++ ys))
  all_behind P [] ys all all' = all'
  all_behind P (x ∷ xs) ys all all' = (all.0, all_behind P xs ys all.1 all')

  up_append : (xs ys : List A) → IsUp xs → IsUp ys → AllByRecursion (λ q. Below q ys) (map prefix_of xs) → IsUp (xs ++ ys)
  unfolding IsStrictlySortedBy
  up_append [] ys up up' all = up'
  up_append (x ∷ xs) ys up up' all = (all_behind (λ q. prefix_cmp (prefix_of x) q ≡ Less) xs ys up.0 all.0, up_append xs ys up.1 up' all.1)

  -- ---- what a function says at prefixes
  module _ (f : Cidr → Option A) (keeps : (p : Cidr) (x : A) → f p ≡ Some x → prefix_of x ≡ p) where
    below_made : (q : Cidr) (ps : List Cidr) → AllByRecursion (λ p. prefix_cmp q p ≡ Less) ps → Below q (filter_map f ps)
    below_made q ps all = below (λ p. p) prefix_of f keeps q ps (subst (AllByRecursion (λ p. prefix_cmp q p ≡ Less)) (sym (map_itself ps)) all)

    -- a list that was made of prefixes in order says what the function says, which says nothing at others
    pub at_made : (ps : List Cidr) → IsStrictlySortedBy prefix_cmp ps → (q : Cidr) → (list_any (same_prefix q) ps ≡ false → f q ≡ None) → at q (filter_map f ps) ≡ f q
    unfolding IsStrictlySortedBy
    at_made [] up q nothing = sym (nothing refl)
    at_made (p ∷ ps) up q nothing = by (prefix_cmp q p) refl (at_made ps up.1 q)
      where
        head : q ≡ p → (o : Option A) → f p ≡ o → at q (cons_option o (filter_map f ps)) ≡ o
        head is None e = ap (λ r. at r (filter_map f ps)) is ∙ none_later prefix_of p (filter_map f ps) (below_made p ps up.0)
        head is (Some x) e = ap (λ r. at r (x ∷ filter_map f ps)) (is ∙ sym (keeps p x e)) ∙ found_here x (filter_map f ps)

        skip : is_eq (prefix_cmp q p) ≡ false → (o : Option A) → f p ≡ o → at q (cons_option o (filter_map f ps)) ≡ at q (filter_map f ps)
        skip miss None e = refl
        skip miss (Some x) e = ap (λ b. cond b (Some x) (at q (filter_map f ps))) (ap (λ r. is_eq (prefix_cmp q r)) (keeps p x e) ∙ miss)

        by : (o : Ordering) → prefix_cmp q p ≡ o → ((list_any (same_prefix q) ps ≡ false → f q ≡ None) → at q (filter_map f ps) ≡ f q) → at q (cons_option (f p) (filter_map f ps)) ≡ f q
        by Less e rest = skip (ap is_eq e) (f p) refl ∙ rest (λ none. nothing (ap (λ o. is_eq o || list_any (same_prefix q) ps) e ∙ none))
        by Equal e rest = (let is = same_by_prefix_cmp q p e in head is (f p) refl ∙ ap f (sym is))
        by Greater e rest = skip (ap is_eq e) (f p) refl ∙ rest (λ none. nothing (ap (λ o. is_eq o || list_any (same_prefix q) ps) e ∙ none))

    -- ---- a list with what the function says at some prefixes
    at_one : (q p : Cidr) → at q (option_to_list (f p)) ≡ cond (same_prefix q p) (f p) None
    at_one q p = by (f p) refl
      where
        by : (o : Option A) → f p ≡ o → at q (option_to_list o) ≡ cond (same_prefix q p) o None
        by None e = either_way None (same_prefix q p)
        by (Some x) e = ap (λ r. cond (same_prefix q r) (Some x) None) (keeps p x e)

    -- what the parts say at q, where so stand q and the prefix, and whether q is among those behind
    abbrev parts : Cidr → Cidr → List A → Ordering → Ordering → Bool → Option A
    parts q p xs o turn any = option_or (cond (is_lt o) (at q xs) None) (option_or (cond (is_eq o) (f p) None) (cond any (f q) (cond (is_lt turn) (at q xs) None)))

    -- at those prefixes the list says what the function says, and at others what it said
    pub at_updated : (ps : List Cidr) → IsStrictlySortedBy prefix_cmp ps → (xs : List A) (q : Cidr) → at q (updated prefix_of f xs ps) ≡ cond (list_any (same_prefix q) ps) (f q) (at q xs)
    unfolding IsStrictlySortedBy
    at_updated [] up xs q = refl
    at_updated (p ∷ ps) up xs q =
        at_append q (before prefix_of p xs) (option_to_list (f p) ++ updated prefix_of f (behind prefix_of p xs) ps)
        ∙ ap (option_or (at q (before prefix_of p xs))) (at_append q (option_to_list (f p)) (updated prefix_of f (behind prefix_of p xs) ps))
        ∙ (λ i. option_or (at_filter (λ r. is_lt (prefix_cmp r p)) q xs i) (option_or (at_one q p i) (rest (at_updated ps up.1 (behind prefix_of p xs) q) i)))
        ∙ by (prefix_cmp q p) refl
      where
        rest : at q (updated prefix_of f (behind prefix_of p xs) ps) ≡ cond (list_any (same_prefix q) ps) (f q) (at q (behind prefix_of p xs))
            → at q (updated prefix_of f (behind prefix_of p xs) ps) ≡ cond (list_any (same_prefix q) ps) (f q) (cond (is_lt (prefix_cmp p q)) (at q xs) None)
        rest again = again ∙ ap (cond (list_any (same_prefix q) ps) (f q)) (at_filter (λ r. is_lt (prefix_cmp p r)) q xs)

        by : (o : Ordering) → prefix_cmp q p ≡ o → parts q p xs (prefix_cmp q p) (prefix_cmp p q) (list_any (same_prefix q) ps) ≡ cond (is_eq (prefix_cmp q p) || list_any (same_prefix q) ps) (f q) (at q xs)
        by Less e =
            let none = none_behind q ps (farther q p ps e up.0) in
            (λ i. parts q p xs (e i) (turned q p Less e i) (none i)) ∙ or_none (at q xs) ∙ sym (λ i. cond (is_eq (e i) || none i) (f q) (at q xs))
        by Equal e =
            let is = same_by_prefix_cmp q p e in
            let none = ap (λ r. list_any (same_prefix r) ps) is ∙ none_behind p ps up.0 in
            (λ i. parts q p xs (e i) (turned q p Equal e i) (none i)) ∙ or_none (f p) ∙ ap f (sym is) ∙ sym (λ i. cond (is_eq (e i) || none i) (f q) (at q xs))
        by Greater e = (λ i. parts q p xs (e i) (turned q p Greater e i) (list_any (same_prefix q) ps)) ∙ sym (λ i. cond (is_eq (e i) || list_any (same_prefix q) ps) (f q) (at q xs))

    all_one : (P : Cidr → Type 0) (p : Cidr) → P p → AllByRecursion P (map prefix_of (option_to_list (f p)))
    all_one P p is = by (f p) refl
      where
        by : (o : Option A) → f p ≡ o → AllByRecursion P (map prefix_of (option_to_list o))
        by None e = tt
        by (Some x) e = (subst P (sym (keeps p x e)) is, tt)

    up_one : (p : Cidr) → IsUp (option_to_list (f p))
    unfolding IsStrictlySortedBy
    up_one p = by (f p)
      where
        by : (o : Option A) → IsUp (option_to_list o)
        by None = tt
        by (Some x) = (tt, tt)

    below_updated : (r : Cidr) (ps : List Cidr) (xs : List A) → AllByRecursion (λ p. prefix_cmp r p ≡ Less) ps → Below r xs → Below r (updated prefix_of f xs ps)
    below_updated r [] xs all all' = all'
    below_updated r (p ∷ ps) xs all all' =
        all_behind (λ q. prefix_cmp r q ≡ Less) (before prefix_of p xs) _ (all_kept (λ q. prefix_cmp r q ≡ Less) (λ x. is_lt (prefix_cmp (prefix_of x) p)) xs all')
        (all_behind (λ q. prefix_cmp r q ≡ Less) (option_to_list (f p)) _ (all_one (λ q. prefix_cmp r q ≡ Less) p all.0)
        (below_updated r ps (behind prefix_of p xs) all.1 (all_kept (λ q. prefix_cmp r q ≡ Less) (λ x. is_lt (prefix_cmp p (prefix_of x))) xs all')))

    lt_less : (o : Ordering) → is_lt o ≡ true → o ≡ Less
    lt_less Less e = refl
    lt_less Equal e = absurd (cc e)
    lt_less Greater e = absurd (cc e)

    -- it stays in order
    pub up_updated : (ps : List Cidr) → IsStrictlySortedBy prefix_cmp ps → (xs : List A) → IsUp xs → IsUp (updated prefix_of f xs ps)
    unfolding IsStrictlySortedBy
    up_updated [] up xs up' = up'
    up_updated (p ∷ ps) up xs up' =
        up_append (before prefix_of p xs) (option_to_list (f p) ++ updated prefix_of f (behind prefix_of p xs) ps) (up_filter (λ x. is_lt (prefix_cmp (prefix_of x) p)) xs up')
        (up_append (option_to_list (f p)) (updated prefix_of f (behind prefix_of p xs) ps) (up_one p) (up_updated ps up.1 (behind prefix_of p xs) (up_filter (λ x. is_lt (prefix_cmp p (prefix_of x))) xs up')) (all_one (λ q. Below q (updated prefix_of f (behind prefix_of p xs) ps)) p later))
        (all_passed (λ q. Below q (option_to_list (f p) ++ updated prefix_of f (behind prefix_of p xs) ps)) (λ q. is_lt (prefix_cmp q p))
        (λ q e. let less = lt_less (prefix_cmp q p) e in
        all_behind (λ r. prefix_cmp q r ≡ Less) (option_to_list (f p)) _ (all_one (λ r. prefix_cmp q r ≡ Less) p less) (farther q p (map prefix_of (updated prefix_of f (behind prefix_of p xs) ps)) less later)) xs)
      where
        later : Below p (updated prefix_of f (behind prefix_of p xs) ps)
        later = below_updated p ps (behind prefix_of p xs) up.0 (all_passed (λ q. prefix_cmp p q ≡ Less) (λ q. is_lt (prefix_cmp p q)) (λ q e. lt_less (prefix_cmp p q) e) xs)
