-- What a list with edits has at each prefix.
use Rattle.std.proofs.Common.{refl, ◌≡◌, ap, sym, subst, ◌∙◌, Bool, true, false, cond, List, [], ◌∷◌, ◌++◌, map, filter, Option, Some, None, IfSome}
use Rattle.std.specs.List.{AllByRecursion}
use Rattle.std.specs.List.Sorted.{IsStrictlySortedBy}
use Rattle.std.specs.Option.{option_or, option_to_list}
use Rattle.std.specs.Ordering.{is_eq, is_lt, ordering_reverse}
use Rattle.std.specs.declared.cmp.Ordering.{Ordering}
use Rattle.std.specs.declared.cmp.Ordering.TheVariants.{Less, Equal, Greater}
use Rattle.std.proofs.lemmas.Cmp.{tied_itself}
use Rattle.std.proofs.lemmas.List.Elements.{recursion_from_All}
use Rattle.rc_base.specs.Prefix.{Cidr, prefix_cmp, same_prefix}
use Rattle.rc_base.proofs.OrderedLaws.{prefix_cmp_total, same_by_prefix_cmp}
use Rattle.rc_route.specs.Tables.{IsListed, listed_at}
use Rattle.rc_pieces.specs.Editing.{AreEdits, SaysAsEdited, before, behind, edited, said}
use Rattle.rc_pieces.specs.Pieces.{AllBehind}
use Rattle.rc_pieces.specs.declared.edit.Edit.{Edit}
use Rattle.rc_pieces.proofs.EditLaws.{all_kept, behind_in_order, is_before, is_behind, less_of, up_filter}
use Rattle.rc_pieces.proofs.OrderLaws.{at_append, farther, none_behind, or_none, same_is}

same_itself : (p : Cidr) → same_prefix p p ≡ true
same_itself p = ap is_eq (tied_itself prefix_cmp_total p)

less_turned : (p q : Cidr) → prefix_cmp p q ≡ Greater → prefix_cmp q p ≡ Less
less_turned p q e = prefix_cmp_total.antisymm q p ∙ ap ordering_reverse e

greater_turned : (p q : Cidr) → prefix_cmp p q ≡ Less → prefix_cmp q p ≡ Greater
greater_turned p q e = prefix_cmp_total.antisymm q p ∙ ap ordering_reverse e

both_ways : (b : Bool) → b ≡ true → b ≡ false → ⊥
both_ways true e f = cc
both_ways false e f = cc

module _ {A : Type 0} (prefix_of : A → Cidr) where
  -- ---- what passes a test, at a prefix

  all_pass : (t : A → Bool) (q : Cidr) (xs : List A) → ((x : A) → prefix_of x ≡ q → t x ≡ true) → listed_at prefix_of (filter t xs) q ≡ listed_at prefix_of xs q
  all_pass t q [] pass = refl
  all_pass t q (x ∷ xs) pass = by (t x) (same_prefix q (prefix_of x)) refl refl (all_pass t q xs pass)
    where
      by : (b s : Bool) → t x ≡ b → same_prefix q (prefix_of x) ≡ s → listed_at prefix_of (filter t xs) q ≡ listed_at prefix_of xs q
          → listed_at prefix_of (cond b (x ∷ filter t xs) (filter t xs)) q ≡ cond s (Some x) (listed_at prefix_of xs q)
      by true true b s rest = ap (λ c. cond c (Some x) (listed_at prefix_of (filter t xs) q)) s
      by true false b s rest = ap (λ c. cond c (Some x) (listed_at prefix_of (filter t xs) q)) s ∙ rest
      by false true b s rest = absurd (both_ways (t x) (pass x (sym (same_is q (prefix_of x) s))) b)
      by false false b s rest = rest

  none_pass : (t : A → Bool) (q : Cidr) (xs : List A) → ((x : A) → prefix_of x ≡ q → t x ≡ false) → listed_at prefix_of (filter t xs) q ≡ None
  none_pass t q [] pass = refl
  none_pass t q (x ∷ xs) pass = by (t x) (same_prefix q (prefix_of x)) refl refl (none_pass t q xs pass)
    where
      by : (b s : Bool) → t x ≡ b → same_prefix q (prefix_of x) ≡ s → listed_at prefix_of (filter t xs) q ≡ None → listed_at prefix_of (cond b (x ∷ filter t xs) (filter t xs)) q ≡ None
      by true true b s rest = absurd (both_ways (t x) b (pass x (sym (same_is q (prefix_of x) s))))
      by true false b s rest = ap (λ c. cond c (Some x) (listed_at prefix_of (filter t xs) q)) s ∙ rest
      by false s b e rest = rest

  own_at : (v : Option A) (p : Cidr) → IfSome v (λ x. prefix_of x ≡ p) → listed_at prefix_of (option_to_list v) p ≡ v
  own_at None p own = refl
  own_at (Some x) p own = ap (λ c. cond c (Some x) None) (ap (same_prefix p) own ∙ same_itself p)

  other_at : (v : Option A) (p q : Cidr) → IfSome v (λ x. prefix_of x ≡ p) → same_prefix q p ≡ false → listed_at prefix_of (option_to_list v) q ≡ None
  other_at None p q own other = refl
  other_at (Some x) p q own other = ap (λ c. cond c (Some x) None) (ap (same_prefix q) own ∙ other)

  -- ---- all of them

  all_join : (P : Cidr → Type 0) (xs ys : List A) → AllByRecursion P (map prefix_of xs) → AllByRecursion P (map prefix_of ys) → AllByRecursion P (map prefix_of (xs ++ ys))
  all_join P [] ys front back = back
  all_join P (x ∷ xs) ys front back = (front.0, all_join P xs ys front.1 back)

  join_up : (xs ys : List A) → IsListed prefix_of xs → IsListed prefix_of ys → AllByRecursion (λ q. AllBehind prefix_of q ys) (map prefix_of xs) → IsListed prefix_of (xs ++ ys)
  unfolding IsStrictlySortedBy
  join_up [] ys front back apart = back
  join_up (x ∷ xs) ys front back apart = (all_join (λ q. prefix_cmp (prefix_of x) q ≡ Less) xs ys front.0 apart.0, join_up xs ys front.1 back apart.1)

  abbrev AllOwn : List (Edit A) → Type 0
  AllOwn es = AllByRecursion (λ (e : Edit A). IfSome e.value (λ x. prefix_of x ≡ e.prefix)) es

  abbrev prefixes : List (Edit A) → List Cidr
  prefixes es = map (λ (e : Edit A). e.prefix) es

  value_kept : (P : Cidr → Type 0) (v : Option A) (p : Cidr) → IfSome v (λ x. prefix_of x ≡ p) → P p → AllByRecursion P (map prefix_of (option_to_list v))
  value_kept P None p own is = tt
  value_kept P (Some x) p own is = (subst P (sym own) is, tt)

  kept : (P : Cidr → Type 0) (xs : List A) (es : List (Edit A)) → AllByRecursion P (map prefix_of xs) → AllByRecursion P (prefixes es) → AllOwn es → AllByRecursion P (map prefix_of (edited prefix_of xs es))
  kept P xs [] all edits own = all
  kept P xs (e ∷ es) all edits own =
      let p = e.prefix in
      let rest = edited prefix_of (behind prefix_of p xs) es in
      all_join P (before prefix_of p xs) (option_to_list e.value ++ rest) (all_kept prefix_of P (is_before prefix_of p) xs all)
      (all_join P (option_to_list e.value) rest (value_kept P e.value p own.0 edits.0) (kept P (behind prefix_of p xs) es (all_kept prefix_of P (is_behind prefix_of p) xs all) edits.1 own.1))

  all_behind : (p : Cidr) (xs : List A) → AllBehind prefix_of p (behind prefix_of p xs)
  all_behind p [] = tt
  all_behind p (x ∷ xs) = by (is_lt (prefix_cmp p (prefix_of x))) refl (all_behind p xs)
    where
      by : (b : Bool) → is_lt (prefix_cmp p (prefix_of x)) ≡ b → AllBehind prefix_of p (behind prefix_of p xs) → AllBehind prefix_of p (cond b (x ∷ behind prefix_of p xs) (behind prefix_of p xs))
      by true e rest = (less_of (prefix_cmp p (prefix_of x)) e, rest)
      by false e rest = rest

  -- ---- one edit

  module _ (xs : List A) (e : Edit A) (es : List (Edit A)) (rest : List A) (up : IsListed prefix_of xs) (own : IfSome e.value (λ x. prefix_of x ≡ e.prefix)) (ups : IsListed prefix_of rest) (all : AllBehind prefix_of e.prefix rest) where
    value_first : (v : Option A) → IfSome v (λ x. prefix_of x ≡ e.prefix) → IsListed prefix_of (option_to_list v ++ rest)
    unfolding IsStrictlySortedBy
    value_first None own = ups
    value_first (Some x) own = (subst (λ q. AllBehind prefix_of q rest) (sym own) all, ups)

    value_behind : (q : Cidr) (v : Option A) → IfSome v (λ x. prefix_of x ≡ e.prefix) → prefix_cmp q e.prefix ≡ Less → AllBehind prefix_of q (option_to_list v ++ rest)
    value_behind q None own less = farther prefix_of q e.prefix rest less all
    value_behind q (Some x) own less = (ap (prefix_cmp q) own ∙ less, farther prefix_of q e.prefix rest less all)

    all_first : (ys : List A) → AllByRecursion (λ q. AllBehind prefix_of q (option_to_list e.value ++ rest)) (map prefix_of (before prefix_of e.prefix ys))
    all_first [] = tt
    all_first (y ∷ ys) = by (is_lt (prefix_cmp (prefix_of y) e.prefix)) refl (all_first ys)
      where
        by : (b : Bool) → is_lt (prefix_cmp (prefix_of y) e.prefix) ≡ b → AllByRecursion (λ q. AllBehind prefix_of q (option_to_list e.value ++ rest)) (map prefix_of (before prefix_of e.prefix ys))
            → AllByRecursion (λ q. AllBehind prefix_of q (option_to_list e.value ++ rest)) (map prefix_of (cond b (y ∷ before prefix_of e.prefix ys) (before prefix_of e.prefix ys)))
        by true passed others = (value_behind (prefix_of y) e.value own (less_of (prefix_cmp (prefix_of y) e.prefix) passed), others)
        by false passed others = others

    pub edit_up : IsListed prefix_of (before prefix_of e.prefix xs ++ (option_to_list e.value ++ rest))
    edit_up = join_up (before prefix_of e.prefix xs) (option_to_list e.value ++ rest) (up_filter prefix_of (is_before prefix_of e.prefix) xs up) (value_first e.value own) (all_first xs)

    abbrev three : Option A → Option A → Option A → Option A
    three x y z = option_or x (option_or y z)

    parts : (q : Cidr) → listed_at prefix_of (before prefix_of e.prefix xs ++ (option_to_list e.value ++ rest)) q
        ≡ three (listed_at prefix_of (before prefix_of e.prefix xs) q) (listed_at prefix_of (option_to_list e.value) q) (listed_at prefix_of rest q)
    parts q =
        at_append prefix_of q (before prefix_of e.prefix xs) (option_to_list e.value ++ rest)
        ∙ ap (option_or (listed_at prefix_of (before prefix_of e.prefix xs) q)) (at_append prefix_of q (option_to_list e.value) rest)

    -- nothing is said of a prefix that stands before all edits
    unsaid : (q : Cidr) (fs : List (Edit A)) (was : Option A) → AllByRecursion (λ r. prefix_cmp q r ≡ Less) (prefixes fs) → said fs q was ≡ was
    unsaid q [] was later = refl
    unsaid q (f ∷ fs) was later = ap (λ o. cond (is_eq o) f.value (said fs q was)) later.0 ∙ unsaid q fs was later.1

    all_farther : (q : Cidr) (fs : List (Edit A)) → prefix_cmp q e.prefix ≡ Less → AllByRecursion (λ r. prefix_cmp e.prefix r ≡ Less) (prefixes fs) → AllByRecursion (λ r. prefix_cmp q r ≡ Less) (prefixes fs)
    all_farther q [] less later = tt
    all_farther q (f ∷ fs) less later = (prefix_cmp_total.trans q e.prefix f.prefix less later.0, all_farther q fs less later.1)

    pub edit_at : (q : Cidr) → AllByRecursion (λ r. prefix_cmp e.prefix r ≡ Less) (prefixes es) → listed_at prefix_of rest q ≡ said es q (listed_at prefix_of (behind prefix_of e.prefix xs) q)
        → listed_at prefix_of (before prefix_of e.prefix xs ++ (option_to_list e.value ++ rest)) q ≡ said (e ∷ es) q (listed_at prefix_of xs q)
    edit_at q later says = parts q ∙ by (prefix_cmp q e.prefix) refl
      where
        front : Option A
        front = listed_at prefix_of (before prefix_of e.prefix xs) q

        value : Option A
        value = listed_at prefix_of (option_to_list e.value) q

        back : Option A
        back = listed_at prefix_of rest q

        was : Option A
        was = listed_at prefix_of xs q

        by : (o : Ordering) → prefix_cmp q e.prefix ≡ o → three front value back ≡ cond (is_eq (prefix_cmp q e.prefix)) e.value (said es q was)
        by Less o =
            let a : front ≡ was = all_pass (is_before prefix_of e.prefix) q xs (λ x is. ap (λ r. is_lt (prefix_cmp r e.prefix)) is ∙ ap is_lt o) in
            let b : value ≡ None = other_at e.value e.prefix q own (ap is_eq o) in
            let c : back ≡ None = none_behind prefix_of q rest (farther prefix_of q e.prefix rest o all) in
            (λ i. three (a i) (b i) (c i)) ∙ or_none was ∙ sym (ap (λ r. cond (is_eq r) e.value (said es q was)) o ∙ unsaid q es was (all_farther q es o later))
        by Equal o =
            let same : q ≡ e.prefix = same_by_prefix_cmp q e.prefix o in
            let a : front ≡ None = none_pass (is_before prefix_of e.prefix) q xs (λ x is. ap (λ r. is_lt (prefix_cmp r e.prefix)) is ∙ ap is_lt o) in
            let b : value ≡ e.value = ap (λ r. listed_at prefix_of (option_to_list e.value) r) same ∙ own_at e.value e.prefix own in
            let c : back ≡ None = ap (λ r. listed_at prefix_of rest r) same ∙ none_behind prefix_of e.prefix rest all in
            (λ i. three (a i) (b i) (c i)) ∙ or_none e.value ∙ sym (ap (λ r. cond (is_eq r) e.value (said es q was)) o)
        by Greater o =
            let a : front ≡ None = none_pass (is_before prefix_of e.prefix) q xs (λ x is. ap (λ r. is_lt (prefix_cmp r e.prefix)) is ∙ ap is_lt o) in
            let b : value ≡ None = other_at e.value e.prefix q own (ap is_eq o) in
            let kept : listed_at prefix_of (behind prefix_of e.prefix xs) q ≡ was = all_pass (is_behind prefix_of e.prefix) q xs (λ x is. ap (λ r. is_lt (prefix_cmp e.prefix r)) is ∙ ap is_lt (less_turned q e.prefix o)) in
            (λ i. three (a i) (b i) back) ∙ says ∙ ap (said es q) kept ∙ sym (ap (λ r. cond (is_eq r) e.value (said es q was)) o)

  -- ---- all edits

  says_all : (xs : List A) (es : List (Edit A)) → IsListed prefix_of xs → IsStrictlySortedBy prefix_cmp (prefixes es) → AllOwn es → SaysAsEdited prefix_of xs es (edited prefix_of xs es)
  unfolding IsStrictlySortedBy
  says_all xs [] up sorted own = record { in_order = up; at = λ q. refl }
  says_all xs (e ∷ es) up sorted own =
      let p = e.prefix in
      let later = says_all (behind prefix_of p xs) es (behind_in_order prefix_of p xs up) sorted.1 own.1 in
      let rest = edited prefix_of (behind prefix_of p xs) es in
      let all : AllBehind prefix_of p rest = kept (λ q. prefix_cmp p q ≡ Less) (behind prefix_of p xs) es (all_behind p xs) sorted.0 own.1 in
      record {
        in_order = edit_up xs e es rest up own.0 later.in_order all;
        at = λ q. edit_at xs e es rest up own.0 later.in_order all q sorted.0 (later.at q);
      }

  pub edits_said : (xs : List A) (es : List (Edit A)) (made : List A) → made ≡ edited prefix_of xs es → IsListed prefix_of xs → AreEdits prefix_of es → SaysAsEdited prefix_of xs es made
  edits_said xs es made is up are =
      subst (SaysAsEdited prefix_of xs es) (sym is) (says_all xs es up are.in_order (recursion_from_All (λ (e : Edit A). IfSome e.value (λ x. prefix_of x ≡ e.prefix)) es are.own))
