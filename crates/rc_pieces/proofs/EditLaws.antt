-- A list with edits, piece by piece.
use Rattle.std.proofs.Common.{refl, ◌≡◌, ap, sym, subst, ◌∙◌, ℕ, zero, suc, ◌≤◌, Bool, true, false, not, cond, List, [], ◌∷◌, ◌++◌, length, map, filter, take, drop, get_or, append-nil, append_assoc, Option, Some, None, arith}
use Rattle.std.specs.List.{AllByRecursion, slice_get}
use Rattle.std.specs.List.Sorted.{IsStrictlySortedBy, IsPartitionedBy, IsPartitionPoint}
use Rattle.std.specs.Option.{option_to_list}
use Rattle.std.specs.Ordering.{is_lt, ordering_reverse}
use Rattle.std.specs.declared.cmp.Ordering.{Ordering}
use Rattle.std.specs.declared.cmp.Ordering.TheVariants.{Less, Equal, Greater}
use Rattle.std.proofs.lemmas.List.Elements.{filter-append}
use Rattle.rc_base.specs.Prefix.{Cidr, prefix_cmp}
use Rattle.rc_base.proofs.OrderedLaws.{prefix_cmp_total, same_by_prefix_cmp}
use Rattle.rc_route.specs.Tables.{IsListed}
use Rattle.rc_pieces.specs.Editing.{BeginAt, KeepsWhole, PutsWhole, before, behind, edited, goes_before}
use Rattle.rc_pieces.specs.Pieces.{AllBehind, AreFilled, joined}
use Rattle.rc_pieces.specs.declared.edit.Edit.{Edit}
use Rattle.rc_pieces.proofs.OrderLaws.{apart, back_in_order, farther, front_in_order}

pub less_of : (o : Ordering) → is_lt o ≡ true → o ≡ Less
less_of Less e = refl
less_of Equal e = absurd (cc e)
less_of Greater e = absurd (cc e)

-- ---- where a test turns, what passes it stands before and what fails it behind

module _ {X : Type 0} (t : X → Bool) where
  pub front_is : (xs : List X) (k : ℕ) → k ≤ length xs → IsPartitionPoint (λ x. t x ≡ true) (λ x. t x ≡ false) xs k → take k xs ≡ filter t xs
  front_is [] zero within point = refl
  front_is [] (suc k) within point = refl
  front_is (x ∷ xs) zero within point =
      front_is xs zero (omega arith) ((λ j d low less. absurd (omega arith)), (λ j d low less. point.1 (suc j) d (omega arith) (omega arith)))
      ∙ sym (ap (λ b. cond b (x ∷ filter t xs) (filter t xs)) (point.1 0 x (omega arith) (omega arith)))
  front_is (x ∷ xs) (suc k) within point =
      ap (λ l. x ∷ l) (front_is xs k (omega arith) ((λ j d low less. point.0 (suc j) d (omega arith) (omega arith)), (λ j d low less. point.1 (suc j) d (omega arith) (omega arith))))
      ∙ sym (ap (λ b. cond b (x ∷ filter t xs) (filter t xs)) (point.0 0 x (omega arith) (omega arith)))

  fails : (b : Bool) → not b ≡ true → b ≡ false
  fails true e = sym e
  fails false e = refl

  passes : (b : Bool) → not b ≡ false → b ≡ true
  passes true e = refl
  passes false e = sym e

  pub back_is : (xs : List X) (k : ℕ) → k ≤ length xs → IsPartitionPoint (λ x. not (t x) ≡ true) (λ x. not (t x) ≡ false) xs k → drop k xs ≡ filter t xs
  back_is [] zero within point = refl
  back_is [] (suc k) within point = refl
  back_is (x ∷ xs) zero within point =
      ap (λ l. x ∷ l) (back_is xs zero (omega arith) ((λ j d low less. absurd (omega arith)), (λ j d low less. point.1 (suc j) d (omega arith) (omega arith))))
      ∙ sym (ap (λ b. cond b (x ∷ filter t xs) (filter t xs)) (passes (t x) (point.1 0 x (omega arith) (omega arith))))
  back_is (x ∷ xs) (suc k) within point =
      back_is xs k (omega arith) ((λ j d low less. point.0 (suc j) d (omega arith) (omega arith)), (λ j d low less. point.1 (suc j) d (omega arith) (omega arith)))
      ∙ sym (ap (λ b. cond b (x ∷ filter t xs) (filter t xs)) (fails (t x) (point.0 0 x (omega arith) (omega arith))))

module _ {A : Type 0} (prefix_of : A → Cidr) where
  abbrev pub is_before : Cidr → A → Bool
  is_before p x = is_lt (prefix_cmp (prefix_of x) p)

  abbrev pub is_behind : Cidr → A → Bool
  is_behind p x = is_lt (prefix_cmp p (prefix_of x))

  less_at : (q : Cidr) (xs : List A) (j : ℕ) (d : A) → AllBehind prefix_of q xs → suc j ≤ length xs → prefix_cmp q (prefix_of (get_or xs j d)) ≡ Less
  less_at q [] j d all within = absurd (omega (arith, within))
  less_at q (x ∷ xs) zero d all within = all.0
  less_at q (x ∷ xs) (suc j) d all within = less_at q xs j d all.1 (omega (arith, within))

  -- what stands before a prefix comes first
  pub parted : (p : Cidr) (xs : List A) → IsListed prefix_of xs → IsPartitionedBy (is_before p) xs
  unfolding IsStrictlySortedBy
  parted p [] up i j d le less passed = absurd (omega arith)
  parted p (x ∷ xs) up zero zero d le less passed = passed
  parted p (x ∷ xs) up zero (suc j) d le less passed =
      let y = get_or xs j d in
      ap is_lt (prefix_cmp_total.trans (prefix_of x) (prefix_of y) p (less_at (prefix_of x) xs j d up.0 (omega (arith, less))) (less_of (prefix_cmp (prefix_of y) p) passed))
  parted p (x ∷ xs) up (suc i) zero d le less passed = absurd (omega arith)
  parted p (x ∷ xs) up (suc i) (suc j) d le less passed = parted p xs up.1 i j d (omega arith) (omega arith) passed

  pub parted_behind : (p : Cidr) (xs : List A) → IsListed prefix_of xs → IsPartitionedBy (λ x. not (is_behind p x)) xs
  unfolding IsStrictlySortedBy
  parted_behind p [] up i j d le less passed = absurd (omega arith)
  parted_behind p (x ∷ xs) up zero zero d le less passed = passed
  parted_behind p (x ∷ xs) up zero (suc j) d le less passed =
      let y = get_or xs j d in
      by (prefix_cmp p (prefix_of x)) refl (λ e. prefix_cmp_total.trans p (prefix_of x) (prefix_of y) e (less_at (prefix_of x) xs j d up.0 (omega (arith, less))))
    where
      by : (o : Ordering) → prefix_cmp p (prefix_of x) ≡ o → (prefix_cmp p (prefix_of x) ≡ Less → prefix_cmp p (prefix_of (get_or xs j d)) ≡ Less) → not (is_lt (prefix_cmp p (prefix_of x))) ≡ true
      by Less e farther = absurd (let clash : false ≡ true = sym (ap (λ o. not (is_lt o)) (farther e)) ∙ passed in cc)
      by Equal e farther = ap (λ o. not (is_lt o)) e
      by Greater e farther = ap (λ o. not (is_lt o)) e
  parted_behind p (x ∷ xs) up (suc i) zero d le less passed = absurd (omega arith)
  parted_behind p (x ∷ xs) up (suc i) (suc j) d le less passed = parted_behind p xs up.1 i j d (omega arith) (omega arith) passed

  -- ---- what passes a test is in order

  pub all_kept : (P : Cidr → Type 0) (t : A → Bool) (xs : List A) → AllByRecursion P (map prefix_of xs) → AllByRecursion P (map prefix_of (filter t xs))
  all_kept P t [] all = tt
  all_kept P t (x ∷ xs) all = by (t x) (all_kept P t xs all.1)
    where
      by : (b : Bool) → AllByRecursion P (map prefix_of (filter t xs)) → AllByRecursion P (map prefix_of (cond b (x ∷ filter t xs) (filter t xs)))
      by true rest = (all.0, rest)
      by false rest = rest

  pub up_filter : (t : A → Bool) (xs : List A) → IsListed prefix_of xs → IsListed prefix_of (filter t xs)
  unfolding IsStrictlySortedBy
  up_filter t [] up = tt
  up_filter t (x ∷ xs) up = by (t x) (up_filter t xs up.1)
    where
      by : (b : Bool) → IsListed prefix_of (filter t xs) → IsListed prefix_of (cond b (x ∷ filter t xs) (filter t xs))
      by true rest = (all_kept (λ q. prefix_cmp (prefix_of x) q ≡ Less) t xs up.0, rest)
      by false rest = rest

  pub behind_in_order : (p : Cidr) (xs : List A) → IsListed prefix_of xs → IsListed prefix_of (behind prefix_of p xs)
  behind_in_order p xs up = up_filter (is_behind p) xs up

  -- ---- where all stand behind a prefix, or before one

  -- all of them stand behind it, and none before it
  pub all_behind : (p : Cidr) (xs : List A) → AllBehind prefix_of p xs → behind prefix_of p xs ≡ xs
  all_behind p [] all = refl
  all_behind p (x ∷ xs) all = ap (λ o. cond (is_lt o) (x ∷ behind prefix_of p xs) (behind prefix_of p xs)) all.0 ∙ ap (λ l. x ∷ l) (all_behind p xs all.1)

  turned : (p q : Cidr) → prefix_cmp p q ≡ Less → prefix_cmp q p ≡ Greater
  turned p q e = prefix_cmp_total.antisymm q p ∙ ap ordering_reverse e

  pub none_before : (p : Cidr) (xs : List A) → AllBehind prefix_of p xs → before prefix_of p xs ≡ []
  none_before p [] all = refl
  none_before p (x ∷ xs) all = ap (λ o. cond (is_lt o) (x ∷ before prefix_of p xs) (before prefix_of p xs)) (turned p (prefix_of x) all.0) ∙ none_before p xs all.1

  -- it stands before one that another one doesn't stand before
  less_than : (r q p : Cidr) → prefix_cmp r q ≡ Less → is_lt (prefix_cmp p q) ≡ false → prefix_cmp r p ≡ Less
  less_than r q p less past = by (prefix_cmp p q) refl
    where
      by : (o : Ordering) → prefix_cmp p q ≡ o → prefix_cmp r p ≡ Less
      by Less e = absurd (let clash : true ≡ false = sym (ap is_lt e) ∙ past in cc)
      by Equal e = ap (prefix_cmp r) (same_by_prefix_cmp p q e) ∙ less
      by Greater e = prefix_cmp_total.trans r q p less (prefix_cmp_total.antisymm q p ∙ ap ordering_reverse e)

  abbrev AllBefore : Cidr → List A → Type 0
  AllBefore q xs = AllByRecursion (λ r. prefix_cmp r q ≡ Less) (map prefix_of xs)

  all_before : (p q : Cidr) (xs : List A) → is_lt (prefix_cmp p q) ≡ false → AllBefore q xs → before prefix_of p xs ≡ xs
  all_before p q [] past all = refl
  all_before p q (x ∷ xs) past all =
      ap (λ o. cond (is_lt o) (x ∷ before prefix_of p xs) (before prefix_of p xs)) (less_than (prefix_of x) q p all.0 past) ∙ ap (λ l. x ∷ l) (all_before p q xs past all.1)

  none_behind : (p q : Cidr) (xs : List A) → is_lt (prefix_cmp p q) ≡ false → AllBefore q xs → behind prefix_of p xs ≡ []
  none_behind p q [] past all = refl
  none_behind p q (x ∷ xs) past all =
      ap (λ o. cond (is_lt o) (x ∷ behind prefix_of p xs) (behind prefix_of p xs)) (turned (prefix_of x) p (less_than (prefix_of x) q p all.0 past)) ∙ none_behind p q xs past all.1

  -- the elements before others stand before the first of those
  before_first : (x : A) (xs : List A) (qs : List Cidr) → AllByRecursion (λ q. AllBehind prefix_of q (x ∷ xs)) qs → AllByRecursion (λ r. prefix_cmp r (prefix_of x) ≡ Less) qs
  before_first x xs [] all = tt
  before_first x xs (q ∷ qs) all = (all.0.0, before_first x xs qs all.1)

  -- ---- edits of what stands behind some elements leave these as they are

  pub untouched : (left rest : List A) (es : List (Edit A)) (end : Option Cidr) → IsListed prefix_of (left ++ rest) → BeginAt prefix_of rest end → goes_before es end ≡ false
      → edited prefix_of (left ++ rest) es ≡ left ++ edited prefix_of rest es
  untouched left rest [] end up begin none = refl
  untouched left [] (e ∷ es) end up begin none = absurd (let clash : true ≡ false = sym (ap (goes_before (e ∷ es)) begin) ∙ none in cc)
  untouched left (x ∷ xs) (e ∷ es) end up begin none =
      let p = e.prefix in
      let past : is_lt (prefix_cmp p (prefix_of x)) ≡ false = sym (ap (goes_before (e ∷ es)) begin) ∙ none in
      let all : AllBefore (prefix_of x) left = before_first x xs (map prefix_of left) (apart prefix_of left (x ∷ xs) up) in
      let front : before prefix_of p (left ++ x ∷ xs) ≡ left ++ before prefix_of p (x ∷ xs) = filter-append (is_before p) left (x ∷ xs) ∙ ap (λ l. l ++ before prefix_of p (x ∷ xs)) (all_before p (prefix_of x) left past all) in
      let back : behind prefix_of p (left ++ x ∷ xs) ≡ behind prefix_of p (x ∷ xs) = filter-append (is_behind p) left (x ∷ xs) ∙ ap (λ l. l ++ behind prefix_of p (x ∷ xs)) (none_behind p (prefix_of x) left past all) in
      (λ i. front i ++ (option_to_list e.value ++ edited prefix_of (back i) es))
      ∙ append_assoc left (before prefix_of p (x ∷ xs)) (option_to_list e.value ++ edited prefix_of (behind prefix_of p (x ∷ xs)) es)

  -- ---- one edit more before an end

  all_kept_front : (P : Cidr → Type 0) (t : A → Bool) (xs ys : List A) → AllByRecursion P (map prefix_of (xs ++ ys)) → AllByRecursion P (map prefix_of (filter t xs ++ ys))
  all_kept_front P t [] ys all = all
  all_kept_front P t (x ∷ xs) ys all = by (t x) (all_kept_front P t xs ys all.1)
    where
      by : (b : Bool) → AllByRecursion P (map prefix_of (filter t xs ++ ys)) → AllByRecursion P (map prefix_of (cond b (x ∷ filter t xs) (filter t xs) ++ ys))
      by true rest = (all.0, rest)
      by false rest = rest

  up_filter_front : (t : A → Bool) (xs ys : List A) → IsListed prefix_of (xs ++ ys) → IsListed prefix_of (filter t xs ++ ys)
  unfolding IsStrictlySortedBy
  up_filter_front t [] ys up = up
  up_filter_front t (x ∷ xs) ys up = by (t x) (up_filter_front t xs ys up.1)
    where
      by : (b : Bool) → IsListed prefix_of (filter t xs ++ ys) → IsListed prefix_of (cond b (x ∷ filter t xs) (filter t xs) ++ ys)
      by true rest = (all_kept_front (λ q. prefix_cmp (prefix_of x) q ≡ Less) t xs ys up.0, rest)
      by false rest = rest

  behind_rest : (p : Cidr) (rest : List A) (end : Option Cidr) (e : Edit A) (es : List (Edit A)) → p ≡ e.prefix → IsListed prefix_of rest → BeginAt prefix_of rest end → goes_before (e ∷ es) end ≡ true → AllBehind prefix_of p rest
  unfolding IsStrictlySortedBy
  behind_rest p [] end e es same up begin goes = tt
  behind_rest p (x ∷ xs) end e es same up begin goes =
      let less : prefix_cmp p (prefix_of x) ≡ Less = less_of (prefix_cmp p (prefix_of x)) (ap (λ q. is_lt (prefix_cmp q (prefix_of x))) same ∙ sym (ap (goes_before (e ∷ es)) begin) ∙ goes) in
      (less, farther prefix_of p (prefix_of x) xs less up.0)

  module _ (items : List A) (end : Option Cidr) (edits : List (Edit A)) where
    pub none_yet : (made left : List A) → made ≡ [] → left ≡ items → KeepsWhole prefix_of items end edits made left edits
    none_yet made left is whole = record {
      in_order = λ rest up. subst (λ l. IsListed prefix_of (l ++ rest)) (sym whole) up;
      same = λ rest up begin. sym (λ i. is i ++ edited prefix_of (whole i ++ rest) edits);
    }

    pub one_more : (made left more next : List A) (e : Edit A) (es now : List (Edit A)) → now ≡ e ∷ es → goes_before now end ≡ true
        → more ≡ made ++ (before prefix_of e.prefix left ++ option_to_list e.value) → next ≡ behind prefix_of e.prefix left
        → KeepsWhole prefix_of items end edits made left now → KeepsWhole prefix_of items end edits more next es
    one_more made left more next e es now are goes put stays keeps = record {
      in_order = λ rest up. subst (λ l. IsListed prefix_of (l ++ rest)) (sym stays) (up_filter_front (is_behind e.prefix) left rest (keeps.in_order rest up));
      same = λ rest up begin.
          let p = e.prefix in
          let here = keeps.in_order rest up in
          let all : AllBehind prefix_of p rest = behind_rest p rest end e es refl (back_in_order prefix_of left rest here) begin (sym (ap (λ now. goes_before now end) are) ∙ goes) in
          let front : before prefix_of p (left ++ rest) ≡ before prefix_of p left = filter-append (is_before p) left rest ∙ ap (λ l. before prefix_of p left ++ l) (none_before p rest all) ∙ append-nil (before prefix_of p left) in
          let back : behind prefix_of p (left ++ rest) ≡ next ++ rest = filter-append (is_behind p) left rest ∙ (λ i. sym stays i ++ all_behind p rest all i) in
          let last = edited prefix_of (next ++ rest) es in
          keeps.same rest up begin ∙ ap (λ now. made ++ edited prefix_of (left ++ rest) now) are
          ∙ (λ i. made ++ (front i ++ (option_to_list e.value ++ edited prefix_of (back i) es)))
          ∙ ap (λ l. made ++ l) (sym (append_assoc (before prefix_of p left) (option_to_list e.value) last))
          ∙ sym (append_assoc made (before prefix_of p left ++ option_to_list e.value) last) ∙ ap (λ l. l ++ last) (sym put);
    }

    pub all_put : (made left more : List A) (es now : List (Edit A)) → now ≡ es → goes_before es end ≡ false → more ≡ made ++ left → KeepsWhole prefix_of items end edits made left es → KeepsWhole prefix_of items end edits more [] now
    all_put made left more es now are none put keeps = record {
      in_order = λ rest up. back_in_order prefix_of left rest (keeps.in_order rest up);
      same = λ rest up begin.
          keeps.same rest up begin ∙ ap (λ l. made ++ l) (untouched left rest es end (keeps.in_order rest up) begin none)
          ∙ sym (append_assoc made left (edited prefix_of rest es)) ∙ (λ i. sym put i ++ edited prefix_of rest (sym are i));
    }

    pub shared : (old new : List A) → goes_before edits end ≡ false → new ≡ old ++ items → PutsWhole prefix_of items end edits edits old new
    shared old new none put = record {
      same = λ rest up begin. ap (λ l. old ++ l) (untouched items rest edits end up begin none) ∙ sym (append_assoc old items (edited prefix_of rest edits)) ∙ ap (λ l. l ++ edited prefix_of rest edits) (sym put);
    }

    pub put : (old new made : List A) (es : List (Edit A)) → new ≡ old ++ made → KeepsWhole prefix_of items end edits made [] es → PutsWhole prefix_of items end edits es old new
    put old new made es is keeps = record {
      same = λ rest up begin. ap (λ l. old ++ l) (keeps.same rest up begin) ∙ sym (append_assoc old made (edited prefix_of rest es)) ∙ ap (λ l. l ++ edited prefix_of rest es) (sym is);
    }

  -- ---- piece by piece

  pub piece_put : (made now : List A) (es next : List (Edit A)) (left rest : List (List A)) (piece : List A) (end : Option Cidr) (all : List A) → left ≡ piece ∷ rest → IsListed prefix_of (joined left) → BeginAt prefix_of (joined rest) end
      → PutsWhole prefix_of piece end es next made now → made ++ edited prefix_of (joined left) es ≡ all → now ++ edited prefix_of (joined rest) next ≡ all
  piece_put made now es next left rest piece end all are up begin puts whole =
      sym (puts.same (joined rest) (subst (λ (l : List (List A)). IsListed prefix_of (joined l)) are up) begin) ∙ ap (λ (l : List (List A)). made ++ edited prefix_of (joined l) es) (sym are) ∙ whole

  nothing_left : (left : List (List A)) → None ≡ slice_get left 0 → left ≡ []
  nothing_left [] none = refl
  nothing_left (piece ∷ rest) none = absurd (cc)

  pub all_edited : (made now : List A) (es : List (Edit A)) (left : List (List A)) (all : List A) → None ≡ slice_get left 0 → now ≡ made ++ edited prefix_of [] es → made ++ edited prefix_of (joined left) es ≡ all → now ≡ all
  all_edited made now es left all none put whole = put ∙ ap (λ (l : List (List A)). made ++ edited prefix_of (joined l) es) (sym (nothing_left left none)) ∙ whole

  pub rest_in_order : (left rest : List (List A)) (piece : List A) → left ≡ piece ∷ rest → IsListed prefix_of (joined left) → IsListed prefix_of (joined rest)
  rest_in_order left rest piece are up = back_in_order prefix_of piece (joined rest) (subst (λ (l : List (List A)). IsListed prefix_of (joined l)) are up)

  pub piece_in_order : (left rest : List (List A)) (piece : List A) → left ≡ piece ∷ rest → IsListed prefix_of (joined left) → IsListed prefix_of piece
  piece_in_order left rest piece are up = front_in_order prefix_of piece (joined rest) (subst (λ (l : List (List A)). IsListed prefix_of (joined l)) are up)

pub rest_filled : {A : Type 0} (left rest : List (List A)) (piece : List A) → left ≡ piece ∷ rest → AreFilled left → AreFilled rest
rest_filled left rest piece are filled = (subst AreFilled are filled).1

same_value : {X : Type 0} (x y : X) → Some y ≡ Some x → x ≡ y
same_value x y is = cc

pub taken : {A : Type 0} (left : List (List A)) (piece : List A) → Some piece ≡ slice_get left 0 → left ≡ piece ∷ drop 1 left
taken [] piece is = absurd (cc)
taken (x ∷ xs) piece is = ap (λ y. y ∷ xs) (same_value x piece is)
