-- Things in order of prefix: what is made prefix by prefix is in order.
use Rattle.std.proofs.Common.{refl, ◌≡◌, ap, sym, subst, ◌∙◌, Bool, true, false, cond, ◌||◌, List, [], ◌∷◌, map, Option, Some, None}
use Rattle.std.specs.List.{AllByRecursion, cons_option, filter, filter_map, find, list_any}
use Rattle.std.specs.List.Sorted.{IsStrictlySortedBy}
use Rattle.std.specs.Ordering.{is_eq}
use Rattle.std.proofs.lemmas.Bool.{or_parts}
use Rattle.std.specs.declared.cmp.Ordering.{Ordering}
use Rattle.std.specs.declared.cmp.Ordering.TheVariants.{Less, Equal, Greater}
use Rattle.rc_base.specs.Prefix.{Cidr, prefix_cmp, same_prefix}
use Rattle.rc_base.proofs.OrderedLaws.{all-weaker, same_by_prefix_cmp}

eq_equal : (o : Ordering) → is_eq o ≡ true → o ≡ Equal
eq_equal Less e = absurd (cc e)
eq_equal Equal e = refl
eq_equal Greater e = absurd (cc e)

-- the test says that prefixes are the same
pub same_is : (p q : Cidr) → same_prefix p q ≡ true → p ≡ q
same_is p q is = same_by_prefix_cmp p q (eq_equal (prefix_cmp p q) is)

-- a prefix that stands among some, and not among those of them that pass a test, doesn't pass it
pub left_out : (t : Cidr → Bool) (p : Cidr) (qs : List Cidr) → list_any (same_prefix p) qs ≡ true → list_any (same_prefix p) (filter t qs) ≡ false → t p ≡ false
left_out t p [] here none = absurd (let clash : false ≡ true = here in cc)
left_out t p (q ∷ qs) here none = by (same_prefix p q) refl (t q) refl here none (left_out t p qs)
  where
    by : (b : Bool) → same_prefix p q ≡ b → (c : Bool) → t q ≡ c → b || list_any (same_prefix p) qs ≡ true → list_any (same_prefix p) (cond c (q ∷ filter t qs) (filter t qs)) ≡ false
        → (list_any (same_prefix p) qs ≡ true → list_any (same_prefix p) (filter t qs) ≡ false → t p ≡ false) → t p ≡ false
    by true e true f here none rest = absurd (let clash : true ≡ false = sym (ap (λ b. b || list_any (same_prefix p) (filter t qs)) e) ∙ none in cc)
    by true e false f here none rest = ap t (same_is p q e) ∙ f
    by false e true f here none rest = rest here (or_parts (same_prefix p q) (list_any (same_prefix p) (filter t qs)) none).1
    by false e false f here none rest = rest here none

module _ {A : Type 0} (prefix_of : A → Cidr) where
  pub none_later : (p : Cidr) (xs : List A) → AllByRecursion (λ q. prefix_cmp p q ≡ Less) (map prefix_of xs) → find (λ x. same_prefix p (prefix_of x)) xs ≡ None
  none_later p [] later = refl
  none_later p (x ∷ xs) later = ap (λ o. cond (is_eq o) (Some x) (find (λ y. same_prefix p (prefix_of y)) xs)) later.0 ∙ none_later p xs later.1

-- ---- what is made one by one of things in order is in order

module _ {X A : Type 0} (key : X → Cidr) (prefix_of : A → Cidr) (f : X → Option A) (keeps : (x : X) (a : A) → f x ≡ Some a → prefix_of a ≡ key x) where
  pub below : (q : Cidr) (xs : List X) → AllByRecursion (λ p. prefix_cmp q p ≡ Less) (map key xs) → AllByRecursion (λ p. prefix_cmp q p ≡ Less) (map prefix_of (filter_map f xs))
  below q [] all = tt
  below q (x ∷ xs) all = by (f x) refl (below q xs all.1)
    where
      by : (o : Option A) → f x ≡ o → AllByRecursion (λ r. prefix_cmp q r ≡ Less) (map prefix_of (filter_map f xs)) → AllByRecursion (λ r. prefix_cmp q r ≡ Less) (map prefix_of (cons_option o (filter_map f xs)))
      by None e rest = rest
      by (Some a) e rest = (ap (prefix_cmp q) (keeps x a e) ∙ all.0, rest)

  pub made_from : (xs : List X) → IsStrictlySortedBy prefix_cmp (map key xs) → IsStrictlySortedBy prefix_cmp (map prefix_of (filter_map f xs))
  unfolding IsStrictlySortedBy
  made_from [] up = tt
  made_from (x ∷ xs) up = by (f x) refl (made_from xs up.1)
    where
      by : (o : Option A) → f x ≡ o → IsStrictlySortedBy prefix_cmp (map prefix_of (filter_map f xs)) → IsStrictlySortedBy prefix_cmp (map prefix_of (cons_option o (filter_map f xs)))
      by None e rest = rest
      by (Some a) e rest = (all-weaker (λ r. prefix_cmp (key x) r ≡ Less) (λ r. prefix_cmp (prefix_of a) r ≡ Less) (λ r less. ap (λ q. prefix_cmp q r) (keeps x a e) ∙ less) (map prefix_of (filter_map f xs)) (below (key x) xs up.0), rest)

pub map_itself : (ps : List Cidr) → map (λ p. p) ps ≡ ps
map_itself [] = refl
map_itself (p ∷ ps) = ap (λ t. p ∷ t) (map_itself ps)

-- prefix by prefix
pub made_in_order : {A : Type 0} (prefix_of : A → Cidr) (f : Cidr → Option A) → ((p : Cidr) (a : A) → f p ≡ Some a → prefix_of a ≡ p) → (ps : List Cidr) → IsStrictlySortedBy prefix_cmp ps → IsStrictlySortedBy prefix_cmp (map prefix_of (filter_map f ps))
made_in_order prefix_of f keeps ps up = made_from (λ p. p) prefix_of f keeps ps (subst (IsStrictlySortedBy prefix_cmp) (sym (map_itself ps)) up)
