-- Lists in order of prefix, one behind the other.
use Rattle.std.proofs.Common.{refl, ◌≡◌, ap, sym, ◌∙◌, Bool, true, false, cond, List, [], ◌∷◌, ◌++◌, map, Option, Some, None}
use Rattle.std.specs.List.{AllByRecursion}
use Rattle.std.specs.List.Sorted.{IsStrictlySortedBy}
use Rattle.std.specs.Option.{option_or}
use Rattle.std.specs.Ordering.{is_eq, is_lt}
use Rattle.std.specs.declared.cmp.Ordering.{Ordering}
use Rattle.std.specs.declared.cmp.Ordering.TheVariants.{Less, Equal, Greater}
use Rattle.std.proofs.lemmas.List.Elements.{All-from_recursion}
use Rattle.rc_base.specs.Prefix.{Cidr, prefix_cmp, same_prefix}
use Rattle.rc_base.proofs.OrderedLaws.{all-weaker, prefix_cmp_total, same_by_prefix_cmp}
use Rattle.rc_route.specs.Tables.{IsListed, listed_at}
use Rattle.rc_pieces.specs.Pieces.{AllBehind, AreEachInOrder, joined}

eq_equal : (o : Ordering) → is_eq o ≡ true → o ≡ Equal
eq_equal Less e = absurd (cc e)
eq_equal Equal e = refl
eq_equal Greater e = absurd (cc e)

pub same_is : (p q : Cidr) → same_prefix p q ≡ true → p ≡ q
same_is p q is = same_by_prefix_cmp p q (eq_equal (prefix_cmp p q) is)

pub or_none : {A : Type 0} (o : Option A) → option_or o None ≡ o
or_none None = refl
or_none (Some x) = refl

module _ {A : Type 0} (prefix_of : A → Cidr) where
  pub all_front : (P : Cidr → Type 0) (xs ys : List A) → AllByRecursion P (map prefix_of (xs ++ ys)) → AllByRecursion P (map prefix_of xs)
  all_front P [] ys all = tt
  all_front P (x ∷ xs) ys all = (all.0, all_front P xs ys all.1)

  pub all_back : (P : Cidr → Type 0) (xs ys : List A) → AllByRecursion P (map prefix_of (xs ++ ys)) → AllByRecursion P (map prefix_of ys)
  all_back P [] ys all = all
  all_back P (x ∷ xs) ys all = all_back P xs ys all.1

  pub front_in_order : (xs ys : List A) → IsListed prefix_of (xs ++ ys) → IsListed prefix_of xs
  unfolding IsStrictlySortedBy
  front_in_order [] ys up = tt
  front_in_order (x ∷ xs) ys up = (all_front (λ q. prefix_cmp (prefix_of x) q ≡ Less) xs ys up.0, front_in_order xs ys up.1)

  pub back_in_order : (xs ys : List A) → IsListed prefix_of (xs ++ ys) → IsListed prefix_of ys
  unfolding IsStrictlySortedBy
  back_in_order [] ys up = up
  back_in_order (x ∷ xs) ys up = back_in_order xs ys up.1

  each : (pieces : List (List A)) → IsListed prefix_of (joined pieces) → AllByRecursion (IsListed prefix_of) pieces
  each [] up = tt
  each (piece ∷ pieces) up = (front_in_order piece (joined pieces) up, each pieces (back_in_order piece (joined pieces) up))

  -- pieces of a list in order are each in order
  pub each_in_order : (pieces : List (List A)) → IsListed prefix_of (joined pieces) → AreEachInOrder prefix_of pieces
  each_in_order pieces up = record { each = All-from_recursion (IsListed prefix_of) pieces (each pieces up) }

  -- each of the first ones stands before each of the others
  pub apart : (xs ys : List A) → IsListed prefix_of (xs ++ ys) → AllByRecursion (λ q. AllBehind prefix_of q ys) (map prefix_of xs)
  unfolding IsStrictlySortedBy
  apart [] ys up = tt
  apart (x ∷ xs) ys up = (all_back (λ q. prefix_cmp (prefix_of x) q ≡ Less) xs ys up.0, apart xs ys up.1)

  pub farther : (p q : Cidr) (xs : List A) → prefix_cmp p q ≡ Less → AllBehind prefix_of q xs → AllBehind prefix_of p xs
  farther p q xs less all = all-weaker (λ r. prefix_cmp q r ≡ Less) (λ r. prefix_cmp p r ≡ Less) (λ r is. prefix_cmp_total.trans p q r less is) (map prefix_of xs) all

  -- nothing is there for a prefix behind which all stand
  pub none_behind : (p : Cidr) (xs : List A) → AllBehind prefix_of p xs → listed_at prefix_of xs p ≡ None
  none_behind p [] all = refl
  none_behind p (x ∷ xs) all = ap (λ o. cond (is_eq o) (Some x) (listed_at prefix_of xs p)) all.0 ∙ none_behind p xs all.1

  pub at_append : (p : Cidr) (xs ys : List A) → listed_at prefix_of (xs ++ ys) p ≡ option_or (listed_at prefix_of xs p) (listed_at prefix_of ys p)
  at_append p [] ys = refl
  at_append p (x ∷ xs) ys = by (same_prefix p (prefix_of x)) (at_append p xs ys)
    where
      by : (b : Bool) → listed_at prefix_of (xs ++ ys) p ≡ option_or (listed_at prefix_of xs p) (listed_at prefix_of ys p)
          → cond b (Some x) (listed_at prefix_of (xs ++ ys) p) ≡ option_or (cond b (Some x) (listed_at prefix_of xs p)) (listed_at prefix_of ys p)
      by true rest = refl
      by false rest = rest

  -- nothing is there for a prefix that stands no farther in front than one behind which none of them stands
  pub none_before : (p : Cidr) (q : Cidr) (xs : List A) → is_lt (prefix_cmp p q) ≡ false → AllByRecursion (λ r. prefix_cmp r q ≡ Less) (map prefix_of xs) → listed_at prefix_of xs p ≡ None
  none_before p q [] past all = refl
  none_before p q (x ∷ xs) past all = by (same_prefix p (prefix_of x)) refl (none_before p q xs past all.1)
    where
      by : (b : Bool) → same_prefix p (prefix_of x) ≡ b → listed_at prefix_of xs p ≡ None → cond b (Some x) (listed_at prefix_of xs p) ≡ None
      by false e rest = rest
      by true e rest = absurd (let same : p ≡ prefix_of x = same_is p (prefix_of x) e in let clash : true ≡ false = sym (ap is_lt (ap (λ r. prefix_cmp r q) same ∙ all.0)) ∙ past in cc)
