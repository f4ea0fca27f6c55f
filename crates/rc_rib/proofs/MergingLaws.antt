-- Two tables merged are the best routes of both.
use Rattle.std.proofs.Common.{refl, ◌≡◌, ap, sym, ◌∙◌, subst, suc, Bool, true, false, cond, List, [], ◌∷◌, ◌++◌, map, Option, Some, None, length, arith, append_assoc}
use Rattle.std.specs.List.{fold, AllByRecursion}
use Rattle.std.specs.List.Sorted.{IsStrictlySortedBy}
use Rattle.std.specs.Ordering.{is_eq, match_ordering, ordering_reverse}
use Rattle.std.specs.declared.cmp.Ordering.{Ordering}
use Rattle.std.specs.declared.cmp.Ordering.TheVariants.{Less, Equal, Greater}
use Rattle.std.specs.BTreeMap.{insert_entry}
use Rattle.std.proofs.lemmas.List.Sums.{fold-append}
use Rattle.rc_base.specs.Groups.{grouped, under, with_thing}
use Rattle.rc_base.specs.Prefix.{Cidr, prefix_cmp}
use Rattle.rc_base.proofs.OrderedLaws.{prefix_cmp_total, same_by_prefix_cmp, all-weaker}
use Rattle.rc_route.specs.Tables.{IsTable}
use Rattle.rc_route.specs.declared.route.Route.{Route}
use Rattle.rc_rib.specs.Best.{is_preferred, better, best_routes}
use Rattle.rc_rib.specs.Merging.{beside, merged, which, front_prefix, of_both, IsFront, IsNext}
use Rattle.rc_rib.specs.Offers.{prefix_of, offered}
use Rattle.rc_rib.proofs.BestLaws.{best_of_offers, best_is_table}
use Rattle.rc_rib.proofs.TableLaws.{table_is_best}

abbrev Rows : Type 0
Rows = List (Cidr × Route)

-- a route under its prefix
abbrev rows_of : List Route → Rows
rows_of routes = map (λ (x : Route). (x.prefix, x)) routes

abbrev After : Cidr → List Route → Type 0
After p routes = AllByRecursion (λ q. prefix_cmp p q ≡ Less) (map prefix_of routes)

abbrev put_all : Rows → List Route → Rows
put_all rows routes = fold (with_thing prefix_of offered) rows routes

turned : (p q : Cidr) (o : Ordering) → prefix_cmp p q ≡ o → prefix_cmp q p ≡ ordering_reverse o
turned p q o is = prefix_cmp_total.antisymm q p ∙ ap ordering_reverse is

-- ---- what comes behind the first row leaves it

one_behind : (e : Cidr × Route) (rows : Rows) (y : Route) → prefix_cmp e.0 y.prefix ≡ Less → with_thing prefix_of offered (e ∷ rows) y ≡ e ∷ with_thing prefix_of offered rows y
one_behind e rows y less = ap at (turned e.0 y.prefix Less less)
  where
    at : Ordering → Rows
    at o =
        let v : Route = offered (cond (is_eq o) (Some e.1) (under rows y.prefix)) y in
        match_ordering o ((y.prefix, v) ∷ e ∷ rows) ((e.0, v) ∷ rows) (e ∷ insert_entry prefix_cmp rows y.prefix v)

all_behind : (e : Cidr × Route) (rows : Rows) (ys : List Route) → After e.0 ys → put_all (e ∷ rows) ys ≡ e ∷ put_all rows ys
all_behind e rows [] after = refl
all_behind e rows (y ∷ ys) after = ap (λ r. put_all r ys) (one_behind e rows y after.0) ∙ all_behind e (with_thing prefix_of offered rows y) ys after.1

later : (p q : Cidr) (ys : List Route) → prefix_cmp p q ≡ Less → After q ys → After p ys
later p q ys less after = all-weaker (λ r. prefix_cmp q r ≡ Less) (λ r. prefix_cmp p r ≡ Less) (λ r is. prefix_cmp_total.trans p q r less is) (map prefix_of ys) after

none_under : (p : Cidr) (xs : List Route) → After p xs → under (rows_of xs) p ≡ None
none_under p [] after = refl
none_under p (x ∷ xs) after = ap (λ o. cond (is_eq o) (Some x) (under (rows_of xs) p)) after.0 ∙ none_under p xs after.1

better_prefix : (x y : Route) → prefix_cmp x.prefix y.prefix ≡ Equal → (better x y).prefix ≡ x.prefix
better_prefix x y is = by (is_preferred y x)
  where
    by : (b : Bool) → (cond b y x).prefix ≡ x.prefix
    by true = sym (same_by_prefix_cmp x.prefix y.prefix is)
    by false = refl

-- ---- one table put under its prefixes

from_none : (ys : List Route) → IsStrictlySortedBy prefix_cmp (map prefix_of ys) → put_all [] ys ≡ rows_of ys
unfolding IsStrictlySortedBy
from_none [] up = refl
from_none (y ∷ ys) up = all_behind (y.prefix, y) [] ys up.0 ∙ ap (λ rows. (y.prefix, y) ∷ rows) (from_none ys up.1)

-- ---- and another one behind it

module _ (x : Route) (xs : List Route) (after_x : After x.prefix xs)
    (behind : (ys : List Route) → IsStrictlySortedBy prefix_cmp (map prefix_of ys) → put_all (rows_of xs) ys ≡ rows_of (merged xs ys)) where
  put_beside : (ys : List Route) → IsStrictlySortedBy prefix_cmp (map prefix_of ys) → put_all ((x.prefix, x) ∷ rows_of xs) ys ≡ rows_of (beside x (merged xs) ys)
  unfolding IsStrictlySortedBy
  put_beside [] up = ap (λ rows. (x.prefix, x) ∷ rows) (behind [] tt)
  put_beside (y ∷ ys) up = by (prefix_cmp x.prefix y.prefix) refl (put_beside ys up.1)
    where
      equal : prefix_cmp x.prefix y.prefix ≡ Equal → put_all ((x.prefix, x) ∷ rows_of xs) (y ∷ ys) ≡ rows_of (better x y ∷ merged xs ys)
      equal is =
          ap (λ o. put_all (match_ordering o ((y.prefix, offered (cond (is_eq o) (Some x) (under (rows_of xs) y.prefix)) y) ∷ (x.prefix, x) ∷ rows_of xs) ((x.prefix, offered (cond (is_eq o) (Some x) (under (rows_of xs) y.prefix)) y) ∷ rows_of xs)
          ((x.prefix, x) ∷ insert_entry prefix_cmp (rows_of xs) y.prefix (offered (cond (is_eq o) (Some x) (under (rows_of xs) y.prefix)) y))) ys) (turned x.prefix y.prefix Equal is)
          ∙ all_behind (x.prefix, better x y) (rows_of xs) ys (subst (λ p. After p ys) (sym (same_by_prefix_cmp x.prefix y.prefix is)) up.0)
          ∙ ap (λ rows. (x.prefix, better x y) ∷ rows) (behind ys up.1)
          ∙ ap (λ p. (p, better x y) ∷ rows_of (merged xs ys)) (sym (better_prefix x y is))

      greater : prefix_cmp x.prefix y.prefix ≡ Greater → put_all ((x.prefix, x) ∷ rows_of xs) ys ≡ rows_of (beside x (merged xs) ys) → put_all ((x.prefix, x) ∷ rows_of xs) (y ∷ ys) ≡ rows_of (y ∷ beside x (merged xs) ys)
      greater is rest =
          ap (λ o. put_all (match_ordering o ((y.prefix, offered (cond (is_eq o) (Some x) (under (rows_of xs) y.prefix)) y) ∷ (x.prefix, x) ∷ rows_of xs) ((x.prefix, offered (cond (is_eq o) (Some x) (under (rows_of xs) y.prefix)) y) ∷ rows_of xs)
          ((x.prefix, x) ∷ insert_entry prefix_cmp (rows_of xs) y.prefix (offered (cond (is_eq o) (Some x) (under (rows_of xs) y.prefix)) y))) ys) (turned x.prefix y.prefix Greater is)
          ∙ ap (λ v. put_all ((y.prefix, offered v y) ∷ (x.prefix, x) ∷ rows_of xs) ys) (none_under y.prefix xs (later y.prefix x.prefix xs (turned x.prefix y.prefix Greater is) after_x))
          ∙ all_behind (y.prefix, y) ((x.prefix, x) ∷ rows_of xs) ys up.0
          ∙ ap (λ rows. (y.prefix, y) ∷ rows) rest

      by : (o : Ordering) → prefix_cmp x.prefix y.prefix ≡ o → put_all ((x.prefix, x) ∷ rows_of xs) ys ≡ rows_of (beside x (merged xs) ys)
          → put_all ((x.prefix, x) ∷ rows_of xs) (y ∷ ys) ≡ rows_of (match_ordering o (x ∷ merged xs (y ∷ ys)) (better x y ∷ merged xs ys) (y ∷ beside x (merged xs) ys))
      by Less is rest = all_behind (x.prefix, x) (rows_of xs) (y ∷ ys) (is, later x.prefix y.prefix ys is up.0) ∙ ap (λ rows. (x.prefix, x) ∷ rows) (behind (y ∷ ys) up)
      by Equal is rest = equal is
      by Greater is rest = greater is rest

put_merged : (xs ys : List Route) → IsStrictlySortedBy prefix_cmp (map prefix_of xs) → IsStrictlySortedBy prefix_cmp (map prefix_of ys) → put_all (rows_of xs) ys ≡ rows_of (merged xs ys)
unfolding IsStrictlySortedBy
put_merged [] ys up up-ys = from_none ys up-ys
put_merged (x ∷ xs) ys up up-ys = put_beside x xs up.0 (λ zs up-zs. put_merged xs zs up.1 up-zs) ys up-ys

-- ---- rows stand under the prefixes of their routes

abbrev AreOwn : Rows → Type 0
AreOwn rows = AllByRecursion (λ (e : Cidr × Route). e.1.prefix ≡ e.0) rows

own_insert : (rows : Rows) (p : Cidr) (v : Route) → AreOwn rows → v.prefix ≡ p → AreOwn (insert_entry prefix_cmp rows p v)
own_insert [] p v own is = (is, tt)
own_insert (e ∷ es) p v own is = by (prefix_cmp p e.0) refl (own_insert es p v own.1 is)
  where
    by : (o : Ordering) → prefix_cmp p e.0 ≡ o → AreOwn (insert_entry prefix_cmp es p v) → AreOwn (match_ordering o ((p, v) ∷ e ∷ es) ((e.0, v) ∷ es) (e ∷ insert_entry prefix_cmp es p v))
    by Less at rest = (is, own)
    by Equal at rest = (is ∙ same_by_prefix_cmp p e.0 at, own.1)
    by Greater at rest = (own.0, rest)

offered_prefix : (rows : Rows) (y : Route) → AreOwn rows → (offered (under rows y.prefix) y).prefix ≡ y.prefix
offered_prefix [] y own = refl
offered_prefix (e ∷ es) y own = by (prefix_cmp y.prefix e.0) refl (offered_prefix es y own.1)
  where
    by : (o : Ordering) → prefix_cmp y.prefix e.0 ≡ o → (offered (under es y.prefix) y).prefix ≡ y.prefix → (offered (cond (is_eq o) (Some e.1) (under es y.prefix)) y).prefix ≡ y.prefix
    by Less at rest = rest
    by Greater at rest = rest
    by Equal at rest = either (is_preferred y e.1)
      where
        either : (b : Bool) → (cond b y e.1).prefix ≡ y.prefix
        either true = refl
        either false = own.0 ∙ sym (same_by_prefix_cmp y.prefix e.0 at)

own_all : (ys : List Route) (rows : Rows) → AreOwn rows → AreOwn (put_all rows ys)
own_all [] rows own = own
own_all (y ∷ ys) rows own = own_all ys (with_thing prefix_of offered rows y) (own_insert rows y.prefix (offered (under rows y.prefix) y) own (offered_prefix rows y own))

own_again : (rows : Rows) → AreOwn rows → rows ≡ rows_of (map (λ row. row.1) rows)
own_again [] own = refl
own_again (e ∷ es) own = ap (λ p. (p, e.1) ∷ es) (sym own.0) ∙ ap (λ rows. (e.1.prefix, e.1) ∷ rows) (own_again es own.1)

routes_again : (routes : List Route) → map (λ (row : Cidr × Route). row.1) (rows_of routes) ≡ routes
routes_again [] = refl
routes_again (x ∷ xs) = ap (λ t. x ∷ t) (routes_again xs)

-- ---- so best routes, merged with a table, are the best of all

pub merged_is_best : (xs ys : List Route) → IsTable ys → merged (best_routes xs) ys ≡ best_routes (xs ++ ys)
merged_is_best xs ys up =
    sym (routes_again (merged (best_routes xs) ys))
    ∙ ap (map (λ (row : Cidr × Route). row.1)) (
    sym (put_merged (best_routes xs) ys (best_is_table xs) up)
    ∙ ap (λ routes. put_all (rows_of routes) ys) (sym (best_of_offers xs))
    ∙ ap (λ rows. put_all rows ys) (sym (own_again (grouped prefix_of offered xs) (own_all xs [] tt)))
    ∙ sym (fold-append (with_thing prefix_of offered) [] xs ys))
    ∙ best_of_offers (xs ++ ys)

pub two_merged : (xs ys : List Route) → IsTable xs → IsTable ys → merged xs ys ≡ best_routes (xs ++ ys)
two_merged xs ys up up-ys = ap (λ t. merged t ys) (sym (table_is_best xs up)) ∙ merged_is_best xs ys up-ys

pub three_merged : (a b c : List Route) → IsTable a → IsTable b → IsTable c → merged (merged a b) c ≡ best_routes (a ++ (b ++ c))
three_merged a b c up-a up-b up-c = ap (λ t. merged t c) (two_merged a b up-a up-b) ∙ merged_is_best (a ++ b) c up-c ∙ ap best_routes (append_assoc a b c)

-- ---- the code takes one front after another

less_of : (r : Route) (xs ys : List Route) → which (Some r.prefix) (front_prefix ys) ≡ Less → merged (r ∷ xs) ys ≡ r ∷ merged xs ys
less_of r xs [] less = refl
less_of r xs (y ∷ ys) less = ap (λ o. match_ordering o (r ∷ merged xs (y ∷ ys)) (better r y ∷ merged xs ys) (y ∷ beside r (merged xs) ys)) less

greater_of : (xs : List Route) (r : Route) (ys : List Route) → which (front_prefix xs) (Some r.prefix) ≡ Greater → merged xs (r ∷ ys) ≡ r ∷ merged xs ys
greater_of [] r ys greater = refl
greater_of (x ∷ xs) r ys greater = ap (λ o. match_ordering o (x ∷ merged xs (r ∷ ys)) (better x r ∷ merged xs ys) (r ∷ beside x (merged xs) ys)) greater

equal_of : (x : Route) (xs : List Route) (y : Route) (ys : List Route) → prefix_cmp x.prefix y.prefix ≡ Equal → merged (x ∷ xs) (y ∷ ys) ≡ better x y ∷ merged xs ys
equal_of x xs y ys equal = ap (λ o. match_ordering o (x ∷ merged xs (y ∷ ys)) (better x y ∷ merged xs ys) (y ∷ beside x (merged xs) ys)) equal

greater_less : Greater ≡ Less → ⊥
greater_less e = absurd (cc)

less_greater : Less ≡ Greater → ⊥
less_greater e = absurd (cc)

greater_equal : Greater ≡ Equal → ⊥
greater_equal e = absurd (cc)

less_equal : Less ≡ Equal → ⊥
less_equal e = absurd (cc)

pub first_is_next : (xs ys xs-left : List Route) (front : Option Route) → which (front_prefix xs) (front_prefix ys) ≡ Less → IsFront xs front xs-left → IsNext xs ys front xs-left ys
first_is_next xs ys xs-left None less is = absurd (greater_less (sym (ap (λ t. which (front_prefix t) (front_prefix ys)) is.0) ∙ less))
first_is_next xs ys xs-left (Some r) less is =
    let one_more : length xs ≡ suc (length xs-left) = ap length is in
    (ap (λ t. merged t ys) is ∙ less_of r xs-left ys (sym (ap (λ t. which (front_prefix t) (front_prefix ys)) is) ∙ less), omega (arith, one_more))

pub second_is_next : (xs ys ys-left : List Route) (front : Option Route) → which (front_prefix xs) (front_prefix ys) ≡ Greater → IsFront ys front ys-left → IsNext xs ys front xs ys-left
second_is_next [] ys ys-left None greater is = is.0
second_is_next (x ∷ xs) ys ys-left None greater is = absurd (less_greater (sym (ap (λ t. which (Some x.prefix) (front_prefix t)) is.0) ∙ greater))
second_is_next xs ys ys-left (Some r) greater is =
    let one_more : length ys ≡ suc (length ys-left) = ap length is in
    (ap (merged xs) is ∙ greater_of xs r ys-left (sym (ap (λ t. which (front_prefix xs) (front_prefix t)) is) ∙ greater), omega (arith, one_more))

pub both_are_next : (xs ys xs-left ys-left : List Route) (a b : Option Route) → which (front_prefix xs) (front_prefix ys) ≡ Equal → IsFront xs a xs-left → IsFront ys b ys-left → IsNext xs ys (of_both a b) xs-left ys-left
both_are_next xs ys xs-left ys-left None b equal is also = absurd (greater_equal (sym (ap (λ t. which (front_prefix t) (front_prefix ys)) is.0) ∙ equal))
both_are_next xs ys xs-left ys-left (Some x) None equal is also =
    absurd (less_equal (sym (ap (λ t. which (front_prefix t) (front_prefix ys)) is ∙ ap (λ t. which (Some x.prefix) (front_prefix t)) also.0) ∙ equal))
both_are_next xs ys xs-left ys-left (Some x) (Some y) equal is also =
    let fewer : length xs ≡ suc (length xs-left) = ap length is in
    let fewer_too : length ys ≡ suc (length ys-left) = ap length also in (
      ap (λ t. merged t ys) is ∙ ap (merged (x ∷ xs-left)) also
          ∙ equal_of x xs-left y ys-left (sym (ap (λ t. which (front_prefix t) (front_prefix ys)) is ∙ ap (λ t. which (Some x.prefix) (front_prefix t)) also) ∙ equal),
      omega (arith, fewer, fewer_too),
    )

-- an empty table leaves the other one as it is
pub with_none : (xs ys : List Route) → ys ≡ [] → xs ≡ merged xs ys
with_none xs ys none = sym (ap (merged xs) none ∙ as_it_is xs)
  where
    as_it_is : (xs : List Route) → merged xs [] ≡ xs
    as_it_is [] = refl
    as_it_is (x ∷ xs) = ap (λ t. x ∷ t) (as_it_is xs)

pub order_is : (order : Ordering) (p q : Option Cidr) (xs ys : List Route) → order ≡ which p q → p ≡ front_prefix xs → q ≡ front_prefix ys → which (front_prefix xs) (front_prefix ys) ≡ order
order_is order p q xs ys is first second = sym (is ∙ ap (λ t. which t q) first ∙ ap (which (front_prefix xs)) second)
