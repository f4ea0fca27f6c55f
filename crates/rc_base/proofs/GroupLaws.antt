-- Things that are put under their prefixes one by one: the prefixes are those of all in order, and under each of them
-- stands what its things make.
use Rattle.std.proofs.Common.{refl, ◌≡◌, ap, sym, ◌∙◌, subst, Bool, true, false, cond, List, [], ◌∷◌, map, filter, Option, Some}
use Rattle.std.specs.List.{fold, filter_map, cons_option, AllByRecursion}
use Rattle.std.specs.List.Sorted.{IsStrictlySortedBy}
use Rattle.std.specs.Map.{keys_of}
use Rattle.std.specs.Option.{option_map}
use Rattle.std.specs.Ordering.{is_eq, match_ordering, ordering_reverse, nat_cmp, ordering_then}
use Rattle.std.specs.declared.cmp.Ordering.{Ordering}
use Rattle.std.specs.declared.cmp.Ordering.TheVariants.{Less, Equal, Greater}
use Rattle.std.specs.BTreeMap.{insert_entry}
use Rattle.std.specs.BTreeSet.{insert_key}
use Rattle.std.proofs.lemmas.Cmp.{tied_itself}
use Rattle.rc_base.specs.Lists.{in_order}
use Rattle.rc_base.specs.Prefix.{Cidr, prefix_cmp, same_prefix}
use Rattle.rc_base.specs.Groups.{under, with_thing, grouped, value_at}
use Rattle.rc_base.specs.contracts.prefix.PrefixOrd.TheImpl as impl
use Rattle.rc_base.proofs.OrderedLaws.{prefix_cmp_total, same_by_prefix_cmp, in_order-sorted}

pub same_itself : (p : Cidr) → prefix_cmp p p ≡ Equal
same_itself p = tied_itself prefix_cmp_total p

-- ---- the order of `Prefix` is that of the definition

then_equal : (a : Ordering) → a ≡ ordering_then a Equal
then_equal Less = refl
then_equal Equal = refl
then_equal Greater = refl

pub code_cmp : impl.cmp-value.it ≡ prefix_cmp
code_cmp i p q = ap (ordering_then (nat_cmp p.network q.network)) (then_equal (nat_cmp p.len q.len)) i

-- ---- one prefix

-- of two values under one prefix the later stays
pub insert_again : {X : Type 0} (rows : List (Cidr × X)) (p : Cidr) (v w : X) → insert_entry prefix_cmp (insert_entry prefix_cmp rows p v) p w ≡ insert_entry prefix_cmp rows p w
insert_again [] p v w = rw (same_itself p) refl
insert_again {X} (e ∷ es) p v w = by (prefix_cmp p e.0) refl (insert_again es p v w)
  where
    by : (o : Ordering) → prefix_cmp p e.0 ≡ o → insert_entry prefix_cmp (insert_entry prefix_cmp es p v) p w ≡ insert_entry prefix_cmp es p w
        → insert_entry prefix_cmp (match_ordering o ((p, v) ∷ e ∷ es) ((e.0, v) ∷ es) (e ∷ insert_entry prefix_cmp es p v)) p w
        ≡ match_ordering o ((p, w) ∷ e ∷ es) ((e.0, w) ∷ es) (e ∷ insert_entry prefix_cmp es p w)
    by Less is rest = rw (same_itself p) refl
    by Equal is rest = rw is refl
    by Greater is rest = rw is (ap (λ t. e ∷ t) rest)

pub keys_insert : {X : Type 0} (rows : List (Cidr × X)) (p : Cidr) (v : X) → keys_of (insert_entry prefix_cmp rows p v) ≡ insert_key prefix_cmp (keys_of rows) p
keys_insert [] p v = refl
keys_insert {X} (e ∷ es) p v = by (prefix_cmp p e.0) (keys_insert es p v)
  where
    by : (o : Ordering) → keys_of (insert_entry prefix_cmp es p v) ≡ insert_key prefix_cmp (keys_of es) p
        → keys_of (match_ordering o ((p, v) ∷ e ∷ es) ((e.0, v) ∷ es) (e ∷ insert_entry prefix_cmp es p v))
        ≡ match_ordering o (p ∷ e.0 ∷ keys_of es) (e.0 ∷ keys_of es) (e.0 ∷ insert_key prefix_cmp (keys_of es) p)
    by Less rest = refl
    by Equal rest = refl
    by Greater rest = ap (λ t. e.0 ∷ t) rest

pub not_same : (q x p : Cidr) → prefix_cmp q x ≡ Equal → prefix_cmp p x ≡ Greater → is_eq (prefix_cmp q p) ≡ false
not_same q x p same above =
    let turned : prefix_cmp x p ≡ Less = prefix_cmp_total.antisymm x p ∙ ap ordering_reverse above in
    ap (λ y. is_eq (prefix_cmp y p)) (same_by_prefix_cmp q x same) ∙ ap is_eq turned

-- what is put under a prefix is found there, and elsewhere what was there
pub found_insert : {V : Type 0} (rows : List (Cidr × V)) (p : Cidr) (v : V) (q : Cidr) → under (insert_entry prefix_cmp rows p v) q ≡ cond (is_eq (prefix_cmp q p)) (Some v) (under rows q)
found_insert [] p v q = refl
found_insert {V} (e ∷ es) p v q = by (prefix_cmp p e.0) refl (found_insert es p v q)
  where
    equal : prefix_cmp p e.0 ≡ Equal → (b : Bool) → cond b (Some v) (under es q) ≡ cond b (Some v) (cond b (Some e.1) (under es q))
    equal is true = refl
    equal is false = refl

    greater : prefix_cmp p e.0 ≡ Greater → (o : Ordering) → prefix_cmp q e.0 ≡ o → under (insert_entry prefix_cmp es p v) q ≡ cond (is_eq (prefix_cmp q p)) (Some v) (under es q)
        → cond (is_eq o) (Some e.1) (under (insert_entry prefix_cmp es p v) q) ≡ cond (is_eq (prefix_cmp q p)) (Some v) (cond (is_eq o) (Some e.1) (under es q))
    greater is Less at rest = rest
    greater is Equal at rest = sym (ap (λ b. cond b (Some v) (Some e.1)) (not_same q e.0 p at is))
    greater is Greater at rest = rest

    by : (o : Ordering) → prefix_cmp p e.0 ≡ o → under (insert_entry prefix_cmp es p v) q ≡ cond (is_eq (prefix_cmp q p)) (Some v) (under es q)
        → under (match_ordering o ((p, v) ∷ e ∷ es) ((e.0, v) ∷ es) (e ∷ insert_entry prefix_cmp es p v)) q ≡ cond (is_eq (prefix_cmp q p)) (Some v) (under (e ∷ es) q)
    by Less is rest = refl
    by Equal is rest =
        subst (λ x. cond (is_eq (prefix_cmp q e.0)) (Some v) (under es q) ≡ cond (is_eq (prefix_cmp q x)) (Some v) (under (e ∷ es) q)) (sym (same_by_prefix_cmp p e.0 is)) (equal is (is_eq (prefix_cmp q e.0)))
    by Greater is rest = greater is (prefix_cmp q e.0) refl rest

module _ {X V : Type 0} (key : X → Cidr) (joined : Option V → X → V) where
  keys_fold : (xs : List X) (rows : List (Cidr × V)) → keys_of (fold (with_thing key joined) rows xs) ≡ fold (insert_key prefix_cmp) (keys_of rows) (map key xs)
  keys_fold [] rows = refl
  keys_fold (x ∷ xs) rows = keys_fold xs (with_thing key joined rows x) ∙ ap (λ ks. fold (insert_key prefix_cmp) ks (map key xs)) (keys_insert rows (key x) (joined (under rows (key x)) x))

  pub keys_grouped : (xs : List X) → keys_of (grouped key joined xs) ≡ in_order prefix_cmp (map key xs)
  keys_grouped xs = keys_fold xs []

  abbrev then_joined : Option V → X → Option V
  then_joined v x = Some (joined v x)

  found_fold : (q : Cidr) (xs : List X) (rows : List (Cidr × V)) → under (fold (with_thing key joined) rows xs) q ≡ fold then_joined (under rows q) (filter (λ x. same_prefix q (key x)) xs)
  found_fold q [] rows = refl
  found_fold q (x ∷ xs) rows =
      found_fold q xs (with_thing key joined rows x)
      ∙ ap (λ v. fold then_joined v (filter (λ y. same_prefix q (key y)) xs)) (found_insert rows (key x) (joined (under rows (key x)) x) q)
      ∙ by (prefix_cmp q (key x)) refl
    where
      rest : List X
      rest = filter (λ y. same_prefix q (key y)) xs

      by : (o : Ordering) → prefix_cmp q (key x) ≡ o
          → fold then_joined (cond (is_eq o) (Some (joined (under rows (key x)) x)) (under rows q)) (filter (λ y. same_prefix q (key y)) xs)
          ≡ fold then_joined (under rows q) (cond (is_eq o) (x ∷ filter (λ y. same_prefix q (key y)) xs) (filter (λ y. same_prefix q (key y)) xs))
      by Less is = refl
      by Greater is = refl
      by Equal is = ap (λ p. fold then_joined (Some (joined (under rows p) x)) (filter (λ y. same_prefix q (key y)) xs)) (sym (same_by_prefix_cmp q (key x) is))

  pub found_grouped : (q : Cidr) (xs : List X) → under (grouped key joined xs) q ≡ value_at key joined q xs
  found_grouped q xs = found_fold q xs []

-- rows whose prefixes rise, read by their prefixes
filter_map_same : {X Y : Type 0} (f g : X → Option Y) (xs : List X) → AllByRecursion (λ x. f x ≡ g x) xs → filter_map f xs ≡ filter_map g xs
filter_map_same f g [] same = refl
filter_map_same f g (x ∷ xs) same = ap (λ o. cons_option o (filter_map f xs)) same.0 ∙ ap (cons_option (g x)) (filter_map_same f g xs same.1)

filter_map_each : {X Y : Type 0} (f g : X → Option Y) → ((x : X) → f x ≡ g x) → (xs : List X) → filter_map f xs ≡ filter_map g xs
filter_map_each f g same [] = refl
filter_map_each f g same (x ∷ xs) = ap (λ o. cons_option o (filter_map f xs)) (same x) ∙ ap (cons_option (g x)) (filter_map_each f g same xs)

pub rows_by_prefix : {V Y : Type 0} (f : Cidr → V → Y) (rows : List (Cidr × V)) → IsStrictlySortedBy prefix_cmp (keys_of rows) → map (λ row. f row.0 row.1) rows ≡ filter_map (λ p. option_map (f p) (under rows p)) (keys_of rows)
unfolding IsStrictlySortedBy
rows_by_prefix f [] up = refl
rows_by_prefix {V} {Y} f (e ∷ es) up =
    ap (λ ys. f e.0 e.1 ∷ ys) (rows_by_prefix f es up.1 ∙ filter_map_same (λ p. option_map (f p) (under es p)) (λ p. option_map (f p) (under (e ∷ es) p)) (keys_of es) (behind (keys_of es) up.0))
    ∙ ap (λ o. cons_option (option_map (f e.0) o) (filter_map (λ p. option_map (f p) (under (e ∷ es) p)) (keys_of es))) (sym here)
  where
    here : under (e ∷ es) e.0 ≡ Some e.1
    here = ap (λ o. cond (is_eq o) (Some e.1) (under es e.0)) (same_itself e.0)

    behind : (ks : List Cidr) → AllByRecursion (λ p. prefix_cmp e.0 p ≡ Less) ks → AllByRecursion (λ p. option_map (f p) (under es p) ≡ option_map (f p) (under (e ∷ es) p)) ks
    behind [] below = tt
    behind (p ∷ ps) below = (ap (λ o. option_map (f p) (cond (is_eq o) (Some e.1) (under es p))) (sym (prefix_cmp_total.antisymm p e.0 ∙ ap ordering_reverse below.0)), behind ps below.1)

-- what the rows give, prefix by prefix
pub grouped_rows : {X V Y : Type 0} (key : X → Cidr) (joined : Option V → X → V) (f : Cidr → V → Y) (xs : List X)
    → map (λ row. f row.0 row.1) (grouped key joined xs) ≡ filter_map (λ p. option_map (f p) (value_at key joined p xs)) (in_order prefix_cmp (map key xs))
grouped_rows key joined f xs =
    rows_by_prefix f (grouped key joined xs) (subst (IsStrictlySortedBy prefix_cmp) (sym (keys_grouped key joined xs)) (in_order-sorted prefix_cmp prefix_cmp_total (map key xs)))
    ∙ ap (filter_map (λ p. option_map (f p) (under (grouped key joined xs) p))) (keys_grouped key joined xs)
    ∙ filter_map_each (λ p. option_map (f p) (under (grouped key joined xs) p)) (λ p. option_map (f p) (value_at key joined p xs)) (λ p. ap (option_map (f p)) (found_grouped key joined p xs)) (in_order prefix_cmp (map key xs))
