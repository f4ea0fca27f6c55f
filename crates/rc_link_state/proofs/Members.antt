-- Members of lists, and of lists in order. A list that strictly rises is told by its members.
use Rattle.std.proofs.Common.{refl, ◌≡◌, ap, sym, ◌∙◌, subst, ℕ, zero, suc, ◌⊎◌, inl, inr, ◌↔◌, Bool, true, false, cond, List, [], ◌∷◌, ◌++◌, map, filter, Some, Contains, arith}
use Rattle.std.specs.Prelude.{slice_get}
use Rattle.std.specs.List.{fold, AllByRecursion}
use Rattle.std.specs.List.Sorted.{IsStrictlySortedBy}
use Rattle.std.specs.BTreeSet.{insert_key}
use Rattle.std.specs.Cmp.{IsTotalOrder}
use Rattle.std.specs.Ordering.{match_ordering}
use Rattle.std.specs.declared.cmp.Ordering.{Ordering}
use Rattle.std.specs.declared.cmp.Ordering.TheVariants.{Less, Equal, Greater}
use Rattle.std.proofs.lemmas.Cmp.{tied_itself}
use Rattle.rc_base.specs.Lists.{in_order}

abbrev pub In : {X : Type 0} → X → List X → Type 0
In x [] = ⊥
In x (y ∷ ys) = (y ≡ x) ⊎ In x ys

pub contains_in : {X : Type 0} (xs : List X) (x : X) → Contains xs x → In x xs
contains_in [] x (k, lt, is) = absurd (omega arith)
contains_in (y ∷ ys) x (zero, lt, is) = inl is
contains_in (y ∷ ys) x (suc k, lt, is) = inr (contains_in ys x (k, omega arith, is))

pub in_contains : {X : Type 0} (xs : List X) (x : X) → In x xs → Contains xs x
in_contains [] x there = absurd there
in_contains (y ∷ ys) x (inl same) = (0, omega arith, same)
in_contains (y ∷ ys) x (inr there) = let (k, lt, is) = in_contains ys x there in (suc k, omega arith, is)

pub in_map : {X Y : Type 0} (f : X → Y) (xs : List X) (x : X) → In x xs → In (f x) (map f xs)
in_map f [] x there = absurd there
in_map f (y ∷ ys) x (inl same) = inl (ap f same)
in_map f (y ∷ ys) x (inr there) = inr (in_map f ys x there)

pub of_map : {X Y : Type 0} (f : X → Y) (xs : List X) (y : Y) → In y (map f xs) → (x : X) × In x xs × (f x ≡ y)
of_map f [] y there = absurd there
of_map f (x ∷ xs) y (inl same) = (x, inl refl, same)
of_map f (x ∷ xs) y (inr there) = let (z, has, same) = of_map f xs y there in (z, inr has, same)

pub in_front : {X : Type 0} (xs ys : List X) (x : X) → In x xs → In x (xs ++ ys)
in_front [] ys x there = absurd there
in_front (z ∷ xs) ys x (inl same) = inl same
in_front (z ∷ xs) ys x (inr there) = inr (in_front xs ys x there)

pub in_back : {X : Type 0} (xs ys : List X) (x : X) → In x ys → In x (xs ++ ys)
in_back [] ys x there = there
in_back (z ∷ xs) ys x there = inr (in_back xs ys x there)

pub in_either : {X : Type 0} (xs ys : List X) (x : X) → In x (xs ++ ys) → In x xs ⊎ In x ys
in_either [] ys x there = inr there
in_either (z ∷ xs) ys x (inl same) = inl (inl same)
in_either (z ∷ xs) ys x (inr there) = elim (in_either xs ys x there) [ inl front ↦ inl (inr front) | inr back ↦ inr back ]

pub in_filter : {X : Type 0} (p : X → Bool) (xs : List X) (x : X) → In x xs → p x ≡ true → In x (filter p xs)
in_filter p [] x there is = absurd there
in_filter {X} p (y ∷ ys) x there is = by (p y) refl there (λ later. in_filter p ys x later is)
  where
    by : (b : Bool) → p y ≡ b → In x (y ∷ ys) → (In x ys → In x (filter p ys)) → In x (cond b (y ∷ filter p ys) (filter p ys))
    by true holds (inl same) rest = inl same
    by true holds (inr later) rest = inr (rest later)
    by false holds (inl same) rest = absurd (let e : true ≡ false = sym is ∙ ap p (sym same) ∙ holds in cc)
    by false holds (inr later) rest = rest later

pub of_filter : {X : Type 0} (p : X → Bool) (xs : List X) (x : X) → In x (filter p xs) → In x xs × (p x ≡ true)
of_filter p [] x there = absurd there
of_filter {X} p (y ∷ ys) x there = by (p y) refl there (of_filter p ys x)
  where
    by : (b : Bool) → p y ≡ b → In x (cond b (y ∷ filter p ys) (filter p ys)) → (In x (filter p ys) → In x ys × (p x ≡ true)) → In x (y ∷ ys) × (p x ≡ true)
    by true holds (inl same) rest = (inl same, ap p (sym same) ∙ holds)
    by true holds (inr later) rest = (let (has, is) = rest later in (inr has, is))
    by false holds later rest = (let (has, is) = rest later in (inr has, is))

pub place_in : {X : Type 0} (xs : List X) (x : X) → In x xs → (k : ℕ) × (slice_get xs k ≡ Some x)
place_in [] x there = absurd there
place_in (y ∷ ys) x (inl same) = (0, ap Some same)
place_in (y ∷ ys) x (inr there) = let (k, at) = place_in ys x there in (suc k, at)

pub in_place : {X : Type 0} (xs : List X) (k : ℕ) (x : X) → slice_get xs k ≡ Some x → In x xs
in_place [] k x at = absurd (cc)
in_place (y ∷ ys) zero x at = inl (cc)
in_place (y ∷ ys) (suc k) x at = inr (in_place ys k x at)

pub all_in : {X : Type 0} (P : X → Type 0) (xs : List X) (x : X) → AllByRecursion P xs → In x xs → P x
all_in P [] x all there = absurd there
all_in P (y ∷ ys) x all (inl same) = subst P same all.0
all_in P (y ∷ ys) x all (inr there) = all_in P ys x all.1 there

module _ {K : Type 0} (R : K → K → Ordering) (same : (x y : K) → R x y ≡ Equal → x ≡ y) where
  insert_in : (k : K) (ks : List K) (h : K) → In h (insert_key R ks k) ↔ ((k ≡ h) ⊎ In h ks)
  insert_in k [] h = (λ there. there, λ there. there)
  insert_in k (x ∷ xs) h = by (R k x) refl (insert_in k xs h)
    where
      by : (o : Ordering) → R k x ≡ o → In h (insert_key R xs k) ↔ ((k ≡ h) ⊎ In h xs)
          → In h (match_ordering o (k ∷ x ∷ xs) (x ∷ xs) (x ∷ insert_key R xs k)) ↔ ((k ≡ h) ⊎ ((x ≡ h) ⊎ In h xs))
      by Less is rest = (λ there. there, λ there. there)
      by Equal is rest = (λ there. inr there, λ there. elim there [ inl e ↦ inl (sym (same k x is) ∙ e) | inr there ↦ there ])
      by Greater is rest = (
        λ there. elim there [ inl e ↦ inr (inl e) | inr later ↦ elim (rest.0 later) [ inl e ↦ inl e | inr there ↦ inr (inr there) ] ],
        λ there. elim there [ inl e ↦ inr (rest.1 (inl e)) | inr more ↦ elim more [ inl e ↦ inl e | inr there ↦ inr (rest.1 (inr there)) ] ],
      )

  fold_in : (xs ks : List K) (h : K) → In h (fold (insert_key R) ks xs) ↔ (In h ks ⊎ In h xs)
  fold_in [] ks h = (λ there. inl there, λ there. elim there [ inl there ↦ there | inr none ↦ absurd none ])
  fold_in (x ∷ xs) ks h =
      let rest = fold_in xs (insert_key R ks x) h in
      let one = insert_in x ks h in (
        λ there. elim (rest.0 there) [
          | inl first ↦ elim (one.0 first) [ inl e ↦ inr (inl e) | inr old ↦ inl old ]
          | inr later ↦ inr (inr later)
        ],
        λ there. elim there [
          | inl old ↦ rest.1 (inl (one.1 (inr old)))
          | inr more ↦ elim more [ inl e ↦ rest.1 (inl (one.1 (inl e))) | inr later ↦ rest.1 (inr later) ]
        ],
      )

  -- a list in order has the members of the list
  pub in_order_in : (xs : List K) (h : K) → In h (in_order R xs) ↔ In h xs
  in_order_in xs h = let both = fold_in xs [] h in (
    λ there. elim (both.0 there) [ inl none ↦ absurd none | inr there ↦ there ],
    λ there. both.1 (inr there),
  )

not_less : {K : Type 0} (R : K → K → Ordering) → IsTotalOrder R → (x : K) → R x x ≡ Less → ⊥
not_less R total x is = let tied = tied_itself total x in cc

-- two lists that strictly rise and have the same members are one
pub same_by_members : {K : Type 0} (R : K → K → Ordering) → IsTotalOrder R → (xs ys : List K) → IsStrictlySortedBy R xs → IsStrictlySortedBy R ys
    → ((h : K) → In h xs ↔ In h ys) → xs ≡ ys
unfolding IsStrictlySortedBy
same_by_members R total [] [] up up' same = refl
same_by_members R total [] (y ∷ ys) up up' same = absurd ((same y).1 (inl refl))
same_by_members R total (x ∷ xs) [] up up' same = absurd ((same x).0 (inl refl))
same_by_members {K} R total (x ∷ xs) (y ∷ ys) up up' same = joined first (same_by_members R total xs ys up.1 up'.1)
  where
    below : (k : K) (ks : List K) (h : K) → AllByRecursion (λ z. R k z ≡ Less) ks → In h ks → R k h ≡ Less
    below k ks h all there = all_in (λ z. R k z ≡ Less) ks h all there

    first : x ≡ y
    first = elim ((same x).0 (inl refl)) [
      | inl e ↦ sym e
      | inr there ↦ elim ((same y).1 (inl refl)) [
        | inl e ↦ e
        | inr there' ↦ absurd (not_less R total x (total.trans x y x (below x xs y up.0 there') (below y ys x up'.0 there)))
      ]
    ]

    joined : x ≡ y → (((h : K) → In h xs ↔ In h ys) → xs ≡ ys) → x ∷ xs ≡ y ∷ ys
    joined e rest = ap (λ z. z ∷ xs) e ∙ ap (λ zs. y ∷ zs) (rest (λ h. (
      λ there. elim ((same h).0 (inr there)) [
        | inl at ↦ absurd (not_less R total x (subst (λ z. R x z ≡ Less) (sym at ∙ sym e) (below x xs h up.0 there)))
        | inr later ↦ later
      ],
      λ there. elim ((same h).1 (inr there)) [
        | inl at ↦ absurd (not_less R total y (subst (λ z. R y z ≡ Less) (sym at ∙ e) (below y ys h up'.0 there)))
        | inr later ↦ later
      ],
    )))
