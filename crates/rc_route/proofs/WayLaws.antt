-- The best of some ways is what they make, one after another; no way costs less, and one costs as much.
use Rattle.std.proofs.Common.{refl, ◌≡◌, ◌⊎◌, inl, inr, ⊎_elim, ap, sym, ◌∙◌, subst, ℕ, suc, min, ◌==◌, nat_lt, Bool, true, false, true≢false, cond, All, Any, List, [], ◌∷◌, ◌++◌, get_or, filter, Option, Some, None, arith, append_assoc}
use Rattle.std.specs.Cmp.{IsTotalOrder, tied_itself}
use Rattle.std.specs.List.{flat_map, fold}
use Rattle.std.specs.Ordering.{eq_by_cmp, is_eq, is_lt, match_ordering, nat_cmp, ordering_reverse}
use Rattle.std.specs.declared.cmp.Ordering.{Ordering}
use Rattle.std.specs.declared.cmp.Ordering.TheVariants.{Less, Equal, Greater}
use Rattle.std.proofs.lemmas.Bool.Decides.{nat_tests}
use Rattle.std.proofs.lemmas.Grind.{common_steps}
use Rattle.std.proofs.lemmas.List.{append-nil}
use Rattle.std.proofs.lemmas.List.Elements.{All-cons, All-nil, filter-append}
use Rattle.std.proofs.lemmas.List.Sums.{fold-append}
use Rattle.rc_route.specs.Ways.{IsBestOf, Way, best_of, hops_at, least_cost, lower, then_way, with_way}

module _ {C : Type 0} (cmp : C → C → Ordering) where
  pub least_more : (w : Way C) (ws : List (Way C)) (x : Way C) → least_cost cmp w (ws ++ x ∷ []) ≡ lower cmp (least_cost cmp w ws) x.cost
  least_more w ws x = fold-append (λ c (y : Way C). lower cmp c y.cost) w.cost ws (x ∷ [])

  flat_more : (xs ys : List (Way C)) → flat_map (λ (w : Way C). w.hops) (xs ++ ys) ≡ flat_map (λ (w : Way C). w.hops) xs ++ flat_map (λ (w : Way C). w.hops) ys
  flat_more [] ys = refl
  flat_more (x ∷ xs) ys = ap (λ t. x.hops ++ t) (flat_more xs ys) ∙ sym (append_assoc x.hops (flat_map (λ (w : Way C). w.hops) xs) (flat_map (λ (w : Way C). w.hops) ys))

  -- the hops at a cost are those of the first ways, and then those of the others
  pub hops_more : (c : C) (ws vs : List (Way C)) → hops_at cmp c (ws ++ vs) ≡ hops_at cmp c ws ++ hops_at cmp c vs
  hops_more c ws vs =
      ap (flat_map (λ (w : Way C). w.hops)) (filter-append (λ (w : Way C). eq_by_cmp cmp c w.cost) ws vs)
      ∙ flat_more (filter (λ (w : Way C). eq_by_cmp cmp c w.cost) ws) (filter (λ (w : Way C). eq_by_cmp cmp c w.cost) vs)

  -- the hops of one way, where it costs so much
  pub hops_of_one : (c : C) (x : Way C) → hops_at cmp c (x ∷ []) ≡ cond (eq_by_cmp cmp c x.cost) x.hops []
  hops_of_one c x = by (eq_by_cmp cmp c x.cost)
    where
      by : (b : Bool) → flat_map (λ (w : Way C). w.hops) (cond b (x ∷ []) []) ≡ cond b x.hops []
      by true = append-nil x.hops
      by false = refl

module _ {C : Type 0} (cmp : C → C → Ordering) (total : IsTotalOrder cmp) where
  -- what is below the lower of two costs is below both
  record IsBelowBoth (k a b : C) : Type 0 where
    first : cmp k a ≡ Less
    second : cmp k b ≡ Less

  below_both : (k a b : C) → cmp k (lower cmp a b) ≡ Less → IsBelowBoth k a b
  below_both k a b less = by (cmp b a) refl less
    where
      by : (o : Ordering) → cmp b a ≡ o → cmp k (cond (is_lt o) b a) ≡ Less → IsBelowBoth k a b
      by Less is less = record { first = total.trans k b a less is; second = less }
      by Equal is less = record {
        first = less;
        second = total.antisymm k b ∙ ap ordering_reverse (total.congr b a k is) ∙ sym (total.antisymm k a) ∙ less;
      }
      by Greater is less = record { first = less; second = total.trans k a b less (total.antisymm a b ∙ ap ordering_reverse is) }

  -- a cost below the least is that of no way
  record IsBelow (k a : C) (ws : List (Way C)) : Type 0 where
    first : cmp k a ≡ Less
    others : hops_at cmp k ws ≡ []

  not_at_first : (k : C) (x : Way C) (xs : List (Way C)) → cmp k x.cost ≡ Less → hops_at cmp k (x ∷ xs) ≡ hops_at cmp k xs
  not_at_first k x xs less = ap (λ b. flat_map (λ (w : Way C). w.hops) (cond b (x ∷ filter (λ (w : Way C). eq_by_cmp cmp k w.cost) xs) (filter (λ (w : Way C). eq_by_cmp cmp k w.cost) xs))) (ap is_eq less)

  below_least : (k a : C) (ws : List (Way C)) → cmp k (fold (λ c (x : Way C). lower cmp c x.cost) a ws) ≡ Less → IsBelow k a ws
  below_least k a [] less = record { first = less; others = refl }
  below_least k a (x ∷ xs) less =
      let rest = below_least k (lower cmp a x.cost) xs less in
      let both = below_both k a x.cost rest.first in
      record { first = both.first; others = not_at_first k x xs both.second ∙ rest.others }

  pub none_below : (k : C) (w : Way C) (ws : List (Way C)) → cmp k (least_cost cmp w ws) ≡ Less → hops_at cmp k (w ∷ ws) ≡ []
  none_below k w ws less =
      let all = below_least k w.cost ws less in
      not_at_first k w ws all.first ∙ all.others

  same_way : (v w : Way C) → v.cost ≡ w.cost → v.hops ≡ w.hops → v ≡ w
  same_way v w c h = λ i. record { cost = c i; hops = h i }

  at_cost : (c : C) (x : Way C) → cmp c x.cost ≡ Equal → hops_at cmp c (x ∷ []) ≡ x.hops
  at_cost c x is = hops_of_one cmp c x ∙ ap (λ o. cond (is_eq o) x.hops []) is

  abbrev made : Way C → List (Way C) → Way C
  made w ws = record { cost = least_cost cmp w ws; hops = hops_at cmp (least_cost cmp w ws) (w ∷ ws) }

  -- one way more
  made_more : (w : Way C) (ws : List (Way C)) (x : Way C) → with_way cmp (Some (made w ws)) x ≡ made w (ws ++ x ∷ [])
  made_more w ws x = by (cmp x.cost (least_cost cmp w ws)) refl
    where
      hops_then : (c : C) → least_cost cmp w (ws ++ x ∷ []) ≡ c → (hops : List _) → hops_at cmp c (w ∷ ws) ++ hops_at cmp c (x ∷ []) ≡ hops → hops ≡ hops_at cmp (least_cost cmp w (ws ++ x ∷ [])) (w ∷ (ws ++ x ∷ []))
      hops_then c new hops are = sym (ap (λ k. hops_at cmp k (w ∷ (ws ++ x ∷ []))) new ∙ hops_more cmp c (w ∷ ws) (x ∷ []) ∙ are)

      by : (o : Ordering) → cmp x.cost (least_cost cmp w ws) ≡ o
          → match_ordering o x (record { cost = least_cost cmp w ws; hops = hops_at cmp (least_cost cmp w ws) (w ∷ ws) ++ x.hops }) (made w ws) ≡ made w (ws ++ x ∷ [])
      by Less is =
          let new : least_cost cmp w (ws ++ x ∷ []) ≡ x.cost = least_more cmp w ws x ∙ ap (λ b. cond b x.cost (least_cost cmp w ws)) (ap is_lt is) in
          same_way x (made w (ws ++ x ∷ [])) (sym new)
          (hops_then x.cost new x.hops (ap (λ t. t ++ hops_at cmp x.cost (x ∷ [])) (none_below x.cost w ws is) ∙ at_cost x.cost x (tied_itself total x.cost)))
      by Equal is =
          let new : least_cost cmp w (ws ++ x ∷ []) ≡ least_cost cmp w ws = least_more cmp w ws x ∙ ap (λ b. cond b x.cost (least_cost cmp w ws)) (ap is_lt is) in
          let at : cmp (least_cost cmp w ws) x.cost ≡ Equal = total.antisymm (least_cost cmp w ws) x.cost ∙ ap ordering_reverse is in
          same_way (record { cost = least_cost cmp w ws; hops = hops_at cmp (least_cost cmp w ws) (w ∷ ws) ++ x.hops }) (made w (ws ++ x ∷ [])) (sym new)
          (hops_then (least_cost cmp w ws) new (hops_at cmp (least_cost cmp w ws) (w ∷ ws) ++ x.hops) (ap (λ t. hops_at cmp (least_cost cmp w ws) (w ∷ ws) ++ t) (at_cost (least_cost cmp w ws) x at)))
      by Greater is =
          let new : least_cost cmp w (ws ++ x ∷ []) ≡ least_cost cmp w ws = least_more cmp w ws x ∙ ap (λ b. cond b x.cost (least_cost cmp w ws)) (ap is_lt is) in
          let above : cmp (least_cost cmp w ws) x.cost ≡ Less = total.antisymm (least_cost cmp w ws) x.cost ∙ ap ordering_reverse is in
          same_way (made w ws) (made w (ws ++ x ∷ [])) (sym new)
          (hops_then (least_cost cmp w ws) new (hops_at cmp (least_cost cmp w ws) (w ∷ ws))
          (ap (λ t. hops_at cmp (least_cost cmp w ws) (w ∷ ws) ++ t) (not_at_first (least_cost cmp w ws) x [] above) ∙ append-nil (hops_at cmp (least_cost cmp w ws) (w ∷ ws))))

  made_first : (w : Way C) → w ≡ made w []
  made_first w = same_way w (made w []) refl (sym (at_cost w.cost w (tied_itself total w.cost)))

  made_all : (w : Way C) (done left : List (Way C)) → fold (then_way cmp) (Some (made w done)) left ≡ Some (made w (done ++ left))
  made_all w done [] = ap (λ ws. Some (made w ws)) (sym (append-nil done))
  made_all w done (x ∷ xs) =
      ap (λ v. fold (then_way cmp) (Some v) xs) (made_more w done x) ∙ made_all w (done ++ x ∷ []) xs ∙ ap (λ ws. Some (made w ws)) (append_assoc done (x ∷ []) xs)

  -- taken one after another
  pub best_is : (ways : List (Way C)) → fold (then_way cmp) None ways ≡ best_of cmp ways
  best_is [] = refl
  best_is (w ∷ ws) = ap (λ v. fold (then_way cmp) (Some v) ws) (made_first w) ∙ made_all w [] ws

  -- ---- the best as one finds it by asking each

  -- a cost below the least is below each
  record IsBelowAll (k a : C) (ws : List (Way C)) : Type 0 where
    first : cmp k a ≡ Less
    others : All (λ (w : Way C). cmp k w.cost ≡ Less) ws

  below_all : (k a : C) (ws : List (Way C)) → cmp k (fold (λ c (x : Way C). lower cmp c x.cost) a ws) ≡ Less → IsBelowAll k a ws
  below_all k a [] less = record { first = less; others = All-nil (λ (w : Way C). cmp k w.cost ≡ Less) }
  below_all k a (x ∷ xs) less =
      let rest = below_all k (lower cmp a x.cost) xs less in
      let both = below_both k a x.cost rest.first in
      record { first = both.first; others = All-cons (λ (w : Way C). cmp k w.cost ≡ Less) x xs both.second rest.others }

  none_less : (w : Way C) (ws : List (Way C)) → All (λ (x : Way C). is_lt (cmp x.cost (least_cost cmp w ws)) ≡ false) (w ∷ ws)
  none_less w ws k d within = by (cmp c (least_cost cmp w ws)) refl
    where
      c : C
      c = (get_or (w ∷ ws) k d).cost

      by : (o : Ordering) → cmp c (least_cost cmp w ws) ≡ o → is_lt o ≡ false
      by Less is =
          let all = below_all c w.cost ws is in
          let below : cmp c c ≡ Less = All-cons (λ (x : Way C). cmp c x.cost ≡ Less) w ws all.first all.others k d within in
          absurd (true≢false (ap is_eq (sym (tied_itself total c) ∙ below)))
      by Equal is = refl
      by Greater is = refl

  least_there : (a : C) (ws : List (Way C)) → (fold (λ c (x : Way C). lower cmp c x.cost) a ws ≡ a) ⊎ Any (λ (x : Way C). x.cost ≡ fold (λ c (y : Way C). lower cmp c y.cost) a ws) ws
  least_there a [] = inl refl
  least_there a (x ∷ xs) = ⊎_elim (by (is_lt (cmp x.cost a))) (λ there. inr (suc there.0, there.1, omega (arith, there.2), there.3, there.4)) (least_there (lower cmp a x.cost) xs)
    where
      least : C
      least = fold (λ c (y : Way C). lower cmp c y.cost) (lower cmp a x.cost) xs

      by : (b : Bool) → least ≡ cond b x.cost a → (least ≡ a) ⊎ Any (λ (y : Way C). y.cost ≡ least) (x ∷ xs)
      by true is = inr (0, x, omega arith, refl, sym is)
      by false is = inl is

  some_as_much : (w : Way C) (ws : List (Way C)) → Any (λ (x : Way C). x.cost ≡ least_cost cmp w ws) (w ∷ ws)
  some_as_much w ws = ⊎_elim (λ first. (0, w, omega arith, refl, sym first)) (λ there. (suc there.0, there.1, omega (arith, there.2), there.3, there.4)) (least_there w.cost ws)

  -- no way costs less than the best, some one costs as much, and its hops are those of all that do
  pub best_is_best : (ways : List (Way C)) (best : Way C) → best_of cmp ways ≡ Some best → IsBestOf cmp ways best
  best_is_best [] best is = absurd (true≢false (ap is_some (sym is)))
    where
      is_some : Option (Way C) → Bool
      is_some None = false
      is_some (Some v) = true
  best_is_best (w ∷ ws) best is = subst (IsBestOf cmp (w ∷ ws)) (ap (or_first w) is) (record { no_less = none_less w ws; as_much = some_as_much w ws; hops = refl })
    where
      or_first : Way C → Option (Way C) → Way C
      or_first v None = v
      or_first v (Some u) = u

-- at numbers
pub lower_number : (m n : ℕ) → lower nat_cmp m n ≡ min m n
lower_number m n = by (nat_lt n m) refl (n == m)
  where
    by : (less : Bool) → nat_lt n m ≡ less → (same : Bool) → cond (is_lt (cond less Less (cond same Equal Greater))) n m ≡ min m n
    by true is same = grind (arith, common_steps, nat_tests, is)
    by false is true = grind (arith, common_steps, nat_tests, is)
    by false is false = grind (arith, common_steps, nat_tests, is)

pub same_number : (m n : ℕ) → eq_by_cmp nat_cmp m n ≡ (n == m)
same_number m n = by (nat_lt m n) refl (m == n) refl
  where
    by : (less : Bool) → nat_lt m n ≡ less → (same : Bool) → (m == n) ≡ same → is_eq (cond less Less (cond same Equal Greater)) ≡ (n == m)
    by true is same e = grind (arith, common_steps, nat_tests, is)
    by false is true e = grind (arith, common_steps, nat_tests, e)
    by false is false e = grind (arith, common_steps, nat_tests, e)
