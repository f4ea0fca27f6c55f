-- Between any two routers there is a least walk, or none at all, so that what is kept of the least walks exists.
--
-- The steps are taken one after another. A walk over one step more either does without it, or it goes once over the others to where the
-- step leaves, over the step, and on over the others from where it arrives: what lies between two turns over the step can be left out.
use Rattle.std.proofs.Common.{refl, ◌≡◌, ap, sym, ◌∙◌, subst, ℕ, ◌+◌, ◌<◌, ◌≤◌, ◌⊎◌, inl, inr, List, [], ◌∷◌, ◌++◌, arith}
use Rattle.std.proofs.Math.Decide.{dec_lt, ℕ_discrete}
use Rattle.rc_link_state.specs.declared.step.Step.{Step}
use Rattle.rc_link_state.specs.Walks.{IsWalk, walk_cost, IsLeastWalk}
use Rattle.rc_link_state.proofs.Members.{In, contains_in, in_contains}

module _ (area : ℕ) where
  -- a least walk, or none
  abbrev pub Leads : List Step → ℕ → ℕ → Type 0
  Leads steps r s = ((walk : List Step) × IsLeastWalk steps area r s walk) ⊎ ((walk : List Step) → IsWalk steps area r walk s → ⊥)

  also_walk : (x : Step) (steps : List Step) (r s : ℕ) (walk : List Step) → IsWalk steps area r walk s → IsWalk (x ∷ steps) area r walk s
  also_walk x steps r s [] is = is
  also_walk x steps r s (y ∷ walk) is = (in_contains (x ∷ steps) y (inr (contains_in steps y is.0)), is.1, is.2, also_walk x steps y.to s walk is.3)

  joined : (steps : List Step) (r m s : ℕ) (p q : List Step) → IsWalk steps area r p m → IsWalk steps area m q s → IsWalk steps area r (p ++ q) s
  joined steps r m s [] q first then = subst (λ k. IsWalk steps area k q s) (sym first) then
  joined steps r m s (y ∷ p) q first then = (first.0, first.1, first.2, joined steps y.to m s p q first.3 then)

  joined_cost : (p q : List Step) → walk_cost (p ++ q) ≡ walk_cost p + walk_cost q
  joined_cost [] q = omega arith
  joined_cost (y ∷ p) q = omega (arith, joined_cost p q)

  -- over the others to a step, over it, and on over the others, for so much or less
  record Through (x : Step) (steps : List Step) (r s most : ℕ) : Type 0 where
    pub before : List Step
    pub after : List Step
    pub in_area : x.area ≡ area
    pub to_it : IsWalk steps area r before x.out.router
    pub from_it : IsWalk steps area x.to after s
    pub cost : walk_cost before + x.cost + walk_cost after ≤ most

  -- a walk does without the step, or it can go over it once
  split : (x : Step) (steps : List Step) (r s : ℕ) (walk : List Step) → IsWalk (x ∷ steps) area r walk s → IsWalk steps area r walk s ⊎ Through x steps r s (walk_cost walk)
  split x steps r s [] is = inl is
  split x steps r s (y ∷ walk) is = by (contains_in (x ∷ steps) y is.0) (split x steps y.to s walk is.3)
    where
      over_it : x ≡ y → (after : List Step) → IsWalk steps area x.to after s → x.cost + walk_cost after ≤ y.cost + walk_cost walk → Through x steps r s (y.cost + walk_cost walk)
      over_it same after from_it le = record {
        before = [];
        after = after;
        in_area = ap (λ (z : Step). z.area) same ∙ is.1;
        to_it = sym is.2 ∙ sym (ap (λ (z : Step). z.out.router) same);
        from_it = from_it;
        cost = omega (arith, le);
      }

      by : In y (x ∷ steps) → IsWalk steps area y.to walk s ⊎ Through x steps y.to s (walk_cost walk) → IsWalk steps area r (y ∷ walk) s ⊎ Through x steps r s (y.cost + walk_cost walk)
      by (inl same) (inl rest) = inr (over_it same walk (subst (λ (z : Step). IsWalk steps area z.to walk s) (sym same) rest) (let e : x.cost ≡ y.cost = ap (λ (z : Step). z.cost) same in omega arith))
      by (inl same) (inr t) = inr (over_it same t.after t.from_it (let le : walk_cost t.before + x.cost + walk_cost t.after ≤ walk_cost walk = t.cost in omega arith))
      by (inr there) (inl rest) = inl (in_contains steps y there, is.1, is.2, rest)
      by (inr there) (inr t) = inr (record {
        before = y ∷ t.before;
        after = t.after;
        in_area = t.in_area;
        to_it = (in_contains steps y there, is.1, is.2, t.to_it);
        from_it = t.from_it;
        cost = let le : walk_cost t.before + x.cost + walk_cost t.after ≤ walk_cost walk = t.cost in omega arith;
      })

  -- the least walk that goes over the step once, or none does
  record Detour (x : Step) (steps : List Step) (r s : ℕ) : Type 0 where
    pub walk : List Step
    pub is_walk : IsWalk (x ∷ steps) area r walk s
    pub least : (most : ℕ) → Through x steps r s most → walk_cost walk ≤ most

  detour : (x : Step) (steps : List Step) (r s : ℕ) → Leads steps r x.out.router → Leads steps x.to s → Dec (x.area ≡ area) →
      Detour x steps r s ⊎ ((most : ℕ) → Through x steps r s most → ⊥)
  detour x steps r s to_it from_it (no other) = inr (λ most t. other t.in_area)
  detour x steps r s (inr none) from_it (yes here) = inr (λ most t. none t.before t.to_it)
  detour x steps r s (inl p) (inr none) (yes here) = inr (λ most t. none t.after t.from_it)
  detour x steps r s (inl p) (inl q) (yes here) = inl (record {
    walk = p.0 ++ x ∷ q.0;
    is_walk = joined (x ∷ steps) r x.out.router s p.0 (x ∷ q.0) (also_walk x steps r x.out.router p.0 p.1.is_walk)
        (in_contains (x ∷ steps) x (inl refl), here, refl, also_walk x steps x.to s q.0 q.1.is_walk);
    least = λ most t.
        (let first : walk_cost p.0 ≤ walk_cost t.before = p.1.least t.before t.to_it in
        let then : walk_cost q.0 ≤ walk_cost t.after = q.1.least t.after t.from_it in
        let all : walk_cost t.before + x.cost + walk_cost t.after ≤ most = t.cost in
        let sum : walk_cost (p.0 ++ x ∷ q.0) ≡ walk_cost p.0 + (x.cost + walk_cost q.0) = joined_cost p.0 (x ∷ q.0) in omega arith);
  })

  one_step_more : (x : Step) (steps : List Step) (r s : ℕ) → Leads steps r s → Detour x steps r s ⊎ ((most : ℕ) → Through x steps r s most → ⊥) → Leads (x ∷ steps) r s
  one_step_more x steps r s (inr none) (inr never) = inr (λ walk is. elim (split x steps r s walk is) [ inl without ↦ none walk without | inr t ↦ never (walk_cost walk) t ])
  one_step_more x steps r s (inr none) (inl d) = inl (
    d.walk,
    record {
      is_walk = d.is_walk;
      least = λ other is. elim (split x steps r s other is) [ inl without ↦ absurd (none other without) | inr t ↦ d.least (walk_cost other) t ];
    },
  )
  one_step_more x steps r s (inl w) (inr never) = inl (
    w.0,
    record {
      is_walk = also_walk x steps r s w.0 w.1.is_walk;
      least = λ other is. elim (split x steps r s other is) [ inl without ↦ w.1.least other without | inr t ↦ absurd (never (walk_cost other) t) ];
    },
  )
  one_step_more x steps r s (inl w) (inl d) = by (dec_lt (walk_cost d.walk) (walk_cost w.0))
    where
      by : Dec (walk_cost d.walk < walk_cost w.0) → Leads (x ∷ steps) r s
      by (yes less) = inl (
        d.walk,
        record {
          is_walk = d.is_walk;
          least = λ other is. elim (split x steps r s other is) [
            | inl without ↦ (let le : walk_cost w.0 ≤ walk_cost other = w.1.least other without in omega (arith, less))
            | inr t ↦ d.least (walk_cost other) t
          ];
        },
      )
      by (no not_less) = inl (
        w.0,
        record {
          is_walk = also_walk x steps r s w.0 w.1.is_walk;
          least = λ other is. elim (split x steps r s other is) [
            | inl without ↦ w.1.least other without
            | inr t ↦ (let le : walk_cost d.walk ≤ walk_cost other = d.least (walk_cost other) t in
                let not : walk_cost w.0 ≤ walk_cost d.walk = omega (arith, not_less) in omega arith)
          ];
        },
      )

  pub leads : (steps : List Step) (r s : ℕ) → Leads steps r s
  leads [] r s = by (ℕ_discrete r s)
    where
      none : (walk : List Step) → IsWalk [] area r walk s → r ≡ s
      none [] is = is
      none (y ∷ walk) is = absurd (contains_in [] y is.0)

      by : Dec (r ≡ s) → Leads [] r s
      by (yes same) = inl ([], record { is_walk = same; least = λ other is. omega arith })
      by (no other) = inr (λ walk is. other (none walk is))
  leads (x ∷ steps) r s = one_step_more x steps r s (leads steps r s) (detour x steps r s (leads steps r x.out.router) (leads steps x.to s) (ℕ_discrete x.area area))
