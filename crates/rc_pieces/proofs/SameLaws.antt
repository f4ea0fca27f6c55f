-- Whether two lists, and what routers know in them, are the same.
use Rattle.std.proofs.Common.{refl, ◌≡◌, ◌⊎◌, ap, ℕ, suc, ◌<◌, List, [], ◌∷◌, length, inl, inr, Some, arith}
use Rattle.std.specs.List.{slice_get}
use Rattle.rc_route.specs.declared.best.Best.{Best}
use Rattle.rc_route.specs.declared.route.Route.{Route}
use Rattle.rc_route.specs.declared.state.RouterState.{RouterState}
use Rattle.rc_pieces.specs.Knowing.{known_as}

-- ---- what a router knows

pub known_differ : (a b : RouterState) → ((length a.table ≡ length b.table) → ⊥) ⊎ ((length a.paths ≡ length b.paths) → ⊥) → a ≡ b → ⊥
known_differ a b (inl differ) is = differ (ap (λ (s : RouterState). length s.table) is)
known_differ a b (inr differ) is = differ (ap (λ (s : RouterState). length s.paths) is)

pub known_same : (tables others : List Route) (paths their : List Best) → tables ≡ others → paths ≡ their → known_as tables paths ≡ known_as others their
known_same tables others paths their same_tables same_paths = λ i. known_as (same_tables i) (same_paths i)

-- ---- element by element

module _ {X : Type 0} where
  -- lists that say the same at each index are one
  pub same_elements : (xs ys : List X) → length xs ≡ length ys → ((k : ℕ) → k < length xs → slice_get xs k ≡ slice_get ys k) → xs ≡ ys
  same_elements [] [] long same = refl
  same_elements [] (y ∷ ys) long same = absurd (omega (arith, long))
  same_elements (x ∷ xs) [] long same = absurd (omega (arith, long))
  same_elements (x ∷ xs) (y ∷ ys) long same =
      let first : x ≡ y = at (same 0 (omega arith)) in
      let rest : xs ≡ ys = same_elements xs ys (omega (arith, long)) (λ k less. same (suc k) (omega arith)) in
      cc
    where
      at : Some x ≡ Some y → x ≡ y
      at e = cc
