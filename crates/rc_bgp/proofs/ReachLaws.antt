-- Resolving level by level.
use Rattle.std.proofs.Common.{refl, ◌≡◌, ap, sym, ◌∙◌, ℕ, suc, ◌+◌, ◌-◌, ◌<◌, ◌≤◌, Bool, true, false, cond, ◌||◌, List, [], ◌∷◌, map, Option, Some, None, arith}
use Rattle.std.specs.List.{flat_map, list_any, cons_option}
use Rattle.std.specs.Option.{option_map, option_map_or}
use Rattle.std.specs.Ordering.{nat_cmp}
use Rattle.std.specs.FinMap.{nat_cmp-IsAntisymmetric}
use Rattle.std.proofs.lemmas.List.Folds.{list_any-append}
use Rattle.rc_base.specs.Lists.{in_order}
use Rattle.rc_base.proofs.OrderedLaws.{any-in_order}
use Rattle.rc_base.proofs.FirstSeenLaws.{any-first_seen}
use Rattle.rc_route.specs.Hops.{same_hop}
use Rattle.rc_route.proofs.HopLaws.{same_hop-Decides}
use Rattle.rc_route.specs.declared.route.Hop.{Hop}
use Rattle.rc_route.specs.declared.route.Hop.TheVariants.{Null, Dev, Via}
use Rattle.rc_route.specs.declared.route.Route.{Route}
use Rattle.rc_fib.specs.Entries.{gateway_of}
use Rattle.rc_fib.specs.Forwarding.{has_interface, hops_within, longest, resolve_all, resolve_hop, with_gateway}
use Rattle.rc_bgp.specs.Levels.{is_direct, gateways, gateways_of}
use Rattle.rc_bgp.specs.Reaching.{metric_to, reaches}

-- ---- level by level

abbrev pub within : List Route → ℕ → ℕ → Bool
within table depth a = list_any has_interface (hops_within table depth a)

same_true : (x y : Hop) → same_hop x y ≡ true → x ≡ y
same_true x y e = (same_hop-Decides x y).0 e

through : (g : ℕ) (h : Hop) → has_interface (with_gateway g h) ≡ has_interface h
through g Null = refl
through g (Dev i) = refl
through g (Via f None) = refl
through g (Via f (Some i)) = refl

any_map : {X Y : Type 0} (f : X → Y) (p : Y → Bool) (q : X → Bool) → ((x : X) → p (f x) ≡ q x) → (xs : List X) → list_any p (map f xs) ≡ list_any q xs
any_map f p q same [] = refl
any_map f p q same (x ∷ xs) = ap (λ b. b || list_any p (map f xs)) (same x) ∙ ap (λ b. q x || b) (any_map f p q same xs)

any_flat : {X Y : Type 0} (f : X → List Y) (p : Y → Bool) (xs : List X) → list_any p (flat_map f xs) ≡ list_any (λ x. list_any p (f x)) xs
any_flat f p [] = refl
any_flat f p (x ∷ xs) = list_any-append p (f x) (flat_map f xs) ∙ ap (λ b. list_any p (f x) || b) (any_flat f p xs)

or_false : (b : Bool) → (b || false) ≡ b
or_false true = refl
or_false false = refl

or_turned : (a b c d : Bool) → ((a || b) || (c || d)) ≡ ((a || c) || (b || d))
or_turned true b c d = refl
or_turned false true true d = refl
or_turned false true false d = refl
or_turned false false true d = refl
or_turned false false false d = refl

module _ (f : ℕ → List Hop) where
  abbrev next : Hop → Bool
  next h = option_map_or (λ g. list_any has_interface (f g)) (gateway_of h) false

  hop_any : (h : Hop) → list_any has_interface (resolve_hop f h) ≡ (has_interface h || next h)
  hop_any Null = refl
  hop_any (Dev i) = refl
  hop_any (Via g None) = any_map (with_gateway g) has_interface has_interface (through g) (f g)
  hop_any (Via g (Some i)) = refl

  hops_any : (hops : List Hop) → list_any (λ h. list_any has_interface (resolve_hop f h)) hops ≡ (list_any has_interface hops || list_any (λ g. list_any has_interface (f g)) (gateways hops))
  hops_any [] = refl
  hops_any (h ∷ hs) =
      ap (λ b. b || list_any (λ x. list_any has_interface (resolve_hop f x)) hs) (hop_any h) ∙ ap (λ b. (has_interface h || next h) || b) (hops_any hs)
      ∙ or_turned (has_interface h) (next h) (list_any has_interface hs) (list_any (λ g. list_any has_interface (f g)) (gateways hs))
      ∙ ap (λ b. (has_interface h || list_any has_interface hs) || b) (front (gateway_of h))
    where
      front : (o : Option ℕ) → (option_map_or (λ g. list_any has_interface (f g)) o false || list_any (λ g. list_any has_interface (f g)) (gateways hs)) ≡ list_any (λ g. list_any has_interface (f g)) (cons_option o (gateways hs))
      front None = refl
      front (Some g) = refl

  all_any : (hops : List Hop) → list_any has_interface (resolve_all f hops) ≡ (list_any has_interface hops || list_any (λ g. list_any has_interface (f g)) (gateways hops))
  all_any hops = any-first_seen same_hop same_true has_interface (flat_map (resolve_hop f) hops) ∙ any_flat (resolve_hop f) has_interface hops ∙ hops_any hops

module _ (table : List Route) where
  one_level : (depth a : ℕ) → within table (suc depth) a ≡ (is_direct table a || list_any (within table depth) (gateways_of table a))
  unfolding hops_within
  one_level depth a = by (longest table a)
    where
      by : (o : Option Route) → list_any has_interface (option_map_or (λ (r : Route). resolve_all (hops_within table depth) r.hops) o [])
          ≡ (list_any has_interface (option_map_or (λ (r : Route). r.hops) o []) || list_any (within table depth) (gateways (option_map_or (λ (r : Route). r.hops) o [])))
      by None = refl
      by (Some r) = all_any (hops_within table depth) r.hops

  levels : (depth : ℕ) (xs : List ℕ) → list_any (within table (suc depth)) xs ≡ (list_any (is_direct table) xs || list_any (within table depth) (flat_map (gateways_of table) xs))
  levels depth [] = refl
  levels depth (x ∷ xs) =
      ap (λ b. b || list_any (within table (suc depth)) xs) (one_level depth x) ∙ ap (λ b. (is_direct table x || list_any (within table depth) (gateways_of table x)) || b) (levels depth xs)
      ∙ or_turned (is_direct table x) (list_any (within table depth) (gateways_of table x)) (list_any (is_direct table) xs) (list_any (within table depth) (flat_map (gateways_of table) xs))
      ∙ ap (λ b. (is_direct table x || list_any (is_direct table) xs) || b) (sym (list_any-append (within table depth) (gateways_of table x) (flat_map (gateways_of table) xs)))

  -- one of them is direct
  pub found_level : (depth : ℕ) (xs : List ℕ) (is : Bool) → depth < 16 → list_any (is_direct table) xs ≡ true → list_any (within table (16 - depth)) xs ≡ is → true ≡ is
  found_level depth xs is less here kept =
      let more : 16 - depth ≡ suc (16 - (depth + 1)) = omega arith in
      sym (ap (λ d. list_any (within table d) xs) more ∙ levels (16 - (depth + 1)) xs ∙ ap (λ b. b || list_any (within table (16 - (depth + 1))) (flat_map (gateways_of table) xs)) here) ∙ kept

  -- none is: the gateways are left
  pub next_level : (depth : ℕ) (xs ys : List ℕ) (is : Bool) → depth < 16 → list_any (is_direct table) xs ≡ false → ys ≡ in_order nat_cmp (flat_map (gateways_of table) xs)
      → list_any (within table (16 - depth)) xs ≡ is → list_any (within table (16 - (depth + 1))) ys ≡ is
  next_level depth xs ys is less none are kept =
      let more : 16 - depth ≡ suc (16 - (depth + 1)) = omega arith in
      ap (list_any (within table (16 - (depth + 1)))) are
      ∙ any-in_order nat_cmp nat_cmp-IsAntisymmetric (within table (16 - (depth + 1))) (flat_map (gateways_of table) xs)
      ∙ sym (ap (λ d. list_any (within table d) xs) more ∙ levels (16 - (depth + 1)) xs ∙ ap (λ b. b || list_any (within table (16 - (depth + 1))) (flat_map (gateways_of table) xs)) none) ∙ kept

  -- the address alone
  pub first_level : (a : ℕ) → list_any (within table 16) (a ∷ []) ≡ reaches table a
  first_level a = or_false (reaches table a)

  never : (xs : List ℕ) → list_any (within table 0) xs ≡ false
  unfolding hops_within
  never [] = refl
  never (x ∷ xs) = never xs

  -- no level is left
  pub last_level : (depth : ℕ) (xs : List ℕ) (is : Bool) → 16 ≤ depth → list_any (within table (16 - depth)) xs ≡ is → false ≡ is
  last_level depth xs is past kept =
      let none : 16 - depth ≡ 0 = omega arith in
      sym (ap (λ d. list_any (within table d) xs) none ∙ never xs) ∙ kept

  -- an address that is direct resolves
  pub direct_reaches : (a : ℕ) → is_direct table a ≡ true → true ≡ reaches table a
  direct_reaches a is = sym (one_level 15 a ∙ ap (λ b. b || list_any (within table 15) (gateways_of table a)) is)

  -- ---- the metric, by the route of the address
  pub reached_metric : (a : ℕ) (r : Route) → longest table a ≡ Some r → reaches table a ≡ true → Some r.metric ≡ metric_to table a
  reached_metric a r found is = sym (ap (λ b. cond b (option_map (λ (x : Route). x.metric) (longest table a)) None) is ∙ ap (option_map (λ (x : Route). x.metric)) found)

  pub direct_metric : (a : ℕ) (r : Route) → longest table a ≡ Some r → list_any has_interface r.hops ≡ true → Some r.metric ≡ metric_to table a
  direct_metric a r found is = reached_metric a r found (sym (direct_reaches a (ap (λ o. list_any has_interface (option_map_or (λ (x : Route). x.hops) o [])) found ∙ is)))

  pub unreached_metric : (a : ℕ) → reaches table a ≡ false → None ≡ metric_to table a
  unreached_metric a is = sym (ap (λ b. cond b (option_map (λ (x : Route). x.metric) (longest table a)) None) is)

  pub no_metric : (a : ℕ) → longest table a ≡ None → None ≡ metric_to table a
  no_metric a none = sym (ap (λ o. cond (reaches table a) (option_map (λ (x : Route). x.metric) o) None) none ∙ either (reaches table a))
    where
      either : (b : Bool) → cond b (option_map (λ (x : Route). x.metric) None) None ≡ None
      either true = refl
      either false = refl
