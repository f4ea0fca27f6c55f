-- The sets of hops are made of reduced trees.
use Rattle.std.proofs.Common.{◌≤◌, Bool, true, false, List, [], ◌∷◌, map, filter, cond}
use Rattle.std.specs.List.{AllByRecursion}
use Rattle.std.proofs.lemmas.List.Elements.{recursion_from_All}
use Rattle.rc_base.specs.Prefix.{Cidr, IsCidr}
use Rattle.rc_route.specs.declared.route.Hop.{Hop}
use Rattle.rc_fib.specs.Entries.{IsFib}
use Rattle.rc_fib.specs.Entry.{Entry}
use Rattle.rc_trees.specs.Recipes.{IsOfReduced}
use Rattle.rc_trees.specs.Fields.{chain}
use Rattle.rc_trees.proofs.FieldsReduced.{of_reduced-chain}
use Rattle.rc_trees.proofs.RecipeLaws.{of_reduced-union_of, of_reduced-without}
use Rattle.rc_sets.specs.Regions.{is_within, longer_within, region, gives, hop_set}

all-filter : {A : Type 0} (P : A → Type 0) (p : A → Bool) (xs : List A) → AllByRecursion P xs → AllByRecursion P (filter p xs)
all-filter P p [] all = tt
all-filter P p (x ∷ xs) all = by (p x) all.0 (all-filter P p xs all.1)
  where
    by : (b : Bool) → P x → AllByRecursion P (filter p xs) → AllByRecursion P (cond b (x ∷ filter p xs) (filter p xs))
    by true here rest = (here, rest)
    by false here rest = rest

module _ (fib : List Entry) (ordered : IsFib fib) where
  short : (es : List Entry) → AllByRecursion (λ (e : Entry). IsCidr e.prefix) es → AllByRecursion (λ p. IsOfReduced (chain p)) (map (λ (e : Entry). e.prefix) es)
  short [] all = tt
  short (e ∷ es) all = (of_reduced-chain e.prefix all.0.short, short es all.1)

  canonical : AllByRecursion (λ (e : Entry). IsCidr e.prefix) fib
  canonical = recursion_from_All (λ (e : Entry). IsCidr e.prefix) fib ordered.canonical

  of_reduced-region : (p : Cidr) → p.len ≤ 32 → IsOfReduced (region fib p)
  unfolding region
  of_reduced-region p le =
      of_reduced-without chain (chain p) (longer_within fib p) (of_reduced-chain p le)
      (all-filter (λ q. IsOfReduced (chain q)) (is_within p) (map (λ (e : Entry). e.prefix) fib) (short fib canonical))

  regions : (es : List Entry) → AllByRecursion (λ (e : Entry). IsCidr e.prefix) es → AllByRecursion (λ (e : Entry). IsOfReduced (region fib e.prefix)) es
  regions [] all = tt
  regions (e ∷ es) all = (of_reduced-region e.prefix all.0.short, regions es all.1)

  pub of_reduced-hop_set : (x : Hop) → IsOfReduced (hop_set fib x)
  unfolding hop_set
  of_reduced-hop_set x = of_reduced-union_of (λ (e : Entry). region fib e.prefix) (filter (gives x) fib) (regions (filter (gives x) fib) (all-filter (λ (e : Entry). IsCidr e.prefix) (gives x) fib canonical))
