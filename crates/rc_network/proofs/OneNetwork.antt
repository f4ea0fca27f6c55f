-- The models of files have one network: entries in byte order of their names are told by what they are.
use Rattle.std.proofs.Common.{refl, ◌≡◌, ◌∙◌, sym, ap, subst, ℕ, Bool, true, false, cond, List, [], ◌∷◌, Some, None}
use Rattle.std.specs.Cmp.Lexicographic.{bytes_decides, slice_cmp, nat_list_cmp_total}
use Rattle.std.specs.FinMap.{slice_cmp-IsAntisymmetric, nat_cmp-IsAntisymmetric}
use Rattle.std.specs.List.{AllByRecursion}
use Rattle.std.specs.List.Sorted.{IsStrictlySortedBy}
use Rattle.std.specs.Map.{keys_of}
use Rattle.std.specs.Option.{unwrap_or}
use Rattle.std.specs.Ordering.{nat_cmp, ordering_reverse}
use Rattle.std.specs.Prelude.{IsPermutation}
use Rattle.std.specs.declared.cmp.Ordering.{Ordering}
use Rattle.std.specs.declared.cmp.Ordering.TheVariants.{Less, Equal, Greater}
use Rattle.std.proofs.lemmas.Cmp.{tied_itself}
use Rattle.std.proofs.lemmas.List.Elements.{All-from_recursion, recursion_from_All}
use Rattle.std.proofs.lemmas.List.Sorted.{All-permutation, IsPermutation-sym, IsPermutation-trans}
use Rattle.std.proofs.lemmas.Option.{none-some}
use Rattle.rc_base.specs.Name.{same_name}
use Rattle.rc_config.specs.Named.{named}
use Rattle.rc_config.specs.declared.router_text.RouterText.{RouterText}
use Rattle.rc_network.specs.Build.{HasOneNetwork}

abbrev order : List ℕ → List ℕ → Ordering
order = slice_cmp nat_cmp

abbrev Routers : Type 0
Routers = List (List ℕ × RouterText)

same_itself : (name : List ℕ) → same_name name name ≡ true
same_itself name = (bytes_decides name name).1 refl

-- a name below another one is not that one
below_differs : (x y : List ℕ) → order x y ≡ Less → same_name x y ≡ false
below_differs x y less = by (same_name x y) refl
  where
    by : (b : Bool) → same_name x y ≡ b → same_name x y ≡ false
    by false e = e
    by true e =
        let same : x ≡ y = (bytes_decides x y).0 e in
        let tied : order x y ≡ Equal = subst (λ z. order x z ≡ Equal) same (tied_itself nat_list_cmp_total x) in
        absurd (cc)

above_differs : (x y : List ℕ) → order x y ≡ Less → same_name y x ≡ false
above_differs x y less = by (same_name y x) refl
  where
    by : (b : Bool) → same_name y x ≡ b → same_name y x ≡ false
    by false e = e
    by true e =
        let same : y ≡ x = (bytes_decides y x).0 e in
        let tied : order x y ≡ Equal = subst (λ z. order x z ≡ Equal) (sym same) (tied_itself nat_list_cmp_total x) in
        absurd (cc)

-- a name below all names is none of them
not_there : (name : List ℕ) (es : Routers) → AllByRecursion (λ y. order name y ≡ Less) (keys_of es) → named es name ≡ None
not_there name [] below = refl
not_there name (e ∷ es) below = ap (λ b. cond b (Some e.1) (named es name)) (below_differs name e.0 below.0) ∙ not_there name es below.1

-- an entry behind the first is found behind it
behind : (e : List ℕ × RouterText) (all es : Routers) → AllByRecursion (λ y. order e.0 y ≡ Less) (keys_of es) → AllByRecursion (λ x. named all x.0 ≡ Some x.1) es → AllByRecursion (λ x. named (e ∷ all) x.0 ≡ Some x.1) es
behind e all [] up found = tt
behind e all (x ∷ es) up found = (ap (λ b. cond b (Some e.1) (named all x.0)) (above_differs e.0 x.0 up.0) ∙ found.0, behind e all es up.1 found.1)

not_first : (e : List ℕ × RouterText) (all es : Routers) → AllByRecursion (λ y. order e.0 y ≡ Less) (keys_of es) → AllByRecursion (λ x. named (e ∷ all) x.0 ≡ Some x.1) es → AllByRecursion (λ x. named all x.0 ≡ Some x.1) es
not_first e all [] up found = tt
not_first e all (x ∷ es) up found = (sym (ap (λ b. cond b (Some e.1) (named all x.0)) (above_differs e.0 x.0 up.0)) ∙ found.0, not_first e all es up.1 found.1)

-- each entry is found under its name
each_found : (es : Routers) → IsStrictlySortedBy order (keys_of es) → AllByRecursion (λ x. named es x.0 ≡ Some x.1) es
unfolding IsStrictlySortedBy
each_found [] up = tt
each_found (e ∷ es) up = (ap (λ b. cond b (Some e.1) (named es e.0)) (same_itself e.0), behind e es es up.0 (each_found es up.1))

same_value : (x y : RouterText) → Some x ≡ Some y → x ≡ y
same_value x y e = ap (λ o. unwrap_or o x) e

-- entries in order of which each is found in the others
one_list : (xs ys : Routers) → IsStrictlySortedBy order (keys_of xs) → IsStrictlySortedBy order (keys_of ys) → AllByRecursion (λ x. named ys x.0 ≡ Some x.1) xs → AllByRecursion (λ y. named xs y.0 ≡ Some y.1) ys → xs ≡ ys
unfolding IsStrictlySortedBy
one_list [] [] up up' there here = refl
one_list [] (y ∷ ys) up up' there here = absurd (none-some y.1 here.0)
one_list (x ∷ xs) [] up up' there here = absurd (none-some x.1 there.0)
one_list (x ∷ xs) (y ∷ ys) up up' there here = by (order x.0 y.0) refl (one_list xs ys up.1 up'.1)
  where
    lower : (a b : List ℕ × RouterText) (es : Routers) → AllByRecursion (λ k. order b.0 k ≡ Less) (keys_of es) → order a.0 b.0 ≡ Less → AllByRecursion (λ k. order a.0 k ≡ Less) (keys_of es)
    lower a b [] up less = tt
    lower a b (e ∷ es) up less = (nat_list_cmp_total.trans a.0 b.0 e.0 less up.0, lower a b es up.1 less)

    by : (o : Ordering) → order x.0 y.0 ≡ o → (AllByRecursion (λ e. named ys e.0 ≡ Some e.1) xs → AllByRecursion (λ e. named xs e.0 ≡ Some e.1) ys → xs ≡ ys) → x ∷ xs ≡ y ∷ ys
    by Less less rest = absurd (none-some x.1 (sym (not_there x.0 (y ∷ ys) (less, lower x y ys up'.0 less)) ∙ there.0))
    by Greater more rest =
        let less : order y.0 x.0 ≡ Less = nat_list_cmp_total.antisymm y.0 x.0 ∙ ap ordering_reverse more in
        absurd (none-some y.1 (sym (not_there y.0 (x ∷ xs) (less, lower y x xs up.0 less)) ∙ here.0))
    by Equal tied rest =
        let names : x.0 ≡ y.0 = slice_cmp-IsAntisymmetric nat_cmp-IsAntisymmetric x.0 y.0 tied in
        let models : y.1 ≡ x.1 = same_value y.1 x.1 (sym (ap (λ b. cond b (Some y.1) (named ys x.0)) ((bytes_decides x.0 y.0).1 names)) ∙ there.0) in
        let heads : x ≡ y = (λ i. (names i, sym models i)) in
        let up_there : AllByRecursion (λ k. order y.0 k ≡ Less) (keys_of xs) = subst (λ n. AllByRecursion (λ k. order n k ≡ Less) (keys_of xs)) names up.0 in
        let up_here : AllByRecursion (λ k. order x.0 k ≡ Less) (keys_of ys) = subst (λ n. AllByRecursion (λ k. order n k ≡ Less) (keys_of ys)) (sym names) up'.0 in
        let tails : xs ≡ ys = rest (not_first y ys xs up_there there.1) (not_first x xs ys up_here here.1) in
        λ i. heads i ∷ tails i

same_entries : (xs ys : Routers) → IsPermutation xs ys → IsStrictlySortedBy order (keys_of xs) → IsStrictlySortedBy order (keys_of ys) → xs ≡ ys
same_entries xs ys moved up up' =
    one_list xs ys up up'
    (recursion_from_All (λ x. named ys x.0 ≡ Some x.1) xs (All-permutation (λ x. named ys x.0 ≡ Some x.1) ys xs (IsPermutation-sym xs ys moved) (All-from_recursion (λ x. named ys x.0 ≡ Some x.1) ys (each_found ys up'))))
    (recursion_from_All (λ y. named xs y.0 ≡ Some y.1) ys (All-permutation (λ y. named xs y.0 ≡ Some y.1) xs ys moved (All-from_recursion (λ y. named xs y.0 ≡ Some y.1) xs (each_found xs up))))

pub one_network : HasOneNetwork
one_network models this that is is' =
    let routers : this.routers ≡ that.routers = same_entries this.routers that.routers (IsPermutation-trans this.routers _ that.routers (IsPermutation-sym _ this.routers is.same) is'.same) is.in_order is'.in_order in
    let cuts : this.cuts ≡ that.cuts = is.uncut ∙ sym is'.uncut in
    λ i. record { routers = routers i; cuts = cuts i }
