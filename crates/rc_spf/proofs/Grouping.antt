-- Edges in groups by the node that they leave.
use Rattle.std.proofs.Common.{◌≡◌, ◌≢◌, ℕ, zero, suc, ◌+◌, ◌<◌, ◌⊎◌, ◌↔◌, inl, inr, List, [], ◌∷◌, ◌++◌, length, get_or, set, take, Option, None, Vec, sym, ◌∙◌, ap, subst, arith, Contains, All}
use Rattle.std.specs.declared.alloc.Global.{Global}
use Rattle.std.proofs.lemmas.List.{get_or-set_same, get_or-set_other, length-set, take_more}
use Rattle.std.proofs.lemmas.List.Elements.{Contains-push, Contains-append_left, Contains-push_cases, Contains-get_or}
use Rattle.std.proofs.lemmas.Bool.{cases_eq}
use Rattle.rc_spf.specs.declared.graph.Edge.{Edge}
use Rattle.rc_spf.specs.Steps.{HasCost, IsRelaxed, IsGrouped}

pub contains_more : {X : Type 0} (xs : List X) (i : ℕ) (d x : X) → i < length xs →
    Contains (take (i + 1) xs) x ↔ (Contains (take i xs) x ⊎ (get_or xs i d ≡ x))
contains_more xs i d x lt = rw (take_more xs i d lt) (Contains-push_cases (take i xs) (get_or xs i d) x, back)
  where
    back : Contains (take i xs) x ⊎ (get_or xs i d ≡ x) → Contains (take i xs ++ get_or xs i d ∷ []) x
    back (inl has) = Contains-append_left (take i xs) (get_or xs i d ∷ []) x has
    back (inr same) = subst (λ y. Contains (take i xs ++ get_or xs i d ∷ []) y) same (Contains-push (take i xs) (get_or xs i d))

abbrev pub Groups : Type 0
Groups = List (Vec Edge Global)

abbrev pub AllEmpty : Groups → Type 0
AllEmpty groups = (n : ℕ) (d : Vec Edge Global) → n < length groups → (get_or groups n d).items ≡ []

pub empty_more : (groups : Groups) (row : Vec Edge Global) → AllEmpty groups → row.items ≡ [] → AllEmpty (groups ++ row ∷ [])
empty_more [] row all is zero d lt = is
empty_more [] row all is (suc n) d lt = absurd (omega arith)
empty_more (g ∷ groups) row all is zero d lt = all 0 d (omega arith)
empty_more (g ∷ groups) row all is (suc n) d lt = empty_more groups row (λ k e lt'. all (suc k) e (omega arith)) is n d (omega arith)

pub grouped_none : (groups : Groups) (nodes : ℕ) → length groups ≡ nodes → AllEmpty groups → IsGrouped groups [] nodes
grouped_none groups nodes len all = record { len = len; members = λ n d e lt. (to n d e lt, back n d e lt) }
  where
    to : (n : ℕ) (d : Vec Edge Global) (e : Edge) → n < nodes → Contains (get_or groups n d).items e → Contains [] e × (e.from ≡ n)
    to n d e lt has = let none : Contains [] e = subst (λ l. Contains l e) (all n d (omega arith)) has in let (k, bad, same) = none in absurd (omega arith)

    back : (n : ℕ) (d : Vec Edge Global) (e : Edge) → n < nodes → Contains [] e × (e.from ≡ n) → Contains (get_or groups n d).items e
    back n d e lt has = let (k, bad, same) = has.0 in absurd (omega arith)

-- one more edge in its group
pub grouped_more : (groups new : Groups) (edges : List Edge) (i : ℕ) (d : Edge) (row : Vec Edge Global) (r : Vec Edge Global) (nodes : ℕ) →
    i < length edges → IsGrouped groups (take i edges) nodes → (get_or edges i d).from < nodes →
    row.items ≡ (get_or groups (get_or edges i d).from r).items ++ get_or edges i d ∷ [] →
    new ≡ set groups (get_or edges i d).from row → IsGrouped new (take (i + 1) edges) nodes
grouped_more groups new edges i d row r nodes lt g small items is =
    subst (λ l. IsGrouped l (take (i + 1) edges) nodes) (sym is) (record { len = length-set groups at row ∙ g.len; members = members })
  where
    edge : Edge
    edge = get_or edges i d

    at : ℕ
    at = edge.from

    Goal : ℕ → Vec Edge Global → Edge → Type 0
    Goal n dd e = Contains (get_or (set groups at row) n dd).items e ↔ (Contains (take (i + 1) edges) e × (e.from ≡ n))

    more : (e : Edge) → Contains (take (i + 1) edges) e ↔ (Contains (take i edges) e ⊎ (edge ≡ e))
    more e = contains_more edges i d e lt

    here : (dd : Vec Edge Global) (e : Edge) → Goal at dd e
    here dd e = (to, back)
      where
        in_range : at < length groups
        in_range = let l : length groups ≡ nodes = g.len in omega arith

        same_row : (get_or (set groups at row) at dd).items ≡ (get_or groups at r).items ++ edge ∷ []
        same_row = ap (λ (v : Vec Edge Global). v.items) (get_or-set_same groups at row dd in_range) ∙ items

        to : Contains (get_or (set groups at row) at dd).items e → Contains (take (i + 1) edges) e × (e.from ≡ at)
        to has = elim (Contains-push_cases (get_or groups at r).items edge e (subst (λ l. Contains l e) same_row has)) [
          | inl old ↦ ((more e).1 (inl ((g.members at r e small).0 old).0), ((g.members at r e small).0 old).1)
          | inr same ↦ ((more e).1 (inr same), ap (λ (f : Edge). f.from) (sym same))
        ]

        back : Contains (take (i + 1) edges) e × (e.from ≡ at) → Contains (get_or (set groups at row) at dd).items e
        back (has, ends) = subst (λ l. Contains l e) (sym same_row) (elim ((more e).0 has) [
          | inl old ↦ Contains-append_left (get_or groups at r).items (edge ∷ []) e ((g.members at r e small).1 (old, ends))
          | inr same ↦ subst (λ x. Contains ((get_or groups at r).items ++ edge ∷ []) x) same (Contains-push (get_or groups at r).items edge)
        ])

    there : (n : ℕ) (dd : Vec Edge Global) (e : Edge) → n < nodes → n ≢ at → Goal n dd e
    there n dd e ln other = (to, back)
      where
        same_row : get_or (set groups at row) n dd ≡ get_or groups n dd
        same_row = get_or-set_other groups at n row dd other

        to : Contains (get_or (set groups at row) n dd).items e → Contains (take (i + 1) edges) e × (e.from ≡ n)
        to has = let old = (g.members n dd e ln).0 (subst (λ (v : Vec Edge Global). Contains v.items e) same_row has) in ((more e).1 (inl old.0), old.1)

        back : Contains (take (i + 1) edges) e × (e.from ≡ n) → Contains (get_or (set groups at row) n dd).items e
        back (has, ends) = subst (λ (v : Vec Edge Global). Contains v.items e) (sym same_row) (elim ((more e).0 has) [
          | inl old ↦ (g.members n dd e ln).1 (old, ends)
          | inr same ↦ absurd (other (sym ends ∙ ap (λ (f : Edge). f.from) (sym same)))
        ])

    members : (n : ℕ) (dd : Vec Edge Global) (e : Edge) → n < nodes → Goal n dd e
    members n dd e ln = elim (cases_eq n at) [
      | inl same ↦ subst (λ k. Goal k dd e) (sym same) (here dd e)
      | inr other ↦ there n dd e ln other
    ]

-- to follow the edges of a node's group is to follow the edges
pub relaxed_of_group : (groups : Groups) (edges : List Edge) (nodes u x : ℕ) (d : Vec Edge Global) (old new : List (Option ℕ)) → u < nodes →
    IsGrouped groups edges nodes → IsRelaxed (get_or groups u d).items u x old new → IsRelaxed edges u x old new
relaxed_of_group groups edges nodes u x d old new lu g r = record {
  reached = λ e has from. r.reached e ((g.members u d e lu).1 (has, from)) from;
  changed = changed;
}
  where
    changed : (k : ℕ) → (get_or new k None ≡ get_or old k None)
        ⊎ ((e : Edge) × Contains edges e × (e.from ≡ u) × (e.to ≡ k) × HasCost new k (x + e.cost) × ((y : ℕ) → HasCost old k y → x + e.cost < y))
    changed k = elim (r.changed k) [
      | inl same ↦ inl same
      | inr (e, has, from, to, cost, less) ↦ inr (e, ((g.members u d e lu).0 has).0, from, to, cost, less)
    ]

-- what holds of each edge holds of each in a group
pub all_of_group : (groups : Groups) (edges : List Edge) (nodes u : ℕ) (d : Vec Edge Global) (P : Edge → Type 0) → u < nodes →
    IsGrouped groups edges nodes → ((e : Edge) → Contains edges e → P e) → (e : Edge) → Contains (get_or groups u d).items e → P e
all_of_group groups edges nodes u d P lu g each e has = each e ((g.members u d e lu).0 has).0

-- a turn of the loop, from what its calls say
pub grouped_turn : (groups : Groups) (edges : List Edge) (i : ℕ) (d : Edge) (row read : Vec Edge Global) (nodes at : ℕ) →
    i < length edges → IsGrouped groups (take i edges) nodes → All (λ e. e.from < nodes) edges → at ≡ (get_or edges i d).from →
    read ≡ get_or groups at read → row.items ≡ read.items ++ get_or edges i d ∷ [] → IsGrouped (set groups at row) (take (i + 1) edges) nodes
grouped_turn groups edges i d row read nodes at lt g ends same is items =
    grouped_more groups (set groups at row) edges i d row read nodes lt g (ends i d lt)
    (items ∙ ap (λ (v : Vec Edge Global). v.items ++ get_or edges i d ∷ []) (is ∙ ap (λ n. get_or groups n read) same)) (ap (λ n. set groups n row) same)

pub relaxed_in : (groups : Groups) (edges es : List Edge) (nodes u x : ℕ) (v : Vec Edge Global) (old new : List (Option ℕ)) → u < nodes →
    IsGrouped groups edges nodes → v ≡ get_or groups u v → es ≡ v.items → IsRelaxed es u x old new → IsRelaxed edges u x old new
relaxed_in groups edges es nodes u x v old new lu g is same r =
    relaxed_of_group groups edges nodes u x v old new lu g
    (subst (λ l. IsRelaxed l u x old new) (same ∙ ap (λ (w : Vec Edge Global). w.items) is) r)

pub all_in : (P : Edge → Type 0) (groups : Groups) (edges es : List Edge) (nodes u : ℕ) (v : Vec Edge Global) → u < nodes →
    IsGrouped groups edges nodes → v ≡ get_or groups u v → es ≡ v.items → ((e : Edge) → Contains edges e → P e) → All P es
all_in P groups edges es nodes u v lu g is same each k d lt =
    all_of_group groups edges nodes u v P lu g each (get_or es k d)
    (subst (λ l. Contains l (get_or es k d)) (same ∙ ap (λ (w : Vec Edge Global). w.items) is) (Contains-get_or es k d lt))

-- each edge of the group of a node that is left leaves it
pub leaving_in : (groups : Groups) (edges es : List Edge) (nodes u : ℕ) (v : Vec Edge Global) → u < nodes → IsGrouped groups edges nodes → v ≡ get_or groups u v → es ≡ v.items →
    (P : ℕ → Type 0) → ((e : Edge) → Contains edges e → e.from ≡ u → P e.cost) → All (λ (e : Edge). P e.cost) es
leaving_in groups edges es nodes u v lu g is same P each k d lt =
    let has : Contains (get_or groups u v).items (get_or es k d) = subst (λ l. Contains l (get_or es k d)) (same ∙ ap (λ (w : Vec Edge Global). w.items) is) (Contains-get_or es k d lt) in
    let both = (g.members u v (get_or es k d) lu).0 has in each (get_or es k d) both.0 both.1
