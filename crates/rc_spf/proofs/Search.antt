-- What the search for shortest paths keeps from turn to turn.
use Rattle.std.proofs.Common.{◌≡◌, ℕ, zero, suc, ◌+◌, ◌<◌, ◌≤◌, ◌⊎◌, inl, inr, Bool, true, false, not, cond, List, [], ◌∷◌, ◌++◌, length, get_or, set, count_by, Option, None, sym, ◌∙◌, ap, subst, arith, refl, Contains}
use Rattle.std.proofs.lemmas.List.{get_or-set_same, length-set}
use Rattle.rc_spf.specs.declared.graph.Edge.{Edge}
use Rattle.rc_spf.specs.Walks.{IsWalk, walk_cost}
use Rattle.rc_spf.specs.Steps.{HasCost, IsNearest, IsRelaxed, AreDearest, cost_to_enter}
use Rattle.rc_spf.proofs.WalkLaws.{walk_push, cost_push}

abbrev pub IsSettled : List Bool → ℕ → Type 0
IsSettled settled k = get_or settled k false ≡ true

abbrev pub IsOpen : List Bool → ℕ → Type 0
IsOpen settled k = get_or settled k true ≡ false

-- what it costs to enter each open node from one on by its dearest edge
abbrev pub open_cost : (ℕ → ℕ) → ℕ → List Bool → ℕ
open_cost dear k [] = 0
open_cost dear k (b ∷ settled) = cond b 0 (dear k) + open_cost dear (suc k) settled

abbrev pub open_count : List Bool → ℕ
open_count settled = count_by not settled

-- the edges lead between the nodes
pub record IsFit (edges : List Edge) (nodes : ℕ) : Type 0 where
  pub from : (e : Edge) → Contains edges e → e.from < nodes
  pub to : (e : Edge) → Contains edges e → e.to < nodes

pub record IsSearch (edges : List Edge) (root nodes : ℕ) (costs : List (Option ℕ)) (settled : List Bool) : Type 0 where
  pub costs_len : length costs ≡ nodes
  pub settled_len : length settled ≡ nodes
  pub root_cost : HasCost costs root 0
  pub walks : (k x : ℕ) → HasCost costs k x → (walk : List Edge) × IsWalk edges root walk k × (walk_cost walk ≡ x)
  pub bound : (dear : ℕ → ℕ) → AreDearest edges dear → (k x : ℕ) → HasCost costs k x → x + open_cost dear 0 settled ≤ cost_to_enter dear 0 nodes + dear k
  pub bound_settled : (dear : ℕ → ℕ) → AreDearest edges dear → (k x : ℕ) → IsSettled settled k → HasCost costs k x → x + open_cost dear 0 settled ≤ cost_to_enter dear 0 nodes
  pub followed : (e : Edge) (x : ℕ) → Contains edges e → IsSettled settled e.from → HasCost costs e.from x → (y : ℕ) × HasCost costs e.to y × (y ≤ x + e.cost)
  pub before : (a b x y : ℕ) → IsSettled settled a → IsOpen settled b → HasCost costs a x → HasCost costs b y → x ≤ y
  pub has_cost : (k : ℕ) → IsSettled settled k → (x : ℕ) × HasCost costs k x

-- a cost is one number
pub one_cost : (costs : List (Option ℕ)) (k x y : ℕ) → HasCost costs k x → HasCost costs k y → x ≡ y
one_cost costs k x y a b = cc

-- a node is not both settled and open
pub not_both : (settled : List Bool) (k : ℕ) → IsSettled settled k → IsOpen settled k → ⊥
not_both [] k a b = cc
not_both (x ∷ xs) zero a b = cc
not_both (x ∷ xs) (suc k) a b = not_both xs k a b

pub one_of : (settled : List Bool) (k : ℕ) → k < length settled → IsSettled settled k ⊎ IsOpen settled k
one_of [] k lt = absurd (omega arith)
one_of (true ∷ xs) zero lt = inl refl
one_of (false ∷ xs) zero lt = inr refl
one_of (x ∷ xs) (suc k) lt = one_of xs k (omega arith)

-- after one node was settled
pub settled_cases : (settled : List Bool) (u k : ℕ) → IsSettled (set settled u true) k → (k ≡ u) ⊎ IsSettled settled k
settled_cases [] u k is = inr is
settled_cases (x ∷ xs) zero zero is = inl refl
settled_cases (x ∷ xs) zero (suc k) is = inr is
settled_cases (x ∷ xs) (suc u) zero is = inr is
settled_cases (x ∷ xs) (suc u) (suc k) is = elim (settled_cases xs u k is) [ inl same ↦ inl (ap suc same) | inr before ↦ inr before ]

pub settled_now : (settled : List Bool) (u : ℕ) → u < length settled → IsSettled (set settled u true) u
settled_now settled u lt = get_or-set_same settled u true false lt

pub open_before : (settled : List Bool) (u k : ℕ) → IsOpen (set settled u true) k → IsOpen settled k
open_before [] u k is = is
open_before (x ∷ xs) zero zero is = absurd (cc)
open_before (x ∷ xs) zero (suc k) is = is
open_before (x ∷ xs) (suc u) zero is = is
open_before (x ∷ xs) (suc u) (suc k) is = open_before xs u k is

pub open_in_range : (settled : List Bool) (k : ℕ) → IsOpen settled k → k < length settled
open_in_range [] k is = absurd (cc)
open_in_range (x ∷ xs) zero is = omega arith
open_in_range (x ∷ xs) (suc k) is = let lt : k < length xs = open_in_range xs k is in omega arith

-- a node that is settled is entered no more
pub cost_settled : (dear : ℕ → ℕ) (k : ℕ) (settled : List Bool) (u : ℕ) → IsOpen settled u → open_cost dear k (set settled u true) + dear (k + u) ≡ open_cost dear k settled
cost_settled dear k [] u is = absurd (cc)
cost_settled dear k (true ∷ settled) zero is = absurd (cc)
cost_settled dear k (false ∷ settled) zero is = let e : dear (k + 0) ≡ dear k = ap dear (omega arith) in omega (arith, e)
cost_settled dear k (b ∷ settled) (suc u) is =
    let e : dear (suc k + u) ≡ dear (k + suc u) = ap dear (omega arith) in omega (arith, e, cost_settled dear (suc k) settled u is)

-- one turn: the nearest open node u, of cost x, is settled, and the edges out of it are followed
pub search_step : (edges : List Edge) (root nodes u x : ℕ) (costs costs' : List (Option ℕ)) (settled : List Bool) →
    IsSearch edges root nodes costs settled → IsNearest costs settled (length settled) u x →
    IsRelaxed edges u x costs costs' → length costs' ≡ length costs → IsSearch edges root nodes costs' (set settled u true)
search_step edges root nodes u x costs costs' settled s near r len = record {
  costs_len = len ∙ s.costs_len;
  settled_len = length-set settled u true ∙ s.settled_len;
  root_cost = root_cost;
  walks = walks;
  bound = bound;
  bound_settled = bound_settled;
  followed = followed;
  before = before;
  has_cost = has_cost;
}
  where
    settled' : List Bool
    settled' = set settled u true

    u_settled : IsSettled settled' u
    u_settled = settled_now settled u near.in_range

    -- a settled node keeps its cost
    keeps : (k : ℕ) → IsSettled settled' k → get_or costs' k None ≡ get_or costs k None
    keeps k is = elim (r.changed k) [
      | inl same ↦ same
      | inr (e, has, from, to, now, less) ↦ elim (settled_cases settled u k is) [
        | inl same ↦ absurd (let l : x + e.cost < x = less x (subst (λ n. HasCost costs n x) (sym same) near.has_cost) in omega arith)
        | inr old ↦ absurd (let (y, cost) = s.has_cost k old in
            let l : x + e.cost < y = less y cost in
            let m : y ≤ x = s.before k u y x old near.is_open cost near.has_cost in omega arith)
      ]
    ]

    was : (k y : ℕ) → IsSettled settled' k → HasCost costs' k y → HasCost costs k y
    was k y is now = sym (keeps k is) ∙ now

    stays : (k y : ℕ) → IsSettled settled' k → HasCost costs k y → HasCost costs' k y
    stays k y is old = keeps k is ∙ old

    -- no cost rises
    lower : (k y b : ℕ) → HasCost costs k y → y ≤ b → (z : ℕ) × HasCost costs' k z × (z ≤ b)
    lower k y b has le = elim (r.changed k) [
      | inl same ↦ (y, same ∙ has, le)
      | inr (e, ce, from, to, now, less) ↦ (x + e.cost, now, let l : x + e.cost < y = less y has in omega arith)
    ]

    root_cost : HasCost costs' root 0
    root_cost = let (z, has, le) = lower root 0 0 s.root_cost (omega arith) in
        subst (λ n. HasCost costs' root n) (omega arith) has

    walks : (k z : ℕ) → HasCost costs' k z → (walk : List Edge) × IsWalk edges root walk k × (walk_cost walk ≡ z)
    walks k z now = elim (r.changed k) [
      | inl same ↦ s.walks k z (sym same ∙ now)
      | inr (e, has, from, to, cost, less) ↦ (let (walk, is, total) = s.walks u x near.has_cost in (
        walk ++ e ∷ [],
        subst (λ n. IsWalk edges root (walk ++ e ∷ []) n) to (walk_push edges root u walk e is has from),
        let same : z ≡ x + e.cost = one_cost costs' k z (x + e.cost) now cost in
            let pushed : walk_cost (walk ++ e ∷ []) ≡ walk_cost walk + e.cost = cost_push walk e in omega arith,
      ))
    ]

    one : (dear : ℕ → ℕ) → open_cost dear 0 settled' + dear (0 + u) ≡ open_cost dear 0 settled
    one dear = cost_settled dear 0 settled u near.is_open

    at_u : (dear : ℕ → ℕ) → AreDearest edges dear → x + open_cost dear 0 settled' ≤ cost_to_enter dear 0 nodes
    at_u dear dearest =
        let b : x + open_cost dear 0 settled ≤ cost_to_enter dear 0 nodes + dear u = s.bound dear dearest u x near.has_cost in
        let same : dear (0 + u) ≡ dear u = ap dear (omega arith) in omega (arith, b, one dear, same)

    bound : (dear : ℕ → ℕ) → AreDearest edges dear → (k z : ℕ) → HasCost costs' k z → z + open_cost dear 0 settled' ≤ cost_to_enter dear 0 nodes + dear k
    bound dear dearest k z now = elim (r.changed k) [
      | inl same ↦ (let b : z + open_cost dear 0 settled ≤ cost_to_enter dear 0 nodes + dear k = s.bound dear dearest k z (sym same ∙ now) in omega (arith, b, one dear))
      | inr (e, has, from, to, cost, less) ↦ (let g : e.cost ≤ dear e.to = dearest e has in
          let h : dear e.to ≡ dear k = ap dear to in
          let same : z ≡ x + e.cost = one_cost costs' k z (x + e.cost) now cost in omega (arith, at_u dear dearest, g, h, same))
    ]

    bound_settled : (dear : ℕ → ℕ) → AreDearest edges dear → (k z : ℕ) → IsSettled settled' k → HasCost costs' k z → z + open_cost dear 0 settled' ≤ cost_to_enter dear 0 nodes
    bound_settled dear dearest k z is now = elim (settled_cases settled u k is) [
      | inl same ↦ (let eq : z ≡ x = one_cost costs k z x (was k z is now) (subst (λ n. HasCost costs n x) (sym same) near.has_cost) in omega (arith, at_u dear dearest, eq))
      | inr old ↦ (let b : z + open_cost dear 0 settled ≤ cost_to_enter dear 0 nodes = s.bound_settled dear dearest k z old (was k z is now) in omega (arith, b, one dear))
    ]

    followed : (e : Edge) (y : ℕ) → Contains edges e → IsSettled settled' e.from → HasCost costs' e.from y → (z : ℕ) × HasCost costs' e.to z × (z ≤ y + e.cost)
    followed e y has is now = elim (settled_cases settled u e.from is) [
      | inl same ↦ (let (z, cost, le) = r.reached e has same in
          let eq : y ≡ x = one_cost costs e.from y x (was e.from y is now) (subst (λ n. HasCost costs n x) (sym same) near.has_cost) in
          (z, cost, omega arith))
      | inr old ↦ (let (z, cost, le) = s.followed e y has old (was e.from y is now) in lower e.to z (y + e.cost) cost le)
    ]

    below : (a y : ℕ) → IsSettled settled' a → HasCost costs' a y → y ≤ x
    below a y is now = elim (settled_cases settled u a is) [
      | inl same ↦ (let eq : y ≡ x = one_cost costs a y x (was a y is now) (subst (λ n. HasCost costs n x) (sym same) near.has_cost) in omega arith)
      | inr old ↦ s.before a u y x old near.is_open (was a y is now) near.has_cost
    ]

    before : (a b y z : ℕ) → IsSettled settled' a → IsOpen settled' b → HasCost costs' a y → HasCost costs' b z → y ≤ z
    before a b y z is open_b ya zb =
        let le : y ≤ x = below a y is ya in
        let is_open : IsOpen settled b = open_before settled u b open_b in
        let le' : x ≤ z = elim (r.changed b) [
          | inl same ↦ near.least b z (open_in_range settled b is_open) is_open (sym same ∙ zb)
          | inr (e, has, from, to, cost, less) ↦ (let same : z ≡ x + e.cost = one_cost costs' b z (x + e.cost) zb cost in omega arith)
        ] in
        omega arith

    has_cost : (k : ℕ) → IsSettled settled' k → (y : ℕ) × HasCost costs' k y
    has_cost k is = elim (settled_cases settled u k is) [
      | inl same ↦ (x, stays k x is (subst (λ n. HasCost costs n x) (sym same) near.has_cost))
      | inr old ↦ (let (y, cost) = s.has_cost k old in (y, stays k y is cost))
    ]
