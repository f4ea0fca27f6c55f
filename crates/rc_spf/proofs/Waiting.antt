-- The queue of nodes that wait.
use Rattle.std.proofs.Common.{◌≡◌, ℕ, zero, suc, ◌<◌, ◌≤◌, ◌⊎◌, ◌↔◌, inl, inr, Bool, true, false, List, [], ◌∷◌, length, get_or, set, Option, Some, None, sym, ◌∙◌, ap, subst, arith, refl, Contains, All, IsPermutation, IsTrue, MatchOption, replicate}
use Rattle.std.proofs.lemmas.Bool.Decides.{nat_tests}
use Rattle.std.specs.declared.cmp.Reverse.{Reverse}
use Rattle.std.specs.BinaryHeap.{lt_by_cmp}
use Rattle.std.specs.List.{AllByRecursion}
use Rattle.std.specs.Ordering.{nat_cmp, ordering_then, is_lt}
use Rattle.std.proofs.lemmas.Bool.{cases_eq}
use Rattle.std.proofs.lemmas.List.{get_or-set_same, get_or-set_other, get_or_default, length-replicate}
use Rattle.std.proofs.lemmas.List.Sorted.{Contains-permutation, IsPermutation-sym}
use Rattle.rc_spf.specs.Steps.{HasCost}
use Rattle.rc_spf.specs.Waiting.{is_after, waiting, IsLeastOf, IsQueue, IsNext, IsStillQueue}
use Rattle.rc_spf.proofs.Search.{IsSettled, IsOpen, one_cost, not_both, settled_now, open_before, open_in_range}

not_after : (a b c d : ℕ) → is_lt (ordering_then (nat_cmp b a) (nat_cmp d c)) ≡ false → a ≤ b
not_after a b c d is = grind (arith, nat_tests)

-- what is after nothing in a heap waits at the least cost
pub least_of : (x : Reverse (ℕ × ℕ)) (xs : List (Reverse (ℕ × ℕ))) → AllByRecursion (λ y. lt_by_cmp is_after x y ≡ false) xs →
    (k : ℕ) (d : ℕ × ℕ) → k < length (waiting xs) → x.0.0 ≤ (get_or (waiting xs) k d).0
least_of x [] all k d lt = absurd (omega arith)
least_of x (y ∷ ys) all zero d lt = not_after x.0.0 y.0.0 x.0.1 y.0.1 all.0
least_of x (y ∷ ys) all (suc k) d lt = least_of x ys all.1 k d (omega arith)

pub heap_least : (x : Reverse (ℕ × ℕ)) (xs : List (Reverse (ℕ × ℕ))) → AllByRecursion (λ y. lt_by_cmp is_after x y ≡ false) xs → 0 < length xs → x ≡ get_or xs 0 x →
    IsLeastOf (Some x.0.0) (waiting xs)
heap_least x [] all lt is = absurd (omega arith)
heap_least x (y ∷ ys) all lt is = ((x.0.1, (0, omega arith, ap (λ (w : Reverse (ℕ × ℕ)). w.0) (sym is))), λ k d l. least_of x (y ∷ ys) all k d l)

abbrev Queue : Type 0
Queue = List (ℕ × ℕ)

cons_cases : (p : ℕ × ℕ) (queue : Queue) (q : ℕ × ℕ) → Contains (p ∷ queue) q → (p ≡ q) ⊎ Contains queue q
cons_cases p queue q (zero, lt, is) = inl is
cons_cases p queue q (suc k, lt, is) = inr (k, omega arith, is)

cons_later : (p : ℕ × ℕ) (queue : Queue) (q : ℕ × ℕ) → Contains queue q → Contains (p ∷ queue) q
cons_later p queue q (k, lt, is) = (suc k, omega arith, is)

-- what waits, before and after one came in or went out
pub joins : (p : ℕ × ℕ) (queue queue' : Queue) → IsPermutation (p ∷ queue) queue' → (q : ℕ × ℕ) → (p ≡ q) ⊎ Contains queue q → Contains queue' q
joins p queue queue' perm q (inl is) = Contains-permutation (p ∷ queue) queue' q perm (0, omega arith, is)
joins p queue queue' perm q (inr has) = Contains-permutation (p ∷ queue) queue' q perm (cons_later p queue q has)

pub parts : (p : ℕ × ℕ) (queue queue' : Queue) → IsPermutation (p ∷ queue) queue' → (q : ℕ × ℕ) → Contains queue' q → (p ≡ q) ⊎ Contains queue q
parts p queue queue' perm q has = cons_cases p queue q (Contains-permutation queue' (p ∷ queue) q (IsPermutation-sym (p ∷ queue) queue' perm) has)

pub cost_in_range : (costs : List (Option ℕ)) (k x : ℕ) → HasCost costs k x → k < length costs
cost_in_range [] k x has = absurd (cc)
cost_in_range (c ∷ costs) zero x has = omega arith
cost_in_range (c ∷ costs) (suc k) x has = let lt : k < length costs = cost_in_range costs k x has in omega arith

pub still_further : (queue queue' queue'' : Queue) (costs costs' costs'' : List (Option ℕ)) →
    IsStillQueue queue queue' costs costs' → IsStillQueue queue' queue'' costs' costs'' → IsStillQueue queue queue'' costs costs''
still_further queue queue' queue'' costs costs' costs'' a b = record { still = λ settled q. b.still settled (a.still settled q) }

-- a cost was lowered, and its node waits at it
pub lowered : (queue queue' : Queue) (costs : List (Option ℕ)) (at sum : ℕ) → at < length costs → IsPermutation ((sum, at) ∷ queue) queue' →
    ((y : ℕ) → HasCost costs at y → sum < y) → IsStillQueue queue queue' costs (set costs at (Some sum))
lowered queue queue' costs at sum lt perm less = record { still = λ settled q. record { open_waits = open_waits settled q; no_lower = no_lower settled q } }
  where
    now : HasCost (set costs at (Some sum)) at sum
    now = get_or-set_same costs at (Some sum) None lt

    open_waits : (settled : List Bool) → IsQueue queue costs settled → (k x : ℕ) → IsOpen settled k → HasCost (set costs at (Some sum)) k x → Contains queue' (x, k)
    open_waits settled q k x is has = elim (cases_eq k at) [
      | inl same ↦ joins (sum, at) queue queue' perm (x, k) (inl
          (let e : sum ≡ x = one_cost (set costs at (Some sum)) at sum x now (subst (λ n. HasCost (set costs at (Some sum)) n x) same has) in
          ap (λ n. (n, at)) e ∙ ap (λ n. (x, n)) (sym same)))
      | inr other ↦ joins (sum, at) queue queue' perm (x, k) (inr (q.open_waits k x is (sym (get_or-set_other costs at k (Some sum) None other) ∙ has)))
    ]

    no_lower : (settled : List Bool) → IsQueue queue costs settled → (k y : ℕ) → Contains queue' (y, k) → (x : ℕ) × HasCost (set costs at (Some sum)) k x × (x ≤ y)
    no_lower settled q k y has = elim (parts (sum, at) queue queue' perm (y, k) has) [
      | inl same ↦ (sum, subst (λ n. HasCost (set costs at (Some sum)) n sum) (ap (λ (p : ℕ × ℕ). p.1) same) now, let e : sum ≡ y = ap (λ (p : ℕ × ℕ). p.0) same in omega arith)
      | inr old ↦ (let (x, cost, le) = q.no_lower k y old in elim (cases_eq k at) [
        | inl same ↦ (
          sum,
          subst (λ n. HasCost (set costs at (Some sum)) n sum) (sym same) now,
          let l : sum < x = less x (subst (λ n. HasCost costs n x) same cost) in omega arith,
        )
        | inr other ↦ (x, get_or-set_other costs at k (Some sum) None other ∙ cost, le)
      ])
    ]

-- what went out of the queue was settled
pub skipped : (queue left : Queue) (costs : List (Option ℕ)) (settled : List Bool) (cost node : ℕ) → IsQueue queue costs settled →
    IsPermutation queue ((cost, node) ∷ left) → IsSettled settled node → IsQueue left costs settled
skipped queue left costs settled cost node q perm is = record {
  open_waits = open_waits;
  no_lower = λ k y has. q.no_lower k y (joins (cost, node) left queue perm' (y, k) (inr has));
}
  where
    perm' : IsPermutation ((cost, node) ∷ left) queue
    perm' = IsPermutation-sym queue ((cost, node) ∷ left) perm

    open_waits : (k x : ℕ) → IsOpen settled k → HasCost costs k x → Contains left (x, k)
    open_waits k x still has = elim (parts (cost, node) left queue perm' (x, k) (q.open_waits k x still has)) [
      | inl same ↦ absurd (not_both settled k (subst (λ n. IsSettled settled n) (ap (λ (p : ℕ × ℕ). p.1) same) is) still)
      | inr later ↦ later
    ]

-- what went out of the queue was open, so it is the nearest
pub taken : (queue left : Queue) (costs : List (Option ℕ)) (settled : List Bool) (cost node : ℕ) → IsQueue queue costs settled →
    IsPermutation queue ((cost, node) ∷ left) → All (λ (q : ℕ × ℕ). cost ≤ q.0) queue → IsOpen settled node → IsNext left costs settled node cost
taken queue left costs settled cost node q perm least is = record {
  nearest = record { in_range = open_in_range settled node is; is_open = is; has_cost = has_cost; least = λ k y lt still has. at_most (y, k) (q.open_waits k y still has) };
  queue = record { open_waits = open_waits; no_lower = λ k y has. q.no_lower k y (joins (cost, node) left queue perm' (y, k) (inr has)) };
}
  where
    perm' : IsPermutation ((cost, node) ∷ left) queue
    perm' = IsPermutation-sym queue ((cost, node) ∷ left) perm

    at_most : (p : ℕ × ℕ) → Contains queue p → cost ≤ p.0
    at_most p (k, lt, same) = subst (λ (r : ℕ × ℕ). cost ≤ r.0) same (least k p lt)

    has_cost : HasCost costs node cost
    has_cost =
        let (x, has, le) = q.no_lower node cost (joins (cost, node) left queue perm' (cost, node) (inl refl)) in
        let ge : cost ≤ x = at_most (x, node) (q.open_waits node x is has) in
        subst (λ n. HasCost costs node n) (let e : x ≡ cost = omega arith in e) has

    open_waits : (k x : ℕ) → IsOpen (set settled node true) k → HasCost costs k x → Contains left (x, k)
    open_waits k x still has = elim (parts (cost, node) left queue perm' (x, k) (q.open_waits k x (open_before settled node k still) has)) [
      | inl same ↦ absurd (not_both (set settled node true) k
          (subst (λ n. IsSettled (set settled node true) n) (ap (λ (p : ℕ × ℕ). p.1) same) (settled_now settled node (open_in_range settled node is))) still)
      | inr later ↦ later
    ]

-- the node that went out is one of the graph
pub waits_in_range : (queue left : Queue) (costs : List (Option ℕ)) (settled : List Bool) (cost node : ℕ) → length costs ≡ length settled → IsQueue queue costs settled →
    IsPermutation queue ((cost, node) ∷ left) → node < length settled
waits_in_range queue left costs settled cost node len q perm =
    let (x, has, le) = q.no_lower node cost (joins (cost, node) left queue (IsPermutation-sym queue ((cost, node) ∷ left) perm) (cost, node) (inl refl)) in
    let lt : node < length costs = cost_in_range costs node x has in omega arith

pub settled_at : (settled : List Bool) (node : ℕ) (d : Bool) → node < length settled → get_or settled node d ≡ true → IsSettled settled node
settled_at settled node d lt is = get_or_default settled node false d lt ∙ is

pub open_at : (settled : List Bool) (node : ℕ) (d : Bool) → node < length settled → get_or settled node d ≡ false → IsOpen settled node
open_at settled node d lt is = get_or_default settled node true d lt ∙ is

-- what the test whether a sum is lower says
pub lower_at : (costs : List (Option ℕ)) (at sum : ℕ) (d : Option ℕ) (answer : Bool) → at < length costs → answer ≡ true →
    MatchOption (get_or costs at d) (IsTrue answer) (λ old. IsTrue answer ↔ (sum < old)) → (y : ℕ) → HasCost costs at y → sum < y
lower_at costs at sum d answer lt is test y has =
    (subst (λ (o : Option ℕ). MatchOption o (IsTrue answer) (λ old. IsTrue answer ↔ (sum < old))) (get_or_default costs at d None lt ∙ has) test).0 is

-- at the start the root alone waits
pub first_waits : (costs : List (Option ℕ)) (queue queue' : Queue) (settled : List Bool) (root nodes : ℕ) → root < nodes →
    costs ≡ set (replicate nodes None) root (Some 0) → queue ≡ [] → IsPermutation ((0, root) ∷ queue) queue' → IsQueue queue' costs settled
first_waits costs queue queue' settled root nodes lt same empty perm =
    subst (λ k. IsQueue queue' k settled) (sym same)
    ((lowered queue queue' unreached root 0 in_range perm (λ y has. absurd (no_cost nodes root y has))).still settled (record {
      open_waits = λ k x is has. absurd (no_cost nodes k x has);
      no_lower = λ k y has. absurd (let (j, bad, e) = subst (λ (l : Queue). Contains l (y, k)) empty has in omega arith);
    }))
  where
    no_cost : (n k x : ℕ) → HasCost (replicate n None) k x → ⊥
    no_cost zero k x has = cc
    no_cost (suc n) zero x has = cc
    no_cost (suc n) (suc k) x has = no_cost n k x has

    unreached : List (Option ℕ)
    unreached = replicate nodes None

    in_range : root < length unreached
    in_range = let e : length unreached ≡ nodes = length-replicate nodes None in omega arith

-- a turn of the search
pub queue_turn : (left queue' : Queue) (costs costs₁ costs₂ new costs' : List (Option ℕ)) (settled settled₁ : List Bool) (node cost : ℕ) →
    costs₁ ≡ costs → settled₁ ≡ settled → IsNext left costs₁ settled₁ node cost → costs₂ ≡ costs → IsStillQueue left queue' costs₂ new → costs' ≡ new →
    IsQueue queue' costs' (set settled node true)
queue_turn left queue' costs costs₁ costs₂ new costs' settled settled₁ node cost a b next c still d =
    subst (λ k. IsQueue queue' k (set settled node true)) (sym d) (still.still (set settled node true)
    (subst (λ k. IsQueue left k (set settled node true)) (a ∙ sym c) (subst (λ s. IsQueue left costs₁ (set s node true)) b next.queue)))
