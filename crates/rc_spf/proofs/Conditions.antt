-- What the conditions on a graph give.
use Rattle.std.proofs.Common.{◌≡◌, ℕ, ◌+◌, ◌^◌, ◌<◌, ◌≤◌, List, length, All, Contains, arith, Option, Some, None, Bool, true, false, replicate, set, take, drop, ◌++◌, ap, sym, subst, ◌∙◌}
use Rattle.std.proofs.lemmas.List.{take_at}
use Rattle.std.proofs.lemmas.List.Elements.{All-contains}
use Rattle.rc_spf.specs.declared.graph.Edge.{Edge}
use Rattle.rc_spf.specs.declared.graph.Graph.{Graph}
use Rattle.rc_spf.specs.Steps.{IsNearest, NoneNearest, IsRelaxed, HasShortWalks, cost_to_enter}
use Rattle.rc_spf.proofs.Search.{IsFit, IsSearch, open_cost, cost_settled, search_step}
use Rattle.rc_spf.proofs.Found.{search_start}

pub fit_of : (edges : List Edge) (nodes : ℕ) → All (λ (e : Edge). (e.from < nodes) × (e.to < nodes)) edges → IsFit edges nodes
fit_of edges nodes ends = record {
  from = λ e has. (All-contains (λ (e : Edge). (e.from < nodes) × (e.to < nodes)) edges e ends has).0;
  to = λ e has. (All-contains (λ (e : Edge). (e.from < nodes) × (e.to < nodes)) edges e ends has).1;
}

-- the sum at an edge out of the nearest node fits
pub sum_fits : (graph : Graph) (root u x : ℕ) (costs : List (Option ℕ)) (settled : List Bool) (e : Edge) → HasShortWalks graph →
    IsSearch graph.edges.items root graph.nodes costs settled → IsNearest costs settled (length settled) u x → Contains graph.edges.items e → x + e.cost < 2 ^ 32
sum_fits graph root u x costs settled e short s near has =
    let b : x + open_cost short.dear 0 settled ≤ cost_to_enter short.dear 0 graph.nodes + short.dear u = s.bound short.dear short.dearest u x near.has_cost in
    let o : open_cost short.dear 0 (set settled u true) + short.dear (0 + u) ≡ open_cost short.dear 0 settled = cost_settled short.dear 0 settled u near.is_open in
    let at_u : short.dear (0 + u) ≡ short.dear u = ap short.dear (omega arith) in
    let sum : cost_to_enter short.dear 0 graph.nodes + e.cost < 2 ^ 32 = short.sum e has in omega (arith, b, o, at_u, sum)

-- a list written back whole
pub whole : {X : Type 0} (n : ℕ) (xs ys : List X) → n ≡ length xs → take n (xs ++ drop (length xs) ys) ≡ xs
whole n xs ys same = take_at xs (drop (length xs) ys) n (sym same)

-- what was promised of copies of the lists
pub near_of : (costs costs' : List (Option ℕ)) (settled settled' : List Bool) (u x : ℕ) → costs' ≡ costs → settled' ≡ settled →
    IsNearest costs' settled' (length settled') u x → IsNearest costs settled (length settled) u x
near_of costs costs' settled settled' u x a b near =
    subst (λ s. IsNearest costs s (length s) u x) b (subst (λ k. IsNearest k settled' (length settled') u x) a near)

pub none_of : (costs costs' : List (Option ℕ)) (settled settled' : List Bool) → costs' ≡ costs → settled' ≡ settled →
    NoneNearest costs' settled' (length settled') → NoneNearest costs settled (length settled)
none_of costs costs' settled settled' a b none =
    subst (λ s. NoneNearest costs s (length s)) b (subst (λ k. NoneNearest k settled' (length settled')) a none)

-- a turn of the search, from what its calls promise of copies of the lists
pub turn : (edges : List Edge) (root nodes u x : ℕ) (costs costs₂ costs' new : List (Option ℕ)) (settled : List Bool) →
    IsSearch edges root nodes costs settled → IsNearest costs settled (length settled) u x →
    costs₂ ≡ costs → IsRelaxed edges u x costs₂ new → length new ≡ length costs₂ → costs' ≡ new → IsSearch edges root nodes costs' (set settled u true)
turn edges root nodes u x costs costs₂ costs' new settled s near c₂ r len same =
    subst (λ k. IsSearch edges root nodes k (set settled u true)) (sym same)
    (search_step edges root nodes u x costs new settled s near (subst (λ k. IsRelaxed edges u x k new) c₂ r) (len ∙ ap length c₂))

-- the nearest node is one of the graph
pub near_small : (edges : List Edge) (root nodes u x : ℕ) (costs : List (Option ℕ)) (settled : List Bool) →
    IsSearch edges root nodes costs settled → IsNearest costs settled (length settled) u x → u < nodes
near_small edges root nodes u x costs settled s near = let l : length settled ≡ nodes = s.settled_len in let m : u < length settled = near.in_range in omega arith

-- an end below the number of nodes is below the length of a copy of the costs
pub below_copy : (n nodes : ℕ) (costs copy : List (Option ℕ)) → n < nodes → length costs ≡ nodes → copy ≡ costs → n < length copy
below_copy n nodes costs copy lt len same = let e : length copy ≡ length costs = ap length same in omega arith

-- the search at its start, from lists that are what they are to be
pub start_of : (edges : List Edge) (root nodes : ℕ) (costs : List (Option ℕ)) (settled : List Bool) → root < nodes →
    costs ≡ set (replicate nodes None) root (Some 0) → settled ≡ replicate nodes false → IsSearch edges root nodes costs settled
start_of edges root nodes costs settled lt a b =
    subst (λ k. IsSearch edges root nodes k settled) (sym a)
    (subst (λ k. IsSearch edges root nodes (set (replicate nodes None) root (Some 0)) k) (sym b) (search_start edges root nodes lt))
