-- The search at its start and at its end.
use Rattle.std.proofs.Common.{◌≡◌, ℕ, zero, suc, ◌+◌, ◌<◌, ◌≤◌, inl, inr, Bool, false, List, [], ◌∷◌, length, get_or, set, replicate, Option, Some, None, MatchOption, sym, ◌∙◌, ap, subst, arith, refl}
use Rattle.std.proofs.lemmas.List.{get_or-set_same, length-set, length-replicate}
use Rattle.rc_spf.specs.declared.graph.Edge.{Edge}
use Rattle.rc_spf.specs.declared.graph.Graph.{Graph}
use Rattle.rc_spf.specs.Walks.{IsWalk, walk_cost, IsLeastWalk, IsLeastCost}
use Rattle.rc_spf.specs.Steps.{HasCost, NoneNearest, AreBounded, AreDearest, cost_to_enter}
use Rattle.rc_spf.proofs.WalkLaws.{IsClosed, walk_lower}
use Rattle.rc_spf.proofs.Search.{IsSettled, open_cost, IsSearch, one_cost, one_of}

abbrev no_cost : Option ℕ
no_cost = None

-- the costs at the start: 0 at the root alone
pub start_cost : (nodes root k x : ℕ) → root < nodes → HasCost (set (replicate nodes None) root (Some 0)) k x → (k ≡ root) × (x ≡ 0)
start_cost zero root k x lt has = absurd (omega arith)
start_cost (suc n) zero zero x lt has = (refl, cc)
start_cost (suc n) zero (suc k) x lt has = absurd (none_at n k x has)
  where
    none_at : (n k x : ℕ) → HasCost (replicate n None) k x → ⊥
    none_at zero k x has = cc
    none_at (suc n) zero x has = cc
    none_at (suc n) (suc k) x has = none_at n k x has
start_cost (suc n) (suc r) zero x lt has = absurd (cc)
start_cost (suc n) (suc r) (suc k) x lt has =
    let (same, is) = start_cost n r k x (omega arith) has in (ap suc same, is)

pub none_settled : (n k : ℕ) → IsSettled (replicate n false) k → ⊥
none_settled zero k is = cc
none_settled (suc n) zero is = cc
none_settled (suc n) (suc k) is = none_settled n k is

pub all_open : (dear : ℕ → ℕ) (k n : ℕ) → open_cost dear k (replicate n false) ≡ cost_to_enter dear k n
all_open dear k zero = refl
all_open dear k (suc n) = ap (λ m. dear k + m) (all_open dear (suc k) n)

pub search_start : (edges : List Edge) (root nodes : ℕ) → root < nodes → IsSearch edges root nodes (set (replicate nodes None) root (Some 0)) (replicate nodes false)
search_start edges root nodes lt = record {
  costs_len = length-set (replicate nodes None) root (Some 0) ∙ length-replicate nodes None;
  settled_len = length-replicate nodes false;
  root_cost = get_or-set_same (replicate nodes None) root (Some 0) None (long nodes);
  walks = λ k x has. ([], sym (start_cost nodes root k x lt has).0, sym (start_cost nodes root k x lt has).1);
  bound = λ dear dearest k x has. (let z : x ≡ 0 = (start_cost nodes root k x lt has).1 in omega (arith, z, all_open dear 0 nodes));
  bound_settled = λ dear dearest k x is. absurd (none_settled nodes k is);
  followed = λ e x has is. absurd (none_settled nodes e.from is);
  before = λ a b x y is. absurd (none_settled nodes a is);
  has_cost = λ k is. absurd (none_settled nodes k is);
}
  where
    long : (n : ℕ) → root < length (replicate nodes no_cost)
    long n = let e : length (replicate nodes no_cost) ≡ nodes = length-replicate nodes no_cost in omega arith

-- at the end: no open node has a cost
pub record IsDone (edges : List Edge) (root nodes : ℕ) (costs : List (Option ℕ)) (settled : List Bool) : Type 0 where
  pub search : IsSearch edges root nodes costs settled
  pub none : NoneNearest costs settled (length settled)

pub cost_in_range : (costs : List (Option ℕ)) (k x : ℕ) → HasCost costs k x → k < length costs
cost_in_range [] k x has = absurd (cc)
cost_in_range (c ∷ cs) zero x has = omega arith
cost_in_range (c ∷ cs) (suc k) x has = let lt : k < length cs = cost_in_range cs k x has in omega arith

module _ (edges : List Edge) (root nodes : ℕ) (costs : List (Option ℕ)) (settled : List Bool) (done : IsDone edges root nodes costs settled) where
  all_settled : (k x : ℕ) → HasCost costs k x → IsSettled settled k
  all_settled k x has =
      let lt : k < length costs = cost_in_range costs k x has in
      let same : length costs ≡ length settled = done.search.costs_len ∙ sym done.search.settled_len in
      elim (one_of settled k (omega arith)) [
        | inl is ↦ is
        | inr is ↦ absurd (let none : get_or costs k None ≡ None = done.none k (omega arith) is in cc)
      ]

  closed : IsClosed edges costs
  closed e x has cost = done.search.followed e x has (all_settled e.from x cost) cost

  lower : (b : ℕ) (walk : List Edge) → IsWalk edges root walk b → (y : ℕ) × HasCost costs b y × (y ≤ walk_cost walk)
  lower b walk is = let (y, has, le) = walk_lower edges costs closed root b 0 walk is done.search.root_cost in (y, has, omega arith)

  -- a walk whose cost is that of its end is a least one
  least_of : (b : ℕ) (walk : List Edge) → IsWalk edges root walk b → HasCost costs b (walk_cost walk) → IsLeastWalk edges root b walk
  least_of b walk is cost = record {
    is_walk = is;
    least = λ other is'.
        (let (y, has, le) = lower b other is' in let same : y ≡ walk_cost walk = one_cost costs b y (walk_cost walk) has cost in omega arith);
  }

  pub done_cost : (n : ℕ) → MatchOption (get_or costs n None) ((walk : List Edge) → IsWalk edges root walk n → ⊥) (λ c. IsLeastCost edges root n c)
  done_cost n = by_cost (get_or costs n None) refl
    where
      by_cost : (o : Option ℕ) → get_or costs n None ≡ o → MatchOption o ((walk : List Edge) → IsWalk edges root walk n → ⊥) (λ c. IsLeastCost edges root n c)
      by_cost None is = λ walk is'. (let (y, has, le) = lower n walk is' in cc)
      by_cost (Some c) is = (let (walk, is', total) = done.search.walks n c is in
          (walk, least_of n walk is' (subst (λ k. HasCost costs n k) (sym total) is), total))

  -- no cost is more than what entering each node once costs
  pub done_small : (graph : Graph) → edges ≡ graph.edges.items → nodes ≡ graph.nodes → AreBounded costs graph
  done_small graph same as_many = record {
    bound = λ dear dearest n c has.
        (let b : c + open_cost dear 0 settled ≤ cost_to_enter dear 0 nodes =
        done.search.bound_settled dear (subst (λ es. AreDearest es dear) (sym same) dearest) n c (all_settled n c has) has in
        let e : cost_to_enter dear 0 nodes ≡ cost_to_enter dear 0 graph.nodes = ap (cost_to_enter dear 0) as_many in omega (arith, b, e));
  }
