-- Laws of walks.
use Rattle.std.proofs.Common.{◌≡◌, ℕ, ◌+◌, ◌≤◌, List, [], ◌∷◌, ◌++◌, Option, sym, ◌∙◌, subst, arith, refl, Contains}
use Rattle.rc_spf.specs.declared.graph.Edge.{Edge}
use Rattle.rc_spf.specs.Walks.{IsWalk, walk_cost}
use Rattle.rc_spf.specs.Steps.{HasCost}

-- a walk with one more edge at its end
pub walk_push : (edges : List Edge) (a b : ℕ) (walk : List Edge) (e : Edge) → IsWalk edges a walk b → Contains edges e → e.from ≡ b → IsWalk edges a (walk ++ e ∷ []) e.to
walk_push edges a b [] e is has from = (has, from ∙ sym is, refl)
walk_push edges a b (f ∷ walk) e is has from = (is.0, is.1, walk_push edges f.to b walk e is.2 has from)

pub cost_push : (walk : List Edge) (e : Edge) → walk_cost (walk ++ e ∷ []) ≡ walk_cost walk + e.cost
cost_push [] e = omega arith
cost_push (f ∷ walk) e = omega (arith, cost_push walk e)

-- each edge out of a node that has a cost leads to one whose cost is no more than the sum
abbrev pub IsClosed : List Edge → List (Option ℕ) → Type 0
IsClosed edges costs = (e : Edge) (x : ℕ) → Contains edges e → HasCost costs e.from x → (y : ℕ) × HasCost costs e.to y × (y ≤ x + e.cost)

-- so no walk costs less than the cost of its end
pub walk_lower : (edges : List Edge) (costs : List (Option ℕ)) → IsClosed edges costs → (a b x : ℕ) (walk : List Edge) →
    IsWalk edges a walk b → HasCost costs a x → (y : ℕ) × HasCost costs b y × (y ≤ x + walk_cost walk)
walk_lower edges costs closed a b x [] is has = (x, subst (λ n. HasCost costs n x) is has, omega arith)
walk_lower edges costs closed a b x (e ∷ walk) is has =
    let has' : HasCost costs e.from x = subst (λ n. HasCost costs n x) (sym is.1) has in
    let (y, there, le) = closed e x is.0 has' in
    let (z, end, le') = walk_lower edges costs closed e.to b y walk is.2 there in
    (z, end, omega arith)
