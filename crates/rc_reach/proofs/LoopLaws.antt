-- The headers that loop are those with a chain of as many moves as there are positions.
use Rattle.std.proofs.Common.{refl, ◌≡◌, ap, sym, ◌∙◌, subst, ℕ, zero, suc, true, List, [], ◌∷◌, length}
use Rattle.std.specs.Prelude.{◌↔◌}
use Rattle.std.specs.List.{list_any}
use Rattle.std.proofs.lemmas.Bool.{and_parts, and_from}
use Rattle.rc_base.proofs.KeepLaws.{In, any_yes}
use Rattle.rc_base.specs.Header.{IsHeader}
use Rattle.rc_base.specs.declared.header.Header.{Header}
use Rattle.rc_base.specs.declared.position.Pos.{Pos}
use Rattle.rc_config.specs.Lawful.{IsPosition}
use Rattle.rc_config.specs.Members.{positions}
use Rattle.rc_sets.proofs.LongestLaws.{any-in}
use Rattle.rc_trees.specs.Recipes.{IsOfReduced, Recipe, and, has, tree}
use Rattle.rc_trees.specs.Trees.{IsReduced}
use Rattle.rc_trees.proofs.RecipeLaws.{every, has-and, has-union_of, of_reduced-union_of, reduced-tree}
use Rattle.rc_moves.specs.Moves.{DataPlane}
use Rattle.rc_moves.specs.Walks.{AreMoves, HasChain, IsLooping}
use Rattle.rc_router_sets.specs.Edges.{edge}
use Rattle.rc_router_sets.specs.Planes.{IsPlane}
use Rattle.rc_router_sets.proofs.EdgeLaws.{has-edge}
use Rattle.rc_router_sets.proofs.MoveLaws.{edge_is_move}
use Rattle.rc_router_sets.proofs.PositionLaws.{move_there}
use Rattle.rc_router_sets.proofs.ReducedLaws.{of_reduced-edge}
use Rattle.rc_reach.specs.Loops.{going_on, looping}
use Rattle.rc_walk.proofs.ChainLaws.{chain_is_loop}

module _ (plane : DataPlane) (ok : IsPlane plane) where
  abbrev all : List Pos
  all = positions plane.network

  -- one move to t, and so many from there
  abbrev pub moving : ℕ → Pos → Pos → Recipe
  moving k q t = and (edge plane q t) (going_on plane k t)

  pub of_reduced-going_on : (k : ℕ) (q : Pos) → IsOfReduced (going_on plane k q)
  unfolding going_on
  of_reduced-going_on zero q = tt
  of_reduced-going_on (suc k) q = of_reduced-union_of (moving k q) all (every (moving k q) (λ t. (of_reduced-edge plane ok q t, of_reduced-going_on k t)) all)

  pub reduced-going_on : (k : ℕ) (q : Pos) → IsReduced (tree (going_on plane k q))
  reduced-going_on k q = reduced-tree (going_on plane k q) (of_reduced-going_on k q)

  module _ (h : Header) (header : IsHeader h) where
    one_more : (k : ℕ) (q : Pos) → has (going_on plane (suc k) q) h ≡ list_any (λ t. has (moving k q t) h) all
    unfolding going_on
    one_more k q = has-union_of (moving k q) h all

    chain : (k : ℕ) (q : Pos) → has (going_on plane k q) h ≡ true → HasChain plane h q k
    chain zero q is = record { steps = []; as_many = refl; each = tt }
    chain (suc k) q is =
        let one = any_yes (λ t. has (moving k q t) h) all (sym (one_more k q) ∙ is) in
        let t = one.0 in
        let parts = and_parts (has (edge plane q t) h) (has (going_on plane k t) h) (sym (has-and h (edge plane q t) (going_on plane k t)) ∙ one.2) in
        let rest = chain k t parts.1 in
        record { steps = t ∷ rest.steps; as_many = ap suc rest.as_many; each = ((edge_is_move plane h q t ok header).0 parts.0, rest.each) }

    goes_on : (q : Pos) (ts : List Pos) → AreMoves plane h q ts → has (going_on plane (length ts) q) h ≡ true
    unfolding going_on
    goes_on q [] are = refl
    goes_on q (t ∷ ts) are =
        let moves_there : has (edge plane q t) h ≡ true = (edge_is_move plane h q t ok header).1 are.0 in
        let there : In t all = move_there plane ok h header q t (sym (has-edge plane ok h header q t) ∙ moves_there) in
        one_more (length ts) q
        ∙ any-in (λ t. has (moving (length ts) q t) h) t all there (has-and h (edge plane q t) (going_on plane (length ts) t) ∙ and_from _ _ moves_there (goes_on t ts are.1))

    -- so many rounds hold the headers with a chain of so many moves
    pub going_on_is_chain : (k : ℕ) (q : Pos) → (has (going_on plane k q) h ≡ true) ↔ HasChain plane h q k
    going_on_is_chain k q = (chain k q, λ c. subst (λ n. has (going_on plane n q) h ≡ true) c.as_many (goes_on q c.steps c.each))

    -- and as many as there are positions those that loop
    pub looping_is_loop : (q : Pos) → IsPosition plane.network q → (has (looping plane q) h ≡ true) ↔ IsLooping plane h q
    unfolding looping
    looping_is_loop q there =
        let law = going_on_is_chain (length all) q in
        let loop = chain_is_loop plane h ok.links q there in
        (λ is. loop.0 (law.0 is), λ l. law.1 (loop.1 l))
