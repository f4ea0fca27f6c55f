-- What a query makes: each edge, each ending asked for and each round are among its parts.
use Rattle.std.proofs.Common.{◌≡◌, sym, subst, ℕ, zero, suc, ◌+◌, ◌-◌, ◌≤◌, List, [], ◌∷◌, ◌++◌, map, length, arith}
use Rattle.std.specs.List.{flat_map, fold}
use Rattle.rc_base.proofs.KeepLaws.{In}
use Rattle.rc_base.specs.declared.ending.Ends.{Ends}
use Rattle.rc_base.specs.declared.ending.Kind.{Kind}
use Rattle.rc_base.specs.declared.position.Pos.{Pos}
use Rattle.rc_config.specs.Members.{positions}
use Rattle.rc_moves.specs.Moves.{DataPlane}
use Rattle.rc_sets.proofs.LongestLaws.{map-in}
use Rattle.rc_trees.specs.Trees.{never, HasNodes}
use Rattle.rc_trees.specs.Recipes.{Recipe, given, and, or, parts, Uses}
use Rattle.rc_trees.proofs.PartLaws.{uses-trans, and-first, and-second, fold-first, fold-each, fold-step, nodes_of_parts}
use Rattle.rc_router_sets.specs.Edges.{edge, union}
use Rattle.rc_router_sets.specs.Endings.{end}
use Rattle.rc_router_sets.specs.Query.{kinds_of, query_nodes, reached, reaching}
use Rattle.rc_router_sets.proofs.MemberLaws.{in-flat_map}

-- ---- sets that hops give

-- what a join over hops is made of
pub hop-set : {A : Type 0} (sets : A → List Recipe) (xs : List A) (x : A) (set : Recipe) → In x xs → In set (sets x) → Uses (union (flat_map sets xs)) set
hop-set sets xs x set there given_by = fold-each (λ s. s) (given never) (flat_map sets xs) set (in-flat_map sets x set xs there given_by)

module _ (plane : DataPlane) (place : Pos) where
  abbrev all : List Pos
  all = positions plane.network

  -- what comes to q from p in a round
  abbrev pub coming : ℕ → Pos → Pos → Recipe
  coming k q p = and (reached plane place k p) (edge plane p q)

  -- ---- a round

  pub round-before : (k : ℕ) (q : Pos) → Uses (reached plane place (suc k) q) (reached plane place k q)
  unfolding reached
  round-before k q = fold-first (coming k q) (reached plane place k q) all

  pub round-coming : (k : ℕ) (q p : Pos) → In p all → Uses (reached plane place (suc k) q) (coming k q p)
  unfolding reached
  round-coming k q p there = fold-each (coming k q) (reached plane place k q) all p there

  -- the round's sum over the first positions, with that of one position more
  pub round-step : (k : ℕ) (q : Pos) (ps : List Pos) (p : Pos) (rest : List Pos) → all ≡ ps ++ p ∷ rest → Uses (reached plane place (suc k) q) (or (fold (λ r p. or r (coming k q p)) (reached plane place k q) ps) (coming k q p))
  unfolding reached
  round-step k q ps p rest split =
      subst (λ qs. Uses (fold (λ r p. or r (coming k q p)) (reached plane place k q) qs) (or (fold (λ r p. or r (coming k q p)) (reached plane place k q) ps) (coming k q p))) (sym split)
      (fold-step (coming k q) (reached plane place k q) ps p rest)

  -- earlier rounds are used by later ones
  pub rounds : (n k : ℕ) (q : Pos) → Uses (reached plane place (n + k) q) (reached plane place k q)
  rounds zero k q = subst (λ m. Uses (reached plane place m q) (reached plane place k q)) (let e : k ≡ zero + k = omega arith in e) (λ x there. there)
  rounds (suc n) k q =
      subst (λ m. Uses (reached plane place m q) (reached plane place k q)) (let e : suc (n + k) ≡ suc n + k = omega arith in e)
      (uses-trans (reached plane place (suc (n + k)) q) (reached plane place (n + k) q) (reached plane place k q) (round-before (n + k) q) (rounds n k q))

  -- ---- the result

  module _ (ends : Ends) where
    abbrev last : ℕ
    last = length all

    abbrev answer : Recipe
    answer = reaching plane place ends

    abbrev pub ending : Pos → Kind → Recipe
    ending q k = and (reached plane place last q) (end plane q k)

    pub result-ending : (q : Pos) (k : Kind) → In q all → In k (kinds_of ends) → Uses answer (ending q k)
    unfolding reaching
    result-ending q k there asked =
        fold-each (λ set. set) (given never) (flat_map (λ q. map (ending q) (kinds_of ends)) all) (ending q k)
        (in-flat_map (λ q. map (ending q) (kinds_of ends)) q (ending q k) all there (map-in (ending q) k (kinds_of ends) asked))

    -- the set of each ending that is asked for
    pub result-end : (q : Pos) (k : Kind) → In q all → In k (kinds_of ends) → Uses answer (end plane q k)
    result-end q k there asked = uses-trans answer (ending q k) (end plane q k) (result-ending q k there asked) (and-second (reached plane place last q) (end plane q k))

    -- and where some ending is asked for each round's sets, from the first on to the last
    module _ (some : Kind) (asked : In some (kinds_of ends)) where
      pub result-reached : (k : ℕ) (q : Pos) → k ≤ last → In q all → Uses answer (reached plane place k q)
      result-reached k q le there =
          let later : last - k + k ≡ last = omega arith in
          uses-trans answer (reached plane place last q) (reached plane place k q)
          (uses-trans answer (ending q some) (reached plane place last q) (result-ending q some there asked) (and-first (reached plane place last q) (end plane q some)))
          (subst (λ m. Uses (reached plane place m q) (reached plane place k q)) later (rounds (last - k) k q))

      some_round : (q : Pos) (ps : List Pos) → In q ps → 1 ≤ length ps
      some_round q [] there = absurd there
      some_round q (p ∷ ps) there = omega arith

      -- and each edge between positions
      pub result-edge : (p q : Pos) → In p all → In q all → Uses answer (edge plane p q)
      result-edge p q here there =
          uses-trans answer (reached plane place 1 q) (edge plane p q) (result-reached 1 q (some_round q all there) there)
          (uses-trans (reached plane place 1 q) (coming 0 q p) (edge plane p q) (round-coming 0 q p here) (and-second (reached plane place 0 p) (edge plane p q)))

    -- what the result uses may be made
    pub may_be_made : (r : Recipe) → Uses answer r → HasNodes (query_nodes plane place ends) (parts r)
    unfolding query_nodes
    may_be_made r uses x there is = nodes_of_parts answer x (uses x there) is
