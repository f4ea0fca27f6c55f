-- The rounds over numbers make the trees of the recipes of what loops, by operations that are among the recipes' own.
use Rattle.std.proofs.Common.{refl, ◌≡◌, ap, sym, ◌∙◌, subst, ℕ, zero, suc, ◌<◌, Bool, true, false, ◌&&◌, List, [], ◌∷◌, map, length, All, arith}
use Rattle.std.proofs.lemmas.List.Elements.{All-head, All-tail}
use Rattle.rc_base.proofs.KeepLaws.{In}
use Rattle.rc_base.specs.declared.position.Pos.{Pos}
use Rattle.rc_base.specs.declared.position.Pos.TheVariants.{Own}
use Rattle.rc_config.specs.Lawful.{IsPosition}
use Rattle.rc_config.specs.Members as members
use Rattle.rc_trees.specs.Trees.{Tree, never, HasNodes, IsReduced, value}
use Rattle.rc_trees.specs.Combine as trees
use Rattle.rc_trees.specs.Recipes.{given, parts, tree}
use Rattle.rc_trees.proofs.OneTree.{one_tree}
use Rattle.rc_trees.proofs.RecipeLaws.{reduced-tree}
use Rattle.rc_trees.proofs.ReducedLaws.{reduced-and}
use Rattle.rc_trees.proofs.TreeLaws.{value-and}
use Rattle.rc_moves.specs.Moves.{DataPlane}
use Rattle.rc_jobs.specs.Flows.{edges_to, positions}
use Rattle.rc_places.specs.Places.{number_of, position_at}
use Rattle.rc_places.proofs.PlaceLaws.{number_there}
use Rattle.rc_router_sets.specs.Edges.{edge}
use Rattle.rc_router_sets.specs.Planes.{IsPlane}
use Rattle.rc_edges.specs.Prepare.{edge_at}
use Rattle.rc_router_sets.proofs.ReducedLaws.{of_reduced-edge}
use Rattle.rc_reach.proofs.Beside.{AreBeside, fold-map, in-at, joined, listed, may-joined, tree-joined}
use Rattle.rc_reach.specs.Loops.{going_on, loop_nodes, looping}
use Rattle.rc_reach.proofs.LoopLaws.{moving, reduced-going_on}
use Rattle.rc_reach.proofs.UseLaws.{round_may}
use Rattle.rc_spread.specs.Onward.{onward, turned, MayGoOn}
use Rattle.rc_spread.proofs.PositionLaws.{all_positions}

-- of reduced trees it doesn't matter which one comes first
either_way : (s t : Tree) → IsReduced s → IsReduced t → trees.and s t ≡ trees.and t s
either_way s t r q = one_tree (trees.and s t) (trees.and t s) (reduced-and s t r q) (reduced-and t s q r) (λ bits. value-and bits s t ∙ turn (value s bits) (value t bits) ∙ sym (value-and bits t s))
  where
    turn : (b c : Bool) → (b && c) ≡ (c && b)
    turn true true = refl
    turn true false = refl
    turn false true = refl
    turn false false = refl

module _ (plane : DataPlane) (ok : IsPlane plane) where
  abbrev pub count : ℕ
  count = length (members.positions plane.network)

  abbrev at : ℕ → Pos
  at p = position_at plane.network p

  abbrev now : ℕ → ℕ → Tree
  now k q = onward (edge_at plane) count k q

  beside-edges : (k q : ℕ) → ((p : ℕ) → p < count → tree (going_on plane k (at p)) ≡ now k p) → (ns : List ℕ) → All (λ n. n < count) ns → AreBeside (now k) (map (moving plane ok k (at q)) (map at ns)) (edges_to (turned (edge_at plane)) ns q)
  beside-edges k q known [] all = tt
  beside-edges k q known (n ∷ ns) all = (
    either_way (edge_at plane q n) (tree (going_on plane k (at n))) (reduced-tree (edge plane (at q) (at n)) (of_reduced-edge plane ok (at q) (at n))) (reduced-going_on plane ok k (at n))
        ∙ ap (λ t. trees.and t (edge_at plane q n)) (known n (All-head (λ n. n < count) n ns all)),
    beside-edges k q known ns (All-tail (λ n. n < count) n ns all),
  )

  round-listed : (k : ℕ) (q : Pos) → going_on plane (suc k) q ≡ joined (given never) (map (moving plane ok k q) (map at (positions count)))
  unfolding going_on
  round-listed k q = fold-map (moving plane ok k q) (members.positions plane.network) (given never) ∙ ap (λ qs. joined (given never) (map (moving plane ok k q) qs)) (listed plane)

  -- after k rounds the trees are those of the recipes
  pub going_on-onward : (k q : ℕ) → q < count → tree (going_on plane k (at q)) ≡ now k q
  unfolding going_on onward
  going_on-onward zero q less = refl
  going_on-onward (suc k) q less =
      ap tree (round-listed k (at q))
      ∙ tree-joined (now k) (map (moving plane ok k (at q)) (map at (positions count))) (edges_to (turned (edge_at plane)) (positions count) q) (beside-edges k q (going_on-onward k) (positions count) (all_positions count)) (given never) never refl

  -- by their operations alone
  pub may_go_on : (may : List Tree) → HasNodes may (loop_nodes plane) → MayGoOn may (edge_at plane) count
  may_go_on may has k q further less =
      let there : In (at q) (members.positions plane.network) = in-at (members.positions plane.network) q (Own 0) less in
      let all : HasNodes may (parts (going_on plane (suc k) (at q))) = round_may plane may has (suc k) (omega arith) (at q) there in
      may-joined (now k) may (map (moving plane ok k (at q)) (map at (positions count))) (edges_to (turned (edge_at plane)) (positions count) q) (beside-edges k q (going_on-onward k) (positions count) (all_positions count)) (given never) never refl
      (subst (λ r. HasNodes may (parts r)) (round-listed k (at q)) all)

  -- the result at the number of a place
  pub place_loops : (place : Pos) → IsPosition plane.network place → (n : ℕ) → n ≡ number_of plane.network place → now count n ≡ tree (looping plane place)
  unfolding looping
  place_loops place there n is =
      let law = number_there plane.network place there in
      let low : n < count = (let below = law.0 in omega arith) in
      sym (going_on-onward count n low) ∙ ap (λ p. tree (going_on plane count p)) (ap at is ∙ law.1)
