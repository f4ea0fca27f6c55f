-- What is gathered in rounds over numbers makes the trees of the query's recipes, by operations that are among the recipes' own.
use Rattle.std.proofs.Common.{refl, ◌≡◌, ap, sym, ◌∙◌, subst, ℕ, suc, ◌<◌, true, cond, List, [], ◌∷◌, map, length, arith}
use Rattle.std.specs.Prelude.{◌==◌, flat_map}
use Rattle.std.proofs.lemmas.Bool.Decides.{nat_tests, same_from_decides}
use Rattle.rc_base.proofs.KeepLaws.{In}
use Rattle.rc_base.specs.Positions.{same_position}
use Rattle.rc_base.specs.declared.ending.Ends.{Ends}
use Rattle.rc_base.specs.declared.ending.Kind.{Kind}
use Rattle.rc_base.specs.declared.position.Pos.{Pos}
use Rattle.rc_base.specs.declared.position.Pos.TheVariants.{Own}
use Rattle.rc_config.specs.Members as members
use Rattle.rc_trees.specs.Trees.{Tree, never, always, HasNodes}
use Rattle.rc_trees.specs.Recipes.{Recipe, given, and, parts, tree}
use Rattle.rc_moves.specs.Moves.{DataPlane}
use Rattle.rc_moves.proofs.PositionLaws.{same_position-Decides}
use Rattle.rc_jobs.specs.Flows.{edges_to, endings_of, positions}
use Rattle.rc_places.specs.Places.{number_of, position_at}
use Rattle.rc_places.proofs.PlaceLaws.{number_at}
use Rattle.rc_router_sets.specs.Endings.{end}
use Rattle.rc_router_sets.specs.Query.{kinds_of, query_nodes, reached, reaching}
use Rattle.rc_router_sets.proofs.QueryLaws.{coming, may_be_made, result-reached}
use Rattle.rc_edges.specs.Prepare.{edge_at, ends_at}
use Rattle.rc_reach.proofs.Beside.{AreBeside, beside-append, fold-map, in-at, joined, listed, may-joined, tree-joined}
use Rattle.rc_spread.specs.Gathered.{gathered, MayGather}
use Rattle.rc_reach.specs.Rounds.{reached_at, MayRounds}

module _ (plane : DataPlane) where
  abbrev pub count : ℕ
  count = length (members.positions plane.network)

  abbrev at : ℕ → Pos
  at p = position_at plane.network p

  -- each position at one place
  same_place : (p q : ℕ) → p < count → q < count → same_position (at p) (at q) ≡ (p == q)
  same_place p q low high = same_from_decides (same_position (at p) (at q)) (p == q) (same_position-Decides (at p) (at q)) (by_number, by_place)
    where
      equal : (p == q) ≡ true → p ≡ q
      equal e = grind (arith, nat_tests)

      equal_test : p ≡ q → (p == q) ≡ true
      equal_test e = grind (arith, nat_tests)

      by_number : (p == q) ≡ true → at p ≡ at q
      by_number e = ap at (equal e)

      by_place : at p ≡ at q → (p == q) ≡ true
      by_place e = equal_test (sym (number_at plane.network p low) ∙ ap (number_of plane.network) e ∙ number_at plane.network q high)

  module _ (place : Pos) where
    abbrev now : ℕ → ℕ → Tree
    now k q = reached_at plane place k q

    -- ---- a round

    -- at first all headers are at the place
    pub reached-first : (n : ℕ) → n < count → at n ≡ place → (q : ℕ) → q < count → now 0 q ≡ cond (n == q) always never
    unfolding reached
    reached-first n low is q less = ap (λ b. cond b always never) (ap (λ p. same_position p (at q)) (sym is) ∙ same_place n q low less)

    beside-edges : (k q : ℕ) (ns : List ℕ) → AreBeside (now k) (map (coming plane place k (at q)) (map at ns)) (edges_to (edge_at plane) ns q)
    beside-edges k q [] = tt
    beside-edges k q (n ∷ ns) = (refl, beside-edges k q ns)

    -- what comes in a round, as a list of sets
    round-listed : (k : ℕ) (q : Pos) → reached plane place (suc k) q ≡ joined (reached plane place k q) (map (coming plane place k q) (map at (positions count)))
    unfolding reached
    round-listed k q = fold-map (coming plane place k q) (members.positions plane.network) (reached plane place k q) ∙ ap (λ qs. joined (reached plane place k q) (map (coming plane place k q) qs)) (listed plane)

    -- a round more is what all positions send
    pub reached-next : (k q : ℕ) → now (suc k) q ≡ gathered (now k) (now k q) (edges_to (edge_at plane) (positions count) q)
    reached-next k q =
        ap tree (round-listed k (at q))
        ∙ tree-joined (now k) (map (coming plane place k (at q)) (map at (positions count))) (edges_to (edge_at plane) (positions count) q) (beside-edges k q (positions count)) (reached plane place k (at q)) (now k q) refl

    -- ---- the result

    module _ (ends : Ends) where
      abbrev ended : ℕ → Kind → Recipe
      ended q k = and (reached plane place count (at q)) (end plane (at q) k)

      beside-kinds : (q : ℕ) (ks : List Kind) → AreBeside (now count) (map (ended q) ks) (map (λ e. (q, e)) (map (λ k. tree (end plane (at q) k)) ks))
      beside-kinds q [] = tt
      beside-kinds q (k ∷ ks) = (refl, beside-kinds q ks)

      abbrev ended_at : Pos → List Recipe
      ended_at q = map (λ k. and (reached plane place count q) (end plane q k)) (kinds_of ends)

      beside-ends : (ns : List ℕ) → AreBeside (now count) (flat_map ended_at (map at ns)) (endings_of (ends_at plane ends) ns)
      beside-ends [] = tt
      beside-ends (n ∷ ns) =
          beside-append (now count) (ended_at (at n)) (map (λ e. (n, e)) (ends_at plane ends n)) (flat_map ended_at (map at ns)) (endings_of (ends_at plane ends) ns)
          (beside-kinds n (kinds_of ends)) (beside-ends ns)

      result-listed : reaching plane place ends ≡ joined (given never) (flat_map ended_at (map at (positions count)))
      unfolding reaching
      result-listed = ap (λ qs. joined (given never) (flat_map ended_at qs)) (listed plane)

      -- the result's tree is what has come to the endings
      reaching-ending : tree (reaching plane place ends) ≡ gathered (now count) never (endings_of (ends_at plane ends) (positions count))
      reaching-ending =
          ap tree result-listed
          ∙ tree-joined (now count) (flat_map ended_at (map at (positions count))) (endings_of (ends_at plane ends) (positions count)) (beside-ends (positions count)) (given never) never refl

      -- ---- by the query's operations alone

      module _ (may : List Tree) (has : HasNodes may (query_nodes plane place ends)) where
        may_end : MayGather may (now count) never (endings_of (ends_at plane ends) (positions count))
        may_end =
            let all : HasNodes may (parts (reaching plane place ends)) = λ t there is. has t (may_be_made plane place ends (reaching plane place ends) (λ x h. h) t there is) is in
            may-joined (now count) may (flat_map ended_at (map at (positions count))) (endings_of (ends_at plane ends) (positions count)) (beside-ends (positions count)) (given never) never refl
            (subst (λ r. HasNodes may (parts r)) result-listed all)

        may_rounds : (some : Kind) → In some (kinds_of ends) → MayRounds may plane place count
        may_rounds some asked k q further less =
            let there : In (at q) (members.positions plane.network) = in-at (members.positions plane.network) q (Own 0) less in
            let uses = result-reached plane place ends some asked (suc k) (at q) (omega arith) there in
            let all : HasNodes may (parts (reached plane place (suc k) (at q))) = λ t h is. has t (may_be_made plane place ends (reached plane place (suc k) (at q)) uses t h is) is in
            may-joined (now k) may (map (coming plane place k (at q)) (map at (positions count))) (edges_to (edge_at plane) (positions count) q) (beside-edges k q (positions count)) (reached plane place k (at q)) (now k q) refl
            (subst (λ r. HasNodes may (parts r)) (round-listed k (at q)) all)

    -- ---- the same at so many positions

    module _ (m : ℕ) (many : m ≡ count) where
      pub place_next : (k q : ℕ) → now (suc k) q ≡ gathered (now k) (now k q) (edges_to (edge_at plane) (positions m) q)
      place_next k q = subst (λ c. now (suc k) q ≡ gathered (now k) (now k q) (edges_to (edge_at plane) (positions c) q)) (sym many) (reached-next k q)

      module _ (ends : Ends) where
        pub place_result : gathered (now m) never (endings_of (ends_at plane ends) (positions m)) ≡ tree (reaching plane place ends)
        place_result = subst (λ c. gathered (now c) never (endings_of (ends_at plane ends) (positions c)) ≡ tree (reaching plane place ends)) (sym many) (sym (reaching-ending ends))

        module _ (may : List Tree) (has : HasNodes may (query_nodes plane place ends)) where
          pub place_end : MayGather may (now m) never (endings_of (ends_at plane ends) (positions m))
          place_end = subst (λ c. MayGather may (now c) never (endings_of (ends_at plane ends) (positions c))) (sym many) (may_end ends may has)

          pub place_rounds : (some : Kind) → In some (kinds_of ends) → MayRounds may plane place m
          place_rounds some asked = subst (λ c. MayRounds may plane place c) (sym many) (may_rounds ends may has some asked)
