-- What a query makes: the headers that reach each position step by step, and of these the ones that may end as asked.
use Rattle.std.specs.Prelude.{◌≡◌, ◌≤◌, true, ℕ, zero, suc, List, map, filter, flat_map, length, if◌then◌else◌}
use Rattle.std.specs.List.{fold}
use Rattle.rc_base.specs.Endings.{all_kinds}
use Rattle.rc_base.specs.Positions.{is_among, same_position}
use Rattle.rc_base.specs.declared.ending.Ends.{Ends}
use Rattle.rc_base.specs.declared.ending.Kind.{Kind}
use Rattle.rc_base.specs.declared.header.Header.{Header}
use Rattle.rc_base.specs.declared.position.Pos.{Pos}
use Rattle.rc_config.specs.Members.{positions}
use Rattle.rc_moves.specs.Moves.{DataPlane}
use Rattle.rc_moves.specs.Walks.{AreMoves, IsWalk, last_position}
use Rattle.rc_moves.specs.declared.walk.Stop.TheVariants.{At}
use Rattle.rc_moves.specs.declared.walk.Walk.{Walk}
use Rattle.rc_trees.specs.Trees.{Tree, never, always}
use Rattle.rc_trees.specs.Recipes.{Recipe, given, and, or, nodes}
use Rattle.rc_router_sets.specs.Edges.{edge, union}
use Rattle.rc_router_sets.specs.Endings.{end}

-- the endings of a set, in their order
abbrev pub kinds_of : Ends → List Kind
kinds_of ends = filter (is_among ends) all_kinds

module _ (plane : DataPlane) (place : Pos) where
  -- the headers that a position has got from the place after so many rounds
  unfoldable pub reached : ℕ → Pos → Recipe
  reached zero q = given (if same_position place q then always else never)
  reached (suc k) q = fold (λ r p. or r (and (reached k p) (edge plane p q))) (reached k q) (positions plane.network)

  -- those that may end as asked at some position after so many rounds
  abbrev pub reaching_after : ℕ → Ends → Recipe
  reaching_after n ends = union (flat_map (λ q. map (λ k. and (reached n q) (end plane q k)) (kinds_of ends)) (positions plane.network))

  -- the headers that may end as asked after as many rounds as there are positions
  unfoldable pub reaching : Ends → Recipe
  reaching ends = reaching_after (length (positions plane.network)) ends

  -- the different trees that a query may make: its nodes
  unfoldable pub query_nodes : Ends → List Tree
  query_nodes ends = nodes (reaching ends)

-- some walk of at most so many steps, each a move of the position before, brings a header from the place to a position
pub record IsBrought (plane : DataPlane) (h : Header) (place : Pos) (k : ℕ) (q : Pos) : Type 0 where
  pub steps : List Pos
  pub few : length steps ≤ k
  pub moves : AreMoves plane h place steps
  pub there : last_position place steps ≡ q

-- a walk of the header from the place, no position twice, may end in one of the endings
pub record IsReaching (plane : DataPlane) (h : Header) (place : Pos) (ends : Ends) : Type 0 where
  pub walk : Walk
  pub kind : Kind
  pub is_walk : IsWalk plane h place walk
  pub stops : walk.stop ≡ At kind
  pub asked : is_among ends kind ≡ true
