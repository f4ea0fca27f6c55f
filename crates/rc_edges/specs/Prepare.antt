-- The edges and endings of a plane by places, and what a table has to allow for them.
use Rattle.std.specs.Prelude.{◌≡◌, ℕ, ◌<◌, Bool, true, List, filter, length, map}
use Rattle.rc_base.specs.Positions.{is_among}
use Rattle.rc_base.specs.declared.ending.Ends.{Ends}
use Rattle.rc_base.specs.declared.ending.Kind.{Kind}
use Rattle.rc_base.specs.declared.position.Pos.{Pos}
use Rattle.rc_config.specs.Members.{positions}
use Rattle.rc_router_sets.specs.Edges.{edge}
use Rattle.rc_router_sets.specs.Endings.{end}
use Rattle.rc_router_sets.specs.Query.{kinds_of}
use Rattle.rc_places.specs.Places.{position_at}
use Rattle.rc_trees.specs.Recipes.{parts, tree}
use Rattle.rc_trees.specs.Trees.{Tree, HasNodes}
use Rattle.rc_moves.specs.Moves.{DataPlane}

-- the tree of the edge from one place to another
abbrev pub edge_at : DataPlane → ℕ → ℕ → Tree
edge_at plane p q = tree (edge plane (position_at plane.network p) (position_at plane.network q))

-- the trees of some endings at a position
abbrev pub end_trees : DataPlane → Pos → List Kind → List Tree
end_trees plane q ks = map (λ k. tree (end plane q k)) ks

-- the trees of the endings asked for at a place
abbrev pub ends_at : DataPlane → Ends → ℕ → List Tree
ends_at plane ends p = end_trees plane (position_at plane.network p) (kinds_of ends)

-- and of these those of some kinds alone
abbrev pub stops_at : DataPlane → Ends → (Kind → Bool) → ℕ → List Tree
stops_at plane ends these p = end_trees plane (position_at plane.network p) (filter these (kinds_of ends))

-- the parts of each edge from a position may be made
pub record MaySend (may : List Tree) (plane : DataPlane) (q : Pos) : Type 0 where
  pub each : (t : ℕ) → t < length (positions plane.network) → HasNodes may (parts (edge plane q (position_at plane.network t)))

-- and those of each ending asked for there
pub record MayEnd (may : List Tree) (plane : DataPlane) (ends : Ends) (q : Pos) : Type 0 where
  pub each : (k : Kind) → is_among ends k ≡ true → HasNodes may (parts (end plane q k))

-- the parts of each edge of a plane, and of each ending asked for, may be made
pub record MayPrepare (may : List Tree) (plane : DataPlane) (ends : Ends) : Type 0 where
  pub edges : (p : ℕ) → p < length (positions plane.network) → MaySend may plane (position_at plane.network p)
  pub endings : (p : ℕ) → p < length (positions plane.network) → MayEnd may plane ends (position_at plane.network p)
