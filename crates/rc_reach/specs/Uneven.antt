-- The headers that arrive by some walk and fail by another one.
use Rattle.std.specs.Prelude.{true, false, List}
use Rattle.rc_base.specs.declared.ending.Ends.{Ends}
use Rattle.rc_base.specs.declared.header.Header.{Header}
use Rattle.rc_base.specs.declared.position.Pos.{Pos}
use Rattle.rc_router_sets.specs.Query.{IsReaching, reaching}
use Rattle.rc_trees.specs.Recipes.{Recipe, and, nodes}
use Rattle.rc_trees.specs.Trees.{Tree}
use Rattle.rc_moves.specs.Moves.{DataPlane}

-- no ending at all
abbrev pub no_ends : Ends
no_ends = record { denied_in = false; accepted = false; no_route = false; null_routed = false; denied_out = false; unreachable = false; exits = false; delivered = false }

-- every ending
abbrev pub all_ends : Ends
all_ends = record { denied_in = true; accepted = true; no_route = true; null_routed = true; denied_out = true; unreachable = true; exits = true; delivered = true }

-- a router takes the packet, or it leaves onto the subnet that holds it
abbrev pub arrivals : Ends
arrivals = record no_ends { accepted = true; delivered = true }

-- the other six endings
abbrev pub failures : Ends
failures = record all_ends { accepted = false; delivered = false }

module _ (plane : DataPlane) (place : Pos) where
  -- the headers of which some walk from the place arrives and some walk, the same or another, fails
  unfoldable pub uneven : Recipe
  uneven = and (reaching plane place arrivals) (reaching plane place failures)

  -- the different trees that may be made for them: their nodes
  unfoldable pub uneven_nodes : List Tree
  uneven_nodes = nodes uneven

-- of the header some walk from the place arrives and some walk, the same or another, fails
pub record IsUneven (plane : DataPlane) (h : Header) (place : Pos) : Type 0 where
  pub arrives : IsReaching plane h place arrivals
  pub fails : IsReaching plane h place failures
