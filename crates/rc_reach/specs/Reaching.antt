-- Sets of exactly the headers that do something.
use Rattle.std.specs.Prelude.{◌≡◌, ◌↔◌, true}
use Rattle.rc_base.specs.Header.{IsHeader}
use Rattle.rc_base.specs.declared.ending.Ends.{Ends}
use Rattle.rc_base.specs.declared.header.Header.{Header}
use Rattle.rc_base.specs.declared.position.Pos.{Pos}
use Rattle.rc_router_sets.specs.Query.{IsReaching}
use Rattle.rc_trees.specs.Trees.{Tree, IsReduced, holds}
use Rattle.rc_moves.specs.Moves.{DataPlane}

-- The set of exactly the headers that do something, as its reduced tree. There is one such tree (`one_set_for_each_question`).
pub record IsSetOf (Does : Header → Type 0) (set : Tree) : Type 0 where
  pub reduced : IsReduced set
  pub exact : (h : Header) → IsHeader h → (holds set h ≡ true) ↔ Does h

-- the set of the headers that some walk without repeats brings from a place to one of the endings
abbrev pub IsReachingSet : DataPlane → Pos → Ends → Tree → Type 0
IsReachingSet plane place ends = IsSetOf (λ h. IsReaching plane h place ends)
