use Rattle.std.proofs.Common.{◌≡◌, ◌++◌, List, length, map}
use Rattle.rc_pieces.specs.declared.edit.Edit.{Edit}
use Rattle.rc_route.specs.declared.route.Route.{Route}
use Rattle.rc_rib.specs.Laying.{edit_over}
use Rattle.rc_rib.proofs.laying.edits_over.Given as goal

-- what is made, and what comes of the routes left, is what comes of all
pub record AreLaid (known table left finder : List Route) (edits : List (Edit Route)) : Type 0 where
  pub made : edits ++ map (edit_over known) left ≡ map (edit_over known) table
  pub same : finder ≡ known

abbrev pub invariant-loop-route : goal.invariant-loop-route
invariant-loop-route l = AreLaid l.below l.fn.table l.left.items l.finder l.edits.items

abbrev pub decreases-loop-route : goal.decreases-loop-route
decreases-loop-route l = length l.left.items
