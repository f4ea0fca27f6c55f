-- What one hop gives to an ending.
use Rattle.std.specs.Prelude.{List, []}
use Rattle.rc_base.specs.declared.ending.Kind.{Kind}
use Rattle.rc_base.specs.declared.ending.Kind.TheVariants.{DeniedIn, Accepted, NoRoute, NullRouted, DeniedOut, Unreachable, Exits, Delivered}
use Rattle.rc_base.specs.declared.position.Pos.{Pos}
use Rattle.rc_router_sets.specs.Endings.{denied_out, unreachable, exits, delivered}
use Rattle.rc_route.specs.declared.route.Hop.{Hop}
use Rattle.rc_trees.specs.Recipes.{Recipe}
use Rattle.rc_moves.specs.Moves.{DataPlane}

-- what one hop gives to an ending, where the ending goes by hops
abbrev pub ends_over : DataPlane → Pos → Kind → Hop → List Recipe
ends_over plane q DeniedIn x = []
ends_over plane q Accepted x = []
ends_over plane q NoRoute x = []
ends_over plane q NullRouted x = []
ends_over plane q DeniedOut x = denied_out plane q x
ends_over plane q Unreachable x = unreachable plane q x
ends_over plane q Exits x = exits plane q x
ends_over plane q Delivered x = delivered plane q x
