-- What a search looks for among the moves.
use Rattle.std.specs.Prelude.{Bool, false, Option, Some, None}
use Rattle.rc_base.specs.Positions.{same_position}
use Rattle.rc_moves.specs.declared.walk.Move.{Move}
use Rattle.rc_moves.specs.declared.walk.Move.TheVariants.{Next, End}
use Rattle.rc_walk.specs.ShortestWalks.{is_asked_end}
use Rattle.rc_walk.specs.declared.goal.Goal.{Goal}
use Rattle.rc_walk.specs.declared.goal.Goal.TheVariants.{Ending, Onto, Nothing}

abbrev pub is_met : Goal → Move → Bool
is_met (Ending ends) m = is_asked_end ends m
is_met (Onto p) (Next t) = same_position p t
is_met (Onto p) (End kind) = false
is_met Nothing m = false

abbrev pub is_met_by : Goal → Option Move → Bool
is_met_by goal None = false
is_met_by goal (Some m) = is_met goal m
