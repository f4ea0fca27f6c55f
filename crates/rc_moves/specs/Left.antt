-- The moves that are left of a position's.
use Rattle.std.specs.Prelude.{◌≡◌, List, [], ◌++◌, Option}
use Rattle.std.specs.Option.{option_map_or, option_to_list}
use Rattle.rc_base.specs.declared.position.IfId.{IfId}
use Rattle.rc_moves.specs.declared.begun.Begun.{Begun}
use Rattle.rc_moves.specs.declared.begun.Onto.{Onto}
use Rattle.rc_moves.specs.declared.begun.Onto.TheVariants.{Nobody, Takers, Linked}
use Rattle.rc_moves.specs.declared.walk.Move.{Move}
use Rattle.rc_moves.specs.Moves.{moves_onto, moves_onto_or}

abbrev pub interfaces_left : Onto → List IfId
interfaces_left Nobody = []
interfaces_left (Takers takers) = takers
interfaces_left (Linked interfaces) = interfaces

-- the move in hand, then those onto interfaces
abbrev pub moves_begun : Begun → List Move
moves_begun b = option_to_list b.single ++ moves_onto (interfaces_left b.onto)

-- the moves onto these interfaces are begun, and there is nothing to begin where there are none
pub record AreBegun (interfaces : List IfId) (begun : Option Begun) : Type 0 where
  pub moves : (others : List Move) → option_map_or moves_begun begun others ≡ moves_onto_or interfaces others
