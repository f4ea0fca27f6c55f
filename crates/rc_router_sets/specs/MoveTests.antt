-- Moves, compared.
use Rattle.std.specs.Prelude.{Bool, true, false}
use Rattle.rc_base.specs.Positions.{same_position}
use Rattle.rc_base.specs.declared.ending.Kind.{Kind}
use Rattle.rc_base.specs.declared.ending.Kind.TheVariants.{DeniedIn, Accepted, NoRoute, NullRouted, DeniedOut, Unreachable, Exits, Delivered}
use Rattle.rc_moves.specs.declared.walk.Move.{Move}
use Rattle.rc_moves.specs.declared.walk.Move.TheVariants.{Next, End}

abbrev pub same_kind : Kind → Kind → Bool
same_kind DeniedIn DeniedIn = true
same_kind Accepted Accepted = true
same_kind NoRoute NoRoute = true
same_kind NullRouted NullRouted = true
same_kind DeniedOut DeniedOut = true
same_kind Unreachable Unreachable = true
same_kind Exits Exits = true
same_kind Delivered Delivered = true
same_kind _ _ = false

abbrev pub same_move : Move → Move → Bool
same_move (Next p) (Next q) = same_position p q
same_move (End j) (End k) = same_kind j k
same_move _ _ = false
