-- Interfaces, positions and endings, compared.
use Rattle.std.specs.Prelude.{Bool, false, ◌&&◌, ◌==◌}
use Rattle.rc_base.specs.declared.position.IfId.{IfId}
use Rattle.rc_base.specs.declared.position.Pos.{Pos}
use Rattle.rc_base.specs.declared.position.Pos.TheVariants.{Own, Entering}
use Rattle.rc_base.specs.declared.ending.Kind.{Kind}
use Rattle.rc_base.specs.declared.ending.Kind.TheVariants.{DeniedIn, Accepted, NoRoute, NullRouted, DeniedOut, Unreachable, Exits, Delivered}
use Rattle.rc_base.specs.declared.ending.Ends.{Ends}

-- two interfaces are one
abbrev pub same_interface : IfId → IfId → Bool
same_interface i j = (i.router == j.router) && (i.index == j.index)

-- two positions are one
abbrev pub same_position : Pos → Pos → Bool
same_position (Own r) (Own s) = r == s
same_position (Entering i) (Entering j) = same_interface i j
same_position _ _ = false

-- whether an ending is one of the set
abbrev pub is_among : Ends → Kind → Bool
is_among e DeniedIn = e.denied_in
is_among e Accepted = e.accepted
is_among e NoRoute = e.no_route
is_among e NullRouted = e.null_routed
is_among e DeniedOut = e.denied_out
is_among e Unreachable = e.unreachable
is_among e Exits = e.exits
is_among e Delivered = e.delivered
