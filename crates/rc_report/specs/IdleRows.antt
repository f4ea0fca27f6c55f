-- The text of lines that never decide, by computation.
use Rattle.std.specs.Prelude.{◌≡◌, refl, List, [], ◌∷◌, codes}
use Rattle.std.specs.Fmt.{digits}
use Rattle.rc_report.specs.IdleText.{idle_head, idle_line, idle_text, router_text, routers_text}
use Rattle.rc_report.specs.RouteText.{router_line}
use Rattle.rc_sets.specs.declared.idle_line.IdleLine.{IdleLine}

-- a line that two others make needless, and one that no header matches
abbrev two_lines : List IdleLine
two_lines = record { sequence = 30; by = 10 ∷ 20 ∷ [] } ∷ record { sequence = 40; by = [] } ∷ []

pub of_a_list : idle_text (codes "101") two_lines ≡ codes "idle 101 30 by 10 20\nidle 101 40\n"
unfolding idle_line idle_head digits
of_a_list = refl

-- routers have a line each, and a list without such lines has none
pub of_routers : routers_text (record { router = codes "R1"; lists = record { name = codes "101"; idle = two_lines } ∷ record { name = codes "WEB"; idle = [] } ∷ [] } ∷ record { router = codes "R2"; lists = [] } ∷ [])
    ≡ codes "router R1\nidle 101 30 by 10 20\nidle 101 40\nrouter R2\n"
unfolding router_text router_line idle_line idle_head digits
of_routers = refl
