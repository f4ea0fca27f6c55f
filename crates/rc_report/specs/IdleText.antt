-- The lines of access lists that never decide, as text.
use Rattle.std.specs.Prelude.{ℕ, ◌==◌, List, [], ◌++◌, codes, decimal, flat_map, if◌then◌else◌, length}
use Rattle.rc_report.specs.RouteText.{router_line}
use Rattle.rc_report.specs.declared.idle.ListIdle.{ListIdle}
use Rattle.rc_report.specs.declared.idle.RouterIdle.{RouterIdle}
use Rattle.rc_sets.specs.declared.idle_line.IdleLine.{IdleLine}

-- a number, with the blank before it
abbrev pub number_behind : ℕ → List ℕ
number_behind n = codes " " ++ decimal n

-- the word that stands before numbers, where there are any
abbrev pub by_word : List ℕ → List ℕ
by_word numbers = if length numbers == 0 then [] else codes " by"

-- the lines that decide in a line's place, by their sequence numbers; nothing where none is named
abbrev pub by_text : List ℕ → List ℕ
by_text numbers = by_word numbers ++ flat_map number_behind numbers

-- the list and the line's sequence number
unfoldable pub idle_head : List ℕ → ℕ → List ℕ
idle_head filter sequence = codes "idle " ++ filter ++ codes " " ++ decimal sequence

-- the text of a line that never decides: its list, its sequence number, and those of the earlier lines that decide in its place
unfoldable pub idle_line : List ℕ → IdleLine → List ℕ
idle_line filter line = (idle_head filter line.sequence ++ by_text line.by) ++ codes "\n"

-- those of a list
abbrev pub idle_text : List ℕ → List IdleLine → List ℕ
idle_text filter idle = flat_map (idle_line filter) idle

abbrev pub list_text : ListIdle → List ℕ
list_text l = idle_text l.name l.idle

-- the line of a router, then those of its lists
unfoldable pub router_text : RouterIdle → List ℕ
router_text r = router_line r.router ++ flat_map list_text r.lists

abbrev pub routers_text : List RouterIdle → List ℕ
routers_text routers = flat_map router_text routers
