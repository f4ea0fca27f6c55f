-- The access lists whose idle lines are asked for, by their places.
use Rattle.std.specs.Prelude.{◌≡◌, ℕ, List, [], map, Option, Some, slice_get}
use Rattle.std.specs.Option.{option_map_or}
use Rattle.rc_config.specs.declared.access_list.AccessList.{AccessList}
use Rattle.rc_config.specs.declared.network.Network.{Network}
use Rattle.rc_nodes.specs.Seats.{TableView}
use Rattle.rc_trees.specs.Trees.{HasNodes}
use Rattle.rc_sets.specs.IdleLines.{all_parts, idle_lines, idle_sets}
use Rattle.rc_sets.specs.LinesQuery.{access_lists_at}
use Rattle.rc_sets.specs.declared.asked_lists.ListPlace.{ListPlace}
use Rattle.rc_sets.specs.declared.idle_line.IdleLine.{IdleLine}

-- the list at a place, with its name
abbrev pub list_at : Network → ListPlace → Option (List ℕ × AccessList)
list_at net p = slice_get (access_lists_at net p.router) p.list

-- the places are those of these lists
abbrev pub ArePlaces : Network → List ListPlace → List (List ℕ × AccessList) → Type 0
ArePlaces net places lists = map (list_at net) places ≡ map Some lists

-- the idle lines of a list, and none where there is none
abbrev pub idle_of : Option (List ℕ × AccessList) → List IdleLine
idle_of found = option_map_or (λ e. idle_lines e.1.lines) found []

-- what is made for the place of a number: the idle lines there
abbrev pub IsIdleAt : Network → List ListPlace → ℕ → List IdleLine → Type 0
IsIdleAt net places number idle = (p : ListPlace) → slice_get places number ≡ Some p → idle ≡ idle_of (list_at net p)

-- a table may hold what tells the idle lines of these lists
abbrev pub MayTell : TableView → List (List ℕ × AccessList) → Type 0
MayTell nodes lists = (name : List ℕ) (access_list : AccessList) (number : ℕ) → slice_get lists number ≡ Some (name, access_list) → HasNodes nodes.may (all_parts (idle_sets access_list.lines))

-- the places are those of some lists, of which a table may tell the idle lines
pub record AreAsked (nodes : TableView) (net : Network) (places : List ListPlace) : Type 0 where
  pub lists : List (List ℕ × AccessList)
  pub places_are : ArePlaces net places lists
  pub may : MayTell nodes lists
