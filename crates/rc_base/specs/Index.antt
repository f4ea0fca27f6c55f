-- Interfaces under each of their prefixes.
use Rattle.std.specs.Prelude.{◌-◌, Bool, false, if◌then◌else◌, List, [], ◌∷◌, ◌++◌, length, slice_get}
use Rattle.std.specs.List.{fold}
use Rattle.std.specs.Option.{option_map_or, unwrap_or}
use Rattle.std.specs.BTreeMap.{insert_entry}
use Rattle.rc_base.specs.Groups.{under}
use Rattle.rc_base.specs.Positions.{same_interface}
use Rattle.rc_base.specs.Prefix.{Cidr, prefix_cmp}
use Rattle.rc_base.specs.declared.position.IfId.{IfId}

-- prefixes in order, each with its members
abbrev pub Rows : Type 0
Rows = List (Cidr × List IfId)

-- the interfaces under a prefix, none where it has no row
abbrev pub members : Rows → Cidr → List IfId
members rows p = unwrap_or (under rows p) []

-- the last of the interfaces is this one
abbrev pub ends_with : List IfId → IfId → Bool
ends_with known i = option_map_or (λ last. same_interface last i) (slice_get known (length known - 1)) false

-- the interfaces with this one at the end, where it isn't the last one already
abbrev pub with_last : List IfId → IfId → List IfId
with_last known i = if ends_with known i then known else known ++ i ∷ []

-- the rows with one interface more at the end of a prefix, where it isn't the last one there already
abbrev pub with_member : Rows → Cidr → IfId → Rows
with_member rows p i = insert_entry prefix_cmp rows p (with_last (members rows p) i)

module _ (prefixes : IfId → List Cidr) where
  -- an interface under each of its prefixes more
  abbrev pub with_interface : Rows → IfId → Rows
  with_interface rows i = fold (λ known p. with_member known p i) rows (prefixes i)

  -- interfaces, one after another, each under each of its prefixes
  abbrev pub index_of : List IfId → Rows
  index_of ids = fold with_interface [] ids
