-- The openings of each kind of block.
use Rattle.std.specs.Prelude.{Bool, ◌||◌, ℕ, List, [], ◌∷◌}
use Rattle.rc_openings.specs.declared.block.Block.{Block}
use Rattle.rc_openings.specs.declared.block.Block.TheVariants as block
use Rattle.rc_openings.specs.declared.opening.Verdict.TheVariants.{Ignored}
use Rattle.rc_openings.specs.Opening.{Row, begins_form}
use Rattle.rc_openings.specs.GlobalOpenings.{global}
use Rattle.rc_openings.specs.InterfaceOpenings.{interface}
use Rattle.rc_openings.specs.AccessListOpenings.{access_list}
use Rattle.rc_openings.specs.RouteMapOpenings.{route_map}
use Rattle.rc_openings.specs.OspfOpenings.{ospf}
use Rattle.rc_openings.specs.BgpOpenings.{bgp}
use Rattle.rc_openings.specs.FamilyOpenings.{ipv4_family, other_family, family_end}

-- the one opening of a block whose lines are all passed over: each line begins with no words
abbrev pub any_line : List Row
any_line = record { words = []; verdict = Ignored } ∷ []

-- the openings of a block, a table for each; a line that no block holds has none
abbrev pub rows_of : Block → List Row
rows_of block.Closed = []
rows_of block.Global = global
rows_of block.Interface = interface
rows_of block.AccessList = access_list
rows_of block.RouteMap = route_map
rows_of block.Ospf = ospf
rows_of block.Bgp = bgp
rows_of block.Ipv4Family = ipv4_family
rows_of block.OtherFamily = other_family
rows_of block.Ignored = any_line

-- the line begins with a form opening of some block: those of a family are its end and forms of the process
abbrev pub begins_form_anywhere : List (List ℕ) → Bool
begins_form_anywhere line =
    begins_form global line || begins_form interface line || begins_form access_list line || begins_form route_map line || begins_form ospf line || begins_form bgp line || begins_form (family_end ∷ []) line
