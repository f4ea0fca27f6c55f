-- Worked cases of peer groups and of activity, each by computation.
use Rattle.std.specs.Prelude.{◌≡◌, ℕ, Bool, true, false, List, [], ◌∷◌, Some, None, fold, map, codes, refl}
use Rattle.rc_config.specs.Bgp.{fresh, no_lines, settled, with_line}
use Rattle.rc_config.specs.Settings.{no_settings}
use Rattle.rc_config.specs.Update.{after, empty, settled_router}
use Rattle.rc_config.specs.declared.bgp.BgpLine.{BgpLine}
use Rattle.rc_config.specs.declared.bgp.BgpLine.TheVariants.{Setting, Active, GroupDeclared, MemberOf, InactiveByDefault}
use Rattle.rc_config.specs.declared.bgp.BgpProcess.{BgpProcess}
use Rattle.rc_config.specs.declared.bgp.Neighbor.{Neighbor}
use Rattle.rc_config.specs.declared.bgp.NeighborSetting.{NeighborSetting}
use Rattle.rc_config.specs.declared.bgp.NeighborSetting.TheVariants.{RemoteAs, UpdateSource, EbgpMultihop, Shutdown, NextHopSelf, Weight, RouteMap, PrefixList}
use Rattle.rc_config.specs.declared.command.Command.TheVariants.{BgpOpened, FamilyOpened, FamilyClosed, OtherFamilyOpened}
use Rattle.rc_config.specs.declared.interface.Direction.TheVariants.{In, Out}
use Rattle.rc_config.specs.declared.peering.Peer.TheVariants.{Address, Group}
use Rattle.rc_config.specs.declared.route_map.Mention.{Mention}
use Rattle.rc_config.specs.declared.settings.Settings.{Settings}

-- the process of AS 65001 with these lines in its block
abbrev process : List BgpLine → BgpProcess
process lines = fold with_line (no_lines 65001) lines

-- what holds of its neighbours in the end
abbrev neighbors : List BgpLine → List Neighbor
neighbors lines = (settled (process lines)).neighbors

abbrev activity_of : List BgpLine → List Bool
activity_of lines = map (λ (n : Neighbor). n.is_active) (neighbors lines)

abbrev up : List ℕ
up = codes "UP"

abbrev down : List ℕ
down = codes "DOWN"

abbrev own : NeighborSetting → BgpLine
own setting = Setting (Address 7) setting

abbrev shared : NeighborSetting → BgpLine
shared setting = Setting (Group up) setting

-- neighbour 7, active with these settings
abbrev has : Settings → Neighbor
has settings = record (fresh 7) { settings = settings }

abbrev named : List ℕ → ℕ → Mention
named name number = record { name = name; line = number }

-- a member has its group's values, also those of lines before it became one and behind that
pub of_the_group : neighbors (GroupDeclared up ∷ shared (RemoteAs 1) ∷ MemberOf 7 up ∷ shared (UpdateSource (codes "Lo0")) ∷ [])
    ≡ has (record no_settings { remote_as = Some 1; update_source = Some (codes "Lo0") }) ∷ []
of_the_group = refl

-- its own value counts before its group's, whichever line comes first, and also where it is the default: weight 0 over the group's 5
pub own_before_group : (neighbors (GroupDeclared up ∷ MemberOf 7 up ∷ own (Weight 0) ∷ shared (Weight 5) ∷ []) ≡ has (record no_settings { weight = Some 0 }) ∷ [])
    × (neighbors (GroupDeclared up ∷ MemberOf 7 up ∷ shared (RemoteAs 1) ∷ own (RemoteAs 2) ∷ shared (RemoteAs 3) ∷ []) ≡ has (record no_settings { remote_as = Some 2 }) ∷ [])
own_before_group = (refl, refl)

-- a route map and a prefix list likewise, each direction by itself
pub of_each_direction : neighbors (GroupDeclared up ∷ MemberOf 7 up ∷ shared (RouteMap (named (codes "A") 3) In) ∷ shared (RouteMap (named (codes "B") 4) Out) ∷ own (RouteMap (named (codes "C") 5) Out) ∷ shared (PrefixList (named (codes "D") 6) In) ∷ [])
    ≡ has (record no_settings { map_in = Some (named (codes "A") 3); map_out = Some (named (codes "C") 5); list_in = Some (named (codes "D") 6) }) ∷ []
of_each_direction = refl

-- a flag is on where the member or its group has it
pub flags_of_either : neighbors (GroupDeclared up ∷ MemberOf 7 up ∷ own NextHopSelf ∷ shared EbgpMultihop ∷ own Shutdown ∷ shared Shutdown ∷ [])
    ≡ has (record no_settings { is_multihop = true; is_shutdown = true; next_hop_self = true }) ∷ []
flags_of_either = refl

-- a group that is declared again keeps its values and its place
pub declared_twice : (process (GroupDeclared up ∷ shared (RemoteAs 1) ∷ Active (Group up) false ∷ GroupDeclared down ∷ GroupDeclared up ∷ [])).peering.groups
    ≡ (up, record { settings = record no_settings { remote_as = Some 1 }; is_active = Some false }) ∷ (down, record { settings = no_settings; is_active = None }) ∷ []
declared_twice = refl

-- a neighbour is in one group, that of its last line, and has nothing of the one before
pub two_groups_in_turn : neighbors (GroupDeclared up ∷ GroupDeclared down ∷ shared (RemoteAs 1) ∷ shared NextHopSelf ∷ Active (Group up) false ∷ Setting (Group down) (RemoteAs 2) ∷ MemberOf 7 up ∷ MemberOf 7 down ∷ [])
    ≡ has (record no_settings { remote_as = Some 2 }) ∷ []
two_groups_in_turn = refl

-- members of one group each have its values, and a neighbour in none has nothing of it
pub of_several_members : neighbors (GroupDeclared up ∷ shared (RemoteAs 1) ∷ MemberOf 9 up ∷ MemberOf 7 up ∷ Setting (Address 8) (Weight 3) ∷ Setting (Address 9) (RemoteAs 4) ∷ [])
    ≡ has (record no_settings { remote_as = Some 1 }) ∷ record (fresh 8) { settings = record no_settings { weight = Some 3 } } ∷ record (fresh 9) { settings = record no_settings { remote_as = Some 4 } } ∷ []
of_several_members = refl

-- a member of a group is a neighbour, where no other line is about it; an `activate` line alone makes none, nor does a group
pub what_makes_a_neighbor : (neighbors (GroupDeclared up ∷ MemberOf 7 up ∷ []) ≡ has no_settings ∷ [])
    × (neighbors (Active (Address 7) true ∷ Active (Address 8) false ∷ GroupDeclared up ∷ shared (RemoteAs 1) ∷ []) ≡ [])
what_makes_a_neighbor = (refl, refl)

-- without a line a neighbour is active, and with `no bgp default ipv4-unicast` it isn't, wherever that line stands
pub active_by_default : (activity_of (own (RemoteAs 1) ∷ []) ≡ true ∷ [])
    × (activity_of (own (RemoteAs 1) ∷ InactiveByDefault ∷ []) ≡ false ∷ [])
    × (activity_of (InactiveByDefault ∷ own (RemoteAs 1) ∷ []) ≡ false ∷ [])
active_by_default = (refl, refl, refl)

-- the last of its own lines counts, also where it stands before the line that makes it a neighbour
pub last_activity : (activity_of (own (RemoteAs 1) ∷ Active (Address 7) true ∷ Active (Address 7) false ∷ []) ≡ false ∷ [])
    × (activity_of (InactiveByDefault ∷ Active (Address 7) false ∷ Active (Address 7) true ∷ own (RemoteAs 1) ∷ []) ≡ true ∷ [])
    × (activity_of (Active (Address 8) false ∷ own (RemoteAs 1) ∷ []) ≡ true ∷ [])
last_activity = (refl, refl, refl)

-- its own last line counts before its group's, and that before the default
pub activity_of_the_group : (activity_of (GroupDeclared up ∷ MemberOf 7 up ∷ Active (Address 7) true ∷ Active (Group up) true ∷ Active (Group up) false ∷ []) ≡ true ∷ [])
    × (activity_of (GroupDeclared up ∷ MemberOf 7 up ∷ Active (Group up) true ∷ Active (Group up) false ∷ []) ≡ false ∷ [])
    × (activity_of (InactiveByDefault ∷ GroupDeclared up ∷ MemberOf 7 up ∷ Active (Group up) false ∷ Active (Group up) true ∷ []) ≡ true ∷ [])
    × (activity_of (InactiveByDefault ∷ GroupDeclared up ∷ MemberOf 7 up ∷ Active (Group down) true ∷ []) ≡ false ∷ [])
activity_of_the_group = (refl, refl, refl, refl)

-- a process whose neighbours are settled has no groups, and nothing else of it changes
pub without_groups : settled (process (GroupDeclared up ∷ MemberOf 7 up ∷ InactiveByDefault ∷ Active (Address 8) true ∷ []))
    ≡ record (no_lines 65001) { neighbors = record (fresh 7) { is_active = false } ∷ [] }
without_groups = refl

-- a router without a process stays as it is, and the lines that open and end a family change nothing
pub left_alone : (settled_router empty ≡ empty) × (fold after empty (BgpOpened 1 ∷ FamilyOpened ∷ FamilyClosed ∷ OtherFamilyOpened ∷ FamilyClosed ∷ []) ≡ fold after empty (BgpOpened 1 ∷ []))
left_alone = (refl, refl)
