-- Worked cases of OSPF interfaces, adjacencies and adverts, each by computation.
use Rattle.std.specs.Prelude.{◌≡◌, ℕ, ◌+◌, ◌-◌, ◌*◌, ◌^◌, ◌==◌, Bool, true, false, List, [], ◌∷◌, ◌++◌, map, codes, refl}
use Rattle.std.specs.List.{fold}
use Rattle.std.specs.Option.{option_map}
use Rattle.rc_base.specs.Prefix.{Cidr}
use Rattle.rc_config.specs.Cuts.{uncut}
use Rattle.rc_config.specs.IfType.{type_of}
use Rattle.rc_config.specs.Update.{after, empty}
use Rattle.rc_config.specs.declared.command.Command.{Command}
use Rattle.rc_config.specs.declared.command.Command.TheVariants.{OspfOpened, OspfLine, InterfaceLine}
use Rattle.rc_config.specs.declared.interface.InterfaceLine.TheVariants as interface_line
use Rattle.rc_config.specs.declared.network.Network.{Network}
use Rattle.rc_config.specs.declared.ospf.NetworkType.{NetworkType as Kind}
use Rattle.rc_config.specs.declared.ospf.NetworkType.TheVariants.{Broadcast, PointToPoint}
use Rattle.rc_config.specs.declared.ospf.OspfLine.TheVariants as line
use Rattle.rc_config.specs.declared.ospf.OspfProcess.{OspfProcess}
use Rattle.rc_config.specs.declared.ospf.OspfSetting.TheVariants as setting
use Rattle.rc_config.specs.declared.router_text.RouterText.{RouterText}
use Rattle.rc_topology.specs.Ports.{links_of}
use Rattle.rc_link_state.specs.Adjacency.{adjacencies}
use Rattle.rc_ospf_interfaces.specs.Interfaces.{ospf_interfaces}
use Rattle.rc_ospf.specs.Internal.{steps_of, adverts_in}
use Rattle.rc_link_state.specs.declared.step.Step.{Step}
use Rattle.rc_ospf_interfaces.specs.declared.interface.OspfInterface.{OspfInterface}
use Rattle.rc_ospf.specs.declared.offer.Advert.{Advert}

abbrev eth : List ℕ
eth = codes "Ethernet0"

abbrev sub : List ℕ
sub = codes "Ethernet0.10"

abbrev serial : List ℕ
serial = codes "Serial0"

abbrev loopback : List ℕ
loopback = codes "Loopback0"

-- 10.0.0.0 and so many more
abbrev pub ten : ℕ → ℕ
ten n = 10 * 16777216 + n

abbrev pub primary : List ℕ → ℕ → ℕ → Command
primary name n len = InterfaceLine name (interface_line.Address (record { addr = ten n; len = len }) false)

abbrev pub secondary : List ℕ → ℕ → ℕ → Command
secondary name n len = InterfaceLine name (interface_line.Address (record { addr = ten n; len = len }) true)

-- `network 10.0.0.0+n W area N`
abbrev pub network : ℕ → ℕ → ℕ → Command
network n wildcard area = OspfLine (line.Network (record { address = ten n; wildcard = wildcard; area = area }))

-- `router ospf 1` with all interfaces in an area
abbrev pub everywhere : ℕ → List Command
everywhere area = OspfOpened 1 ∷ network 0 (2 ^ 32 - 1) area ∷ []

abbrev pub file : List Command → RouterText
file commands = fold after empty commands

abbrev one : List Command → Network
one commands = uncut ((codes "a", file commands) ∷ [])

abbrev pub two : List Command → List Command → Network
two a b = uncut ((codes "a", file a) ∷ (codes "b", file b) ∷ [])

abbrev areas : List Command → List ℕ
areas commands = map (λ (i : OspfInterface). i.area) (ospf_interfaces (one commands))

abbrev costs : List Command → List ℕ
costs commands = map (λ (i : OspfInterface). i.cost) (ospf_interfaces (one commands))

abbrev passive : List Command → List Bool
passive commands = map (λ (i : OspfInterface). i.is_passive) (ospf_interfaces (one commands))

abbrev networks : List Command → List Kind
networks commands = map (λ (i : OspfInterface). i.network) (ospf_interfaces (one commands))

abbrev dead : List Command → List ℕ
dead commands = map (λ (i : OspfInterface). i.dead) (ospf_interfaces (one commands))

abbrev offered : List Command → List Cidr
offered commands = map (λ (a : Advert). a.prefix) (adverts_in (one commands))

-- ---- which interfaces, and in which area

pub one_area : areas (primary eth 1 24 ∷ everywhere 7) ≡ 7 ∷ []
unfolding ospf_interfaces type_of
one_area = refl

-- without a process there is none, and so it is where nothing gives an area
pub no_process : areas (primary eth 1 24 ∷ []) ≡ []
unfolding ospf_interfaces type_of
no_process = refl

pub no_area : areas (primary eth 1 24 ∷ OspfOpened 1 ∷ network 256 255 0 ∷ []) ≡ []
unfolding ospf_interfaces type_of
no_area = refl

-- an interface that is shut is none, nor is one whose parent is shut
pub shut : areas (primary eth 1 24 ∷ InterfaceLine eth (interface_line.Shutdown true) ∷ everywhere 0) ≡ []
unfolding ospf_interfaces type_of
shut = refl

pub parent_shut : areas (InterfaceLine eth (interface_line.Shutdown true) ∷ primary sub 1 24 ∷ everywhere 0) ≡ []
unfolding ospf_interfaces type_of
parent_shut = refl

-- a secondary address without a primary one makes none
pub secondary_alone : areas (secondary eth 1 24 ∷ everywhere 0) ≡ []
unfolding ospf_interfaces type_of
secondary_alone = refl

-- the first line that matches gives the area, not the closest one
pub first_line : areas (primary eth 1 24 ∷ OspfOpened 1 ∷ network 0 65535 3 ∷ network 0 255 4 ∷ []) ≡ 3 ∷ []
unfolding ospf_interfaces type_of
first_line = refl

-- the ones of a wildcard may stand anywhere: 10.0.n.1 for any n
pub wildcard_inside : areas (primary eth 513 24 ∷ OspfOpened 1 ∷ network 1 65280 5 ∷ []) ≡ 5 ∷ []
unfolding ospf_interfaces type_of
wildcard_inside = refl

pub wildcard_inside_fails : areas (primary eth 514 24 ∷ OspfOpened 1 ∷ network 1 65280 5 ∷ []) ≡ []
unfolding ospf_interfaces type_of
wildcard_inside_fails = refl

-- bits of the line's address under the wildcard don't count
pub bits_under_wildcard : areas (primary eth 1 24 ∷ OspfOpened 1 ∷ network 99 255 6 ∷ []) ≡ 6 ∷ []
unfolding ospf_interfaces type_of
bits_under_wildcard = refl

-- `ip ospf P area N` wins over the lines, where it names the process
pub setting_wins : areas (primary eth 1 24 ∷ InterfaceLine eth (interface_line.Ospf (setting.Area (record { process = 1; area = 9 }))) ∷ everywhere 0) ≡ 9 ∷ []
unfolding ospf_interfaces type_of
setting_wins = refl

pub other_process : areas (primary eth 1 24 ∷ InterfaceLine eth (interface_line.Ospf (setting.Area (record { process = 2; area = 9 }))) ∷ everywhere 0) ≡ 0 ∷ []
unfolding ospf_interfaces type_of
other_process = refl

-- and a line of another process neither sets nor erases that of the own one, whichever stands first
abbrev with_areas : List (ℕ × ℕ) → List Command
with_areas lines = map (λ (l : ℕ × ℕ). InterfaceLine eth (interface_line.Ospf (setting.Area (record { process = l.0; area = l.1 })))) lines

pub other_process_later : areas (primary eth 1 24 ∷ with_areas ((1, 9) ∷ (2, 5) ∷ []) ++ everywhere 0) ≡ 9 ∷ []
unfolding ospf_interfaces type_of
other_process_later = refl

pub other_process_before : areas (primary eth 1 24 ∷ with_areas ((2, 5) ∷ (1, 9) ∷ []) ++ everywhere 0) ≡ 9 ∷ []
unfolding ospf_interfaces type_of
other_process_before = refl

-- of two lines of the own process the later counts
pub same_process_later : areas (primary eth 1 24 ∷ with_areas ((1, 9) ∷ (2, 5) ∷ (1, 4) ∷ []) ++ everywhere 0) ≡ 4 ∷ []
unfolding ospf_interfaces type_of
same_process_later = refl

-- a subinterface of a parent without a digit has the parent's type
pub serial_subinterface : networks (primary (codes "Serial.7") 1 24 ∷ everywhere 0) ≡ PointToPoint ∷ []
unfolding ospf_interfaces type_of
serial_subinterface = refl

-- ---- costs

pub by_bandwidth : costs (primary eth 1 24 ∷ everywhere 0) ≡ 10 ∷ []
unfolding ospf_interfaces type_of
by_bandwidth = refl

-- rounded down: 100,000 over 1,544
pub rounded_down : costs (primary serial 1 24 ∷ everywhere 0) ≡ 64 ∷ []
unfolding ospf_interfaces type_of
rounded_down = refl

pub configured_bandwidth : costs (primary eth 1 24 ∷ InterfaceLine eth (interface_line.Bandwidth 64) ∷ everywhere 0) ≡ 1562 ∷ []
unfolding ospf_interfaces type_of
configured_bandwidth = refl

pub at_least_one : costs (primary loopback 1 24 ∷ everywhere 0) ≡ 1 ∷ []
unfolding ospf_interfaces type_of
at_least_one = refl

pub at_most : costs (primary eth 1 24 ∷ InterfaceLine eth (interface_line.Bandwidth 1) ∷ everywhere 0) ≡ 65535 ∷ []
unfolding ospf_interfaces type_of
at_most = refl

pub reference : costs (primary eth 1 24 ∷ everywhere 0 ++ OspfLine (line.ReferenceBandwidth 1000) ∷ []) ≡ 100 ∷ []
unfolding ospf_interfaces type_of
reference = refl

pub greatest_reference : costs (primary eth 1 24 ∷ everywhere 0 ++ OspfLine (line.ReferenceBandwidth 4294967) ∷ []) ≡ 65535 ∷ []
unfolding ospf_interfaces type_of
greatest_reference = refl

pub configured_cost : costs (primary eth 1 24 ∷ InterfaceLine eth (interface_line.Ospf (setting.Cost 17)) ∷ everywhere 0) ≡ 17 ∷ []
unfolding ospf_interfaces type_of
configured_cost = refl

-- ---- passive interfaces, network types and intervals

pub not_passive : passive (primary eth 1 24 ∷ everywhere 0) ≡ false ∷ []
unfolding ospf_interfaces type_of
not_passive = refl

pub passive_by_name : passive (primary eth 1 24 ∷ everywhere 0 ++ OspfLine (line.Passive eth true) ∷ []) ≡ true ∷ []
unfolding ospf_interfaces type_of
passive_by_name = refl

pub passive_by_default : passive (primary eth 1 24 ∷ everywhere 0 ++ OspfLine line.PassiveDefault ∷ []) ≡ true ∷ []
unfolding ospf_interfaces type_of
passive_by_default = refl

-- a line about the interface wins over the default, also where it stands before
pub active_by_name : passive (primary eth 1 24 ∷ everywhere 0 ++ OspfLine (line.Passive eth false) ∷ OspfLine line.PassiveDefault ∷ []) ≡ false ∷ []
unfolding ospf_interfaces type_of
active_by_name = refl

pub by_type : networks (primary eth 1 24 ∷ primary serial 257 24 ∷ primary loopback 513 24 ∷ everywhere 0) ≡ Broadcast ∷ PointToPoint ∷ Broadcast ∷ []
unfolding ospf_interfaces type_of
by_type = refl

pub configured_network : networks (primary serial 1 24 ∷ InterfaceLine serial (interface_line.Ospf (setting.NetworkType Broadcast)) ∷ everywhere 0) ≡ Broadcast ∷ []
unfolding ospf_interfaces type_of
configured_network = refl

pub dead_by_default : dead (primary eth 1 24 ∷ everywhere 0) ≡ 40 ∷ []
unfolding ospf_interfaces type_of
dead_by_default = refl

pub dead_by_hello : dead (primary eth 1 24 ∷ InterfaceLine eth (interface_line.Ospf (setting.HelloInterval 5)) ∷ everywhere 0) ≡ 20 ∷ []
unfolding ospf_interfaces type_of
dead_by_hello = refl

pub dead_given : dead (primary eth 1 24 ∷ InterfaceLine eth (interface_line.Ospf (setting.DeadInterval 7)) ∷ InterfaceLine eth (interface_line.Ospf (setting.HelloInterval 5)) ∷ everywhere 0) ≡ 7 ∷ []
unfolding ospf_interfaces type_of
dead_given = refl

-- ---- adverts

-- the prefixes of the primary and the secondary addresses
pub secondary_too : offered (primary eth 1 24 ∷ secondary eth 257 25 ∷ everywhere 0) ≡ record { network = ten 0; len = 24 } ∷ record { network = ten 256; len = 25 } ∷ []
unfolding ospf_interfaces type_of
secondary_too = refl

-- a loopback's as hosts, unless its network type is point-to-point
pub loopback_hosts : offered (primary loopback 9 24 ∷ everywhere 0) ≡ record { network = ten 9; len = 32 } ∷ []
unfolding ospf_interfaces type_of
loopback_hosts = refl

pub loopback_whole : offered (primary loopback 9 24 ∷ InterfaceLine loopback (interface_line.Ospf (setting.NetworkType PointToPoint)) ∷ everywhere 0) ≡ record { network = ten 0; len = 24 } ∷ []
unfolding ospf_interfaces type_of
loopback_whole = refl

-- a passive interface advertises too
pub passive_too : offered (primary eth 1 24 ∷ everywhere 0 ++ OspfLine line.PassiveDefault ∷ []) ≡ record { network = ten 0; len = 24 } ∷ []
unfolding ospf_interfaces type_of
passive_too = refl

-- ---- adjacencies: of each step its router, the other one, its cost and its gateway

abbrev told : Step → List ℕ
told s = s.out.router ∷ s.to ∷ s.cost ∷ s.gateway ∷ []

abbrev steps : List Command → List Command → List (List ℕ)
steps a b = map told (steps_of (two a b) (links_of (two a b)))

abbrev first : List Command
first = primary eth 1 24 ∷ everywhere 0

abbrev second : List Command → List Command
second more = primary eth 2 24 ∷ more ++ everywhere 0

-- a step costs what the interface costs by which it leaves
pub both_ways : steps first (second (InterfaceLine eth (interface_line.Ospf (setting.Cost 3)) ∷ [])) ≡ (0 ∷ 1 ∷ 10 ∷ ten 2 ∷ []) ∷ (1 ∷ 0 ∷ 3 ∷ ten 1 ∷ []) ∷ []
unfolding ospf_interfaces adjacencies links_of type_of
both_ways = refl

-- one side's setting is enough to have none
pub other_hello : steps first (second (InterfaceLine eth (interface_line.Ospf (setting.HelloInterval 5)) ∷ InterfaceLine eth (interface_line.Ospf (setting.DeadInterval 40)) ∷ [])) ≡ []
unfolding ospf_interfaces adjacencies links_of type_of
other_hello = refl

pub other_dead : steps first (second (InterfaceLine eth (interface_line.Ospf (setting.DeadInterval 41)) ∷ [])) ≡ []
unfolding ospf_interfaces adjacencies links_of type_of
other_dead = refl

pub same_dead : steps first (second (InterfaceLine eth (interface_line.Ospf (setting.DeadInterval 40)) ∷ [])) ≡ (0 ∷ 1 ∷ 10 ∷ ten 2 ∷ []) ∷ (1 ∷ 0 ∷ 10 ∷ ten 1 ∷ []) ∷ []
unfolding ospf_interfaces adjacencies links_of type_of
same_dead = refl

pub other_network : steps first (second (InterfaceLine eth (interface_line.Ospf (setting.NetworkType PointToPoint)) ∷ [])) ≡ []
unfolding ospf_interfaces adjacencies links_of type_of
other_network = refl

pub other_area : steps first (second (InterfaceLine eth (interface_line.Ospf (setting.Area (record { process = 1; area = 1 }))) ∷ [])) ≡ []
unfolding ospf_interfaces adjacencies links_of type_of
other_area = refl

-- the own process's area is kept beside that of another one, in both orders of the lines
pub area_beside_another : steps first (second (with_areas ((1, 0) ∷ (2, 5) ∷ []))) ≡ (0 ∷ 1 ∷ 10 ∷ ten 2 ∷ []) ∷ (1 ∷ 0 ∷ 10 ∷ ten 1 ∷ []) ∷ []
unfolding ospf_interfaces adjacencies links_of type_of
area_beside_another = refl

pub area_behind_another : steps first (second (with_areas ((2, 5) ∷ (1, 0) ∷ []))) ≡ (0 ∷ 1 ∷ 10 ∷ ten 2 ∷ []) ∷ (1 ∷ 0 ∷ 10 ∷ ten 1 ∷ []) ∷ []
unfolding ospf_interfaces adjacencies links_of type_of
area_behind_another = refl

-- where the own process's lines are alone in putting it there, too
abbrev by_lines_alone : List (ℕ × ℕ) → List Command
by_lines_alone lines = primary eth 2 24 ∷ with_areas lines ++ OspfOpened 1 ∷ []

pub area_by_its_line : (steps first (by_lines_alone ((1, 0) ∷ (2, 5) ∷ [])) ≡ (0 ∷ 1 ∷ 10 ∷ ten 2 ∷ []) ∷ (1 ∷ 0 ∷ 10 ∷ ten 1 ∷ []) ∷ [])
    × (steps first (by_lines_alone ((2, 5) ∷ (1, 0) ∷ [])) ≡ (0 ∷ 1 ∷ 10 ∷ ten 2 ∷ []) ∷ (1 ∷ 0 ∷ 10 ∷ ten 1 ∷ []) ∷ [])
    × (steps first (by_lines_alone ((2, 0) ∷ [])) ≡ [])
unfolding ospf_interfaces adjacencies links_of type_of
area_by_its_line = (refl, refl, refl)

-- the one side has the area as a stub area, and then the other one too
abbrev with_stub : ℕ → RouterText → RouterText
with_stub n f = record f { ospf = option_map (λ (p : OspfProcess). record p { stub_areas = record { area = n; no_summary = n == 1 } ∷ [] }) f.ospf }

abbrev in_area_one : ℕ → RouterText
in_area_one n = file (primary eth n 24 ∷ everywhere 1)

abbrev between : RouterText → RouterText → List (List ℕ)
between a b = map told (steps_of (uncut ((codes "a", a) ∷ (codes "b", b) ∷ [])) (links_of (uncut ((codes "a", a) ∷ (codes "b", b) ∷ []))))

pub other_stub_flag : between (with_stub 1 (in_area_one 1)) (in_area_one 2) ≡ []
unfolding ospf_interfaces adjacencies links_of type_of
other_stub_flag = refl

pub same_stub_flag : between (with_stub 1 (in_area_one 1)) (with_stub 1 (in_area_one 2)) ≡ (0 ∷ 1 ∷ 10 ∷ ten 2 ∷ []) ∷ (1 ∷ 0 ∷ 10 ∷ ten 1 ∷ []) ∷ []
unfolding ospf_interfaces adjacencies links_of type_of
same_stub_flag = refl

-- of another area than the interface's it says nothing
pub stub_elsewhere : between (with_stub 7 (in_area_one 1)) (in_area_one 2) ≡ (0 ∷ 1 ∷ 10 ∷ ten 2 ∷ []) ∷ (1 ∷ 0 ∷ 10 ∷ ten 1 ∷ []) ∷ []
unfolding ospf_interfaces adjacencies links_of type_of
stub_elsewhere = refl

pub passive_side : steps first (second [] ++ OspfLine (line.Passive eth true) ∷ []) ≡ []
unfolding ospf_interfaces adjacencies links_of type_of
passive_side = refl

-- the numbers of processes may differ
pub other_number : steps first (primary eth 2 24 ∷ OspfOpened 2 ∷ network 0 255 0 ∷ []) ≡ (0 ∷ 1 ∷ 10 ∷ ten 2 ∷ []) ∷ (1 ∷ 0 ∷ 10 ∷ ten 1 ∷ []) ∷ []
unfolding ospf_interfaces adjacencies links_of type_of
other_number = refl

-- the primary addresses have one prefix: a secondary one is not enough
pub secondary_prefix : steps first (primary eth 513 24 ∷ secondary eth 2 24 ∷ everywhere 0) ≡ []
unfolding ospf_interfaces adjacencies links_of type_of
secondary_prefix = refl

-- a loopback has none, nor has an interface that is shut
pub loopback_side : steps first (primary loopback 2 24 ∷ everywhere 0) ≡ []
unfolding ospf_interfaces adjacencies links_of type_of
loopback_side = refl

pub shut_side : steps first (second (InterfaceLine eth (interface_line.Shutdown true) ∷ [])) ≡ []
unfolding ospf_interfaces adjacencies links_of type_of
shut_side = refl

-- ---- all of a network, by router, then as declared: a has a serial line of the cost 7, an Ethernet and a loopback, and b an Ethernet with
-- another hello interval and its end of the line

abbrev both : List OspfInterface
both =
    ospf_interfaces (two
    (primary serial 257 30 ∷ InterfaceLine serial (interface_line.Ospf (setting.Cost 7)) ∷ primary eth 513 24 ∷ primary loopback 2305 24 ∷ OspfOpened 1 ∷ network 0 16777215 3 ∷ [])
    (primary eth 514 24 ∷ InterfaceLine eth (interface_line.Ospf (setting.HelloInterval 5)) ∷ primary serial 258 30 ∷ OspfOpened 1 ∷ network 0 16777215 3 ∷ []))

-- router, index, area, cost and dead interval
pub values_of_both : map (λ (i : OspfInterface). i.id.router ∷ i.id.index ∷ i.area ∷ i.cost ∷ i.dead ∷ []) both ≡ (0 ∷ 0 ∷ 3 ∷ 7 ∷ 40 ∷ []) ∷ (0 ∷ 1 ∷ 3 ∷ 10 ∷ 40 ∷ []) ∷ (0 ∷ 2 ∷ 3 ∷ 1 ∷ 40 ∷ []) ∷ (1 ∷ 0 ∷ 3 ∷ 10 ∷ 20 ∷ []) ∷ (1 ∷ 1 ∷ 3 ∷ 64 ∷ 40 ∷ []) ∷ []
unfolding ospf_interfaces type_of
values_of_both = refl

pub networks_of_both : map (λ (i : OspfInterface). i.network) both ≡ PointToPoint ∷ Broadcast ∷ Broadcast ∷ Broadcast ∷ PointToPoint ∷ []
unfolding ospf_interfaces type_of
networks_of_both = refl
