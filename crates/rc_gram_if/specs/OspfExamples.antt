-- Lines `ip ospf` with what they say, by computation.
use Rattle.std.specs.Prelude.{refl, ℕ, List, Ok, Err, codes}
use Rattle.rc_openings.specs.InterfaceOpenings.{interface, interface_forms, interface_refused, interface_ignored}
use Rattle.rc_openings.specs.Opening.{decisive_row}
use Rattle.rc_openings.specs.Reading.{decided}
use Rattle.rc_openings.specs.Words.{words_of}
use Rattle.rc_openings.specs.declared.reading.LineRefusal.TheVariants.{Unsupported, BadValue}
use Rattle.rc_config.specs.declared.command.Command.TheVariants.{Passed, InterfaceLine}
use Rattle.rc_config.specs.declared.interface.InterfaceLine.TheVariants as interface_line
use Rattle.rc_config.specs.declared.ospf.NetworkType.TheVariants.{Broadcast, PointToPoint}
use Rattle.rc_config.specs.declared.ospf.OspfSetting.{OspfSetting}
use Rattle.rc_config.specs.declared.ospf.OspfSetting.TheVariants.{Cost, HelloInterval, DeadInterval, NetworkType, Area}
use Rattle.rc_gram_if.specs.GroupExamples.{Says}

-- a line in the block of the interface Serial0 sets this
abbrev Sets : List ℕ → OspfSetting → Type 0
Sets text setting = Says text (Ok (InterfaceLine (codes "Serial0") (interface_line.Ospf setting)))

abbrev area : ℕ → ℕ → OspfSetting
area process n = Area (record { process = process; area = n })

-- the ends of each range
pub numbers :
    Sets (codes " ip ospf cost 1") (Cost 1)
    × Sets (codes " ip ospf cost 65535") (Cost 65535)
    × Sets (codes " ip ospf hello-interval 5") (HelloInterval 5)
    × Sets (codes " ip ospf dead-interval 20") (DeadInterval 20)
    × Says (codes " ip ospf cost 0") (Err BadValue)
    × Says (codes " ip ospf cost 65536") (Err BadValue)
    × Says (codes " ip ospf cost") (Err BadValue)
    × Says (codes " ip ospf cost 10 20") (Err BadValue)
    × Says (codes " ip ospf hello-interval 0") (Err BadValue)
    × Says (codes " ip ospf dead-interval 65536") (Err BadValue)
unfolding decided decisive_row interface interface_forms interface_refused interface_ignored words_of
numbers = (refl, refl, refl, refl, refl, refl, refl, refl, refl, refl)

-- an interval below a second isn't modelled
pub minimal : Says (codes " ip ospf dead-interval minimal hello-multiplier 4") (Err Unsupported)
unfolding decided decisive_row interface interface_forms interface_refused interface_ignored words_of
minimal = refl

-- two network types; two others aren't modelled, where their words decide: a further word is a bad value
pub types :
    Sets (codes " ip ospf network broadcast") (NetworkType Broadcast)
    × Sets (codes " ip ospf network point-to-point") (NetworkType PointToPoint)
    × Says (codes " ip ospf network non-broadcast") (Err Unsupported)
    × Says (codes " ip ospf network point-to-multipoint") (Err Unsupported)
    × Says (codes " ip ospf network") (Err BadValue)
    × Says (codes " ip ospf network ring") (Err BadValue)
    × Says (codes " ip ospf network broadcast non-broadcast") (Err BadValue)
unfolding decided decisive_row interface interface_forms interface_refused interface_ignored words_of
types = (refl, refl, refl, refl, refl, refl, refl)

-- any word may stand before `area`, and is the process
pub areas :
    Sets (codes " ip ospf 1 area 0") (area 1 0)
    × Sets (codes " ip ospf 65535 area 0.0.1.0") (area 65535 256)
    × Sets (codes " ip ospf 1 area 4294967295") (area 1 4294967295)
    × Says (codes " ip ospf 0 area 0") (Err BadValue)
    × Says (codes " ip ospf cost area 0") (Err BadValue)
    × Says (codes " ip ospf 1 area") (Err BadValue)
    × Says (codes " ip ospf 1 area 0 secondaries") (Err BadValue)
    × Says (codes " ip ospf 1 area 0.0.0") (Err BadValue)
unfolding decided decisive_row interface interface_forms interface_refused interface_ignored words_of
areas = (refl, refl, refl, refl, refl, refl, refl, refl)

-- other lines `ip ospf` don't matter, or aren't modelled
pub others :
    Says (codes " ip ospf priority 0") (Ok Passed)
    × Says (codes " ip ospf mtu-ignore") (Ok Passed)
    × Says (codes " ip ospf authentication message-digest") (Err Unsupported)
    × Says (codes " ip ospf 1") (Err Unsupported)
    × Says (codes " ip ospf") (Err Unsupported)
    × Says (codes " no ip ospf cost") (Ok Passed)
unfolding decided decisive_row interface interface_forms interface_refused interface_ignored words_of
others = (refl, refl, refl, refl, refl, refl)
