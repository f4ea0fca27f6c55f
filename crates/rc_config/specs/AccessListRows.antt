-- Worked cases of access lists, each by computation.
use Rattle.std.specs.Prelude.{◌≡◌, ℕ, ◌+◌, ◌*◌, true, false, List, [], ◌∷◌, fold, map, replicate, Some, None, codes, refl}
use Rattle.rc_config.specs.declared.command.Command.{Command}
use Rattle.rc_config.specs.declared.command.Command.TheVariants.{Remark, Hostname, Interface, InterfaceLine, ListLine}
use Rattle.rc_config.specs.declared.command.Command.TheVariants as command
use Rattle.rc_config.specs.declared.lists.ListLine.TheVariants as list_line
use Rattle.rc_config.specs.declared.interface.InterfaceLine.TheVariants as interface_line
use Rattle.rc_config.specs.declared.interface.Direction.TheVariants.{In, Out}
use Rattle.rc_config.specs.declared.access_list.AccessList.{AccessList}
use Rattle.rc_config.specs.declared.access_list.Action.TheVariants.{Permit, Deny}
use Rattle.rc_config.specs.declared.access_list.AccessListKind.TheVariants.{Standard, Extended}
use Rattle.rc_config.specs.declared.access_list.AccessListLine.{AccessListLine}
use Rattle.rc_config.specs.declared.access_list.FurtherTest.TheVariants as further
use Rattle.rc_config.specs.declared.access_list.ProtocolTest.TheVariants.{Any, Is}
use Rattle.rc_config.specs.declared.router_text.RouterText.{RouterText}
use Rattle.rc_config.specs.PortLists.{ports_of}
use Rattle.rc_config.specs.Interface.{fresh}
use Rattle.rc_config.specs.Named.{named}
use Rattle.rc_config.specs.Update.{after, empty, interface_named}
use Rattle.rc_config.specs.AccessList.{any_address, host_address, standard_line, no_lines, with_line, has_sequence, last_sequence, has_ports, IsFurtherTestOf}

-- a line of this number for the address 10.0.0.n
abbrev line : ℕ → AccessListLine
line n = standard_line n Permit (host_address (10 * 16777216 + n))

abbrev list_of : List AccessListLine → AccessList
list_of lines = record { kind = Standard; lines = lines }

-- a list into which lines of these numbers were put one by one
abbrev lines : List ℕ → List AccessListLine
lines numbers = (fold with_line (no_lines Standard) (map line numbers)).lines

-- lines stand by number, and not as written
pub by_number : lines (30 ∷ 10 ∷ 20 ∷ 40 ∷ []) ≡ line 10 ∷ line 20 ∷ line 30 ∷ line 40 ∷ []
by_number = refl

pub as_written : lines (10 ∷ 20 ∷ 30 ∷ []) ≡ line 10 ∷ line 20 ∷ line 30 ∷ []
as_written = refl

pub falling : lines (30 ∷ 20 ∷ 10 ∷ []) ≡ line 10 ∷ line 20 ∷ line 30 ∷ []
falling = refl

-- a line replaces the one of its number
pub in_its_place : (with_line (list_of (line 10 ∷ line 20 ∷ line 30 ∷ [])) (record (line 20) { action = Deny })).lines ≡ line 10 ∷ record (line 20) { action = Deny } ∷ line 30 ∷ []
in_its_place = refl

-- the greatest number is the last in the list, also where another line was written last
pub greatest_is_last : last_sequence (lines (10 ∷ 50 ∷ 20 ∷ [])) ≡ Some 50
greatest_is_last = refl

pub no_greatest : last_sequence (lines []) ≡ None
no_greatest = refl

pub number_there : has_sequence (lines (10 ∷ 30 ∷ [])) 10 ≡ true
number_there = refl

pub number_free : has_sequence (lines (10 ∷ 30 ∷ [])) 20 ≡ false
number_free = refl

-- one to ten ports
pub no_port : ports_of [] ≡ None
no_port = refl

pub ten_ports : ports_of (replicate 10 80) ≡ Some (replicate 10 80)
ten_ports = refl

pub eleven_ports : ports_of (replicate 11 80) ≡ None
eleven_ports = refl

-- only tcp and udp have ports: `ip` and icmp have none
pub tcp_has_ports : has_ports (Is 6) ≡ true
tcp_has_ports = refl

pub udp_has_ports : has_ports (Is 17) ≡ true
udp_has_ports = refl

pub icmp_has_none : has_ports (Is 1) ≡ false
icmp_has_none = refl

pub ip_has_none : has_ports Any ≡ false
ip_has_none = refl

-- a line of a standard list tests nothing further, `established` stands in a line of tcp, and a type in one of icmp
pub no_further_test : (line 10).further ≡ further.Any
no_further_test = refl

pub established_in_tcp : IsFurtherTestOf (Is 6) further.Established
established_in_tcp = refl

pub type_in_icmp : IsFurtherTestOf (Is 1) (further.Icmp 3 (Some 255))
type_in_icmp = refl

-- `any` is 0.0.0.0 255.255.255.255
pub any_by_hand : any_address ≡ record { addr = 0; wildcard = 4294967295 }
any_by_hand = refl

-- the model of a file whose lines say these commands
abbrev file : List Command → RouterText
file commands = fold after empty commands

abbrev web : List ℕ
web = codes "WEB"

abbrev port : List ℕ
port = codes "Ethernet0"

-- a line of this number of the list WEB
abbrev add : ℕ → Command
add n = command.ListLine web (list_line.AccessListLine Standard (line n))

-- a list that is opened is there, without lines
pub opened : (file (ListLine web (list_line.AccessListOpened Extended) ∷ [])).lists.access_lists ≡ (web, no_lines Extended) ∷ []
opened = refl

-- opened again it keeps its lines
pub opened_twice : (file (ListLine web (list_line.AccessListOpened Standard) ∷ add 10 ∷ ListLine web (list_line.AccessListOpened Standard) ∷ add 20 ∷ [])).lists.access_lists ≡ (web, list_of (line 10 ∷ line 20 ∷ [])) ∷ []
opened_twice = refl

-- a line makes a list that isn't there, and lines stand by number
pub made_by_a_line : (file (add 20 ∷ add 10 ∷ [])).lists.access_lists ≡ (web, list_of (line 10 ∷ line 20 ∷ [])) ∷ []
made_by_a_line = refl

-- lists stand in the order of first mention, and a line of one leaves the others
pub first_mention : (file (add 10 ∷ ListLine (codes "5") (list_line.AccessListOpened Extended) ∷ add 20 ∷ [])).lists.access_lists ≡ (web, list_of (line 10 ∷ line 20 ∷ [])) ∷ (codes "5", no_lines Extended) ∷ []
first_mention = refl

-- a list is there by its own lines alone: none is that an interface names, and none of which there is only a remark
pub named_alone : (file (Interface port 1 ∷ InterfaceLine port (interface_line.AccessGroup web In) ∷ Remark ∷ [])).lists.access_lists ≡ []
named_alone = refl

-- no other command takes a list away
pub lists_left : named (file (add 10 ∷ Hostname web 1 ∷ Interface port 2 ∷ InterfaceLine port (interface_line.AccessGroup web In) ∷ InterfaceLine port (interface_line.Shutdown true) ∷ Remark ∷ [])).lists.access_lists web ≡ Some (list_of (line 10 ∷ []))
lists_left = refl

-- the later line of a direction counts, and each direction has a list of its own
pub later_group : interface_named (file (Interface port 1 ∷ InterfaceLine port (interface_line.AccessGroup (codes "5") In) ∷ InterfaceLine port (interface_line.AccessGroup (codes "6") Out) ∷ InterfaceLine port (interface_line.AccessGroup web In) ∷ [])) port
    ≡ record fresh { access_group_in = Some web; access_group_out = Some (codes "6") }
later_group = refl

-- an interface that is opened again keeps its lists
pub group_left : interface_named (file (Interface port 1 ∷ InterfaceLine port (interface_line.AccessGroup web Out) ∷ Interface port 3 ∷ [])) port ≡ record fresh { access_group_out = Some web }
group_left = refl
