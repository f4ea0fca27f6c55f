-- Access lists (IOS `access-list` and `ip access-list`): their lines in order, and which lists there are.
use Rattle.std.specs.Prelude.{◌≡◌, ℕ, ◌-◌, ◌^◌, ◌≤◌, ◌==◌, Bool, false, ◌||◌, List, [], All, Option}
use Rattle.rc_config.specs.ByNumber.{IsByNumber, placed, has_number, last_number}
use Rattle.rc_config.specs.declared.access_list.Action.{Action}
use Rattle.rc_config.specs.declared.access_list.AddressTest.{AddressTest}
use Rattle.rc_config.specs.declared.access_list.AccessList.{AccessList}
use Rattle.rc_config.specs.declared.access_list.AccessListKind.{AccessListKind}
use Rattle.rc_config.specs.declared.access_list.AccessListKind.TheVariants.{Standard, Extended}
use Rattle.rc_config.specs.declared.access_list.AccessListLine.{AccessListLine}
use Rattle.rc_config.specs.declared.access_list.FurtherTest.{FurtherTest}
use Rattle.rc_config.specs.declared.access_list.FurtherTest.TheVariants as further
use Rattle.rc_config.specs.declared.access_list.PortTest.{PortTest}
use Rattle.rc_config.specs.declared.access_list.PortTest.TheVariants as port
use Rattle.rc_config.specs.declared.access_list.ProtocolTest.{ProtocolTest}
use Rattle.rc_config.specs.declared.access_list.ProtocolTest.TheVariants as protocol

-- `any` compares no bit
abbrev pub any_address : AddressTest
any_address = record { addr = 0; wildcard = 2 ^ 32 - 1 }

-- `host A` compares each bit
abbrev pub host_address : ℕ → AddressTest
host_address a = record { addr = a; wildcard = 0 }

-- a line of a standard list tests the source alone
abbrev pub standard_line : ℕ → Action → AddressTest → AccessListLine
standard_line n a source = record { sequence = n; action = a; protocol = protocol.Any; source = source; source_port = port.Any; destination = any_address; destination_port = port.Any; further = further.Any }

-- a list without lines
abbrev pub no_lines : AccessListKind → AccessList
no_lines kind = record { kind = kind; lines = [] }

-- a line stands by its sequence number
abbrev pub sequence_of : AccessListLine → ℕ
sequence_of l = l.sequence

-- the list with one more line by its number, where it replaces the line of that number
abbrev pub with_line : AccessList → AccessListLine → AccessList
with_line f l = record f { lines = placed sequence_of l f.lines }

-- a line of the list has this number
abbrev pub has_sequence : List AccessListLine → ℕ → Bool
has_sequence lines n = has_number sequence_of n lines

-- the number of the last line
abbrev pub last_sequence : List AccessListLine → Option ℕ
last_sequence lines = last_number sequence_of lines

-- lines stand by rising sequence number: each number is lower than all later ones
abbrev pub AreLinesInOrder : List AccessListLine → Type 0
AreLinesInOrder lines = IsByNumber sequence_of lines

-- a sequence number of a line
abbrev pub IsSequence : ℕ → Type 0
IsSequence n = (1 ≤ n) × (n ≤ 2147483647)

-- tcp (6) and udp (17) have ports
abbrev pub has_ports : ProtocolTest → Bool
has_ports protocol.Any = false
has_ports (protocol.Is n) = (n == 6) || (n == 17)

-- the first port of a range isn't above the second
abbrev pub IsPortTest : PortTest → Type 0
IsPortTest (port.Within low high) = low ≤ high
IsPortTest port.Any = Unit {0}
IsPortTest (port.Equal ports) = Unit {0}
IsPortTest (port.NotEqual ports) = Unit {0}
IsPortTest (port.Below n) = Unit {0}
IsPortTest (port.Above n) = Unit {0}

-- tcp (6) has the bits ACK and RST (RFC 9293 s.3.1), icmp (1) has types and codes (RFC 792)
abbrev pub IsFurtherTestOf : ProtocolTest → FurtherTest → Type 0
IsFurtherTestOf p further.Any = Unit {0}
IsFurtherTestOf p further.Established = p ≡ protocol.Is 6
IsFurtherTestOf p (further.Icmp icmp_type code) = p ≡ protocol.Is 1

-- a line of a standard list tests its source alone
abbrev pub IsOfKind : AccessListKind → AccessListLine → Type 0
IsOfKind Standard l = l ≡ standard_line l.sequence l.action l.source
IsOfKind Extended l = Unit {0}

-- a line of a list of this kind: ports are tested only where the protocol is tcp or udp, `established` only where it is
-- tcp, an ICMP type only where it is icmp
pub record IsLawfulLine (kind : AccessListKind) (l : AccessListLine) : Type 0 where
  pub sequence : IsSequence l.sequence
  pub of_kind : IsOfKind kind l
  pub source_port : IsPortTest l.source_port
  pub destination_port : IsPortTest l.destination_port
  pub no_ports : has_ports l.protocol ≡ false → (l.source_port ≡ port.Any) × (l.destination_port ≡ port.Any)
  pub further : IsFurtherTestOf l.protocol l.further

-- lines by rising number, each lawful for the list's kind
pub record IsLawfulAccessList (f : AccessList) : Type 0 where
  pub in_order : AreLinesInOrder f.lines
  pub lines : All (IsLawfulLine f.kind) f.lines
