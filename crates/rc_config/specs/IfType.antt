-- The types of interfaces that may have addresses, and their nominal bandwidths.
use Rattle.std.specs.Prelude.{ℕ, suc, zero, List, [], ◌∷◌, length, Option, codes}
use Rattle.std.specs.List.{before_first, find}
use Rattle.std.specs.Char.{is_ascii_digit}
use Rattle.std.specs.Option.{option_map_or}
use Rattle.rc_base.specs.Name.{same_name}
use Rattle.rc_config.specs.Down.{parent_of}
use Rattle.rc_config.specs.declared.if_type.IfType.{IfType}
use Rattle.rc_config.specs.declared.if_type.IfType.TheVariants.{Ethernet, FastEthernet, GigabitEthernet, TenGigabitEthernet, Serial, Loopback, Vlan, PortChannel}

-- how the names of its interfaces begin
abbrev pub type_word : IfType → List ℕ
type_word Ethernet = codes "Ethernet"
type_word FastEthernet = codes "FastEthernet"
type_word GigabitEthernet = codes "GigabitEthernet"
type_word TenGigabitEthernet = codes "TenGigabitEthernet"
type_word Serial = codes "Serial"
type_word Loopback = codes "Loopback"
type_word Vlan = codes "Vlan"
type_word PortChannel = codes "Port-channel"

-- the bandwidth in kbit/s of an interface whose block sets none
abbrev pub nominal_bandwidth : IfType → ℕ
nominal_bandwidth Ethernet = 10000
nominal_bandwidth FastEthernet = 100000
nominal_bandwidth GigabitEthernet = 1000000
nominal_bandwidth TenGigabitEthernet = 10000000
nominal_bandwidth Serial = 1544
nominal_bandwidth Loopback = 8000000
nominal_bandwidth Vlan = 1000000
nominal_bandwidth PortChannel = 1000000

-- all types; no two have one word
abbrev pub all_types : List IfType
all_types = Ethernet ∷ FastEthernet ∷ GigabitEthernet ∷ TenGigabitEthernet ∷ Serial ∷ Loopback ∷ Vlan ∷ PortChannel ∷ []

-- the front of a name, up to its first digit
abbrev pub front_of : List ℕ → List ℕ
front_of name = before_first is_ascii_digit name

-- the name above so many parents, or above as many as there are
abbrev pub main_within : ℕ → List ℕ → List ℕ
main_within zero name = name
main_within (suc parents) name = option_map_or (main_within parents) (parent_of name) name

-- the name of the main interface: that of a subinterface `X.n` is that of X, and a name that is no subinterface's is its own. A parent's name
-- is shorter, so there are no more above one than it has bytes.
abbrev pub main_name : List ℕ → List ℕ
main_name name = main_within (length name) name

-- the type of the interfaces of this name, where it is one of those that may have addresses: the front of the main interface's name says it, so
-- a subinterface has its parent's (`type_of_subinterface`)
unfoldable pub type_of : List ℕ → Option IfType
type_of name = find (λ t. same_name (type_word t) (front_of (main_name name))) all_types
