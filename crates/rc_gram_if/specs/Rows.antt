-- The rows of each form: what a line of it says, by its words behind the opening. A line that fits no row is BadValue.
use Rattle.std.specs.Prelude.{ℕ, Bool, true, false, ◌&&◌, ◌||◌, ◌==◌, nat_lt, List, [], ◌∷◌, Option, Some, None, Result, Ok, Err, if◌then◌else◌, is_some, is_none, not, codes}
use Rattle.std.specs.List.{list_all, list_any}
use Rattle.std.specs.Str.{bytes_eq}
use Rattle.std.specs.Char.{is_ascii_alphanumeric}
use Rattle.rc_base.specs.Name.{is_name, name_of}
use Rattle.rc_base.specs.Prefix.{Cidr}
use Rattle.rc_config.specs.DirectionWord.{direction_of}
use Rattle.rc_config.specs.IfType.{type_of}
use Rattle.rc_config.specs.declared.command.Command.{Command}
use Rattle.rc_config.specs.declared.command.Command.TheVariants as command
use Rattle.rc_config.specs.declared.interface.InterfaceLine.TheVariants as interface_line
use Rattle.rc_config.specs.declared.interface.Direction.{Direction}
use Rattle.rc_config.specs.declared.router_text.RouterText.{RouterText}
use Rattle.rc_config.specs.declared.static_route.Target.{Target}
use Rattle.rc_config.specs.declared.static_route.Target.TheVariants as target
use Rattle.rc_openings.specs.Values.{is_interface_name, number_within, address_of, mask_length_of, prefix_from}
use Rattle.rc_openings.specs.declared.reading.LineRefusal.{LineRefusal}
use Rattle.rc_openings.specs.declared.reading.LineRefusal.TheVariants.{Unsupported, BadValue}
use Rattle.rc_gram_if.specs.RouteOptions.{distance_of}

abbrev pub Answer : Type 0
Answer = Result Command LineRefusal

-- letters, digits, dash, underscore and dot
abbrev pub is_host_byte : ℕ → Bool
is_host_byte b = is_ascii_alphanumeric b || (b == 45) || (b == 95) || (b == 46)

abbrev pub is_host_name : List ℕ → Bool
is_host_name text = is_name text && list_all is_host_byte text

-- `hostname NAME`; a second one is refused
abbrev pub hostname : RouterText → ℕ → List (List ℕ) → Answer
hostname file line (name ∷ []) = if is_host_name name && is_none file.host then Ok (command.Hostname name line) else Err BadValue
hostname file line _ = Err BadValue

-- `interface IF`
abbrev pub interface : ℕ → List (List ℕ) → Answer
interface line (name ∷ []) = if is_interface_name name then Ok (command.Interface name line) else Err BadValue
interface line _ = Err BadValue

-- an address and a mask of length 1 to 32, in an interface of a type that may have addresses; in any other it isn't modelled
abbrev pub address_in : List ℕ → Bool → Option ℕ → Option ℕ → Answer
address_in owner secondary (Some a) (Some len) =
    if nat_lt 0 len then (if is_some (type_of owner) then Ok (command.InterfaceLine owner (interface_line.Address (record { addr = a; len = len }) secondary)) else Err Unsupported) else Err BadValue
address_in owner secondary _ _ = Err BadValue

-- `ip address A M [secondary]`
abbrev pub ip_address : List ℕ → List (List ℕ) → Answer
ip_address owner (a ∷ m ∷ []) = address_in owner false (address_of a) (mask_length_of m)
ip_address owner (a ∷ m ∷ s ∷ []) = if bytes_eq s (codes "secondary") then address_in owner true (address_of a) (mask_length_of m) else Err BadValue
ip_address owner _ = Err BadValue

-- `shutdown`, `no shutdown`
abbrev pub shutdown : List ℕ → Bool → List (List ℕ) → Answer
shutdown owner down [] = Ok (command.InterfaceLine owner (interface_line.Shutdown down))
shutdown owner down (w ∷ ws) = Err BadValue

abbrev pub kbits_in : List ℕ → Option ℕ → Answer
kbits_in owner (Some kbits) = Ok (command.InterfaceLine owner (interface_line.Bandwidth kbits))
kbits_in owner None = Err BadValue

-- `bandwidth N`, from 1 to 10,000,000 kbit/s
abbrev pub bandwidth : List ℕ → List (List ℕ) → Answer
bandwidth owner (n ∷ []) = kbits_in owner (number_within 1 10000000 n)
bandwidth owner _ = Err BadValue

abbrev pub group_in : List ℕ → Option (List ℕ) → Option Direction → Answer
group_in owner (Some list) (Some direction) = Ok (command.InterfaceLine owner (interface_line.AccessGroup list direction))
group_in owner _ _ = Err BadValue

-- `ip access-group NAME in|out`: any name, a number too, which stands for itself
abbrev pub access_group : List ℕ → List (List ℕ) → Answer
access_group owner (name ∷ way ∷ []) = group_in owner (name_of name) (direction_of way)
access_group owner _ = Err BadValue

-- a line `ip route` that fits no row and has one of these words isn't modelled
abbrev pub refused_in_route : List (List ℕ)
refused_in_route = codes "track" ∷ codes "permanent" ∷ codes "global" ∷ codes "multicast" ∷ codes "dhcp" ∷ []

-- such a word, and `Null0`, is no target that is an interface
abbrev pub is_reserved : List ℕ → Bool
is_reserved word = bytes_eq word (codes "Null0") || list_any (bytes_eq word) refused_in_route

abbrev pub is_device : List ℕ → Bool
is_device word = is_interface_name word && not (is_reserved word)

abbrev pub device_of : List ℕ → Option (List ℕ)
device_of word = if is_device word then Some word else None

abbrev pub route_with : Option Cidr → Target → Option ℕ → Answer
route_with (Some prefix) to (Some distance) = Ok (command.StaticRoute (record { prefix = prefix; target = to; distance = distance }))
route_with _ to _ = Err BadValue

-- a target, and the options behind it
abbrev pub route_to : Option Cidr → Target → List (List ℕ) → Answer
route_to prefix to rest = route_with prefix to (distance_of rest)

abbrev pub route_via : Option Cidr → Option ℕ → List (List ℕ) → Answer
route_via prefix (Some gateway) rest = route_to prefix (target.Via gateway) rest
route_via prefix None rest = Err BadValue

-- a target that is an interface: the word behind it is a gateway where it has the form of an address
abbrev pub route_out : Option Cidr → List ℕ → List (List ℕ) → Answer
route_out prefix device [] = route_to prefix (target.Dev device) []
route_out prefix device (w ∷ ws) = by (address_of w)
  where
    by : Option ℕ → Answer
    by (Some gateway) = route_to prefix (target.ViaDev gateway device) ws
    by None = route_to prefix (target.Dev device) (w ∷ ws)

-- the target that begins with a word: the interface that the word is, else `Null0` or a gateway
abbrev pub route_by : Option Cidr → Option (List ℕ) → List ℕ → List (List ℕ) → Answer
route_by prefix (Some device) word rest = route_out prefix device rest
route_by prefix None word rest = if bytes_eq word (codes "Null0") then route_to prefix target.Null rest else route_via prefix (address_of word) rest

-- `ip route A M TARGET [N] [name WORD] [tag N]`: the host bits of A under M are cleared
abbrev pub static_route : List (List ℕ) → Answer
static_route (a ∷ m ∷ word ∷ rest) = route_by (prefix_from (address_of a) (mask_length_of m)) (device_of word) word rest
static_route _ = Err BadValue
