-- Tests of ports.
use Rattle.std.specs.Prelude.{ℕ, Bool, ◌||◌, List, [], ◌∷◌, ◌++◌, length, drop, nat_le, Option, Some, None, if◌then◌else◌, is_some, codes}
use Rattle.std.specs.Option.{option_and_then}
use Rattle.std.specs.Str.{bytes_eq}
use Rattle.rc_openings.specs.Values.{address_of}
use Rattle.rc_openings.specs.Part.{Part, and_then, part_map, before, each_value}
use Rattle.rc_config.specs.AccessList.{has_ports}
use Rattle.rc_config.specs.PortLists.{ports_of}
use Rattle.rc_config.specs.declared.access_list.AddressTest.{AddressTest}
use Rattle.rc_config.specs.declared.access_list.PortTest.{PortTest}
use Rattle.rc_config.specs.declared.access_list.PortTest.TheVariants as test
use Rattle.rc_config.specs.declared.access_list.ProtocolTest.{ProtocolTest}
use Rattle.rc_gram_acl.specs.declared.ports.Operator.{Operator}
use Rattle.rc_gram_acl.specs.declared.ports.Operator.TheVariants.{Equal, NotEqual, Below, Above, Within}
use Rattle.rc_gram_acl.specs.declared.ports.Side.{Side}
use Rattle.rc_gram_acl.specs.declared.ports.Side.TheVariants.{Source, Destination}
use Rattle.rc_gram_acl.specs.declared.ports.EndPoint.{EndPoint}
use Rattle.rc_gram_acl.specs.Address.{address}
use Rattle.rc_gram_acl.specs.Further.{is_established, is_log}
use Rattle.rc_gram_acl.specs.Values.{port_of}

-- the words with which tests of ports begin
abbrev pub operator_of : List ℕ → Option Operator
operator_of w =
    if bytes_eq w (codes "eq") then Some Equal
    else (if bytes_eq w (codes "neq") then Some NotEqual
    else (if bytes_eq w (codes "lt") then Some Below
    else (if bytes_eq w (codes "gt") then Some Above
    else (if bytes_eq w (codes "range") then Some Within
    else None))))

-- an address begins with this word
abbrev pub begins_address : List ℕ → Bool
begins_address w = bytes_eq w (codes "any") || bytes_eq w (codes "host") || is_some (address_of w)

-- behind the ports of the source stands an address, and behind those of the destination `established` or a word that logs
abbrev pub ends_ports : Side → List ℕ → Bool
ends_ports Source w = begins_address w
ends_ports Destination w = is_log w || is_established w

-- the words up to one that ends the ports
abbrev pub until_end : Side → List (List ℕ) → List (List ℕ)
until_end side [] = []
until_end side (w ∷ rest) = if ends_ports side w then [] else w ∷ until_end side rest

-- the words that stand for ports behind `eq` and `neq`: the first, whatever it is, and those up to one that ends them
abbrev pub listed : Side → List (List ℕ) → List (List ℕ)
listed side [] = []
listed side (w ∷ rest) = w ∷ until_end side rest

-- these words are one to ten ports, and the others are left
abbrev pub port_list : Side → List (List ℕ) → Part (List ℕ)
port_list side words = before (drop (length (listed side words)) words) (option_and_then ports_of (each_value port_of (listed side words)))

-- one to ten ports: these, and those that the words name up to one that ends the ports
abbrev pub ports_with : Side → List ℕ → List (List ℕ) → Part (List ℕ)
ports_with side ports rest = before (drop (length (until_end side rest)) rest) (option_and_then (λ more. ports_of (ports ++ more)) (each_value port_of (until_end side rest)))

-- the port behind `lt` and `gt`
abbrev pub one_port : List (List ℕ) → Part ℕ
one_port [] = None
one_port (w ∷ rest) = before rest (port_of w)

-- from the first port to the second, which isn't lower
abbrev pub range_of : Option ℕ → Option ℕ → Option PortTest
range_of (Some low) (Some high) = if nat_le low high then Some (test.Within low high) else None
range_of _ _ = None

abbrev pub port_range : List (List ℕ) → Part PortTest
port_range (low ∷ high ∷ rest) = before rest (range_of (port_of low) (port_of high))
port_range _ = None

-- what stands behind an operator
abbrev pub operands : Operator → Side → List (List ℕ) → Part PortTest
operands Equal side rest = part_map test.Equal (port_list side rest)
operands NotEqual side rest = part_map test.NotEqual (port_list side rest)
operands Below side rest = part_map test.Below (one_port rest)
operands Above side rest = part_map test.Above (one_port rest)
operands Within side rest = port_range rest

-- `eq X..`, `neq X..`, `lt X`, `gt X`, `range X X` or nothing, which is every port
abbrev pub test_by : Option Operator → Side → List ℕ → List (List ℕ) → Part PortTest
test_by None side w rest = Some (test.Any, w ∷ rest)
test_by (Some operator) side w rest = operands operator side rest

abbrev pub port_test : Side → List (List ℕ) → Part PortTest
port_test side [] = Some (test.Any, [])
port_test side (w ∷ rest) = test_by (operator_of w) side w rest

-- only where the protocol has ports
abbrev pub port_part : ProtocolTest → Side → List (List ℕ) → Part PortTest
port_part protocol side words = if has_ports protocol then port_test side words else Some (test.Any, words)

-- an address and the ports there
abbrev pub end_point : ProtocolTest → Side → List (List ℕ) → Part EndPoint
end_point protocol side words =
    and_then (address words) (λ (a : AddressTest) rest. part_map (λ t. record { addr = a; port = t }) (port_part protocol side rest))
