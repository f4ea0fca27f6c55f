-- What is kept of each interface to answer on links: its own addresses, its prefixes and its type.
use Rattle.std.specs.Prelude.{ℕ, ◌==◌, Bool, true, false, not, ◌&&◌, if◌then◌else◌, List, [], ◌∷◌, ◌++◌, map, Option, Some}
use Rattle.std.specs.List.{list_any}
use Rattle.std.specs.Option.{option_map_or}
use Rattle.rc_base.specs.Lists.{in_order}
use Rattle.rc_base.specs.Prefix.{Cidr, contains, prefix_cmp, same_prefix}
use Rattle.rc_config.specs.Down.{Entries, is_down, prefix_of, prefixes_of}
use Rattle.rc_config.specs.IfType.{type_of}
use Rattle.rc_config.specs.Interface.{declared_addresses}
use Rattle.rc_config.specs.MaskedAddr.{MaskedAddr}
use Rattle.rc_config.specs.declared.if_type.IfType.{IfType}
use Rattle.rc_config.specs.declared.if_type.IfType.TheVariants.{Serial, Loopback}
use Rattle.rc_config.specs.declared.interface.Interface.{Interface}
use Rattle.rc_config.specs.declared.network.Network.{Network}
use Rattle.rc_config.specs.declared.router_text.RouterText.{RouterText}
use Rattle.rc_topology.specs.Topology.{Topology}
use Rattle.rc_topology.specs.declared.port.Port.{Port}
use Rattle.rc_topology.specs.declared.port.PortAddr.{PortAddr}

-- an address of an interface, with its prefix
abbrev pub port_addr : Bool → MaskedAddr → PortAddr
port_addr is_primary a = record { addr = a.addr; prefix = prefix_of a; is_primary = is_primary }

-- the addresses of a block, the primary one first, then the others as written
abbrev pub block_addresses : Interface → List PortAddr
block_addresses i = option_map_or (λ a. port_addr true a ∷ []) i.primary [] ++ map (port_addr false) i.secondary

-- the own addresses of an interface: those of its block while it is up
abbrev pub own_addresses : Entries → List ℕ × Interface → List PortAddr
own_addresses entries e = if is_down entries e.0 then [] else block_addresses e.1

-- what is kept of an interface that is up: its prefixes are in order, each once
abbrev pub port_up : Option IfType → Interface → Port
port_up kind i = record { addresses = block_addresses i; prefixes = in_order prefix_cmp (map prefix_of (declared_addresses i)); kind = kind }

-- its prefixes while it is up, in order, each once
abbrev pub port_of : Entries → List ℕ × Interface → Port
port_of entries e = record { addresses = own_addresses entries e; prefixes = in_order prefix_cmp (prefixes_of entries e); kind = type_of e.0 }

-- the interfaces of a file, as declared
abbrev pub ports_of : RouterText → List Port
ports_of file = map (port_of file.interfaces) file.interfaces

-- the interfaces of each router, in the network's order
unfoldable pub all_ports : Network → List (List Port)
all_ports net = map (λ e. ports_of e.1) net.routers

-- the links of a network: what is kept of each router's interfaces, in the network's order, and where it is cut
unfoldable pub links_of : Network → Topology
links_of net = record { ports = map (λ e. ports_of e.1) net.routers; cuts = net.cuts }

-- the type of loopbacks
abbrev pub is_loopback_type : Option IfType → Bool
is_loopback_type (Some Loopback) = true
is_loopback_type _ = false

abbrev pub is_serial_type : Option IfType → Bool
is_serial_type (Some Serial) = true
is_serial_type _ = false

-- the interface is a loopback
abbrev pub is_loopback : Port → Bool
is_loopback p = is_loopback_type p.kind

-- the interface is a serial line
abbrev pub is_serial : Port → Bool
is_serial p = is_serial_type p.kind

-- the prefixes by which it shares links: a loopback shares none
abbrev pub link_prefixes : Port → List Cidr
link_prefixes p = if is_loopback p then [] else p.prefixes

-- the address is one of the interface's own
abbrev pub owns : ℕ → Port → Bool
owns a p = list_any (λ (b : PortAddr). a == b.addr) p.addresses

-- the address lies in one of its prefixes
abbrev pub holds : ℕ → Port → Bool
holds a p = list_any (λ x. contains x a) p.prefixes

-- some prefix of the first ones is one of the second ones
abbrev pub some_is_in : List Cidr → List Cidr → Bool
some_is_in ps qs = list_any (λ x. list_any (same_prefix x) qs) ps

-- neither is a loopback, and some address of each has the same prefix
abbrev pub share_prefix : Port → Port → Bool
share_prefix p q = not (is_loopback p) && not (is_loopback q) && some_is_in p.prefixes q.prefixes

-- it has the prefix, and isn't a loopback
abbrev pub is_on : Cidr → Port → Bool
is_on x p = not (is_loopback p) && list_any (same_prefix x) p.prefixes
