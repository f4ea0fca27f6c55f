-- What each router says in BGP: its AS, its identifier (RFC 4271 s.4.2), its own addresses and those from which it speaks.
use Rattle.std.specs.Prelude.{ℕ, Bool, false, max, not, ◌||◌, if◌then◌else◌, List, [], map, length, Option, Some, None, is_some, unwrap_or, option_and_then, slice_get}
use Rattle.std.specs.List.{filter, filter_map, flat_map, find, fold, range_with_len}
use Rattle.std.specs.Option.{option_map, option_map_or, option_or}
use Rattle.std.specs.Ordering.{nat_cmp}
use Rattle.rc_base.specs.Lists.{in_order}
use Rattle.rc_base.specs.Prefix.{contains}
use Rattle.rc_base.specs.declared.position.IfId.{IfId}
use Rattle.rc_config.specs.Bgp.{address_of}
use Rattle.rc_config.specs.ByNumber.{with_number}
use Rattle.rc_config.specs.Down.{Entries, is_down, prefix_of}
use Rattle.rc_config.specs.IfType.{type_of}
use Rattle.rc_config.specs.Interface.{declared_addresses}
use Rattle.rc_config.specs.Members.{router_at, router_ids}
use Rattle.rc_config.specs.Named.{named}
use Rattle.rc_config.specs.declared.bgp.BgpProcess.{BgpProcess}
use Rattle.rc_config.specs.declared.bgp.Neighbor.{Neighbor}
use Rattle.rc_config.specs.declared.interface.IfAddr.{IfAddr}
use Rattle.rc_config.specs.declared.interface.Interface.{Interface}
use Rattle.rc_config.specs.declared.network.Network.{Network}
use Rattle.rc_config.specs.declared.router_text.RouterText.{RouterText}
use Rattle.rc_topology.specs.Ports.{is_loopback_type}
use Rattle.rc_bgp.specs.declared.speaker.OwnAddr.{OwnAddr}
use Rattle.rc_bgp.specs.declared.speaker.Speaker.{Speaker}
use Rattle.rc_bgp.specs.declared.statement.Statement.{Statement}

-- ---- own addresses

abbrev pub own_addr : IfId → List ℕ → IfAddr → OwnAddr
own_addr id name a = record { interface = id; addr = a.addr; prefix = prefix_of a; is_loopback = is_loopback_type (type_of name) }

-- those of the interface at an index while it is up, the primary one first, then as written
abbrev pub addresses_at : ℕ → Entries → ℕ → List OwnAddr
addresses_at r entries index = option_map_or (λ e. if is_down entries e.0 then [] else map (own_addr (record { router = r; index = index }) e.0) (declared_addresses e.1)) (slice_get entries index) []

-- those of a router: of all its interfaces that are up, as declared
abbrev pub router_addresses : ℕ → Entries → List OwnAddr
router_addresses r entries = flat_map (addresses_at r entries) (range_with_len 0 (length entries))

-- ---- the identifier

abbrev pub greater : Option ℕ → ℕ → Option ℕ
greater None a = Some a
greater (Some b) a = Some (max b a)

-- the greatest of some addresses
abbrev pub greatest : List OwnAddr → Option ℕ
greatest own = fold (λ known (o : OwnAddr). greater known o.addr) None own

-- the greatest address of a loopback, else the greatest address, else 0
abbrev pub by_address : List OwnAddr → ℕ
by_address own = unwrap_or (option_or (greatest (filter (λ (o : OwnAddr). o.is_loopback) own)) (greatest own)) 0

-- the configured identifier, else one of the own addresses
abbrev pub identifier : BgpProcess → List OwnAddr → ℕ
identifier process own = unwrap_or process.router_id (by_address own)

-- ---- the local address of a `neighbor` statement

-- that of `update-source`: the primary address of the interface while it is up
abbrev pub source_address : Entries → List ℕ → Option ℕ
source_address entries name = if is_down entries name then None else option_and_then (λ (i : Interface). option_map (λ (a : IfAddr). a.addr) i.primary) (named entries name)

-- the first own address whose prefix holds the neighbour
abbrev pub facing : List OwnAddr → ℕ → Option ℕ
facing own a = option_map (λ (o : OwnAddr). o.addr) (find (λ (o : OwnAddr). contains o.prefix a) own)

abbrev pub local_address : Entries → List OwnAddr → Neighbor → Option ℕ
local_address entries own n = option_map_or (source_address entries) n.settings.update_source (facing own n.address)

-- a statement that may make sessions: it is active and not shut down, names an AS and has a local address
abbrev pub statement_of : Entries → List OwnAddr → Neighbor → Option Statement
statement_of entries own n =
    if n.settings.is_shutdown || not n.is_active then None
    else option_and_then (λ asn. option_map (λ a. record { local = a; neighbor = n.address; remote_as = asn; is_multihop = n.settings.is_multihop }) (local_address entries own n)) n.settings.remote_as

-- ---- speakers

-- the address from which a router speaks by a statement
abbrev pub local_of : Entries → List OwnAddr → Neighbor → Option ℕ
local_of entries own n = option_map (λ (s : Statement). s.local) (statement_of entries own n)

-- the addresses from which a router speaks, rising, each once
abbrev pub local_addresses : Entries → List OwnAddr → List Neighbor → List ℕ
local_addresses entries own neighbors = in_order nat_cmp (filter_map (local_of entries own) neighbors)

abbrev pub silent : ℕ → Speaker
silent r = record { router = r; asn = 0; id = 0; own = []; locals = [] }

abbrev pub speaker_with : ℕ → Entries → BgpProcess → List OwnAddr → Speaker
speaker_with r entries process own = record { router = r; asn = process.asn; id = identifier process own; own = own; locals = local_addresses entries own process.neighbors }

abbrev pub speaker_of : ℕ → RouterText → Speaker
speaker_of r file = option_map_or (λ process. speaker_with r file.interfaces process (router_addresses r file.interfaces)) file.bgp (silent r)

-- a router without a process says nothing
abbrev pub speaker_at : Network → ℕ → Speaker
speaker_at net r = option_map_or (speaker_of r) (router_at net r) (silent r)

unfoldable pub speakers : Network → List Speaker
speakers net = map (speaker_at net) (router_ids net)

-- the statement of a file about an address
abbrev pub statement_in : List OwnAddr → ℕ → RouterText → Option Statement
statement_in own a file = option_and_then (λ (process : BgpProcess). option_and_then (statement_of file.interfaces own) (with_number address_of a process.neighbors)) file.bgp

-- the router of a speaker has a process
abbrev pub has_process : Network → Speaker → Bool
has_process net s = option_map_or (λ (file : RouterText). is_some file.bgp) (router_at net s.router) false

-- the statement of a speaker about an address
abbrev pub statement_about : Network → Speaker → ℕ → Option Statement
statement_about net s a = option_and_then (statement_in s.own a) (router_at net s.router)
