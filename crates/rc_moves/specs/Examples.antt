-- Small networks and their tables, written by hand.
use Rattle.std.specs.Prelude.{ℕ, ◌+◌, ◌-◌, ◌*◌, ◌%◌, true, false, List, [], ◌∷◌, map, Some, None, codes}
use Rattle.std.specs.List.{enumerate_from, range_with_len}
use Rattle.rc_base.specs.Fields.{zeros}
use Rattle.rc_base.specs.Prefix.{prefix_at}
use Rattle.rc_base.specs.declared.ending.Ends.{Ends}
use Rattle.rc_base.specs.declared.header.Header.{Header}
use Rattle.rc_base.specs.declared.position.IfId.{IfId}
use Rattle.rc_config.specs.AccessList.{any_address, host_address, no_lines, standard_line, with_line}
use Rattle.rc_config.specs.Cuts.{uncut}
use Rattle.rc_config.specs.Interface.{fresh}
use Rattle.rc_config.specs.Lists.{no_lists}
use Rattle.rc_config.specs.Update.{empty as empty_file}
use Rattle.rc_config.specs.declared.access_list.Action.TheVariants.{Deny, Permit}
use Rattle.rc_config.specs.declared.access_list.AccessList.{AccessList}
use Rattle.rc_config.specs.declared.access_list.AccessListKind.TheVariants.{Standard}
use Rattle.rc_config.specs.declared.interface.Interface.{Interface}
use Rattle.rc_config.specs.declared.network.Network.{Network}
use Rattle.rc_config.specs.declared.router_text.RouterText.{RouterText}
use Rattle.rc_route.specs.declared.route.Hop.{Hop}
use Rattle.rc_route.specs.declared.route.Hop.TheVariants.{Dev, Via}
use Rattle.rc_route.specs.declared.route.Route.{Route}
use Rattle.rc_route.specs.declared.route.Source.TheVariants.{Connected, Static}
use Rattle.rc_moves.specs.Moves.{DataPlane, plane_of}

abbrev pub ip : ℕ → ℕ → ℕ → ℕ → ℕ
ip a b c d = a * 16777216 + b * 65536 + c * 256 + d

-- a packet to an address
abbrev pub to : ℕ → Header
to a = record zeros { dst = a }

abbrev pub port : ℕ → ℕ → IfId
port r n = record { router = r; index = n }

-- ---- configurations

abbrev pub with_address : ℕ → ℕ → Interface
with_address a len = record fresh { primary = Some (record { addr = a; len = len }) }

abbrev pub shut : Interface → Interface
shut i = record i { shutdown = true }

abbrev pub gi0 : List ℕ
gi0 = codes "GigabitEthernet0/0"

abbrev pub gi1 : List ℕ
gi1 = codes "GigabitEthernet0/1"

abbrev pub gi2 : List ℕ
gi2 = codes "GigabitEthernet0/2"

abbrev pub se0 : List ℕ
se0 = codes "Serial0/0"

abbrev pub lo0 : List ℕ
lo0 = codes "Loopback0"

-- the network of routers RA, RB and so on with these interfaces
abbrev pub network : List (List (List ℕ × Interface)) → Network
network routers = uncut (map (λ e. (82 ∷ (e.0 + 65) ∷ [], record empty_file { interfaces = e.1 })) (enumerate_from 0 routers))

-- ---- access lists

abbrev pub deny : List ℕ
deny = codes "DENY"

abbrev pub host : List ℕ
host = codes "HOST"

abbrev pub empty : List ℕ
empty = codes "EMPTY"

-- a list that denies all, one that permits what comes from 10.0.7.1, and one without lines
abbrev pub lists : List (List ℕ × AccessList)
lists =
    (deny, with_line (no_lines Standard) (standard_line 10 Deny any_address)) ∷ (host, with_line (no_lines Standard) (standard_line 10 Permit (host_address (ip 10 0 7 1)))) ∷ (empty, no_lines Standard) ∷ []

-- the network where each router has these lists
abbrev pub with_lists : Network → Network
with_lists net = record net { routers = map (λ (e : List ℕ × RouterText). (e.0, record e.1 { lists = record no_lists { access_lists = lists } })) net.routers }

-- ---- tables

abbrev pub connected : ℕ → ℕ → ℕ → ℕ → Route
connected r a len n = record { prefix = prefix_at a len; source = Connected; distance = 0; metric = 0; hops = Dev (port r n) ∷ [] }

abbrev pub static : ℕ → ℕ → List Hop → Route
static a len hops = record { prefix = prefix_at a len; source = Static; distance = 1; metric = 0; hops = hops }

abbrev pub via : ℕ → Hop
via a = Via a None

-- a network with a table for each router
abbrev pub plane : Network → List (List Route) → DataPlane
plane net tables = plane_of net (map (λ table. record { table = table; paths = [] }) tables)

-- ---- endings

abbrev pub none : Ends
none = record { denied_in = false; accepted = false; no_route = false; null_routed = false; denied_out = false; unreachable = false; exits = false; delivered = false }

abbrev pub taken : Ends
taken = record none { accepted = true; delivered = true }

-- ---- networks that several files ask

-- two routers, each with a default route to the other
abbrev pub pair : DataPlane
pair =
    plane (network (((gi0, with_address (ip 10 0 0 1) 24) ∷ []) ∷ ((gi0, with_address (ip 10 0 0 2) 24) ∷ (gi1, with_address (ip 10 0 1 2) 24) ∷ []) ∷ []))
    ((static 0 0 (via (ip 10 0 0 2) ∷ []) ∷ connected 0 (ip 10 0 0 0) 24 0 ∷ []) ∷ (static 0 0 (via (ip 10 0 0 1) ∷ []) ∷ connected 1 (ip 10 0 0 0) 24 0 ∷ connected 1 (ip 10 0 1 0) 24 1 ∷ []) ∷ [])

-- a ring of routers, each with a default route to the next
abbrev pub ring : ℕ → DataPlane
ring n =
    plane (network (map (λ k. (gi0, with_address (ip 10 0 k 1) 24) ∷ (gi1, with_address (ip 10 0 ((k + n - 1) % n) 2) 24) ∷ []) (range_with_len 0 n)))
    (map (λ k. static 0 0 (via (ip 10 0 k 2) ∷ []) ∷ connected k (ip 10 0 k 0) 24 0 ∷ []) (range_with_len 0 n))
