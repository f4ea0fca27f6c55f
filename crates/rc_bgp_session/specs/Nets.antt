-- Small networks for worked cases.
use Rattle.std.specs.Prelude.{ℕ, ◌+◌, ◌*◌, true, false, List, [], ◌∷◌, map, Some, None, codes}
use Rattle.rc_base.specs.Prefix.{Cidr, prefix_at}
use Rattle.rc_base.specs.declared.origin.Origin.TheVariants.{Igp}
use Rattle.rc_config.specs.Bgp.{fresh as no_lines_about, no_lines, with_own}
use Rattle.rc_config.specs.Cuts.{uncut}
use Rattle.rc_config.specs.Interface.{fresh}
use Rattle.rc_config.specs.Update.{empty}
use Rattle.rc_config.specs.declared.bgp.BgpProcess.{BgpProcess}
use Rattle.rc_config.specs.declared.bgp.Neighbor.{Neighbor}
use Rattle.rc_config.specs.declared.bgp.NeighborSetting.TheVariants.{RemoteAs}
use Rattle.rc_config.specs.declared.interface.Interface.{Interface}
use Rattle.rc_config.specs.declared.network.Network.{Network}
use Rattle.rc_config.specs.declared.router_text.RouterText.{RouterText}
use Rattle.rc_route.specs.Best.{alone}
use Rattle.rc_route.specs.declared.path.BgpPath.{BgpPath}
use Rattle.rc_route.specs.declared.path.PathSource.{PathSource}
use Rattle.rc_route.specs.declared.route.Hop.TheVariants.{Dev, Via}
use Rattle.rc_route.specs.declared.route.Route.{Route}
use Rattle.rc_route.specs.declared.route.Source.TheVariants.{Connected, Static}
use Rattle.rc_route.specs.declared.state.RouterState.{RouterState}
use Rattle.rc_bgp_session.specs.declared.session.Session.{Session}

-- 10.0.m.n
abbrev pub ip : ℕ → ℕ → ℕ
ip m n = 10 * 16777216 + m * 256 + n

-- 10.0.m.0/24
abbrev pub subnet : ℕ → Cidr
subnet m = prefix_at (ip m 0) 24

abbrev pub gigabit : List ℕ
gigabit = codes "GigabitEthernet0/0"

abbrev pub gigabit_1 : List ℕ
gigabit_1 = codes "GigabitEthernet0/1"

abbrev pub loopback : List ℕ
loopback = codes "Loopback0"

-- an interface with 10.0.m.n/len
abbrev pub on : ℕ → ℕ → ℕ → Interface
on m n len = record fresh { primary = Some (record { addr = ip m n; len = len }) }

abbrev pub peer : ℕ → ℕ → Neighbor
peer address asn = with_own (no_lines_about address) (RemoteAs asn)

abbrev pub process : ℕ → List Neighbor → BgpProcess
process asn neighbors = record (no_lines asn) { neighbors = neighbors }

abbrev pub router : List (List ℕ × Interface) → BgpProcess → RouterText
router interfaces p = record empty { interfaces = interfaces; bgp = Some p }

abbrev pub two : RouterText → RouterText → Network
two a b = uncut ((codes "R1", a) ∷ (codes "R2", b) ∷ [])

abbrev pub three : RouterText → RouterText → RouterText → Network
three a b c = uncut ((codes "R1", a) ∷ (codes "R2", b) ∷ (codes "R3", c) ∷ [])

-- a session from address b of router s, whose identifier is that address, to address a of router r
abbrev pub external : ℕ → ℕ → ℕ → ℕ → Session
external s b r a = record { sender = s; sender_address = b; sender_id = b; receiver = r; receiver_address = a; is_external = true; is_shared = true }

abbrev pub internal : ℕ → ℕ → ℕ → ℕ → Session
internal s b r a = record (external s b r a) { is_external = false }

-- routes of router r
abbrev pub connected : ℕ → Cidr → ℕ → Route
connected r p index = record { prefix = p; source = Connected; distance = 0; metric = 0; hops = Dev (record { router = r; index = index }) ∷ [] }

abbrev pub static : Cidr → ℕ → Route
static p g = record { prefix = p; source = Static; distance = 1; metric = 0; hops = Via g None ∷ [] }

abbrev pub knows : List Route → List BgpPath → RouterState
knows table paths = record { table = table; paths = map alone paths }

-- 10.0.9.0/24 as it is originated at router r
abbrev pub ninth : ℕ → PathSource → BgpPath
ninth r source = record {
  prefix = subnet 9;
  next_hop = 0;
  med = 0;
  local_preference = 100;
  weight = 32768;
  origin = Igp;
  as_path = [];
  communities = [];
  source = source;
  sender = r;
  sender_id = 0;
  neighbor = 0;
  igp_metric = 0;
}
