-- What comes over a session of a path, and sessions where the path's prefix isn't asked.
use Rattle.std.specs.Prelude.{◌≡◌, ℕ, Option, Some, option_and_then, option_map}
use Rattle.rc_base.specs.Prefix.{Cidr}
use Rattle.rc_config.specs.declared.bgp.Neighbor.{Neighbor}
use Rattle.rc_config.specs.declared.network.Network.{Network}
use Rattle.rc_route.specs.Paths.{for_prefix}
use Rattle.rc_route.specs.declared.path.BgpPath.{BgpPath}
use Rattle.rc_bgp_session.specs.Passing.{ask, export, import}
use Rattle.rc_bgp_session.specs.declared.session.Session.{Session}

-- what the receiver of a session takes of a path of its sender (RFC 4271 s.9.2, s.9.1.2)
abbrev pub passed : Network → Session → BgpPath → Option BgpPath
passed net s x = option_and_then (import net s) (export net s x)

-- what a router's statement about an address says of the neighbour there
abbrev pub statement : Network → ℕ → ℕ → Option Neighbor
statement net r a = ask net r a (λ file asn n. Some n)

-- a session asks no prefix: what comes of a path comes of the same path for any other prefix
pub record AsksNoPrefix (net : Network) (s : Session) : Type 0 where
  pub each : (p : Cidr) (x : BgpPath) → passed net s (for_prefix p x) ≡ option_map (for_prefix p) (passed net s x)
