-- Networks in which nobody asks for links.
use Rattle.std.specs.Prelude.{◌≡◌, ◌⊎◌, ℕ, None, IfSome}
use Rattle.rc_config.specs.Members.{router_at}
use Rattle.rc_config.specs.declared.network.Network.{Network}
use Rattle.rc_config.specs.declared.router_text.RouterText.{RouterText}
use Rattle.rc_topology.specs.Ports.{links_of}
use Rattle.rc_topology.specs.Topology.{Topology}

-- a router of this file runs neither OSPF nor BGP
abbrev pub IsSilent : RouterText → Type 0
IsSilent file = (file.ospf ≡ None) × (file.bgp ≡ None)

-- no router does
abbrev pub AreSilent : Network → Type 0
AreSilent net = (r : ℕ) → IfSome (router_at net r) IsSilent

-- they are those of the network, or nobody asks for any
abbrev pub AreAsked : Network → Topology → Type 0
AreAsked net links = (links ≡ links_of net) ⊎ AreSilent net
