-- The interfaces of a network under their prefixes and under their addresses, filled one by one as the code does it.
use Rattle.std.specs.Prelude.{◌≡◌, ℕ, ◌+◌, List, [], ◌∷◌, map}
use Rattle.std.specs.List.{fold}
use Rattle.rc_base.specs.declared.position.IfId.{IfId}
use Rattle.rc_base.specs.Index.{Rows, members, with_member}
use Rattle.rc_base.specs.Prefix.{Cidr, prefix_at}
use Rattle.rc_topology.specs.declared.filling.Indexes.{Indexes}
use Rattle.rc_topology.specs.Topology.{Topology}
use Rattle.rc_topology.specs.declared.port.Port.{Port}
use Rattle.rc_topology.specs.declared.port.PortAddr.{PortAddr}
use Rattle.rc_topology.specs.Links.{on_prefix, owners}

-- an address as a prefix of length 32
abbrev pub host : ℕ → Cidr
host a = prefix_at a 32

-- the addresses of an interface as prefixes
abbrev pub hosts : Port → List Cidr
hosts p = map (λ (a : PortAddr). host a.addr) p.addresses

-- an interface under one prefix more
abbrev pub with_interface : IfId → Rows → Cidr → Rows
with_interface i rows p = with_member rows p i

module _ (f : Port → List Cidr) where
  -- the interfaces of a router from an index on put under their prefixes
  abbrev pub with_ports : ℕ → ℕ → Rows → List Port → Rows
  with_ports router index rows [] = rows
  with_ports router index rows (p ∷ ps) = with_ports router (index + 1) (fold (with_interface (record { router = router; index = index })) rows (f p)) ps

  -- those of the routers from one on
  abbrev pub with_routers : ℕ → Rows → List (List Port) → Rows
  with_routers router rows [] = rows
  with_routers router rows (ps ∷ rest) = with_routers (router + 1) (with_ports router 0 rows ps) rest

-- under each prefix stand the interfaces that have it and aren't loopbacks, and under each address its owners, in position order
pub record IsIndexed (links : Topology) (x : Indexes) : Type 0 where
  pub by_prefix : (p : Cidr) → members x.by_prefix p ≡ on_prefix links p
  pub by_addr : (a : ℕ) → members x.by_addr (host a) ≡ owners links a
