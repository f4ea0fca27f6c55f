-- What is left of the interfaces that share a link, behind the last one given.
use Rattle.std.specs.Prelude.{ℕ, ◌==◌, Bool, not, ◌&&◌, List, filter, Option}
use Rattle.std.specs.List.{list_any, find}
use Rattle.rc_base.specs.declared.position.IfId.{IfId}
use Rattle.rc_base.specs.Prefix.{Cidr}
use Rattle.rc_topology.specs.Topology.{Topology}
use Rattle.rc_topology.specs.Links.{all_ids, on_prefix, port_is}
use Rattle.rc_topology.specs.Order.{earlier, is_behind}
use Rattle.rc_topology.specs.Ports.{is_on}

-- it stands behind the last one and is of another router
abbrev pub is_next : ℕ → Option IfId → IfId → Bool
is_next router last j = is_behind last j && not (router == j.router)

module _ (links : Topology) (router : ℕ) where
  -- it is left: it stands behind the last one, is of another router, and is on one of the prefixes
  abbrev pub is_left : List Cidr → Option IfId → IfId → Bool
  is_left prefixes last j = is_next router last j && port_is links (λ q. list_any (λ x. is_on x q) prefixes) j

  abbrev pub left_of : List Cidr → Option IfId → List IfId
  left_of prefixes last = filter (is_left prefixes last) (all_ids links)

  -- the first one left, with one prefix more
  abbrev pub with_prefix : Option IfId → Option IfId → Cidr → Option IfId
  with_prefix last first x = earlier first (find (is_next router last) (on_prefix links x))
