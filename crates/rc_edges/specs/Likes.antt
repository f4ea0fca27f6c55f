-- Positions of a router at which the same packets enter: what goes on from one goes on from the other.
use Rattle.std.specs.Prelude.{◌≡◌, ℕ, Bool, true, false, ◌&&◌, ◌==◌, List, Option, Some, None}
use Rattle.std.specs.Option.{option_map_or}
use Rattle.std.specs.Str.{bytes_eq}
use Rattle.rc_base.specs.declared.position.IfId.{IfId}
use Rattle.rc_base.specs.declared.position.Pos.{Pos}
use Rattle.rc_base.specs.declared.position.Pos.TheVariants.{Own, Entering}
use Rattle.rc_config.specs.Interface.{group_of}
use Rattle.rc_config.specs.Members.{interface_at}
use Rattle.rc_config.specs.declared.interface.Direction.TheVariants.{In}
use Rattle.rc_config.specs.declared.network.Network.{Network}
use Rattle.rc_router_sets.specs.Sent.{let_in, let_out}
use Rattle.rc_moves.specs.Moves.{router_of}

pub record IsLike (net : Network) (q t : Pos) : Type 0 where
  pub router : router_of q ≡ router_of t
  pub let_in : let_in net q ≡ let_in net t
  pub let_out : (i : IfId) → let_out net q i ≡ let_out net t i

-- ---- a test that says so

-- the inbound access group of an interface
abbrev pub group_in : Network → IfId → Option (List ℕ)
group_in net i = option_map_or (λ e. group_of e.1 In) (interface_at net i) None

abbrev pub same_group : Option (List ℕ) → Option (List ℕ) → Bool
same_group None None = true
same_group None (Some b) = false
same_group (Some a) None = false
same_group (Some a) (Some b) = bytes_eq a b

-- the router's own position and itself, or interfaces of a router with one inbound group
abbrev pub is_like : Network → Pos → Pos → Bool
is_like net (Own r) (Own s) = r == s
is_like net (Own r) (Entering j) = false
is_like net (Entering i) (Own s) = false
is_like net (Entering i) (Entering j) = (i.router == j.router) && same_group (group_in net i) (group_in net j)
