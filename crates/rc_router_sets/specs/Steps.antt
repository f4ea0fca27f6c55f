-- The sets of one hop, each made of an earlier one and a part of the hop.
use Rattle.std.specs.Prelude.{ℕ, Bool, true, false, not, ◌&&◌, List, [], ◌∷◌, Option, Some, None, if◌then◌else◌}
use Rattle.rc_base.specs.declared.ending.Kind.{Kind}
use Rattle.rc_base.specs.declared.ending.Kind.TheVariants.{DeniedIn, Accepted, NoRoute, NullRouted, DeniedOut, Unreachable, Exits, Delivered}
use Rattle.rc_base.specs.declared.position.IfId.{IfId}
use Rattle.rc_base.specs.declared.position.Pos.{Pos}
use Rattle.rc_base.specs.declared.position.Pos.TheVariants.{Own, Entering}
use Rattle.rc_config.specs.declared.interface.Direction.TheVariants.{Out}
use Rattle.rc_router_sets.specs.Endings.{is_none}
use Rattle.rc_router_sets.specs.Sent.{forwarded, leaving, let_out, passing_at, sent, taken, to_subnets}
use Rattle.rc_router_sets.specs.declared.hop_steps.Part.{Part}
use Rattle.rc_router_sets.specs.declared.hop_steps.Part.TheVariants.{Over, LetOut, Taken, Subnets}
use Rattle.rc_router_sets.specs.declared.hop_steps.Step.{Step}
use Rattle.rc_router_sets.specs.declared.hop_steps.Step.TheVariants.{Forwarded, Sent, Leaving, Stopped, Untaken, Kept, Rest}
use Rattle.rc_route.specs.declared.route.Hop.{Hop}
use Rattle.rc_route.specs.declared.route.Hop.TheVariants.{Null, Dev, Via}
use Rattle.rc_sets.specs.Regions.{hop_set}
use Rattle.rc_topology.specs.Links.{linked, port_is, takers}
use Rattle.rc_topology.specs.Ports.{is_loopback, is_serial}
use Rattle.rc_topology.specs.Topology.{Topology}
use Rattle.rc_trees.specs.Combine as trees
use Rattle.rc_trees.specs.Recipes.{Recipe, and, minus}
use Rattle.rc_trees.specs.Trees.{Tree}
use Rattle.rc_moves.specs.Moves.{DataPlane, fib_of, router_of}

-- ---- parts

-- the interface of a hop, the first one of all where it has none
abbrev pub device : Hop → IfId
device Null = record { router = 0; index = 0 }
device (Dev i) = i
device (Via g None) = record { router = 0; index = 0 }
device (Via g (Some i)) = i

-- the parts of a router's hop
abbrev pub fixed : DataPlane → ℕ → Part → Hop → Recipe
fixed plane r Over x = hop_set (fib_of plane r) x
fixed plane r LetOut x = passing_at plane.network Out (device x)
fixed plane r Taken x = taken plane (device x)
fixed plane r Subnets x = to_subnets plane (device x)

-- and these at a position
abbrev pub part_at : DataPlane → Pos → Part → Hop → Recipe
part_at plane q Over x = hop_set (fib_of plane (router_of q)) x
part_at plane q LetOut x = let_out plane.network q (device x)
part_at plane q Taken x = taken plane (device x)
part_at plane q Subnets x = to_subnets plane (device x)

-- no outbound list is asked of the router's own packets
abbrev pub is_everything : Part → Pos → Bool
is_everything Over q = false
is_everything LetOut (Own r) = true
is_everything LetOut (Entering i) = false
is_everything Taken q = false
is_everything Subnets q = false

-- ---- steps

abbrev pub is_first : Step → Bool
is_first Forwarded = true
is_first Sent = false
is_first Leaving = false
is_first Stopped = false
is_first Untaken = false
is_first Kept = false
is_first Rest = false

abbrev pub earlier : Step → Step
earlier Forwarded = Forwarded
earlier Sent = Forwarded
earlier Leaving = Sent
earlier Stopped = Sent
earlier Untaken = Leaving
earlier Kept = Untaken
earlier Rest = Untaken

abbrev pub second : Step → Part
second Forwarded = Over
second Sent = Over
second Leaving = LetOut
second Stopped = LetOut
second Untaken = Taken
second Kept = Subnets
second Rest = Subnets

abbrev pub takes_away : Step → Bool
takes_away Forwarded = false
takes_away Sent = false
takes_away Leaving = false
takes_away Stopped = true
takes_away Untaken = true
takes_away Kept = false
takes_away Rest = true

-- the headers of the first set without those of the second, or in both
abbrev pub parted : Bool → Recipe → Recipe → Recipe
parted true r s = minus r s
parted false r s = and r s

abbrev pub operation : Bool → Tree → Tree → Tree
operation true s t = trees.minus s t
operation false s t = trees.and s t

-- what a step gives of a hop
abbrev pub step_at : DataPlane → Pos → Step → Hop → Recipe
step_at plane q Forwarded x = forwarded plane q
step_at plane q Sent x = sent plane q x
step_at plane q Leaving x = leaving plane q x (device x)
step_at plane q Stopped x = minus (sent plane q x) (let_out plane.network q (device x))
step_at plane q Untaken x = minus (leaving plane q x (device x)) (taken plane (device x))
step_at plane q Kept x = and (minus (leaving plane q x (device x)) (taken plane (device x))) (to_subnets plane (device x))
step_at plane q Rest x = minus (minus (leaving plane q x (device x)) (taken plane (device x))) (to_subnets plane (device x))

-- ---- which step an ending takes of a hop

abbrev pub if_so : Bool → Step → Option Step
if_so is s = if is then Some s else None

-- of one without a gateway
abbrev pub straight_step : Topology → Kind → IfId → Option Step
straight_step links DeniedIn i = None
straight_step links Accepted i = None
straight_step links NoRoute i = None
straight_step links NullRouted i = None
straight_step links DeniedOut i = Some Stopped
straight_step links Unreachable i = if_so (port_is links is_loopback i) Leaving
straight_step links Exits i = if_so (not (port_is links is_loopback i) && not (port_is links is_serial i && not (is_none (linked links i)))) Rest
straight_step links Delivered i = if_so (not (port_is links is_loopback i)) Kept

-- and of one with a gateway
abbrev pub gateway_step : Topology → Kind → ℕ → IfId → Option Step
gateway_step links DeniedIn g i = None
gateway_step links Accepted g i = None
gateway_step links NoRoute g i = None
gateway_step links NullRouted g i = None
gateway_step links DeniedOut g i = Some Stopped
gateway_step links Unreachable g i = if_so (port_is links is_loopback i) Leaving
gateway_step links Exits g i = if_so (not (port_is links is_loopback i) && is_none (takers links i g)) Leaving
gateway_step links Delivered g i = None

abbrev pub stop_step : Topology → Kind → Hop → Option Step
stop_step links k Null = None
stop_step links k (Dev i) = straight_step links k i
stop_step links k (Via g None) = None
stop_step links k (Via g (Some i)) = gateway_step links k g i

-- what it is, where there is one
abbrev pub step_sets : DataPlane → Pos → Option Step → Hop → List Recipe
step_sets plane q None x = []
step_sets plane q (Some s) x = step_at plane q s x ∷ []
