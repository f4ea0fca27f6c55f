-- A walk, as text.
use Rattle.std.specs.Prelude.{List, ℕ, ◌++◌, codes, flat_map}
use Rattle.rc_base.specs.Endings.{kind_word}
use Rattle.rc_base.specs.declared.position.Pos.{Pos}
use Rattle.rc_base.specs.declared.position.Pos.TheVariants.{Own, Entering}
use Rattle.rc_config.specs.declared.network.Network.{Network}
use Rattle.rc_report.specs.RouteText.{interface_name, router_name}
use Rattle.rc_moves.specs.declared.walk.Stop.{Stop}
use Rattle.rc_moves.specs.declared.walk.Stop.TheVariants.{At, Loop}
use Rattle.rc_moves.specs.declared.walk.Walk.{Walk}

-- a router that sends a packet by itself, or the interface by which the packet enters it
unfoldable pub position_line : Network → Pos → List ℕ
position_line net (Own r) = codes "at " ++ router_name net r ++ codes " self\n"
position_line net (Entering i) = codes "at " ++ router_name net i.router ++ codes " " ++ interface_name net i ++ codes "\n"

unfoldable pub stop_line : Stop → List ℕ
stop_line (At kind) = codes "end " ++ kind_word kind ++ codes "\n"
stop_line Loop = codes "end loop\n"

-- a walk: a line for each position, then how it stops
unfoldable pub walk_text : Network → Walk → List ℕ
walk_text net walk = flat_map (position_line net) walk.positions ++ stop_line walk.stop
