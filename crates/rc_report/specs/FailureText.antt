-- What becomes of a packet without a link, as text.
use Rattle.std.specs.Prelude.{ℕ, Bool, true, false, List, ◌++◌, codes, flat_map}
use Rattle.rc_base.specs.declared.position.IfId.{IfId}
use Rattle.rc_config.specs.declared.network.Network.{Network}
use Rattle.rc_report.specs.OutcomeText.{end_text}
use Rattle.rc_report.specs.RouteText.{interface_name, router_name}
use Rattle.rc_report.specs.declared.failures.FailRow.{FailRow}
use Rattle.rc_route.specs.declared.outcome.RoundsEnd.{RoundsEnd}
use Rattle.rc_route.specs.declared.outcome.RoundsEnd.TheVariants.{Fixed}

-- the interfaces between which the network is cut, each behind its router
unfoldable pub without_text : Network → IfId → IfId → List ℕ
without_text net first second = codes "without " ++ router_name net first.router ++ codes " " ++ interface_name net first ++ codes " " ++ router_name net second.router ++ codes " " ++ interface_name net second ++ codes " "

-- the end of the line: at a fixed point whether the packet arrives, and nothing of it where the rounds have none
abbrev pub arrival_text : RoundsEnd → Bool → List ℕ
arrival_text (Fixed k) true = codes " yes\n"
arrival_text (Fixed k) false = codes " no\n"
arrival_text end arrives = codes "\n"

-- the line of a pair: without it the rounds end so, and the packet arrives or doesn't
unfoldable pub failure_line : Network → FailRow → List ℕ
failure_line net row = (without_text net row.first row.second ++ end_text row.end) ++ arrival_text row.end row.arrives

-- a line for each pair
abbrev pub failures_text : Network → List FailRow → List ℕ
failures_text net rows = flat_map (failure_line net) rows
