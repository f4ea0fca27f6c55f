use Rattle.std.proofs.Common.{◌≡◌, ◌++◌, drop}
use Rattle.rc_rib.specs.Static.{active_lines}
use Rattle.rc_rib.proofs.active.active_lines.Given as goal

abbrev pub invariant-loop-line : goal.invariant-loop-line
invariant-loop-line l = l.lines.items ++ active_lines l.router l.file.interfaces l.old (drop l.line-index l.line-items) ≡ active_lines l.router l.file.interfaces l.old l.file.static_routes
