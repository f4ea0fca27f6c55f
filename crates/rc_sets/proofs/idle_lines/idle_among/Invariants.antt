use Rattle.std.proofs.Common.{◌≡◌, ◌++◌, [], List, drop, take}
use Rattle.rc_config.specs.declared.access_list.AccessListLine.{AccessListLine}
use Rattle.rc_nodes.specs.Seats.{IsSeatOf, Keeps}
use Rattle.rc_sets.specs.Deciding.{AreDecided}
use Rattle.rc_sets.specs.IdleLines.{idle_behind}
use Rattle.rc_sets.proofs.idle_lines.idle_among.Given as goal

-- the idle lines so far, and then those among the lines that are left, are all of them
abbrev pub invariant-loop-index : goal.invariant-loop-index
invariant-loop-index g l = record {
  seat : IsSeatOf l.nodes l.work;
  keeps : Keeps l.fn.work l.work;
  so_far : (lines : List AccessListLine) → AreDecided l.fn.work [] lines l.all → l.idle ++ idle_behind (take l.index lines) (drop l.index lines) ≡ idle_behind [] lines;
}
