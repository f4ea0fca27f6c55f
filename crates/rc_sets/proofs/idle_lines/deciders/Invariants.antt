use Rattle.std.proofs.Common.{◌≡◌, ◌++◌, [], List, drop, take}
use Rattle.rc_config.specs.declared.access_list.AccessListLine.{AccessListLine}
use Rattle.rc_nodes.specs.Seats.{IsSeatOf, Keeps}
use Rattle.rc_sets.specs.Deciding.{AreDecided, IsDecided}
use Rattle.rc_sets.specs.IdleLines.{deciders}
use Rattle.rc_sets.proofs.idle_lines.deciders.Given as goal

-- the numbers so far, and then those among the lines that are left, are all of them
abbrev pub invariant-loop-earlier : goal.invariant-loop-earlier
invariant-loop-earlier g l = record {
  seat : IsSeatOf l.nodes l.work;
  keeps : Keeps l.fn.work l.work;
  so_far : (lines : List AccessListLine) (k : AccessListLine) → AreDecided l.fn.work [] lines l.before → IsDecided l.fn.work lines k l.line
      → l.by ++ deciders k (take l.earlier-index lines) (drop l.earlier-index lines) ≡ deciders k [] lines;
}
