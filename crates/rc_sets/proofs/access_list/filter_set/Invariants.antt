use Rattle.rc_nodes.specs.Seats.{IsSeatOf, Keeps}
use Rattle.rc_sets.proofs.LineLaws.{IsMade}
use Rattle.rc_sets.proofs.access_list.filter_set.Given as goal

-- the lines behind those that are left are made
abbrev pub invariant-loop-line : goal.invariant-loop-line
invariant-loop-line g l = record {
  seat : IsSeatOf l.nodes l.work;
  keeps : Keeps l.fn.work l.work;
  made : IsMade l.access_list.lines l.line-iterator.iter l.work l.set.index;
}
