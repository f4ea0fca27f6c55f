use Rattle.rc_nodes.specs.Seats.{IsSeatOf, Keeps}
use Rattle.rc_shares.specs.Stretches.{IsStretch}
use Rattle.rc_sets.specs.AskedLists.{IsIdleAt}
use Rattle.rc_sets.proofs.asked_lists.PlacesJob.share.Given as goal

abbrev pub invariant-loop-number : goal.invariant-loop-number
invariant-loop-number g l = record {
  seat : IsSeatOf l.nodes l.work;
  keeps : Keeps l.fn.work l.work;
  so_far : IsStretch (IsIdleAt l.self.network.now l.self.places.now) l.from l.number l.made;
}
