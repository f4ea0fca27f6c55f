use Rattle.std.proofs.Common.{◌≡◌, ◌++◌, map, All}
use Rattle.std.specs.BTreeSet.{keys}
use Rattle.rc_link_state.specs.Asked.{IsAskedArea}
use Rattle.rc_link_state.specs.Kept.{area_of}
use Rattle.rc_link_state.proofs.areas.Asked.walks_in_all.Given as goal

abbrev pub invariant-loop-area : goal.invariant-loop-area
invariant-loop-area g l = record {
  each : All (IsAskedArea l.self.routers l.listed l.transits l.self.all l.self.ends.now) l.walks;
  which : map area_of l.walks ++ l.area-iterator ≡ keys l.fn.areas;
}
