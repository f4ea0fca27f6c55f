use Rattle.std.proofs.Common.{◌≡◌, take}
use Rattle.rc_edges.proofs.RowLaws.{AreTakenBack}
use Rattle.rc_edges.proofs.outgoing.Row.clear.Given as goal

-- so far those of the first touched positions are taken back
abbrev pub invariant-loop-at : goal.invariant-loop-at
invariant-loop-at l = record {
  sets : AreTakenBack l.fn.self.sets.items l.self.sets.items (take l.at l.fn.self.touched.items);
  touched : l.self.touched.items ≡ l.fn.self.touched.items;
}
