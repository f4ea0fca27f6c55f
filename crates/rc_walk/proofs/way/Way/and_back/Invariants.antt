use Rattle.std.proofs.Common.{◌≡◌, ◌-◌, ◌++◌, take, drop}
use Rattle.rc_walk.proofs.way.Way.and_back.Given as goal

abbrev pub invariant-loop-at : goal.invariant-loop-at
invariant-loop-at l = record {
  positions : l.self.positions.items ≡ l.fn.self.positions.items ++ take (l.at - 1) (drop 1 l.back.positions.items);
  choices : l.self.choices.items ≡ l.fn.self.choices.items;
}

abbrev pub invariant-loop-choice : goal.invariant-loop-choice
invariant-loop-choice l = record {
  positions : l.self.positions.items ≡ l.fn.self.positions.items ++ drop 1 l.fn.back.positions.items;
  choices : l.self.choices.items ≡ l.fn.self.choices.items ++ take l.choice-index l.fn.back.choices.items;
}
