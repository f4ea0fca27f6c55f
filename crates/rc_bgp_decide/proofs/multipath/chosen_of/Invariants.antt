use Rattle.std.proofs.Common.{◌≡◌, ◌≤◌, ◌∷◌, [], length, take}
use Rattle.std.specs.BTreeSet.{keys}
use Rattle.std.specs.List.{fold}
use Rattle.rc_bgp_decide.specs.Beside.{with_new}
use Rattle.rc_bgp_decide.proofs.multipath.chosen_of.Given as goal

abbrev pub invariant-loop-turn : goal.invariant-loop-turn
invariant-loop-turn l = record {
  same : take l.most (fold with_new l.chosen l.turn-iterator) ≡ take l.most (fold with_new [] (l.fn.first ∷ keys l.fn.others));
  within : length l.chosen ≤ l.most;
}
