use Rattle.std.proofs.Common.{◌≡◌, drop}
use Rattle.std.specs.BTreeSet.{insert_key, keys}
use Rattle.std.specs.List.{enumerate_from, fold}
use Rattle.rc_base.specs.Lists.{in_order}
use Rattle.rc_bgp_decide.specs.Beside.{other_turns}
use Rattle.rc_bgp_decide.specs.Multipath.{turn_cmp}
use Rattle.rc_bgp_decide.proofs.multipath.other_turns.Given as goal

abbrev pub invariant-loop-index : goal.invariant-loop-index
invariant-loop-index l =
    fold (insert_key turn_cmp) (keys l.set) (other_turns (l.place, l.best) (enumerate_from l.index (drop l.index l.paths)))
    ≡ in_order turn_cmp (other_turns (l.place, l.best) (enumerate_from 0 l.paths))
