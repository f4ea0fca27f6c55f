use Rattle.std.proofs.Common.{◌≡◌, ◌++◌, drop, length, map}
use Rattle.rc_rib.specs.declared.made.Made.{Made}
use Rattle.rc_rounds.specs.Renewing.{all_renewed, has_stayed}
use Rattle.rc_rounds.proofs.round.put_together.Given as goal

-- what is put together, and then what is left
abbrev pub invariant-loop-made : goal.invariant-loop-made
invariant-loop-made l = record {
  state : l.round.state ++ map (λ (m : Made). m.state) (all_renewed l.left.items (drop (length l.round.state) l.last)) ≡ map (λ (m : Made). m.state) (all_renewed l.fn.fresh l.last);
  changes : l.round.changes ++ map (λ (m : Made). m.changed) (all_renewed l.left.items (drop (length l.round.state) l.last)) ≡ map (λ (m : Made). m.changed) (all_renewed l.fn.fresh l.last);
  stayed : l.round.stayed ++ map has_stayed (all_renewed l.left.items (drop (length l.round.state) l.last)) ≡ map has_stayed (all_renewed l.fn.fresh l.last);
}

abbrev pub decreases-loop-made : goal.decreases-loop-made
decreases-loop-made l = length l.left.items
