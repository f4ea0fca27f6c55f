use Rattle.std.proofs.Common.{slice_index, refl}
use native.Mathlib.Decide.{ℕ_discrete}
use Rattle.rc_nodes.proofs.Moves.{all_unseen}
use Rattle.rc_nodes.proofs.laws.a_new_table_is_empty.Goals as goal

pub returns : goal.returns
returns c = λ capacity may words good slot. elim (ℕ_discrete (slice_index words slot) 0) [
  | yes e ↦ e
  | no ne ↦ absurd (all_unseen capacity may slot (slice_index words slot) (good.seen slot (slice_index words slot) (refl, ne)))
]
