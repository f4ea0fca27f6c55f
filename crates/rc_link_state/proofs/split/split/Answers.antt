use Rattle.std.specs.Prelude.{Result, Ok, Err, IfOk}
use Rattle.rc_link_state.specs.Whole.{AreSplit}
use Rattle.rc_link_state.specs.declared.parts.Split.{Split}
use Rattle.rc_link_state.proofs.RowLaws.{rows_split}
use Rattle.rc_link_state.proofs.split.split.Goals as goal

both_ok : {T E : Type 0} (r : Result T E) (P Q R : T → Type 0) → ((x : T) → P x → Q x → R x) → IfOk r P → IfOk r Q → IfOk r R
both_ok (Ok x) P Q R f p q = f x p q
both_ok (Err e) P Q R f p q = tt

pub returns : goal.returns
returns c = both_ok _ _ _ (λ (s : Split). AreSplit c.args.links.now c.args.interfaces.now s.listed s.transits)
    (λ s steps networks. rows_split c.args.links.now c.args.interfaces.now _ s.listed s.transits c.in_ok-rows.ensures steps networks) c.split_rows.ensures.listed c.split_rows.ensures.transits
