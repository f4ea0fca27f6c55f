use Rattle.std.proofs.Common.{rules, ◌≡◌, ap, subst, ⊎_elim, ◌∙◌, slice_index_or, arith}
use Rattle.std.specs.List.{Contains}
use Rattle.std.proofs.lemmas.Bool.{cases_lt}
use Rattle.std.proofs.lemmas.List.{get_or_default}
use Rattle.rc_jobs.specs.Flows.{no_header}
use Rattle.rc_jobs.specs.declared.flow.Flow.{Flow}
use Rattle.rc_spread.proofs.alone.note_led.Goals as goal

pub loop-flow-init : goal.loop-flow-init
loop-flow-init c = record {
  many = search rules;
  listed = c.requires.listed;
  kept = record { each = λ q h. h };
  noted = λ i d less. absurd (omega arith);
}

pub note-requires-clause-listed : goal.note-requires-clause-listed
note-requires-clause-listed c = c.loop-flow.invariant.listed

pub loop-flow-preserved : goal.loop-flow-preserved
loop-flow-preserved c =
    let flows = c.args.flows.now in
    let n = c.loop-flow.flow-index in
    let step = c.in_ok-note.ensures in
    let none : Flow = record { from = 0; set = no_header } in
    let last : Contains c.note.new.found.items (slice_index_or flows n none).from = step.noted in
    record {
      many = step.many ∙ c.loop-flow.invariant.many;
      listed = step.listed;
      kept = record { each = λ q h. step.kept.each q (c.loop-flow.invariant.kept.each q h) };
      noted = λ i d low.
          ⊎_elim (λ less. step.kept.each (slice_index_or flows i d).from (c.loop-flow.invariant.noted i d less))
          (λ high.
          let here : n ≡ i = omega arith in
          let same : slice_index_or flows n none ≡ slice_index_or flows i d = get_or_default flows n none d c.loop-flow-test.true ∙ ap (λ k. slice_index_or flows k d) here in
          subst (λ (f : Flow). Contains c.note.new.found.items f.from) same last) (cases_lt i n);
    }

pub returns-clause-listed : goal.returns-clause-listed
returns-clause-listed c = c.loop-flow.invariant.listed

pub returns-clause-kept : goal.returns-clause-kept
returns-clause-kept c = c.loop-flow.invariant.kept

pub returns-clause-noted : goal.returns-clause-noted
returns-clause-noted c = λ i d less. let end = c.loop-flow-test.false in c.loop-flow.invariant.noted i d (omega arith)
