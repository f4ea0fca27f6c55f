use Rattle.std.proofs.Common.{◌∙◌}
use Rattle.rc_link_state.specs.Kept.{AreKept}
use Rattle.rc_link_state.proofs.TableLaws.{kept_as, kept_at, kept_none, kept_small}
use Rattle.rc_link_state.proofs.table.WalkTable.found.Goals as goal

pub returns-in-Some-clause-value : goal.returns-in-Some-clause-value
returns-in-Some-clause-value c =
    let kept : AreKept c.args.self.now c.as_slice.result.now = kept_as _ _ _ _ c.self.view_is c.as_slice.ensures c.self.invariant in
    c.area_at.ensures ∙ kept_at c.args.self.now c.as_slice.result.now kept c.args.area c.in-Some.place c.in-Some.ensures.found

pub returns-in-Some-clause-small : goal.returns-in-Some-clause-small
returns-in-Some-clause-small c =
    let kept : AreKept c.args.self.now c.as_slice.result.now = kept_as _ _ _ _ c.self.view_is c.as_slice.ensures c.self.invariant in
    kept_small c.args.self.now c.as_slice.result.now kept c.args.area c.area_at.result (returns-in-Some-clause-value c)

pub returns-in-None-clause-value : goal.returns-in-None-clause-value
returns-in-None-clause-value c =
    let kept : AreKept c.args.self.now c.as_slice.result.now = kept_as _ _ _ _ c.self.view_is c.as_slice.ensures c.self.invariant in
    kept_none c.args.self.now c.as_slice.result.now kept c.args.area c.in-None.ensures.absent
