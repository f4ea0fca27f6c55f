use Rattle.std.proofs.Common.{◌≡◌, ◌∙◌, ap, drop, length}
use Rattle.std.specs.Prelude.{slice_get, unwrap_or}
use Rattle.rc_rib.specs.declared.made.Made.{Made}
use Rattle.rc_rounds.specs.Renewing.{first_known, has_stayed, nothing_known, renewed}
use Rattle.rc_rounds.proofs.RenewingLaws.{all_done, behind_next, first_behind, none_yet, one_longer, one_more}
use Rattle.rc_rounds.proofs.round.put_together.Goals as goal

pub loop-made-preserved : goal.loop-made-preserved
loop-made-preserved c =
    let last = c.args.last.now in
    let at = length c.loop-made.round.state in
    let made = c.in-Some.made in
    let is_made : c.in_ok-made.made ≡ renewed made (first_known (drop at last)) =
    c.in_ok-made.ensures ∙ ap (λ r. renewed made (unwrap_or (slice_get last r) nothing_known)) (c.at-router.ensures ∙ c.len-in-Some.ensures) ∙ ap (renewed made) (first_behind last at) in
    let is_rest : drop (length c.push.new.self.state) last ≡ drop 1 (drop at last) = ap (λ n. drop n last) (one_longer c.loop-made.round.state c.push.new.self.state _ c.in_ok-push.ensures.state) ∙ behind_next last at in
    record {
      state = one_more (λ (m : Made). m.state) c.loop-made.round.state c.push.new.self.state _ made c.in_ok-made.made c.loop-made.left.items c.pop_front.new.self.items (drop at last) _ c.in-Some.ensures.items is_made is_rest c.in_ok-push.ensures.state c.loop-made.invariant.state;
      changes = one_more (λ (m : Made). m.changed) c.loop-made.round.changes c.push.new.self.changes _ made c.in_ok-made.made c.loop-made.left.items c.pop_front.new.self.items (drop at last) _ c.in-Some.ensures.items is_made is_rest c.in_ok-push.ensures.changes c.loop-made.invariant.changes;
      stayed = one_more has_stayed c.loop-made.round.stayed c.push.new.self.stayed _ made c.in_ok-made.made c.loop-made.left.items c.pop_front.new.self.items (drop at last) _ c.in-Some.ensures.items is_made is_rest c.in_ok-push.ensures.stayed c.loop-made.invariant.stayed;
    }

pub loop-made-init : goal.loop-made-init
loop-made-init c =
    let round = c.in_ok-round.round in
    let left : c.from-left.result.items ≡ c.args.fresh = c.from-left.ensures.0 ∙ c.into_vec.ensures in
    record {
      state = none_yet (λ (m : Made). m.state) round.state round.state c.from-left.result.items c.args.fresh c.args.last.now c.in_ok-round.ensures.state c.in_ok-round.ensures.state left;
      changes = none_yet (λ (m : Made). m.changed) round.changes round.state c.from-left.result.items c.args.fresh c.args.last.now c.in_ok-round.ensures.changes c.in_ok-round.ensures.state left;
      stayed = none_yet has_stayed round.stayed round.state c.from-left.result.items c.args.fresh c.args.last.now c.in_ok-round.ensures.stayed c.in_ok-round.ensures.state left;
    }

pub returns-clause-state : goal.returns-clause-state
returns-clause-state c = all_done (λ (m : Made). m.state) c.loop-made.round.state _ c.loop-made.left.items c.pop_front.new.self.items _ c.in_default.ensures.items c.in_default.ensures.rest c.loop-made.invariant.state

pub returns-clause-changes : goal.returns-clause-changes
returns-clause-changes c = all_done (λ (m : Made). m.changed) c.loop-made.round.changes _ c.loop-made.left.items c.pop_front.new.self.items _ c.in_default.ensures.items c.in_default.ensures.rest c.loop-made.invariant.changes

pub returns-clause-stayed : goal.returns-clause-stayed
returns-clause-stayed c = all_done has_stayed c.loop-made.round.stayed _ c.loop-made.left.items c.pop_front.new.self.items _ c.in_default.ensures.items c.in_default.ensures.rest c.loop-made.invariant.stayed
