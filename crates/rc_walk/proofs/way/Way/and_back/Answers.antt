use Rattle.std.proofs.Common.{rules, ◌≡◌, ◌-◌, ◌<◌, ◌≤◌, [], ◌∷◌, ◌++◌, length, take, drop, slice_index_or, ap, sym, ◌∙◌, append_assoc, append-nil, arith}
use Rattle.rc_base.specs.declared.position.Pos.{Pos}
use Rattle.rc_walk.proofs.RoundLaws.{all_behind, take_behind}
use Rattle.rc_walk.proofs.way.Way.and_back.Goals as goal

pub loop-at-preserved : goal.loop-at-preserved
loop-at-preserved c =
    let mine = c.args.self.positions.items in
    let theirs = c.args.back.positions.items in
    let at = c.loop-at.at in
    let next : Pos = c.index.result.now in
    let low : at < length theirs = (let long = c.len-at-end.ensures in let test = c.loop-at-test.true in omega (arith, c.args.back.positions.ok.0)) in
    let read : next ≡ slice_index_or theirs at next = search rules in
    let pushed : c.push.new.self.items ≡ c.loop-at.self.positions.items ++ next ∷ [] = search rules in
    record {
      positions = pushed ∙ ap (λ xs. xs ++ next ∷ []) c.loop-at.invariant.positions ∙ append_assoc mine (take (at - 1) (drop 1 theirs)) (next ∷ []) ∙ ap (λ xs. mine ++ xs) (sym (take_behind theirs at next (let some = c.loop-at.auto.at in some) low read));
      choices = c.loop-at.invariant.choices;
    }

pub loop-choice-init : goal.loop-choice-init
loop-choice-init c =
    let theirs = c.args.back.positions.items in
    let end : length theirs ≤ c.loop-at.at = (let long = c.len-at-end.ensures in let test = c.loop-at-test.false in omega (arith, c.args.back.positions.ok.0)) in
    record {
      positions = c.loop-at.invariant.positions ∙ ap (λ xs. c.args.self.positions.items ++ xs) (all_behind theirs c.loop-at.at end);
      choices = c.loop-at.invariant.choices ∙ sym (append-nil c.args.self.choices.items);
    }
