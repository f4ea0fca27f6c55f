use Rattle.std.proofs.Common.{arith, ap, sym, ◌∙◌, Some, drop}
use Rattle.std.proofs.lemmas.List.{take_rest}
use Rattle.rc_openings.proofs.CommonLemmas.{left_all, left_none}
use Rattle.rc_openings.proofs.opening.left_behind.Goals as goal

pub returns-then-count-front : goal.returns-then-count-front
returns-then-count-front c =
    let text = c.args.text.now in
    ap Some (take_rest text c.common-count.result ∙ ap (λ n. drop n text) c.if-count-front.true)
    ∙ sym (left_all c.args.front.now text (sym c.common-count.ensures.count ∙ c.if-count-front.true))

pub returns-else-count-front : goal.returns-else-count-front
returns-else-count-front c = sym (left_none c.args.front.now c.args.text.now (omega arith))
