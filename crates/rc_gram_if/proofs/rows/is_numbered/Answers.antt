use Rattle.std.proofs.Common.{rules, ◌≡◌, ◌≢◌, length, take, sym, ap, ◌∙◌, arith}
use Rattle.rc_gram_if.specs.Typed.{is_plain_number}
use Rattle.rc_gram_if.proofs.FrontLaws.{short_text, other_text, same_text}
use Rattle.rc_gram_if.proofs.rows.is_numbered.Goals as goal

pub returns-then-text-word : goal.returns-then-text-word
returns-then-text-word c = sym (short_text c.args.word.now c.args.text.now (let lt = c.if-text-word.true in omega arith))

pub returns-then-ne : goal.returns-then-ne
returns-then-ne c =
    let ge = c.if-text-word.false in
    let ne : take (length c.args.word.now) c.args.text.now ≢ c.args.word.now = search rules in
    sym (other_text c.args.word.now c.args.text.now (omega arith) ne)

pub returns : goal.returns
returns c =
    let same : take (length c.args.word.now) c.args.text.now ≡ c.args.word.now = search rules in
    c.is_plain_number.ensures ∙ ap is_plain_number c.split_at.ensures.back ∙ sym (same_text c.args.word.now c.args.text.now same)
