use Rattle.std.proofs.Common.{◌≡◌, Some, ap, length, drop, sym, ◌∙◌}
use Rattle.std.specs.Option.{option_map}
use Rattle.rc_openings.specs.Opening.{left_behind}
use Rattle.rc_openings.specs.Words.{words_of}
use Rattle.rc_openings.proofs.PartLemmas.{words_behind}
use Rattle.rc_openings.proofs.opening.Opening.behind.Goals as goal

pub returns-then-ends_word : goal.returns-then-ends_word
returns-then-ends_word c =
    let front = c.args.self.now.text.now in
    let left : left_behind front c.text.result.now ≡ Some c.in-Some.rest.now = sym c.left_behind.ensures ∙ ap (option_map (λ rest. rest.now)) c.in-Some.is in
    c.new.ensures ∙ words_behind front c.text.result.now c.in-Some.rest.now left (sym c.ends_word.ensures ∙ c.if-ends_word.true) ∙ ap (λ ws. drop (length (words_of front)) ws) c.text.ensures
