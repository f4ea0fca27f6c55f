use Rattle.std.proofs.Common.{◌++◌, map, subst, sym, ◌∙◌, ap}
use Rattle.std.specs.Option.{option_copied, option_map}
use Rattle.rc_openings.specs.Opening.{IsAnswer, row_of}
use Rattle.rc_openings.specs.Words.{words_left}
use Rattle.rc_openings.specs.Groups.{is_one_of}
use Rattle.rc_openings.proofs.GroupLemmas.{no_front}
use Rattle.rc_openings.proofs.table.Longer.decide_from.Goals as goal

pub returns-then-not-is_one_of : goal.returns-then-not-is_one_of
returns-then-not-is_one_of c =
    λ found rows h same was. no_front c.args.count c.args.self rows found (words_left c.args.line) _ h (ap (is_one_of c.args.self.fronts.now) (sym same) ∙ sym c.is_one_of.ensures ∙ c.if-not-is_one_of.true) was

pub returns : goal.returns
returns c =
    λ found rows h same was.
    let answer = option_map row_of (option_copied c.decisive_from.result) in
    let by_text = c.decisive_from.ensures found (subst (λ ws. IsAnswer found ws (option_map row_of (option_copied c.args.best))) (sym c.text.ensures) was) in
    rw (c.at.ensures rows h) at (subst (λ ws. IsAnswer (found ++ map row_of c.at.result.now) ws answer) c.text.ensures by_text)
