use Rattle.std.proofs.Common.{◌<◌, [], arith, map, subst}
use Rattle.std.specs.Option.{option_copied, option_map}
use Rattle.rc_openings.specs.Opening.{IsAnswer, NoneFits, row_of}
use Rattle.rc_openings.specs.Words.{words_of}
use Rattle.rc_openings.proofs.decide.decisive_of.Goals as goal

pub returns : goal.returns
returns c =
    let none : NoneFits [] (words_of c.text.result.now) = λ r h. let lt : h.0 < 0 = h.1 in absurd (omega arith) in
    let openings = map row_of c.args.openings.now in
    subst (λ ws. IsAnswer openings ws (option_map row_of (option_copied c.decisive_from.result))) c.text.ensures (c.decisive_from.ensures [] none)
