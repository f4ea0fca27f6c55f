use Rattle.std.proofs.Common.{map, subst, sym}
use Rattle.std.specs.Option.{option_map}
use Rattle.rc_openings.specs.Opening.{IsAnswer, row_of}
use Rattle.rc_openings.specs.Words.{words_left}
use Rattle.rc_openings.proofs.decide.decisive.Goals as goal

pub returns : goal.returns
returns c =
    subst (λ r. IsAnswer (map row_of c.args.openings.now) (words_left c.args.line) (option_map row_of r)) (sym c.copied.ensures) c.decisive_of.ensures
