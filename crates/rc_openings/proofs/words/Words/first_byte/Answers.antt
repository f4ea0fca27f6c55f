use Rattle.std.proofs.Common.{arith, sym, ap, ◌∙◌}
use Rattle.rc_openings.specs.Words.{first_byte}
use Rattle.rc_openings.proofs.WordsLemmas.{first_byte_of, first_byte_none}
use Rattle.rc_openings.proofs.words.Words.first_byte.Goals as goal

pub returns-in-empty : goal.returns-in-empty
returns-in-empty c = sym (ap first_byte (sym c.skip_blanks.ensures.same) ∙ first_byte_none c.skip_blanks.result.now (omega arith))

pub returns-in-len1-up : goal.returns-in-len1-up
returns-in-len1-up c = sym (ap first_byte (sym c.skip_blanks.ensures.same) ∙ first_byte_of c.skip_blanks.result.now c.skip_blanks.ensures.front c.in-len1-up.len_at_least)
