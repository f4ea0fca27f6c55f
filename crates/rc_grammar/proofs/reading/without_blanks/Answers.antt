use Rattle.std.proofs.Common.{sym, ◌∙◌}
use Rattle.rc_grammar.proofs.FirstByteLaws.{blank_tail}
use Rattle.rc_grammar.proofs.reading.without_blanks.Goals as goal

pub loop-rest-preserved : goal.loop-rest-preserved
loop-rest-preserved c = blank_tail c.loop-rest.rest.now c.in-len1-up.len_at_least (sym c.is_blank.ensures ∙ c.if-not-is_blank.false) ∙ c.loop-rest.invariant
