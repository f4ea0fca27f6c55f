use Rattle.rc_grammar.proofs.Refused.{failed}
use Rattle.rc_grammar.proofs.reading.Reading.put_lines.Goals as goal

pub returns-in-Err-clause-lines : goal.returns-in-Err-clause-lines
returns-in-Err-clause-lines c = failed c.in-Err.error c.loop-line.self c.in-Some.line c.loop-line.lines c.next.new.self _ c.loop-line.invariant.same c.in-Some.ensures c.in-Err.ensures.step
