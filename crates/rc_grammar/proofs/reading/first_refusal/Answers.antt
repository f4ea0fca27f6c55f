use Rattle.rc_grammar.proofs.FirstRefusal as law
use Rattle.rc_grammar.proofs.reading.first_refusal.Goals as goal

pub returns : goal.returns
returns c = law.first_refusal
