use Rattle.rc_nodes.proofs.CountLaws as law
use Rattle.rc_nodes.proofs.laws.a_full_table_is_too_small.Goals as goal

pub returns : goal.returns
returns c = law.more_than_slots
