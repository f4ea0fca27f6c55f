use Rattle.rc_gram_policy.proofs.rows.entry_answer.Goals as goal

pub returns-in-Map-clause-row : goal.returns-in-Map-clause-row
returns-in-Map-clause-row c = rw c.in-Map.is c.map_line.ensures.row
