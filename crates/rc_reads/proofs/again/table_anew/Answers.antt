use Rattle.std.proofs.Common.{◌∙◌, ap, Some}
use Rattle.rc_reads.proofs.again.table_anew.Goals as goal

pub returns-in-Some : goal.returns-in-Some
returns-in-Some c = record { flag = c.in-Some.ensures.2; same = c.in-Some.ensures.0 ∙ ap Some c.in-Some.ensures.1 }

pub returns-in_ok-made-in-None : goal.returns-in_ok-made-in-None
returns-in_ok-made-in-None c = record { state = c.in_ok-made-in-None.ensures.next; in_order = c.in_ok-made-in-None.ensures.in_order; same_table = c.in_ok-made-in-None.ensures.same_table; changed = c.in_ok-made-in-None.ensures.changed }
