use Rattle.rc_rib.proofs.TableLaws.{none_in_order}
use Rattle.rc_rib.proofs.lone.lone_table.Goals as goal

pub returns-in-None-clause-in_order : goal.returns-in-None-clause-in_order
returns-in-None-clause-in_order c = none_in_order c.new.result c.new.ensures
