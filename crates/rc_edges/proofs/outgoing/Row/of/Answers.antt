use Rattle.rc_edges.proofs.RowLaws.{nothing_sent}
use Rattle.rc_edges.proofs.outgoing.Row.of.Goals as goal

pub returns : goal.returns
returns c = λ seat. nothing_sent seat _ c.args.count c.in_ok-sets.ensures c.new.ensures.items
