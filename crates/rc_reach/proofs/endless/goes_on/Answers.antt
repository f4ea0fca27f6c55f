use Rattle.std.proofs.Common.{rules, length}
use Rattle.rc_edges.specs.Prepare.{edge_at}
use Rattle.rc_spread.proofs.GoingLaws.{all_go_on}
use Rattle.rc_spread.proofs.StillLaws.{onward_still}
use Rattle.rc_reach.proofs.endless.goes_on.Goals as goal

pub all_rounds-work-requires-clause-first : goal.all_rounds-work-requires-clause-first
all_rounds-work-requires-clause-first g c κs within =
    all_go_on c.new-work.result c.in-Ok.sets.items c.in-Ok-vec.fresh.items (edge_at c.args.plane.now) (length c.args.out.now) (search rules) (search rules)

pub all_rounds-work-requires-clause-still : goal.all_rounds-work-requires-clause-still
all_rounds-work-requires-clause-still g c κs within = onward_still (edge_at c.args.plane.now) (length c.args.out.now)
