use Rattle.rc_sets.proofs.NumberLaws.{may_high, may_low, made_high, made_low}
use Rattle.rc_sets.proofs.number.with_bit.Goals as goal

pub branch-work-requires-clause-may : goal.branch-work-requires-clause-may
branch-work-requires-clause-may g c = may_high c.args.nodes.now c.args.work.now c.args.var c.args.rest.index c.args.free c.args.one c.if-free.false c.if-one.true c.requires.may

pub branch-work-requires-else-one-clause-may : goal.branch-work-requires-else-one-clause-may
branch-work-requires-else-one-clause-may g c = may_low c.args.nodes.now c.args.work.now c.args.var c.args.rest.index c.args.free c.args.one c.if-free.false c.if-one.false c.requires.may

pub returns-then-one-clause-set : goal.returns-then-one-clause-set
returns-then-one-clause-set g c = made_high c.args.nodes.now c.args.work.now c.args.var c.args.rest.index c.args.free c.args.one c.if-free.false c.if-one.true c.branch-work.new.self c.branch-work.result c.branch-work.ensures.joined

pub returns-else-one-clause-set : goal.returns-else-one-clause-set
returns-else-one-clause-set g c = made_low c.args.nodes.now c.args.work.now c.args.var c.args.rest.index c.args.free c.args.one c.if-free.false c.if-one.false c.branch-work-else-one.new.self c.branch-work-else-one.result c.branch-work-else-one.ensures.joined
