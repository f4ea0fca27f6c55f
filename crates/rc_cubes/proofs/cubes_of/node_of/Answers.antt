use Rattle.rc_cubes.proofs.WayLaws.{opened, in_range, low_side, high_side}
use Rattle.rc_cubes.proofs.cubes_of.node_of.Goals as goal

pub returns-clause-bit : goal.returns-clause-bit
returns-clause-bit g c = in_range c.args.seat.now c.open.new.seat c.args.set.index c.open.result c.requires.seat.sound c.requires.node c.open.ensures.node c.requires.known c.args.from c.requires.from

pub returns-clause-low : goal.returns-clause-low
returns-clause-low g c = low_side c.args.seat.now c.open.new.seat c.args.set.index c.open.result c.requires.seat.sound c.requires.node c.open.ensures.node c.requires.known c.open.ensures.seat.sound

pub returns-clause-high : goal.returns-clause-high
returns-clause-high g c = high_side c.args.seat.now c.open.new.seat c.args.set.index c.open.result c.requires.seat.sound c.requires.node c.open.ensures.node c.requires.known c.open.ensures.seat.sound

pub returns-clause-opened : goal.returns-clause-opened
returns-clause-opened g c = opened c.args.seat.now c.open.new.seat c.args.set.index c.open.result c.requires.seat.sound c.requires.node c.open.ensures.node
