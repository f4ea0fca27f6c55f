use Rattle.std.proofs.Common.{arith}
use Rattle.rc_base.specs.Header.{last_bit}
use Rattle.rc_base.specs.declared.field.Field.TheVariants.{Rst}
use Rattle.rc_trees.specs.Trees.{never, always, node}
use Rattle.rc_nodes.proofs.KnownLaws.{knows_never, knows_always}
use Rattle.rc_sets.proofs.further.established.Goals as goal

pub branch-reset-requires-clause-may : goal.branch-reset-requires-clause-may
branch-reset-requires-clause-may g c = record {
  bit = omega arith;
  low = never;
  high = always;
  knows_low = knows_never c.args.work.now;
  knows_high = knows_always c.args.work.now;
  rises_low = omega arith;
  rises_high = omega arith;
  allowed = c.requires.may.1;
}

pub branch-set-requires-clause-may : goal.branch-set-requires-clause-may
branch-set-requires-clause-may g c = record {
  bit = omega arith;
  low = node (last_bit Rst) never always;
  high = always;
  knows_low = c.in_Ok-reset.ensures.joined never always (knows_never c.args.work.now) (knows_always c.args.work.now);
  knows_high = knows_always c.branch-reset.new.self;
  rises_low = omega arith;
  rises_high = omega arith;
  allowed = c.requires.may;
}

pub returns-clause-set : goal.returns-clause-set
returns-clause-set g c =
    c.in_Ok-set.ensures.joined (node (last_bit Rst) never always) always
    (c.in_Ok-reset.ensures.joined never always (knows_never c.args.work.now) (knows_always c.args.work.now))
    (knows_always c.branch-reset.new.self)
