use Rattle.std.proofs.Common.{refl, ap, sym, subst}
use Rattle.rc_nodes.specs.Seats.{SeatKnows}
use Rattle.rc_trees.specs.Recipes.{Recipe, parts, tree}
use Rattle.rc_trees.specs.Trees.{HasNodes}
use Rattle.rc_sets.specs.AccessLists.{line_set}
use Rattle.rc_sets.specs.IdleLines.{seen}
use Rattle.rc_sets.proofs.DecidingLaws.{decided_is, may_match}
use Rattle.rc_sets.proofs.LineLaws.{may_minus}
use Rattle.rc_sets.proofs.deciding.decide.Goals as goal

pub line_set-requires-clause-may : goal.line_set-requires-clause-may
line_set-requires-clause-may g c = let (before, known, has) = c.requires.may in may_match c.args.nodes.now.may before c.args.line.now has

pub minus-requires-clause-may : goal.minus-requires-clause-may
minus-requires-clause-may g c =
    let (before, known, has) = c.requires.may in
    let l = c.args.line.now in
    may_minus c.args.nodes.now c.line_set.new.work c.in_ok-matched.matched.index c.args.earlier.index (line_set l) (seen before) c.in_ok-matched.ensures.set
    (c.line_set.ensures.keeps c.args.earlier.index (tree (seen before)) known) (subst (λ (r : Recipe). HasNodes c.args.nodes.now.may (parts r)) (decided_is before l) has)

pub returns-clause-decided : goal.returns-clause-decided
returns-clause-decided g c = λ before known.
    let l = c.args.line.now in
    record {
      sequence = refl;
      protocol = refl;
      source = refl;
      destination = refl;
      matched = c.minus.ensures.keeps c.in_ok-matched.matched.index (tree (line_set l)) c.in_ok-matched.ensures.set;
      own = subst (SeatKnows c.minus.new.self c.in_ok-own.own.index) (ap tree (sym (decided_is before l)))
          (c.in_ok-own.ensures.minus (tree (line_set l)) (tree (seen before)) c.in_ok-matched.ensures.set (c.line_set.ensures.keeps c.args.earlier.index (tree (seen before)) known));
    }
