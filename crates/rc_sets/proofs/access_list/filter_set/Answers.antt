-- The lines that were made stand behind those that are left.
use Rattle.std.proofs.Common.{ap, ◌∙◌}
use Rattle.rc_trees.specs.Recipes.{tree}
use Rattle.rc_sets.specs.AccessLists.{line_set, lines_set}
use Rattle.rc_sets.proofs.LineLaws.{none_made, all_made, may_line, may_add, made_more}
use Rattle.rc_sets.proofs.access_list.filter_set.Goals as goal

pub loop-line-init : goal.loop-line-init
loop-line-init g c = record {
  seat = c.requires.seat;
  keeps = λ r t k. k;
  made = none_made c.args.access_list.now.lines c.into_iter-line-iterator.result.iter c.args.work.now (ap (λ r. r.iter) c.into_iter-line-iterator.ensures.into_iter_gives ∙ c.rev-line-items.ensures.source ∙ c.iter.ensures.all);
}

pub line_set-requires-clause-may : goal.line_set-requires-clause-may
line_set-requires-clause-may g c =
    may_line c.args.nodes.now c.loop-line.work c.loop-line.work c.args.access_list.now.lines c.loop-line.line-iterator.iter c.next.new.self.iter c.in-Some.line.now c.loop-line.set.index c.in-Some.ensures.steps c.loop-line.invariant.made c.requires.may

pub with_line-requires-clause-may : goal.with_line-requires-clause-may
with_line-requires-clause-may g c =
    let m = c.loop-line.invariant.made in
    may_add c.args.nodes.now c.loop-line.work c.line_set.new.work c.args.access_list.now.lines c.loop-line.line-iterator.iter c.next.new.self.iter c.in-Some.line.now c.loop-line.set.index c.in-Some.ensures.steps m c.requires.may
    c.in_ok-matched.matched.index c.in_ok-matched.ensures.set (c.line_set.ensures.keeps c.loop-line.set.index (tree (lines_set m.made)) m.known)

pub loop-line-preserved : goal.loop-line-preserved
loop-line-preserved g c =
    let i = c.loop-line.invariant in
    let m = i.made in
    record {
      seat = c.with_line.ensures.seat;
      keeps = λ r t k. c.with_line.ensures.keeps r t (c.line_set.ensures.keeps r t (i.keeps r t k));
      made = made_more c.args.nodes.now c.loop-line.work c.line_set.new.work c.args.access_list.now.lines c.loop-line.line-iterator.iter c.next.new.self.iter c.in-Some.line.now c.loop-line.set.index c.in-Some.ensures.steps m c.requires.may
          c.with_line.new.work c.in_ok-set.set.index
          (c.in_ok-set.ensures.set (line_set c.in-Some.line.now) (lines_set m.made) c.in_ok-matched.ensures.set (c.line_set.ensures.keeps c.loop-line.set.index (tree (lines_set m.made)) m.known));
    }

pub returns-clause-set : goal.returns-clause-set
returns-clause-set g c = all_made c.args.access_list.now.lines c.loop-line.line-iterator.iter c.loop-line.work c.loop-line.set.index c.in-None.ensures.steps.0 c.loop-line.invariant.made
