use Rattle.std.proofs.Common.{sym, subst}
use Rattle.std.proofs.lemmas.Bool.{ltb-true}
use Rattle.rc_reads.specs.Stayed.{AreFlagged}
use Rattle.rc_rounds.specs.Parts.{IsReady}
use Rattle.rc_rounds.proofs.ProgressLaws.{last_is_next}
use Rattle.rc_rounds.proofs.progress.Progress.next.Goals as goal

pub externals-requires : goal.externals-requires
externals-requires g c = c.requires.made.under_way.in_order.each

pub told_inside-requires : goal.told_inside-requires
told_inside-requires g c = c.requires.made.under_way.in_order.each

pub changes_inside-requires-clause-changes : goal.changes_inside-requires-clause-changes
changes_inside-requires-clause-changes g c = c.requires.made.changes

pub changes_inside-requires-clause-before : goal.changes_inside-requires-clause-before
changes_inside-requires-clause-before g c = c.requires.made.before_in_order

pub changes_inside-requires-clause-last : goal.changes_inside-requires-clause-last
changes_inside-requires-clause-last g c = c.requires.made.under_way.in_order.each

pub is_settled-requires : goal.is_settled-requires
is_settled-requires g c = record {
  setting = c.requires.setting;
  state = c.requires.made.under_way.in_order;
  externals = c.in_ok-externals.ensures.value;
  by_prefix = c.in_ok-externals.ensures.in_order;
  listed = c.in_ok-inside.ensures;
  earlier = λ has. last_is_next c.args.net.now c.args.internal.now c.args.self.now c.in_ok-changes_inside.changes_inside c.requires.made c.in_ok-changes_inside.ensures (ltb-true 0 c.args.self.now.done has);
}

pub next_shares-passed-requires-clause-ready : goal.next_shares-passed-requires-clause-ready
unfolding IsReady
next_shares-passed-requires-clause-ready g c κs within = (
  record {
    setting = c.requires.setting;
    state = c.requires.made.under_way.in_order;
    externals = c.in_ok-externals.ensures.value;
    by_prefix = c.in_ok-externals.ensures.in_order;
    listed = c.in_ok-inside.ensures;
    earlier = λ has. last_is_next c.args.net.now c.args.internal.now c.args.self.now c.in_ok-changes_inside.changes_inside c.requires.made c.in_ok-changes_inside.ensures (ltb-true 0 c.args.self.now.done has);
  },
  λ has. c.who_stayed-stayed.ensures c.args.self.now.before c.args.self.now.last (subst (λ flags. AreFlagged flags c.args.self.now.before c.args.self.now.last) (sym c.in_ok-flags.ensures) c.requires.made.stayed),
)
