use Rattle.std.proofs.Common.{rules, ◌≡◌, length, sym, subst, arith}
use Rattle.rc_spf.proofs.Grouping.{AllEmpty, empty_more, grouped_none}
use Rattle.rc_spf.proofs.groups.empty_groups.Goals as goal

pub loop-preserved : goal.loop-preserved
loop-preserved c = (search rules, subst AllEmpty (sym c.in_ok-push.ensures.items) (empty_more _ _ c.loop.invariant.1 c.new.ensures.items))

pub returns : goal.returns
returns c =
    let len : length c.loop.groups.items ≡ c.args.nodes = grind arith in
    grouped_none _ _ len c.loop.invariant.1
