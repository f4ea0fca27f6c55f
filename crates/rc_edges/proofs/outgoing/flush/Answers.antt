use Rattle.std.proofs.Common.{ap, sym, ◌∙◌, subst, ◌<◌, ◌≤◌, [], length, arith}
use Rattle.std.specs.Prelude.{slice_index_or, slice_set}
use Rattle.rc_edges.proofs.RowLaws.{all_flushed, next_flushed, none_flushed}
use Rattle.rc_edges.specs.Given.{or_none, set_at}
use Rattle.rc_edges.proofs.outgoing.flush.Goals as goal
use Rattle.rc_jobs.specs.Collecting.{with_flow}

pub loop-at-init : goal.loop-at-init
loop-at-init c = none_flushed c.args.into.now.items c.args.row.now.sets.items c.args.from

pub push_at-requires : goal.push_at-requires
push_at-requires c =
    let u = c.index-onto.result.now in
    let xs = c.args.row.now.touched.items in
    let len = c.len-at-end.ensures in
    let test = c.loop-at-test.true in
    let less : c.loop-at.at < length xs = omega arith in
    let there : u < length c.args.into.now.items = subst (λ n. n < length c.args.into.now.items) (sym c.index-onto.ensures) (c.requires c.loop-at.at u less) in
    let many = c.loop-at.invariant.as_many in
    omega arith

pub loop-at-preserved : goal.loop-at-preserved
loop-at-preserved c =
    let u = c.index-onto.result.now in
    let xs = c.args.row.now.touched.items in
    let len = c.len-at-end.ensures in
    let test = c.loop-at-test.true in
    let less : c.loop-at.at < length xs = omega arith in
    let there : u < length c.args.into.now.items = subst (λ n. n < length c.args.into.now.items) (sym c.index-onto.ensures) (c.requires c.loop-at.at u less) in
    let many = c.loop-at.invariant.as_many in
    let set = c.or_none-set.ensures ∙ ap or_none (c.set_at.ensures ∙ ap (λ ys. set_at ys u) c.as_slice.ensures.value) in
    next_flushed c.args.into.now.items c.loop-at.into.items c.push_at.new.into.items c.args.row.now.sets.items c.args.from xs c.loop-at.at u c.index-onto.ensures less c.loop-at.invariant (omega arith)
    (c.in_ok-push_at.ensures ∙ ap (λ s. slice_set c.loop-at.into.items u (with_flow (slice_index_or c.loop-at.into.items u []) c.args.from s)) set)

pub returns : goal.returns
returns c =
    let xs = c.args.row.now.touched.items in
    let len = c.len-at-end.ensures in
    let test = c.loop-at-test.false in
    let end : length xs ≤ c.loop-at.at = omega arith in
    all_flushed c.args.into.now.items c.loop-at.into.items c.args.row.now c.args.from c.loop-at.at end c.loop-at.invariant
