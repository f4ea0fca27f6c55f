use Rattle.std.proofs.Common.{rules, ◌≡◌, ◌++◌, [], arith}
use Rattle.std.specs.Prelude.{slice_index_or, slice_set}
use Rattle.rc_jobs.proofs.CollectLaws.{all_appended, none_appended, one_appended}
use Rattle.rc_jobs.proofs.collected.append_all.Goals as goal

pub loop-index-init : goal.loop-index-init
loop-index-init c = none_appended c.args.into.now.items c.args.more.now

pub loop-index-preserved : goal.loop-index-preserved
loop-index-preserved c =
    let i = c.loop-index.invariant in
    let many = i.as_many in
    let put : c.append_at.new.into.items ≡ slice_set c.loop-index.into.items c.loop-index.index (slice_index_or c.loop-index.into.items c.loop-index.index [] ++ slice_index_or c.args.more.now c.loop-index.index []) = search rules in
    one_appended c.args.into.now.items c.args.more.now c.loop-index.into.items c.append_at.new.into.items c.loop-index.index (omega arith) put i

pub returns : goal.returns
returns c =
    let many = c.loop-index.invariant.as_many in
    all_appended c.args.into.now.items c.args.more.now c.loop-index.into.items c.loop-index.index (omega arith) c.loop-index.invariant
