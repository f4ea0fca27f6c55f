use Rattle.std.proofs.Common.{◌≡◌, ◌∙◌, sym, subst, length, refl, slice_index_or, arith}
use Rattle.rc_jobs.specs.Flows.{no_header}
use Rattle.rc_spread.specs.Alone.{ArePut}
use Rattle.rc_spread.proofs.AloneLaws.{next_listed, next_put, none_listed, none_put}
use Rattle.rc_spread.proofs.alone.put_made.Goals as goal

pub loop-index-init : goal.loop-index-init
loop-index-init c = record {
  put = none_put c.args.sets.now.items c.args.positions.now c.args.made.now c.args.fresh.now.items c.requires.none;
  listed = none_listed c.args.fresh.now.items c.new-changed.result.items (length c.args.sets.now.items) c.requires.none c.new-changed.ensures.items;
}

pub put_set-requires-clause-position : goal.put_set-requires-clause-position
put_set-requires-clause-position c =
    let low = c.requires.positions c.loop-index.index 0 c.loop-index-test.true in
    let many = c.loop-index.invariant.put.as_many in
    omega arith

pub put_set-requires-clause-marks : goal.put_set-requires-clause-marks
put_set-requires-clause-marks c =
    c.loop-index.invariant.put.as_many_marks ∙ sym c.loop-index.invariant.put.as_many

pub loop-index-preserved : goal.loop-index-preserved
loop-index-preserved c =
    let qs = c.args.positions.now in
    let n = c.loop-index.index in
    let low = c.requires.positions n 0 c.loop-index-test.true in
    let put = c.in_ok-put_set.ensures.put in
    let now = c.loop-index.sets.items in
    let next = c.put_set.new.sets.items in
    let marks = c.loop-index.fresh.items in
    let later = c.put_set.new.fresh.items in
    let listed = c.loop-index.changed.items in
    let longer = c.put_set.new.changed.items in
    record {
      put = next_put c.args.sets.now.items qs c.args.made.now n (slice_index_or qs n 0) (slice_index_or c.args.made.now n no_header) now next marks later listed longer refl refl low c.loop-index.invariant.put put;
      listed = next_listed c.args.sets.now.items qs c.args.made.now n (slice_index_or qs n 0) (slice_index_or c.args.made.now n no_header) now next marks later listed longer refl refl low c.loop-index.invariant.put c.loop-index.invariant.listed put;
    }

pub returns-clause-put : goal.returns-clause-put
returns-clause-put c =
    let most = c.loop-index.auto.index-end in
    let least = c.loop-index-test.false in
    let end : c.loop-index.index ≡ length c.args.positions.now = omega arith in
    subst (λ n. ArePut c.args.sets.now.items c.args.positions.now c.args.made.now n c.loop-index.sets.items c.loop-index.fresh.items) end c.loop-index.invariant.put

pub returns-clause-listed : goal.returns-clause-listed
returns-clause-listed c = c.loop-index.invariant.listed
