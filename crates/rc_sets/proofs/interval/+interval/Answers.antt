-- The interval is the join of its two sides.
use Rattle.std.proofs.Common.{◌≡◌, ◌-◌, ◌^◌, sym, subst, arith}
use Rattle.rc_trees.specs.Trees.{HasNodesOf}
use Rattle.rc_nodes.specs.Seats.{SeatKnows}
use Rattle.rc_sets.specs.Intervals.{between}
use Rattle.rc_sets.proofs.IntervalLaws.{may_zeros, may_ones, may_join, joined_set, left_of}
use Rattle.rc_sets.proofs.interval.+interval.Goals as goal

pub interval-requires : goal.interval-requires
interval-requires g t c κs within =
    let some = c.in_default.ensures in let b = c.requires.bits in
    (omega (arith, c.decreases), (within, (c.requires.seat, ((b.0, omega arith, omega arith), may_zeros c.args.nodes.now.may c.args.last c.args.count c.args.low c.args.end some c.requires.may))))

pub interval-requires-2 : goal.interval-requires-2
interval-requires-2 g t c κs within =
    let some = c.in_default.ensures in let b = c.requires.bits in
    let low : c.saturating_sub-above_low.result ≡ c.args.low - 2 ^ (c.args.count - 1) = left_of c.saturating_sub-above_low.result c.args.low c.numbers-half.result (2 ^ (c.args.count - 1)) c.saturating_sub-above_low.ensures c.numbers-half.ensures in
    let end : c.saturating_sub-above_end.result ≡ c.args.end - 2 ^ (c.args.count - 1) = left_of c.saturating_sub-above_end.result c.args.end c.numbers-half.result (2 ^ (c.args.count - 1)) c.saturating_sub-above_end.ensures c.numbers-half.ensures in
    (omega (arith, c.decreases), (within, (c.interval.ensures.seat, ((b.0, omega arith, omega arith), subst (HasNodesOf c.args.nodes.now.may) (λ i. between c.args.last (c.args.count - 1) (sym low i) (sym end i)) (may_ones c.args.nodes.now.may c.args.last c.args.count c.args.low c.args.end some c.requires.may)))))

pub branch-work-requires-clause-may : goal.branch-work-requires-clause-may
branch-work-requires-clause-may g t c =
    let some = c.in_default.ensures in let b = c.requires.bits in
    let low : c.saturating_sub-above_low.result ≡ c.args.low - 2 ^ (c.args.count - 1) = left_of c.saturating_sub-above_low.result c.args.low c.numbers-half.result (2 ^ (c.args.count - 1)) c.saturating_sub-above_low.ensures c.numbers-half.ensures in
    let end : c.saturating_sub-above_end.result ≡ c.args.end - 2 ^ (c.args.count - 1) = left_of c.saturating_sub-above_end.result c.args.end c.numbers-half.result (2 ^ (c.args.count - 1)) c.saturating_sub-above_end.ensures c.numbers-half.ensures in
    may_join c.args.nodes.now c.interval-2.new.work c.args.last c.args.count c.args.low c.args.end some b.0 b.1 c.requires.may c.in_ok-zeros.zeros.index c.in_ok-ones.ones.index
    (c.interval-2.ensures.keeps c.in_ok-zeros.zeros.index _ c.in_ok-zeros.ensures.set)
    (subst (SeatKnows c.interval-2.new.work c.in_ok-ones.ones.index) (λ i. between c.args.last (c.args.count - 1) (low i) (end i)) c.in_ok-ones.ensures.set)

pub returns-clause-set : goal.returns-clause-set
returns-clause-set g t c =
    let some = c.in_default.ensures in
    let low : c.saturating_sub-above_low.result ≡ c.args.low - 2 ^ (c.args.count - 1) = left_of c.saturating_sub-above_low.result c.args.low c.numbers-half.result (2 ^ (c.args.count - 1)) c.saturating_sub-above_low.ensures c.numbers-half.ensures in
    let end : c.saturating_sub-above_end.result ≡ c.args.end - 2 ^ (c.args.count - 1) = left_of c.saturating_sub-above_end.result c.args.end c.numbers-half.result (2 ^ (c.args.count - 1)) c.saturating_sub-above_end.ensures c.numbers-half.ensures in
    joined_set c.interval-2.new.work c.branch-work.new.self c.args.last c.args.count c.args.low c.args.end some c.in_ok-zeros.zeros.index c.in_ok-ones.ones.index
    (c.interval-2.ensures.keeps c.in_ok-zeros.zeros.index _ c.in_ok-zeros.ensures.set)
    (subst (SeatKnows c.interval-2.new.work c.in_ok-ones.ones.index) (λ i. between c.args.last (c.args.count - 1) (low i) (end i)) c.in_ok-ones.ensures.set)
    c.branch-work.result c.branch-work.ensures.joined
