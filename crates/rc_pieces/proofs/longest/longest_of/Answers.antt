use Rattle.std.proofs.Common.{◌<◌, ◌∙◌, subst, drop, arith}
use Rattle.std.specs.Option.{option_copied}
use Rattle.rc_base.specs.Prefix.{Cidr}
use Rattle.rc_pieces.specs.Pieces.{AllBehind, joined}
use Rattle.rc_pieces.proofs.LongestLaws.{begun, found, next_left, read_in_order, read_some}
use Rattle.rc_pieces.proofs.longest.longest_of.Goals as goal

pub loop-end-init : goal.loop-end-init
loop-end-init g c =
    let f = g.T.HasPrefix.prefix_of in
    let pieces = c.args.pieces.now in
    let place = c.place_for-end.ensures in
    begun f c.args.addr pieces c.place_for-end.result place.within c.requires.in_order (subst (λ (p : Cidr). AllBehind f p (joined (drop c.place_for-end.result pieces))) c.host.ensures place.later)

pub longest_in-found-requires : goal.longest_in-found-requires
longest_in-found-requires g c =
    let some : 0 < c.loop-end.end = omega (arith, c.loop-end-test.true) in
    read_in_order g.T.HasPrefix.prefix_of c.args.addr c.args.pieces.now c.loop-end.end c.loop-end.invariant some c.index-pieces-end.result c.index-pieces-end.is c.as_slice.result.now c.as_slice.ensures.value

pub returns-then-is_some : goal.returns-then-is_some
returns-then-is_some g c =
    let some : 0 < c.loop-end.end = omega (arith, c.loop-end-test.true) in
    found g.T.HasPrefix.prefix_of c.args.addr c.args.pieces.now c.loop-end.end c.loop-end.invariant some c.index-pieces-end.result c.index-pieces-end.is c.as_slice.result.now c.as_slice.ensures.value
    (option_copied c.longest_in-found.result) c.longest_in-found.ensures (read_some (λ x. x.now) c.longest_in-found.result c.is_some.result c.is_some.ensures ∙ c.if-is_some.true)

pub loop-end-preserved : goal.loop-end-preserved
loop-end-preserved g c =
    let some : 0 < c.loop-end.end = omega (arith, c.loop-end-test.true) in
    next_left g.T.HasPrefix.prefix_of c.args.addr c.args.pieces.now c.loop-end.end c.loop-end.invariant some c.index-pieces-end.result c.index-pieces-end.is c.as_slice.result.now c.as_slice.ensures.value
    (option_copied c.longest_in-found.result) c.longest_in-found.ensures (read_some (λ x. x.now) c.longest_in-found.result c.is_some.result c.is_some.ensures ∙ c.if-is_some.false)
