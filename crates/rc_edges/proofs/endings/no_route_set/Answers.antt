use Rattle.std.proofs.Common.{◌≡◌, ap, sym, ◌∙◌, subst, take, Some, slice_get, ◌≤◌, length, arith}
use Rattle.rc_edges.proofs.EndLaws.{without_may, without_next, without-uses}
use Rattle.rc_router_sets.proofs.JoinLaws.{may_minus, piece, take-whole}
use Rattle.rc_router_sets.proofs.MadeLaws.{made_kept}
use Rattle.rc_router_sets.specs.Sent.{forwarded, hops_at}
use Rattle.rc_nodes.specs.Seats.{SeatKnows}
use Rattle.rc_sets.specs.Regions.{hop_set}
use Rattle.rc_trees.proofs.PartLaws.{minus-second}
use Rattle.rc_trees.specs.Recipes.{minus, tree, without}
use Rattle.rc_moves.specs.Moves.{fib_of, router_of}
use Rattle.rc_edges.proofs.endings.no_route_set.Goals as goal

pub forwarded_set-requires-clause-may : goal.forwarded_set-requires-clause-may
forwarded_set-requires-clause-may g c =
    let plane = c.args.site.now.plane.now in
    let q = c.args.site.now.position in
    let f = hop_set (fib_of plane (router_of q)) in
    piece c.args.nodes.now.may (without f (forwarded plane q) (hops_at plane q)) (forwarded plane q) (without-uses f (forwarded plane q) (hops_at plane q)) c.requires.may

pub part_set-requires-clause-at : goal.part_set-requires-clause-at
part_set-requires-clause-at g c =
    let plane = c.args.site.now.plane.now in
    let q = c.args.site.now.position in
    subst (λ k. slice_get (hops_at plane q) k ≡ Some c.hop_at-at.result.hop) (sym c.hop_at-at.ensures.0)
    (ap (λ hs. slice_get hs c.loop-index.index) (sym c.loop-index.invariant.made.hops ∙ sym c.as_slice.ensures) ∙ c.hop_at-at.ensures.1)

pub part_set-requires-clause-may : goal.part_set-requires-clause-may
part_set-requires-clause-may g c =
    let plane = c.args.site.now.plane.now in
    let q = c.args.site.now.position in
    let f = hop_set (fib_of plane (router_of q)) in
    let hops = hops_at plane q in
    let hop = c.hop_at-at.result.hop in
    let k = c.loop-index.index in
    let at : slice_get hops k ≡ Some hop = ap (λ hs. slice_get hs k) (sym c.loop-index.invariant.made.hops ∙ sym c.as_slice.ensures) ∙ c.hop_at-at.ensures.1 in
    let left = without f (forwarded plane q) (take k hops) in
    (piece c.args.nodes.now.may (minus left (f hop)) (f hop) (minus-second left (f hop)) (without_may f (forwarded plane q) hops k hop at c.args.nodes.now.may c.requires.may))

pub minus-requires-clause-may : goal.minus-requires-clause-may
minus-requires-clause-may g c =
    let plane = c.args.site.now.plane.now in
    let q = c.args.site.now.position in
    let f = hop_set (fib_of plane (router_of q)) in
    let hops = hops_at plane q in
    let hop = c.hop_at-at.result.hop in
    let k = c.loop-index.index in
    let at : slice_get hops k ≡ Some hop = ap (λ hs. slice_get hs k) (sym c.loop-index.invariant.made.hops ∙ sym c.as_slice.ensures) ∙ c.hop_at-at.ensures.1 in
    let left = without f (forwarded plane q) (take k hops) in
    may_minus c.args.nodes.now c.part_set.new.work c.loop-index.set.index c.in_ok-over.over.index left (f hop)
    (c.part_set.ensures.keeps c.loop-index.set.index (tree left) c.loop-index.invariant.known)
    c.in_ok-over.ensures.set
    (without_may f (forwarded plane q) hops k hop at c.args.nodes.now.may c.requires.may)

pub loop-index-preserved : goal.loop-index-preserved
loop-index-preserved g c =
    let plane = c.args.site.now.plane.now in
    let q = c.args.site.now.position in
    let f = hop_set (fib_of plane (router_of q)) in
    let hops = hops_at plane q in
    let hop = c.hop_at-at.result.hop in
    let k = c.loop-index.index in
    let at : slice_get hops k ≡ Some hop = ap (λ hs. slice_get hs k) (sym c.loop-index.invariant.made.hops ∙ sym c.as_slice.ensures) ∙ c.hop_at-at.ensures.1 in
    let left = without f (forwarded plane q) (take k hops) in
    let made = c.in_ok-over.ensures.made in
    record {
      made = made_kept c.args.nodes.now plane q c.part_set.new.made c.part_set.new.work c.minus.new.self made c.minus.ensures.seat c.minus.ensures.keeps;
      keeps = λ r t known. c.minus.ensures.keeps r t (c.part_set.ensures.keeps r t (c.loop-index.invariant.keeps r t known));
      known = subst (λ r. SeatKnows c.minus.new.self c.in_ok-set-2.set.index (tree r)) (sym (without_next f (forwarded plane q) hops k hop at))
          (c.in_ok-set-2.ensures.minus (tree left) (tree (f hop)) (c.part_set.ensures.keeps c.loop-index.set.index (tree left) c.loop-index.invariant.known)
          c.in_ok-over.ensures.set);
    }

pub loop-index-init : goal.loop-index-init
loop-index-init g c = record { made = c.in_ok-set.ensures.made; keeps = c.in_ok-set.ensures.keeps; known = c.in_ok-set.ensures.set }

pub returns-clause-set : goal.returns-clause-set
returns-clause-set g c =
    let plane = c.args.site.now.plane.now in
    let q = c.args.site.now.position in
    let hops = hops_at plane q in
    let a = c.len-index-end.ensures in
    let b = ap length c.in_ok-set.ensures.made.hops in
    let t = c.loop-index-test.false in
    let end : length hops ≤ c.loop-index.index = omega arith in
    subst (λ hs. SeatKnows c.loop-index.work c.loop-index.set.index (tree (without (hop_set (fib_of plane (router_of q))) (forwarded plane q) hs))) (take-whole c.loop-index.index hops end) c.loop-index.invariant.known

pub returns-in_err-over-clause-keeps : goal.returns-in_err-over-clause-keeps
returns-in_err-over-clause-keeps g c = λ r t k. c.part_set.ensures.keeps r t (c.loop-index.invariant.keeps r t k)

pub returns-clause-seat : goal.returns-clause-seat
returns-clause-seat g c = c.loop-index.invariant.made.table

pub returns-clause-keeps : goal.returns-clause-keeps
returns-clause-keeps g c = c.loop-index.invariant.keeps
