use Rattle.std.proofs.Common.{◌≡◌, ap, sym, ◌∙◌, subst, Some, ◌+◌, take}
use Rattle.std.specs.List.{flat_map, slice_get}
use Rattle.rc_nodes.proofs.KnownLaws.{knows_never}
use Rattle.rc_nodes.specs.Seats.{SeatKnows}
use Rattle.rc_router_sets.specs.Edges.{union}
use Rattle.rc_router_sets.specs.Ends.{ends_over}
use Rattle.rc_router_sets.specs.Sent.{hops_at}
use Rattle.rc_trees.specs.Recipes.{tree}
use Rattle.rc_edges.proofs.endings.over_hops_set.Goals as goal

pub loop-index-init : goal.loop-index-init
loop-index-init g c = record { made = c.requires.made; keeps = λ r t k. k; known = knows_never c.args.work.now }

pub with_hop-requires-clause-at : goal.with_hop-requires-clause-at
with_hop-requires-clause-at g c =
    let plane = c.args.site.now.plane.now in
    let q = c.args.site.now.position in
    subst (λ k. slice_get (hops_at plane q) k ≡ Some c.hop_at-at.result.hop) (sym c.hop_at-at.ensures.0)
    (ap (λ hs. slice_get hs c.loop-index.index) (sym c.loop-index.invariant.made.hops ∙ sym c.as_slice.ensures) ∙ c.hop_at-at.ensures.1)

pub with_hop-requires-clause-before : goal.with_hop-requires-clause-before
with_hop-requires-clause-before g c =
    let plane = c.args.site.now.plane.now in
    let q = c.args.site.now.position in
    subst (λ k. SeatKnows c.loop-index.work c.loop-index.set.index (tree (union (flat_map (ends_over plane q c.args.kind) (take k (hops_at plane q)))))) (sym c.hop_at-at.ensures.0) c.loop-index.invariant.known

pub loop-index-preserved : goal.loop-index-preserved
loop-index-preserved g c =
    let plane = c.args.site.now.plane.now in
    let q = c.args.site.now.position in
    record {
      made = c.in_ok-set.ensures.made;
      keeps = λ r t known. c.in_ok-set.ensures.keeps r t (c.loop-index.invariant.keeps r t known);
      known = subst (λ k. SeatKnows c.with_hop.new.work c.in_ok-set.set.index (tree (union (flat_map (ends_over plane q c.args.kind) (take (k + 1) (hops_at plane q)))))) c.hop_at-at.ensures.0 c.in_ok-set.ensures.set;
    }
