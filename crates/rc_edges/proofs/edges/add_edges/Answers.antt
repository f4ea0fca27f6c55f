use Rattle.std.proofs.Common.{◌≡◌, ap, sym, ◌∙◌, subst, ◌+◌, ◌≤◌, Some, length, take, arith}
use Rattle.std.specs.Prelude.{slice_get}
use Rattle.rc_config.specs.Members.{positions}
use Rattle.rc_router_sets.proofs.JoinLaws.{take-whole}
use Rattle.rc_edges.proofs.RowLaws.{row_like}
use Rattle.rc_edges.proofs.TargetLaws.{all_given}
use Rattle.rc_router_sets.specs.Edges.{edge, union}
use Rattle.rc_edges.specs.Given.{IsRow, given_by, joined}
use Rattle.rc_router_sets.specs.Sent.{hops_at}
use Rattle.rc_places.specs.Places.{position_at}
use Rattle.rc_trees.specs.Recipes.{tree}
use Rattle.rc_edges.proofs.edges.add_edges.Goals as goal

pub add_hop-requires-clause-at : goal.add_hop-requires-clause-at
add_hop-requires-clause-at g c =
    let plane = c.args.site.now.plane.now in
    let q = c.args.site.now.position in
    subst (λ k. slice_get (hops_at plane q) k ≡ Some c.hop_at-at.result.hop) (sym c.hop_at-at.ensures.0)
    (ap (λ hs. slice_get hs c.loop-index.index) (sym c.loop-index.invariant.made.hops ∙ sym c.as_slice.ensures) ∙ c.hop_at-at.ensures.1)

pub add_hop-requires-clause-row : goal.add_hop-requires-clause-row
add_hop-requires-clause-row g c =
    let plane = c.args.site.now.plane.now in
    let q = c.args.site.now.position in
    subst (λ k. IsRow c.loop-index.work c.loop-index.row (length (positions c.args.places.now)) (joined (given_by plane q (take k (hops_at plane q))))) (sym c.hop_at-at.ensures.0) c.loop-index.invariant.row

pub loop-index-preserved : goal.loop-index-preserved
loop-index-preserved g c =
    let plane = c.args.site.now.plane.now in
    let q = c.args.site.now.position in
    record {
      made = c.in_ok-add_hop.ensures.made;
      keeps = λ r t known. c.in_ok-add_hop.ensures.keeps r t (c.loop-index.invariant.keeps r t known);
      row = subst (λ k. IsRow c.add_hop.new.work c.add_hop.new.row (length (positions c.args.places.now)) (joined (given_by plane q (take (k + 1) (hops_at plane q))))) c.hop_at-at.ensures.0 c.in_ok-add_hop.ensures.row;
    }

pub returns-clause-row : goal.returns-clause-row
returns-clause-row g c =
    let plane = c.args.site.now.plane.now in
    let q = c.args.site.now.position in
    let hops = hops_at plane q in
    let a = c.len-index-end.ensures in
    let b = ap length c.requires.made.hops in
    let t = c.loop-index-test.false in
    let end : length hops ≤ c.loop-index.index = omega arith in
    row_like c.loop-index.work c.loop-index.row (length (positions c.args.places.now)) (joined (given_by plane q (take c.loop-index.index hops))) (λ t. tree (edge plane q (position_at c.args.places.now t)))
    (λ t less. ap (λ hs. tree (union (given_by plane q hs t))) (take-whole c.loop-index.index hops end) ∙ all_given plane q t ∙ ap (λ n. tree (edge plane q (position_at n t))) (sym c.requires.places))
    c.loop-index.invariant.row
