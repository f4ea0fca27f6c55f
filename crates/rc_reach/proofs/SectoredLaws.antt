-- What is known of a question that is answered sector by sector.
use Rattle.std.proofs.Common.{◌≡◌, ap, sym, ◌∙◌, subst, ℕ, ◌+◌, Bool, true, List, [], length, slice_index_or, arith}
use Rattle.std.proofs.lemmas.List.{get_or_default}
use Rattle.std.specs.List.{list_any}
use Rattle.rc_base.specs.Endings.{all_kinds}
use Rattle.rc_base.specs.Positions.{is_among}
use Rattle.rc_base.specs.declared.ending.Ends.{Ends}
use Rattle.rc_base.specs.declared.position.Pos.{Pos}
use Rattle.rc_config.specs.Lawful.{IsPosition}
use Rattle.rc_config.specs.Members.{positions}
use Rattle.rc_edges.specs.Prepare.{edge_at, ends_at, stops_at}
use Rattle.rc_jobs.specs.Flows.{IsPrepared, KnowsEdges, KnowsFlows, flows_of, real_endings}
use Rattle.rc_jobs.specs.declared.flow.Flow.{Flow}
use Rattle.rc_jobs.specs.declared.flow.Prepared.{Prepared}
use Rattle.rc_moves.specs.Moves.{DataPlane}
use Rattle.rc_nodes.specs.Seats.{TableView, SeatView, SeatKnows}
use Rattle.rc_nodes.specs.declared.words.Ref.{Ref}
use Rattle.rc_router_sets.proofs.QueryLaws.{may_be_made}
use Rattle.rc_router_sets.proofs.ReducedLaws.{reduced-result}
use Rattle.rc_places.proofs.PlaceLaws.{few_positions}
use Rattle.rc_places.specs.Places.{number_of}
use Rattle.rc_router_sets.specs.Planes.{IsPlane}
use Rattle.rc_router_sets.specs.Query.{query_nodes, reaching}
use Rattle.rc_sectors.specs.Cuts.{AreCut, AreWithin, MayPutTogether}
use Rattle.rc_sectors.specs.Sectors.{within}
use Rattle.rc_spread.specs.Known.{KnowsShare}
use Rattle.rc_spread.specs.Turned.{AreOut}
use Rattle.rc_trees.proofs.NodeLaws.{has_recipe}
use Rattle.rc_trees.specs.Recipes.{tree}
use Rattle.rc_trees.specs.Trees.{Tree, HasNodes, IsReduced}
use Rattle.rc_reach.proofs.AskedLaws.{asked_among, some_asked}
use Rattle.rc_reach.proofs.JoinLaws.{place_rounds}
use Rattle.rc_reach.specs.Sectored.{Sectored, MayReachIn, answer_in}

module _ (nodes : TableView) (seat : SeatView) (asked : Sectored) (sets : List Ref) (ready : MayReachIn nodes seat asked) (known : KnowsShare seat sets (answer_in asked) 0 (length asked.sectors)) where
  abbrev answer : Tree
  answer = tree (reaching asked.plane asked.place asked.ends)

  pub answer_reduced : IsReduced answer
  answer_reduced = reduced-result asked.plane ready.plane_is asked.place asked.ends

  pub are_within_sectors : AreWithin seat asked.sectors sets answer
  are_within_sectors = record {
    as_many = (let many = known.count in omega arith);
    each = λ i d e less.
        let many = known.count in
        let same : 0 + i ≡ i = omega arith in
        subst (λ s. SeatKnows seat (slice_index_or sets i d).index (within s answer)) (ap (λ k. slice_index_or asked.sectors k []) same ∙ get_or_default asked.sectors i [] e (omega arith)) (known.each.at i d less);
  }

  pub may_put_together : AreCut asked.sectors → MayPutTogether nodes seat asked.sectors sets
  may_put_together cut = record {
    cut = cut;
    whole = answer;
    reduced = answer_reduced;
    allowed = has_recipe nodes.may (reaching asked.plane asked.place asked.ends) (λ t there is. ready.may t (may_be_made asked.plane asked.place asked.ends (reaching asked.plane asked.place asked.ends) (λ x h. h) t there is) is);
    are = are_within_sectors;
  }

-- ---- a question that was prepared

pub may_reach : (plane : DataPlane) → IsPlane plane → (place : Pos) → IsPosition plane.network place → (n : ℕ) → n ≡ number_of plane.network place → (ends : Ends) → list_any (is_among ends) all_kinds ≡ true
    → (nodes : TableView) (seat : SeatView) (prepared : Prepared) → IsPrepared seat (edge_at plane) (stops_at plane ends) (length (positions plane.network)) prepared → HasNodes nodes.may (query_nodes plane place ends)
    → (into : List (List Flow)) → into ≡ prepared.into → (out : List (List Flow)) → AreOut into (length into) out → (flows : List Flow) → flows ≡ flows_of (is_among ends) prepared.ends
    → (sectors : List (List Bool)) → AreCut sectors
    → MayReachIn nodes seat (record { plane = plane; place = place; place_number = n; ends = ends; into = into; out_of = out; flows = flows; sectors = sectors })
may_reach plane ok place there n number ends asking nodes seat prepared p has into is out out_of flows are sectors cut =
    let many : length into ≡ length (positions plane.network) = ap length is ∙ p.as_many in
    let asked = some_asked ends asking in
    record {
      plane_is = ok;
      there = there;
      number = number;
      short = cut.short;
      as_many = many;
      few = (let few = few_positions plane.network ok.lawful in omega arith);
      edges = subst (λ (fs : List (List Flow)). KnowsEdges seat fs (edge_at plane)) (sym is) p.edges;
      out = out_of;
      endings = subst (λ (fs : List Flow). KnowsFlows seat fs (real_endings (ends_at plane ends) (length (positions plane.network)))) (sym are)
          (subst (λ (es : ℕ → List Tree). KnowsFlows seat (flows_of (is_among ends) prepared.ends) (real_endings es (length (positions plane.network)))) (asked_among plane ends ends (λ k is. is)) (p.endings (is_among ends)));
      rounds = place_rounds plane place (length into) many ends nodes.may has asked.0 asked.1;
      may = has;
    }
