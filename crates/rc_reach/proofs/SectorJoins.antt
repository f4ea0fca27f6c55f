-- Rounds of propagation from a place, in a sector.
use Rattle.std.proofs.Common.{refl, ◌≡◌, ap, sym, ◌∙◌, subst, ℕ, zero, suc, ◌+◌, ◌<◌, ◌≤◌, Bool, true, false, cond, List, [], ◌∷◌, length, slice_index_or, take, All, eq-eqb, arith}
use Rattle.std.specs.Prelude.{◌==◌, filter, flat_map}
use Rattle.std.specs.List.{range_with_len}
use Rattle.std.proofs.lemmas.List.{get_or-map, get_or_default, length-map}
use Rattle.std.proofs.lemmas.List.Concat.{get_or-flat_map}
use Rattle.std.proofs.lemmas.List.Folds.{length-flat_map-take}
use Rattle.std.proofs.lemmas.List.FromFn.{get_or-range_with_len, length-range_with_len}
use Rattle.rc_base.specs.Header.{bit_count}
use Rattle.rc_base.specs.declared.position.Pos.{Pos}
use Rattle.rc_config.specs.Lawful.{IsPosition}
use Rattle.rc_config.specs.Members.{positions}
use Rattle.rc_edges.specs.Prepare.{edge_at}
use Rattle.rc_jobs.specs.Flows.{KnowsEdges}
use Rattle.rc_jobs.specs.Kept.{edges_kept}
use Rattle.rc_jobs.specs.declared.flow.Flow.{Flow}
use Rattle.rc_moves.specs.Moves.{DataPlane}
use Rattle.rc_nodes.specs.Seats.{TableView, SeatView}
use Rattle.rc_places.specs.Places.{number_of, position_at}
use Rattle.rc_router_sets.proofs.ReducedLaws.{of_reduced-edge, of_reduced-reached}
use Rattle.rc_router_sets.specs.Edges.{edge}
use Rattle.rc_router_sets.specs.Planes.{IsPlane}
use Rattle.rc_router_sets.specs.Query.{reached}
use Rattle.rc_sectors.proofs.SectorLaws.{within_from-always, within_from-never}
use Rattle.rc_sectors.specs.Sectors.{within}
use Rattle.rc_spread.proofs.ComingLaws.{stays_as_it_is}
use Rattle.rc_spread.proofs.TurnLaws.{are_within, knows_out}
use Rattle.rc_spread.specs.Alone.{LeadsTo, Rest, StayWithin}
use Rattle.rc_spread.specs.Onward.{turned}
use Rattle.rc_spread.specs.Turned.{AreOut, flows_from}
use Rattle.rc_trees.proofs.RecipeLaws.{reduced-tree}
use Rattle.rc_trees.specs.Trees.{Tree, always, never, IsReduced}
use Rattle.rc_reach.specs.Rounds.{reached_at, reached_in}
use Rattle.rc_reach.proofs.JoinLaws.{place_next}
use Rattle.rc_reach.proofs.PlaceJoins.{place_first}

module _ (plane : DataPlane) (ok : IsPlane plane) where
  pub sets_reduced : (place : Pos) (k q : ℕ) → IsReduced (reached_at plane place k q)
  sets_reduced place k q = reduced-tree (reached plane place k (position_at plane.network q)) (of_reduced-reached plane ok place k (position_at plane.network q))

  pub edge_reduced : (p q : ℕ) → IsReduced (edge_at plane p q)
  edge_reduced p q = reduced-tree (edge plane (position_at plane.network p) (position_at plane.network q)) (of_reduced-edge plane ok (position_at plane.network p) (position_at plane.network q))

constant_within : (sector : List Bool) (b : Bool) → within sector (cond b always never) ≡ cond b always never
constant_within sector true = within_from-always sector 0
constant_within sector false = within_from-never sector 0

-- before the first round all headers of the sector are at the place
pub sector_first : (plane : DataPlane) (place : Pos) (sector : List Bool) → IsPosition plane.network place → (n m : ℕ) → n ≡ number_of plane.network place → m ≡ length (positions plane.network) → (q : ℕ) → q < m → reached_in plane place sector 0 q ≡ cond (n == q) always never
sector_first plane place sector there n m is many q less = ap (within sector) (place_first plane place there n m is many q less) ∙ constant_within sector (n == q)

-- ---- the flows out of positions lead where the flows into them say

some_left : (test : Flow → Bool) (fs : List Flow) (i : ℕ) (d : Flow) → i < length fs → test (slice_index_or fs i d) ≡ true → 0 < length (filter test fs)
some_left test [] i d less is = absurd (omega arith)
some_left test (f ∷ fs) zero d less is = subst (λ b. 0 < length (cond b (f ∷ filter test fs) (filter test fs))) (sym is) (omega arith)
some_left test (f ∷ fs) (suc i) d less is = by (test f) (some_left test fs i d (omega arith) is)
  where
    by : (b : Bool) → 0 < length (filter test fs) → 0 < length (cond b (f ∷ filter test fs) (filter test fs))
    by true some = omega arith
    by false some = some

module _ (into out : List (List Flow)) (out_of : AreOut into (length into) out) (q i : ℕ) (d : Flow) (less : q < length into) (fits : i < length (slice_index_or into q [])) (low : (slice_index_or (slice_index_or into q []) i d).from < length into) where
  abbrev rows : List Flow
  rows = slice_index_or into q []

  abbrev source : ℕ
  source = (slice_index_or rows i d).from

  abbrev piece : ℕ → List Flow
  piece t = flows_from source t (slice_index_or into t [])

  abbrev all : List ℕ
  all = range_with_len 0 (length into)

  many : length all ≡ length into
  many = length-range_with_len 0 (length into)

  here : slice_index_or all q 0 ≡ q
  here = get_or-range_with_len 0 (length into) q 0 less ∙ (let same : 0 + q ≡ q = omega arith in same)

  some_there : 0 < length (filter (λ (f : Flow). f.from == source) rows)
  some_there = some_left (λ (f : Flow). f.from == source) rows i d fits (eq-eqb source source refl)

  some_turned : 0 < length (piece q)
  some_turned = subst (λ n. 0 < n) (sym (length-map (filter (λ (f : Flow). f.from == source) rows) (λ (f : Flow). record { from = q; set = f.set }))) some_there

  turned_from : (e : Flow) → (slice_index_or (piece q) 0 e).from ≡ q
  turned_from e = ap (λ (f : Flow). f.from) (get_or-map (λ (f : Flow). record { from = q; set = f.set }) (filter (λ (f : Flow). f.from == source) rows) 0 d e some_there)

  pub leads_there : LeadsTo out source q
  leads_there =
      let is : slice_index_or out source [] ≡ flat_map piece all = out_of.each source [] low in
      let before : ℕ = length (flat_map piece (take q all)) in
      let count = many in
      let long : length (piece (slice_index_or all q 0)) ≡ length (piece q) = ap (λ t. length (piece t)) here in
      let some = some_turned in
      let room = length-flat_map-take piece all q 0 (omega arith) in
      let whole : length (slice_index_or out source []) ≡ length (flat_map piece all) = ap length is in (
        before + 0,
        (let e = whole in omega arith),
        λ e.
            ap (λ (fs : List Flow). (slice_index_or fs (before + 0) e).from) is
            ∙ ap (λ (f : Flow). f.from) (get_or-flat_map piece all q 0 0 e (omega arith) (omega arith))
            ∙ ap (λ t. (slice_index_or (piece t) 0 e).from) here
            ∙ turned_from e,
      )

-- ---- rounds by one alone

module _ (seat : SeatView) (into out : List (List Flow)) (edge : ℕ → ℕ → Tree) (edges : KnowsEdges seat into edge) (out_of : AreOut into (length into) out) where
  pub stay_within : StayWithin out (length into)
  stay_within = record {
    as_many = out_of.as_many;
    each = λ p d less. subst (λ n. All (λ (f : Flow). f.from < n) (slice_index_or out p d)) out_of.as_many
        ((are_within seat out (turned edge) (knows_out seat into edge edges out out_of)).each p d (let many = out_of.as_many in omega arith));
  }

-- a position to which nothing fresh leads rests
pub rest_in : (plane : DataPlane) → IsPlane plane → (place : Pos) (sector : List Bool) → length sector ≤ bit_count → (nodes : TableView) (seat : SeatView) (into out : List (List Flow)) → length into ≡ length (positions plane.network)
    → KnowsEdges seat into (edge_at plane) → AreOut into (length into) out → Rest nodes seat out (reached_in plane place sector) (length into)
rest_in plane ok place sector short nodes seat into out many edges out_of later refs fresh k q keeps mine after less quiet =
    let rows : List Flow = slice_index_or into q [] in
    let low : (i : ℕ) (d : Flow) → i < length rows → (slice_index_or rows i d).from < length into = (are_within seat into (edge_at plane) edges).each q [] less in
    stays_as_it_is sector short into (edge_at plane) (reached_at plane place) (place_next plane place (length into) many) (sets_reduced plane ok place) (edge_reduced plane ok)
    q less (edges_kept seat later keeps edges) after rows (get_or_default into q [] rows less)
    (λ i d fits. quiet (slice_index_or rows i d).from (low i d fits) (leads_there into out out_of q i d less fits (low i d fits)))
