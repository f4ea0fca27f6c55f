-- What comes to a position in a round, and before the first one.
use Rattle.std.proofs.Common.{refl, ◌≡◌, ap, sym, ◌∙◌, subst, ℕ, suc, ◌+◌, ◌<◌, ◌≤◌, Bool, true, false, cond, if◌then◌else◌, List, map, length, slice_index_or, All, arith}
use Rattle.std.specs.Prelude.{◌==◌}
use Rattle.std.proofs.lemmas.List.Elements.{All-filter, All-map}
use Rattle.std.proofs.lemmas.List.FromFn.{length-map-range_with_len, get_or-map-range_with_len}
use Rattle.rc_trees.specs.Trees.{Tree, never, always, IsReduced}
use Rattle.rc_trees.specs.Combine.{and}
use Rattle.rc_nodes.specs.Seats.{TableView, SeatView, SeatKnows}
use Rattle.rc_nodes.specs.declared.words.Ref.{Ref}
use Rattle.rc_nodes.proofs.KnownLaws.{knows_always, knows_never}
use Rattle.rc_jobs.specs.Flows.{KnowsFlows, KnowsEdges, edges_to, positions, real_edges_to, no_header, any_header}
use Rattle.rc_jobs.specs.declared.flow.Flow.{Flow}
use Rattle.rc_spread.specs.Gathered.{gathered, IsInside, MayGather}
use Rattle.rc_spread.specs.Known.{AreSent, MayGatherRefs, IsAfter}
use Rattle.rc_base.specs.Header.{bit_count}
use Rattle.rc_sectors.specs.Sectors.{within, flows_within, edges_within}
use Rattle.rc_sectors.proofs.SectorLaws.{within_from-reduced}
use Rattle.rc_spread.proofs.SectorGather.{as_many_within, edges_in_sector, from_within, in_sector, may_within, within-gathered}
use Rattle.rc_spread.proofs.GatherLaws.{AreReduced, gathered_settled, gathered_without, may_without}
use Rattle.rc_spread.proofs.PositionLaws.{edges_all, edges_own}
use Rattle.rc_spread.proofs.RealLaws.{all_spared, is_real, no_flow}
use Rattle.rc_spread.proofs.Rounding.{known_at}
use Rattle.rc_spread.proofs.StillLaws.{settled_inside}

-- what comes in a sector: the sets of the whole, as they are there
module _ (sector : List Bool) (short : length sector ≤ bit_count) (into : List (List Flow)) (edge whole : ℕ → ℕ → Tree) (round : (k q : ℕ) → whole (suc k) q ≡ gathered (whole k) (whole k q) (edges_to edge (positions (length into)) q)) (sets_reduced : (k q : ℕ) → IsReduced (whole k q)) (edge_reduced : (p q : ℕ) → IsReduced (edge p q)) where
  abbrev sets : ℕ → ℕ → Tree
  sets k q = within sector (whole k q)

  abbrev all : ℕ → List (ℕ × Tree)
  all q = edges_to edge (positions (length into)) q

  both_reduced : (k q : ℕ) → All (AreReduced (whole k)) (all q)
  both_reduced k q = λ i d fits. (sets_reduced k (slice_index_or (all q) i d).0, subst IsReduced (sym (edges_own edge q (positions (length into)) i d fits)) (edge_reduced (slice_index_or (all q) i d).0 q))

  real_reduced : (k q : ℕ) → All (AreReduced (whole k)) (real_edges_to edge (length into) q)
  real_reduced k q = All-filter is_real (AreReduced (whole k)) (all q) (both_reduced k q)

  -- a round in the sector
  pub round_within : (k q : ℕ) → sets (suc k) q ≡ gathered (sets k) (sets k q) (edges_to (edges_within sector edge) (positions (length into)) q)
  round_within k q =
      ap (within sector) (round k q)
      ∙ within-gathered sector short (whole k) (all q) (whole k q) (sets_reduced k q) (both_reduced k q)
      ∙ ap (gathered (sets k) (sets k q)) (edges_in_sector sector edge (positions (length into)) q)

  module _ (q : ℕ) (less : q < length into) where
    abbrev real_ones : List (ℕ × Tree)
    real_ones = real_edges_to edge (length into) q

    abbrev through : List (ℕ × Tree)
    through = flows_within sector real_ones

    module _ {seat : SeatView} {refs : List Ref} {fresh : List Bool} {k : ℕ} (knows : KnowsEdges seat into edge) (after : IsAfter seat refs fresh sets (length into) k) where
      -- positions with nothing fresh send nothing new
      all_stale : All (λ (f : ℕ × Tree). slice_index_or fresh f.0 false ≡ false → IsInside (and (sets k f.0) (within sector f.1)) (sets k q)) (all q)
      all_stale i d fits =
          let f : ℕ × Tree = slice_index_or (all q) i d in
          let low : f.0 < length into = edges_all (λ p. p < length into) edge (length into) q (λ p low. low) i d fits in
          let is : f.1 ≡ edge f.0 q = edges_own edge q (positions (length into)) i d fits in
          λ stale. subst (λ t. IsInside (and (sets k f.0) (within sector t)) (sets k q)) (sym is) (settled_inside (edges_within sector edge) (length into) sets round_within k f.0 q low (after.stale f.0 low stale))

      -- what is sent to the position is known
      pub are_sent : (rows : List Flow) (d : Ref) → rows ≡ slice_index_or into q rows → AreSent seat refs fresh rows sector (slice_index_or refs q d).index (sets k) (sets k q) through
      are_sent rows d is =
          let many = after.as_many in let marks = after.marks in
          let below : All (λ (f : ℕ × Tree). f.0 < length refs) (all q) = (λ i z fits. let h = edges_all (λ p. p < length into) edge (length into) q (λ p low. low) i z fits in omega arith) in
          record {
            knows_sets = after.known;
            whole = real_ones;
            knows_flows = subst (λ (fs : List Flow). KnowsFlows seat fs real_ones) (sym is) (knows.each q rows less);
            in_sector = refl;
            knows_start = known_at seat refs (sets k) after.known q d (omega arith);
            as_many = marks ∙ sym many;
            from = All-map (λ (f : ℕ × Tree). f.0 < length refs) (in_sector sector) real_ones (All-filter is_real (λ (f : ℕ × Tree). f.0 < length refs) (all q) below);
            stale = All-map (λ (f : ℕ × Tree). slice_index_or fresh f.0 false ≡ false → IsInside (and (sets k f.0) f.1) (sets k q)) (in_sector sector) real_ones
                (All-filter is_real (λ (f : ℕ × Tree). slice_index_or fresh f.0 false ≡ false → IsInside (and (sets k f.0) (within sector f.1)) (sets k q)) (all q) all_stale);
          }

      pub may_gather : (nodes : TableView) → MayGather nodes.may (whole k) (whole k q) (all q) → (rows : List Flow) (d : Ref) → rows ≡ slice_index_or into q rows → MayGatherRefs nodes seat refs fresh rows sector (slice_index_or refs q d).index
      may_gather nodes may rows d is = record {
        sets = sets k;
        start = sets k q;
        through = through;
        sent = are_sent rows d is;
        allowed = may_within sector short (whole k) nodes.may real_ones (whole k q) (sets_reduced k q) (real_reduced k q)
            (may_without (whole k) is_real nodes.may (all q) (whole k q) (sets_reduced k q) (both_reduced k q) (all_spared (whole k) (whole k q) (all q)) may);
      }

      -- what is gathered at the position is what has come there a round later
      pub comes_next : gathered (sets k) (sets k q) through ≡ sets (k + 1) q
      comes_next =
          let next : suc k ≡ k + 1 = omega arith in
          sym (within-gathered sector short (whole k) real_ones (whole k q) (sets_reduced k q) (real_reduced k q))
          ∙ ap (within sector) (gathered_without (whole k) is_real (all q) (whole k q) (sets_reduced k q) (both_reduced k q) (all_spared (whole k) (whole k q) (all q)) ∙ sym (round k q) ∙ ap (λ n. whole n q) next)

      -- ---- where nothing has changed at the positions from which real flows lead

      -- the flows into the position lead from where these say
      pub flows_from : (rows : List Flow) → rows ≡ slice_index_or into q rows → All (λ (f : Flow). f.from < length fresh) rows
      flows_from rows is = λ i d fits.
          let sent = are_sent rows no_header is in
          let count = as_many_within seat rows sector sent.whole through sent.knows_flows sent.in_sector in
          let from = from_within seat rows sector sent.whole through sent.knows_flows sent.in_sector i fits d (0, never) in
          let low = sent.from i (0, never) (omega arith) in
          let marks = sent.as_many in omega arith

      pub stays_as_it_is : (rows : List Flow) → rows ≡ slice_index_or into q rows → All (λ (f : Flow). slice_index_or fresh f.from false ≡ false) rows → sets (k + 1) q ≡ sets k q
      stays_as_it_is rows is quiet =
          sym comes_next
          ∙ gathered_settled (sets k) through (sets k q) (within_from-reduced sector 0 (whole k q) (sets_reduced k q))
          (All-map (AreReduced (sets k)) (in_sector sector) real_ones (λ i d fits. (within_from-reduced sector 0 (whole k (slice_index_or real_ones i d).0) ((real_reduced k q) i d fits).0, within_from-reduced sector 0 (slice_index_or real_ones i d).1 ((real_reduced k q) i d fits).1))) inside
        where
          inside : All (λ (f : ℕ × Tree). IsInside (and (sets k f.0) f.1) (sets k q)) through
          inside = λ i d fits.
              let sent = are_sent rows no_header is in
              let count = as_many_within seat rows sector sent.whole through sent.knows_flows sent.in_sector in
              let low : i < length rows = omega arith in
              let from : (slice_index_or rows i no_flow).from ≡ (slice_index_or through i d).0 = from_within seat rows sector sent.whole through sent.knows_flows sent.in_sector i low no_flow d in
              sent.stale i d fits (subst (λ n. slice_index_or fresh n false ≡ false) from (quiet i no_flow low))

-- ---- before the first round

first_known : (seat : SeatView) (b : Bool) → SeatKnows seat (cond b any_header no_header).index (cond b always never)
first_known seat true = knows_always seat
first_known seat false = knows_never seat

pub first_after : (seat : SeatView) (refs : List Ref) (fresh : List Bool) (sets : ℕ → ℕ → Tree) (count place : ℕ) → ((q : ℕ) → q < count → sets 0 q ≡ cond (place == q) always never) → refs ≡ map (λ q. if place == q then any_header else no_header) (positions count) → fresh ≡ map (λ q. place == q) (positions count) → IsAfter seat refs fresh sets count 0
first_after seat refs fresh sets count place first e f = record {
  as_many = ap length e ∙ length-map-range_with_len (λ q. if place == q then any_header else no_header) 0 count;
  known = record {
    at = λ i d less.
        let fits : i < count = omega (arith, ap length e, length-map-range_with_len (λ q. if place == q then any_header else no_header) 0 count) in
        let is : slice_index_or refs i d ≡ cond (place == (0 + i)) any_header no_header = ap (λ xs. slice_index_or xs i d) e ∙ get_or-map-range_with_len (λ q. if place == q then any_header else no_header) 0 count i (0 + i) d fits refl in
        let there : SeatKnows seat (slice_index_or refs i d).index (cond (place == (0 + i)) always never) = subst (λ (r : Ref). SeatKnows seat r.index (cond (place == (0 + i)) always never)) (sym is) (first_known seat (place == (0 + i))) in
        subst (SeatKnows seat (slice_index_or refs i d).index) (sym (first (0 + i) (omega arith))) there;
  };
  marks = ap length f ∙ length-map-range_with_len (λ q. place == q) 0 count;
  stale = λ p less out.
      let same : 0 + p ≡ p = omega arith in
      let is : slice_index_or fresh p false ≡ (place == p) = ap (λ xs. slice_index_or xs p false) f ∙ get_or-map-range_with_len (λ q. place == q) 0 count p p false less same in
      first p less ∙ ap (λ b. cond b always never) (sym is ∙ out);
}
