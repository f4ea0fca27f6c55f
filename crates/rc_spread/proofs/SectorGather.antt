-- What is gathered goes by sectors: in each it is what is gathered of the sets and flows as they are there, and no other trees are made.
use Rattle.std.proofs.Common.{refl, ◌≡◌, ap, sym, ◌∙◌, subst, ℕ, ◌<◌, ◌≤◌, Bool, List, [], ◌∷◌, length, slice_index_or, All, arith}
use Rattle.std.proofs.lemmas.List.{get_or-map, length-map}
use Rattle.std.proofs.lemmas.List.Elements.{All-head, All-tail}
use Rattle.std.proofs.lemmas.Simd.{map-map}
use Rattle.rc_base.specs.Header.{bit_count}
use Rattle.rc_trees.specs.Trees.{Tree, never, IsReduced, HasNodesOf}
use Rattle.rc_trees.specs.Combine.{or}
use Rattle.rc_trees.proofs.ReducedLaws.{reduced-and, reduced-or}
use Rattle.rc_nodes.specs.Seats.{SeatView, SeatKnows}
use Rattle.rc_jobs.specs.Flows.{KnowsFlows, edges_to}
use Rattle.rc_jobs.specs.declared.flow.Flow.{Flow}
use Rattle.rc_jobs.proofs.FlowLaws.{as_many_flows, flow_from, flow_set}
use Rattle.rc_sectors.specs.Sectors.{within, flows_within, edges_within}
use Rattle.rc_sectors.proofs.SectorLaws.{within-and, within-or, within_from-nodes}
use Rattle.rc_spread.specs.Gathered.{gathered, MayGather}
use Rattle.rc_spread.proofs.GatherLaws.{AreReduced, passed}

-- ---- flows that a seat knows, as they are in a sector

abbrev pub in_sector : List Bool → ℕ × Tree → ℕ × Tree
in_sector sector f = (f.0, within sector f.1)

-- in no sector at all they are themselves
pub in_all : (fs : List (ℕ × Tree)) → fs ≡ flows_within [] fs
in_all [] = refl
in_all (f ∷ fs) = ap (λ gs. f ∷ gs) (in_all fs)

pub edges_in_sector : (sector : List Bool) (edge : ℕ → ℕ → Tree) (ps : List ℕ) (q : ℕ) → flows_within sector (edges_to edge ps q) ≡ edges_to (edges_within sector edge) ps q
edges_in_sector sector edge ps q = map-map (in_sector sector) (λ p. (p, edge p q)) ps

module _ (seat : SeatView) (flows : List Flow) (sector : List Bool) (whole through : List (ℕ × Tree)) (known : KnowsFlows seat flows whole) (is : through ≡ flows_within sector whole) where
  pub as_many_within : length flows ≡ length through
  as_many_within = as_many_flows seat flows whole known ∙ sym (length-map whole (in_sector sector)) ∙ ap length (sym is)

  module _ (i : ℕ) (less : i < length flows) where
    pub there : (e : ℕ × Tree) → slice_index_or through i e ≡ in_sector sector (slice_index_or whole i (0, never))
    there e = ap (λ fs. slice_index_or fs i e) is ∙ get_or-map (in_sector sector) whole i (0, never) e (let many = as_many_flows seat flows whole known in omega arith)

    pub from_within : (d : Flow) (e : ℕ × Tree) → (slice_index_or flows i d).from ≡ (slice_index_or through i e).0
    from_within d e = flow_from seat flows whole known i d (0, never) less ∙ ap (λ (f : ℕ × Tree). f.0) (sym (there e))

    pub whole_known : (d : Flow) → SeatKnows seat (slice_index_or flows i d).set.index (slice_index_or whole i (0, never)).1
    whole_known d = flow_set seat flows whole known i d (0, never) less

    pub set_within : (e : ℕ × Tree) → (slice_index_or through i e).1 ≡ within sector (slice_index_or whole i (0, never)).1
    set_within e = ap (λ (f : ℕ × Tree). f.1) (there e)

-- ---- what is gathered

module _ (sector : List Bool) (short : length sector ≤ bit_count) (sets : ℕ → Tree) where
  abbrev there_sets : ℕ → Tree
  there_sets p = within sector (sets p)

  within-passed : (f : ℕ × Tree) → AreReduced sets f → within sector (passed sets f) ≡ passed there_sets (in_sector sector f)
  within-passed f both = within-and sector short (sets f.0) f.1 both.0 both.1

  within-more : (f : ℕ × Tree) (s : Tree) → IsReduced s → AreReduced sets f → within sector (or s (passed sets f)) ≡ or (within sector s) (passed there_sets (in_sector sector f))
  within-more f s r both = within-or sector short s (passed sets f) r (reduced-and (sets f.0) f.1 both.0 both.1) ∙ ap (or (within sector s)) (within-passed f both)

  pub within-gathered : (fs : List (ℕ × Tree)) (s : Tree) → IsReduced s → All (AreReduced sets) fs → within sector (gathered sets s fs) ≡ gathered there_sets (within sector s) (flows_within sector fs)
  within-gathered [] s r all = refl
  within-gathered (f ∷ fs) s r all =
      let both = All-head (AreReduced sets) f fs all in
      within-gathered fs (or s (passed sets f)) (reduced-or s (passed sets f) r (reduced-and (sets f.0) f.1 both.0 both.1)) (All-tail (AreReduced sets) f fs all)
      ∙ ap (λ t. gathered there_sets t (flows_within sector fs)) (within-more f s r both)

  pub may_within : (may : List Tree) (fs : List (ℕ × Tree)) (s : Tree) → IsReduced s → All (AreReduced sets) fs → MayGather may sets s fs → MayGather may there_sets (within sector s) (flows_within sector fs)
  unfolding MayGather
  may_within may [] s r all m = tt
  may_within may (f ∷ fs) s r all m =
      let both = All-head (AreReduced sets) f fs all in
      let rest = may_within may fs (or s (passed sets f)) (reduced-or s (passed sets f) r (reduced-and (sets f.0) f.1 both.0 both.1)) (All-tail (AreReduced sets) f fs all) m.2 in (
        subst (HasNodesOf may) (within-passed f both) (within_from-nodes may sector 0 (passed sets f) m.0),
        subst (HasNodesOf may) (within-more f s r both) (within_from-nodes may sector 0 (or s (passed sets f)) m.1),
        subst (λ t. MayGather may there_sets t (flows_within sector fs)) (within-more f s r both) rest,
      )
