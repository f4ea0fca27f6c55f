-- What stands at positions in a sector, and the sets through which they send it, by the places of the flows.
use Rattle.std.proofs.Common.{refl, ◌≡◌, subst, ℕ, ◌+◌, ◌<◌, ◌≤◌, Bool, List, length, take, slice_index_or, arith}
use Rattle.std.proofs.lemmas.List.{take_all}
use Rattle.rc_jobs.proofs.FlowLaws.{as_many_flows, flow_from, flow_set}
use Rattle.rc_jobs.specs.declared.flow.Flow.{Flow}
use Rattle.rc_nodes.proofs.KnownLaws.{known_reduced}
use Rattle.rc_nodes.specs.Seats.{TableView, SeatView, IsSeatOf, Keeps, SeatKnows}
use Rattle.rc_nodes.specs.declared.words.Ref.{Ref}
use Rattle.rc_sectors.specs.Sectors.{within, flows_within}
use Rattle.rc_spread.proofs.RealLaws.{no_flow}
use Rattle.rc_spread.specs.United.{passing, AreThere, ArePassages, KnowsPassages}
use Rattle.rc_spread.specs.declared.united.Passage.{Passage}
use Rattle.rc_trees.specs.Trees.{Tree, never}

module _ (seat : SeatView) (refs : List Ref) (flows : List Flow) (sector : List Bool) (sets : ℕ → Tree) (whole : List (ℕ × Tree)) (are : AreThere seat refs flows sector sets whole) where
  as_many : length flows ≡ length whole
  as_many = as_many_flows seat flows whole are.knows_flows

  module _ (i : ℕ) (less : i < length flows) where
    abbrev pub sent : ℕ × Tree
    sent = slice_index_or whole i (0, never)

    pub fits : i < length whole
    fits = let count = as_many in omega arith

    source : (d : Flow) → (slice_index_or flows i d).from ≡ sent.0
    source d = flow_from seat flows whole are.knows_flows i d (0, never) less

    pub from_set : (d : Flow) → (slice_index_or flows i d).from < length refs
    from_set d = let e = source d in let below : sent.0 < length refs = are.from i (0, never) fits in omega arith

    -- at a later seat
    module _ (now : SeatView) (keeps : Keeps seat now) where
      pub set_known : (d : Flow) (n : Ref) → SeatKnows now (slice_index_or refs (slice_index_or flows i d).from n).index (within sector (sets sent.0))
      set_known d n =
          let e = source d in
          let same : 0 + (slice_index_or flows i d).from ≡ sent.0 = omega arith in
          keeps (slice_index_or refs (slice_index_or flows i d).from n).index (within sector (sets sent.0))
          (subst (λ k. SeatKnows seat (slice_index_or refs (slice_index_or flows i d).from n).index (within sector (sets k))) same (are.knows_sets.at (slice_index_or flows i d).from n (from_set d)))

      pub through_known : (d : Flow) → SeatKnows now (slice_index_or flows i d).set.index sent.1
      through_known d = keeps (slice_index_or flows i d).set.index sent.1 (flow_set seat flows whole are.knows_flows i d (0, never) less)

  pub all_there : (nodes : TableView) → IsSeatOf nodes seat → (now : SeatView) (passages : List Passage) (n : ℕ) → length flows ≤ n
      → KnowsPassages now (λ q. within sector (sets q)) passages (passing (λ q. within sector (sets q)) (flows_within sector (take n whole))) → ArePassages now passages (length sector) sector sets whole
  all_there nodes mine now passages n all known = record {
    long = refl;
    reduced = λ i d less. (
      are.reduced (slice_index_or whole i d).0,
      (let count = as_many in known_reduced seat mine.sound (slice_index_or flows i no_flow).set.index (slice_index_or whole i d).1 (flow_set seat flows whole are.knows_flows i no_flow d (omega arith))),
    );
    known = subst (λ fs. KnowsPassages now (λ q. within sector (sets q)) passages (passing (λ q. within sector (sets q)) (flows_within sector fs))) (take_all n whole (let count = as_many in omega arith)) known;
  }
