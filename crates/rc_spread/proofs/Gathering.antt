-- What a seat knows of sets that are gathered.
use Rattle.std.proofs.Common.{◌≡◌, ap, sym, ◌∙◌, subst, ℕ, zero, suc, ◌+◌, ◌≤◌, ◌<◌, Bool, false, List, [], ◌∷◌, length, take, slice_index_or, All, arith}
use Rattle.std.proofs.lemmas.List.{take_more, take_all}
use Rattle.std.proofs.lemmas.List.Elements.{All-take}
use Rattle.rc_trees.specs.Trees.{Tree, never, IsReduced, HasNodesOf}
use Rattle.rc_trees.specs.Combine.{and, or}
use Rattle.rc_trees.proofs.OneTree.{or-inside}
use Rattle.rc_trees.proofs.ReducedLaws.{reduced-and}
use Rattle.rc_nodes.specs.Seats.{TableView, SeatView, IsKnown, IsSeatOf, SeatKnows, Keeps}
use Rattle.rc_nodes.specs.declared.words.Ref.{Ref}
use Rattle.rc_nodes.proofs.KnownLaws.{known_reduced}
use Rattle.rc_bdd.specs.Work.{MayCombine}
use Rattle.rc_jobs.specs.declared.flow.Flow.{Flow}
use Rattle.rc_sectors.specs.Sectors.{within}
use Rattle.rc_sectors.proofs.SectorLaws.{within_from-reduced}
use Rattle.rc_spread.proofs.SectorGather.{as_many_within, from_within, set_within, whole_known}
use Rattle.rc_spread.specs.Gathered.{gathered, IsInside, MayGather}
use Rattle.rc_spread.specs.Known.{AreSent}
use Rattle.rc_jobs.specs.Flows.{no_header}
use Rattle.rc_spread.proofs.GatherLaws.{gathered-append, gathered_reduced, gathered_inside, passed, AreReduced}

abbrev no_flow : Flow
no_flow = record { from = 0; set = no_header }

-- the operations at a place of the flows
may_at : (may : List Tree) (sets : ℕ → Tree) (start : Tree) (through : List (ℕ × Tree)) (i : ℕ) (d : ℕ × Tree) → i < length through → MayGather may sets start through → HasNodesOf may (passed sets (slice_index_or through i d)) × HasNodesOf may (or (gathered sets start (take i through)) (passed sets (slice_index_or through i d)))
unfolding MayGather
may_at may sets start [] i d less m = absurd (omega arith)
may_at may sets start (f ∷ fs) zero d less m = (m.0, m.1)
may_at may sets start (f ∷ fs) (suc i) d less m = may_at may sets (or start (passed sets f)) fs i d (omega arith) m.2

gathered_more : (sets : ℕ → Tree) (start : Tree) (through : List (ℕ × Tree)) (i : ℕ) (d : ℕ × Tree) → i < length through → gathered sets start (take (i + 1) through) ≡ or (gathered sets start (take i through)) (passed sets (slice_index_or through i d))
gathered_more sets start through i d less = ap (gathered sets start) (take_more through i d less) ∙ gathered-append sets (take i through) (slice_index_or through i d ∷ []) start

module _ {nodes : TableView} {seat : SeatView} {refs : List Ref} {fresh : List Bool} {flows : List Flow} {sector : List Bool} {here : ℕ} {sets : ℕ → Tree} {start : Tree} {through : List (ℕ × Tree)} (mine : IsSeatOf nodes seat) (sent : AreSent seat refs fresh flows sector here sets start through) (i : ℕ) (less : i < length flows) where
  abbrev pub at : ℕ × Tree
  at = slice_index_or through i (0, never)

  fits : i < length through
  fits = let count = as_many_within seat flows sector sent.whole through sent.knows_flows sent.in_sector in omega arith

  pub source : (d : Flow) → (slice_index_or flows i d).from ≡ at.0
  source d = from_within seat flows sector sent.whole through sent.knows_flows sent.in_sector i less d (0, never)

  pub from_set : (d : Flow) → (slice_index_or flows i d).from < length refs
  from_set d = let e = source d in let below : at.0 < length refs = sent.from i (0, never) fits in omega arith

  pub from_fresh : (d : Flow) → (slice_index_or flows i d).from < length fresh
  from_fresh d = let below = from_set d in let same = sent.as_many in omega arith

  knows_source : (d : Flow) (n : Ref) → SeatKnows seat (slice_index_or refs (slice_index_or flows i d).from n).index (sets at.0)
  knows_source d n =
      let e = source d in
      let same : 0 + (slice_index_or flows i d).from ≡ at.0 = omega arith in
      subst (λ k. SeatKnows seat (slice_index_or refs (slice_index_or flows i d).from n).index (sets k)) same (sent.knows_sets.at (slice_index_or flows i d).from n (from_set d))

  -- the steps of one flow, at a later seat
  module _ (now : SeatView) (keeps : Keeps seat now) where
    knows_whole : (d : Flow) → SeatKnows now (slice_index_or flows i d).set.index (slice_index_or sent.whole i (0, never)).1
    knows_whole d = keeps (slice_index_or flows i d).set.index (slice_index_or sent.whole i (0, never)).1 (whole_known seat flows sector sent.whole through sent.knows_flows sent.in_sector i less d)

    pub is_known : (d : Flow) → IsKnown now (slice_index_or flows i d).set.index
    is_known d = ((slice_index_or sent.whole i (0, never)).1, knows_whole d)

    -- what `set_in` answers at the seat after it
    pub knows_there : (after : SeatView) (got : ℕ) (d : Flow) → ((t : Tree) → SeatKnows now (slice_index_or flows i d).set.index t → SeatKnows after got (within sector t)) → SeatKnows after got at.1
    knows_there after got d made = subst (SeatKnows after got) (sym (set_within seat flows sector sent.whole through sent.knows_flows sent.in_sector i less (0, never))) (made (slice_index_or sent.whole i (0, never)).1 (knows_whole d))

    module _ (right : ℕ) (knows_right : SeatKnows now right at.1) where
      -- what `and` answers at the seat after it
      pub knows_passed : (after : SeatView) (got : ℕ) (d : Flow) (n : Ref) → ((s t : Tree) → SeatKnows now (slice_index_or refs (slice_index_or flows i d).from n).index s → SeatKnows now right t → SeatKnows after got (and s t)) → SeatKnows after got (passed sets at)
      knows_passed after got d n made = made (sets at.0) at.1 (keeps (slice_index_or refs (slice_index_or flows i d).from n).index (sets at.0) (knows_source d n)) knows_right

      pub may_and : MayGather nodes.may sets start through → (d : Flow) (n : Ref) → MayCombine nodes now and (slice_index_or refs (slice_index_or flows i d).from n).index right
      may_and allowed d n = record {
        left = sets at.0;
        right = at.1;
        knows_left = keeps (slice_index_or refs (slice_index_or flows i d).from n).index (sets at.0) (knows_source d n);
        knows_right = knows_right;
        allowed = (may_at nodes.may sets start through i (0, never) fits allowed).0;
      }

    pub may_or : MayGather nodes.may sets start through → (set got : ℕ) → SeatKnows now set (gathered sets start (take i through)) → SeatKnows now got (passed sets at) → MayCombine nodes now or set got
    may_or allowed set got known passes = record {
      left = gathered sets start (take i through);
      right = passed sets at;
      knows_left = known;
      knows_right = passes;
      allowed = (may_at nodes.may sets start through i (0, never) fits allowed).1;
    }

  pub more : (later : SeatView) (r : ℕ) → SeatKnows later r (or (gathered sets start (take i through)) (passed sets at)) → SeatKnows later r (gathered sets start (take (i + 1) through))
  more later r known = subst (SeatKnows later r) (sym (gathered_more sets start through i (0, never) fits)) known

-- ---- a source with nothing fresh

module _ {nodes : TableView} {seat : SeatView} {refs : List Ref} {fresh : List Bool} {flows : List Flow} {sector : List Bool} {here : ℕ} {sets : ℕ → Tree} {start : Tree} {through : List (ℕ × Tree)} (mine : IsSeatOf nodes seat) (sent : AreSent seat refs fresh flows sector here sets start through) where
  each_reduced : All (AreReduced sets) through
  each_reduced i d less =
      let count = as_many_within seat flows sector sent.whole through sent.knows_flows sent.in_sector in
      let f : Flow = slice_index_or flows i no_flow in
      let e : ℕ × Tree = slice_index_or through i d in
      let fits : i < length flows = omega arith in
      let below : e.0 < length refs = sent.from i d less in
      let is : e.1 ≡ within sector (slice_index_or sent.whole i (0, never)).1 = set_within seat flows sector sent.whole through sent.knows_flows sent.in_sector i fits d in
      let filter = known_reduced seat mine.sound f.set.index (slice_index_or sent.whole i (0, never)).1 (whole_known seat flows sector sent.whole through sent.knows_flows sent.in_sector i fits no_flow) in
      let known : SeatKnows seat (slice_index_or refs e.0 no_header).index (sets (0 + e.0)) = sent.knows_sets.at e.0 no_header below in
      let same : 0 + e.0 ≡ e.0 = omega arith in
      (known_reduced seat mine.sound (slice_index_or refs e.0 no_header).index (sets e.0) (subst (λ n. SeatKnows seat (slice_index_or refs e.0 no_header).index (sets n)) same known), subst IsReduced (sym is) (within_from-reduced sector 0 (slice_index_or sent.whole i (0, never)).1 filter))

  -- adds nothing
  pub stays : (i : ℕ) → i < length flows → (d : Flow) → slice_index_or fresh (slice_index_or flows i d).from false ≡ false → gathered sets start (take (i + 1) through) ≡ gathered sets start (take i through)
  stays i less d stale =
      let fits : i < length through = (let count = as_many_within seat flows sector sent.whole through sent.knows_flows sent.in_sector in omega arith) in
      let e : ℕ × Tree = slice_index_or through i (0, never) in
      let from : (slice_index_or flows i d).from ≡ e.0 = source mine sent i less d in
      let before : Tree = gathered sets start (take i through) in
      let reduced : IsReduced start = known_reduced seat mine.sound here start sent.knows_start in
      let all : IsReduced before = gathered_reduced sets (take i through) start reduced (All-take (AreReduced sets) i through each_reduced) in
      let both = each_reduced i (0, never) fits in
      let inside : IsInside (passed sets e) start = sent.stale i (0, never) fits (subst (λ n. slice_index_or fresh n false ≡ false) from stale) in
      gathered_more sets start through i (0, never) fits ∙ or-inside before (passed sets e) all (reduced-and (sets e.0) e.1 both.0 both.1) (gathered_inside sets (take i through) start (passed sets e) inside)

  pub at_end : (n : ℕ) → n ≡ length flows → gathered sets start (take n through) ≡ gathered sets start through
  at_end n e = let count = as_many_within seat flows sector sent.whole through sent.knows_flows sent.in_sector in let all : length through ≤ n = omega arith in ap (gathered sets start) (take_all n through all)
