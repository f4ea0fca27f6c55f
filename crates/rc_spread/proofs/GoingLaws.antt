-- What goes on from a position in a round, and before the first one.
use Rattle.std.proofs.Common.{refl, ◌≡◌, ap, sym, ◌∙◌, subst, ℕ, zero, suc, ◌+◌, ◌<◌, Bool, true, false, List, [], length, replicate, slice_index_or, All, arith}
use Rattle.std.proofs.lemmas.List.{get_or-replicate, length-replicate}
use Rattle.std.proofs.lemmas.List.Elements.{All-filter}
use Rattle.rc_trees.specs.Trees.{Tree, never, always, IsReduced}
use Rattle.rc_nodes.specs.Seats.{TableView, SeatView, IsSeatOf, SeatKnows}
use Rattle.rc_nodes.specs.declared.words.Ref.{Ref}
use Rattle.rc_nodes.proofs.KnownLaws.{knows_always, knows_never}
use Rattle.rc_jobs.proofs.FlowLaws.{as_many_flows, flow_from}
use Rattle.rc_jobs.specs.Flows.{KnowsFlows, edges_to, positions, real_edges_to, any_header}
use Rattle.rc_jobs.specs.declared.flow.Flow.{Flow}
use Rattle.rc_spread.specs.Gathered.{gathered, before}
use Rattle.rc_spread.specs.Known.{AreSent, MayGatherRefs, IsAfter}
use Rattle.rc_spread.specs.Known.{MayOnward}
use Rattle.rc_spread.specs.Onward.{onward, turned}
use Rattle.rc_spread.proofs.GatherLaws.{AreReduced, gathered_reduced, gathered_without, may_without}
use Rattle.rc_spread.proofs.PositionLaws.{edges_all}
use Rattle.rc_spread.proofs.SectorGather.{in_all}
use Rattle.rc_spread.proofs.RealLaws.{all_reduced, all_spared, is_real, no_flow}
use Rattle.rc_spread.proofs.StillLaws.{gathered_agree}

module _ {nodes : TableView} {seat : SeatView} {edge : ℕ → ℕ → Tree} {out : List (List Flow)} {everywhere : List Bool} (mine : IsSeatOf nodes seat) (ready : MayOnward nodes seat edge out everywhere) where
  abbrev at_round : ℕ → ℕ → Tree
  at_round = onward edge (length out)

  abbrev onto : ℕ → List (ℕ × Tree)
  onto q = edges_to (turned edge) (positions (length out)) q

  sources : (q : ℕ) → All (λ (f : ℕ × Tree). f.0 < length out) (onto q)
  sources q = edges_all (λ p. p < length out) (turned edge) (length out) q (λ p low. low)

  edges_reduced : (q : ℕ) → q < length out → All (λ (f : ℕ × Tree). IsReduced f.1) (onto q)
  edges_reduced q less = all_reduced nodes seat mine (slice_index_or out q []) (onto q) (ready.edges.each q [] less)

  onward_reduced : (n q : ℕ) → q < length out → IsReduced (at_round n q)
  unfolding onward
  onward_reduced zero q less = tt
  onward_reduced (suc n) q less = gathered_reduced (at_round n) (onto q) never tt (λ i d fits. (onward_reduced n (slice_index_or (onto q) i d).0 (sources q i d fits), edges_reduced q less i d fits))

  both_reduced : (n q : ℕ) → q < length out → All (AreReduced (at_round n)) (onto q)
  both_reduced n q less = λ i d fits. (onward_reduced n (slice_index_or (onto q) i d).0 (sources q i d fits), edges_reduced q less i d fits)

  -- the flows that let some header pass give the next round
  next_round : (n q : ℕ) → q < length out → gathered (at_round n) never (real_edges_to (turned edge) (length out) q) ≡ at_round (suc n) q
  unfolding onward
  next_round n q less = gathered_without (at_round n) is_real (onto q) never tt (both_reduced n q less) (all_spared (at_round n) never (onto q))

module _ {nodes : TableView} {seat : SeatView} {edge : ℕ → ℕ → Tree} {out : List (List Flow)} {refs : List Ref} {fresh everywhere : List Bool} {k : ℕ} (mine : IsSeatOf nodes seat) (ready : MayOnward nodes seat edge out everywhere) (after : IsAfter seat refs fresh (onward edge (length out)) (length out) k) (q : ℕ) (less : q < length out) where
  abbrev here : ℕ → Tree
  here = onward edge (length out) k

  abbrev all : List (ℕ × Tree)
  all = edges_to (turned edge) (positions (length out)) q

  real_sources : All (λ (f : ℕ × Tree). f.0 < length out) (real_edges_to (turned edge) (length out) q)
  real_sources = All-filter is_real (λ (f : ℕ × Tree). f.0 < length out) all (sources mine ready q)

  pub onward_sent : (rows : List Flow) → rows ≡ slice_index_or out q rows → AreSent seat refs everywhere rows [] 0 here never (real_edges_to (turned edge) (length out) q)
  onward_sent rows is =
      let many = after.as_many in
      let true_ones : length everywhere ≡ length out = ap length ready.all ∙ length-replicate (length out) true in
      record {
        knows_sets = after.known;
        whole = real_edges_to (turned edge) (length out) q;
        knows_flows = subst (λ (fs : List Flow). KnowsFlows seat fs (real_edges_to (turned edge) (length out) q)) (sym is) (ready.edges.each q rows less);
        in_sector = in_all (real_edges_to (turned edge) (length out) q);
        knows_start = knows_never seat;
        as_many = true_ones ∙ sym many;
        from = λ i d fits. (let low = real_sources i d fits in omega arith);
        stale = λ i d fits. λ wrong.
            let at : ℕ = (slice_index_or (real_edges_to (turned edge) (length out) q) i d).0 in
            let right : slice_index_or everywhere at false ≡ true = ap (λ xs. slice_index_or xs at false) ready.all ∙ get_or-replicate (length out) at true false (real_sources i d fits) in
            absurd (let none : ⊥ = cc (right, wrong) in none);
      }

  pub may_onward : k < length out → (rows : List Flow) → rows ≡ slice_index_or out q rows → MayGatherRefs nodes seat refs everywhere rows [] 0
  may_onward further rows is = record {
    sets = here;
    start = never;
    through = real_edges_to (turned edge) (length out) q;
    sent = onward_sent rows is;
    allowed = may_without here is_real nodes.may all never tt (both_reduced mine ready k q less) (all_spared here never all) (ready.may k q further less);
  }

  -- what is gathered goes on for one move more
  pub goes_on_next : gathered here never (real_edges_to (turned edge) (length out) q) ≡ onward edge (length out) (k + 1) q
  goes_on_next =
      let next : suc k ≡ k + 1 = omega arith in
      next_round mine ready k q less ∙ ap (λ n. onward edge (length out) n q) next

  -- ---- where nothing has changed at the positions to which real flows lead

  -- the flows out of the position lead where these say
  pub flows_within : (rows : List Flow) → rows ≡ slice_index_or out q rows → length fresh ≡ length out → All (λ (f : Flow). f.from < length fresh) rows
  flows_within rows is long = λ i d fits.
      let known : KnowsFlows seat rows (real_edges_to (turned edge) (length out) q) = subst (λ (fs : List Flow). KnowsFlows seat fs (real_edges_to (turned edge) (length out) q)) (sym is) (ready.edges.each q rows less) in
      let count = as_many_flows seat rows (real_edges_to (turned edge) (length out) q) known in
      let from = flow_from seat rows (real_edges_to (turned edge) (length out) q) known i d (0, never) fits in
      let low = real_sources i (0, never) (omega arith) in
      omega arith

  pub stays_as_it_is : (rows : List Flow) → rows ≡ slice_index_or out q rows → 0 < k → All (λ (f : Flow). slice_index_or fresh f.from false ≡ false) rows → onward edge (length out) (k + 1) q ≡ onward edge (length out) k q
  stays_as_it_is rows is some quiet = by k refl
    where
      known : KnowsFlows seat rows (real_edges_to (turned edge) (length out) q)
      known = subst (λ (fs : List Flow). KnowsFlows seat fs (real_edges_to (turned edge) (length out) q)) (sym is) (ready.edges.each q rows less)

      settled : All (λ (e : ℕ × Tree). here e.0 ≡ before (onward edge (length out)) k e.0) (real_edges_to (turned edge) (length out) q)
      settled = λ i d fits.
          let count = as_many_flows seat rows (real_edges_to (turned edge) (length out) q) known in
          let low : i < length rows = omega arith in
          let from : (slice_index_or rows i no_flow).from ≡ (slice_index_or (real_edges_to (turned edge) (length out) q) i d).0 = flow_from seat rows (real_edges_to (turned edge) (length out) q) known i no_flow d low in
          after.stale (slice_index_or (real_edges_to (turned edge) (length out) q) i d).0 (real_sources i d fits) (subst (λ n. slice_index_or fresh n false ≡ false) from (quiet i no_flow low))

      by : (n : ℕ) → k ≡ n → onward edge (length out) (k + 1) q ≡ onward edge (length out) k q
      by zero e = absurd (omega arith)
      by (suc n) e =
          let earlier : All (λ (e : ℕ × Tree). here e.0 ≡ onward edge (length out) n e.0) (real_edges_to (turned edge) (length out) q) = subst (λ m. All (λ (e : ℕ × Tree). here e.0 ≡ before (onward edge (length out)) m e.0) (real_edges_to (turned edge) (length out) q)) e settled in
          sym goes_on_next
          ∙ gathered_agree here (onward edge (length out) n) (real_edges_to (turned edge) (length out) q) never earlier
          ∙ next_round mine ready n q less
          ∙ ap (λ m. onward edge (length out) m q) (sym e)

-- ---- before the first round

pub all_go_on : (seat : SeatView) (refs : List Ref) (fresh : List Bool) (edge : ℕ → ℕ → Tree) (count : ℕ) → refs ≡ replicate count any_header → fresh ≡ replicate count true → IsAfter seat refs fresh (onward edge count) count 0
unfolding onward
all_go_on seat refs fresh edge count e f = record {
  as_many = ap length e ∙ length-replicate count any_header;
  known = record {
    at = λ i d less.
        let fits : i < count = omega (arith, ap length e, length-replicate count any_header) in
        let is : slice_index_or refs i d ≡ any_header = ap (λ xs. slice_index_or xs i d) e ∙ get_or-replicate count i any_header d fits in
        subst (λ (r : Ref). SeatKnows seat r.index always) (sym is) (knows_always seat);
  };
  marks = ap length f ∙ length-replicate count true;
  stale = λ p less out.
      let is : slice_index_or fresh p false ≡ true = ap (λ xs. slice_index_or xs p false) f ∙ get_or-replicate count p true false less in
      absurd (let none : ⊥ = cc (is, out) in none);
}
