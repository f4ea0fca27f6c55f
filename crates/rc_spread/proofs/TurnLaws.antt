-- Flows out of positions, made of the flows into them, are those that are known.
use Rattle.std.proofs.Common.{refl, ◌≡◌, ◌≢◌, ap, sym, ◌∙◌, subst, ℕ, zero, suc, ◌+◌, ◌-◌, ◌<◌, ◌≤◌, ◌==◌, Bool, true, false, cond, List, [], ◌∷◌, ◌++◌, append-nil, length, map, inl, inr, ◌⊎◌, All, arith}
use Rattle.std.specs.Prelude.{filter, flat_map, slice_index_or}
use Rattle.std.specs.List.{range_with_len}
use Rattle.std.proofs.lemmas.Bool.{cases_eq, eq-eqb, ne_eqb}
use Rattle.std.proofs.lemmas.List.Elements.{All-filter, All-head, All-tail}
use Rattle.rc_jobs.proofs.FlowLaws.{as_many_flows, flow_from, flows-append, numbers-more, real-append}
use Rattle.rc_jobs.proofs.CollectLaws.{flat-append}
use Rattle.rc_jobs.specs.Flows.{KnowsFlows, real, KnowsEdges, edges_to, is_something, positions, real_edges_to}
use Rattle.rc_jobs.specs.declared.flow.Flow.{Flow}
use Rattle.rc_nodes.specs.Seats.{SeatView}
use Rattle.rc_trees.specs.Trees.{Tree, never}
use Rattle.rc_spread.specs.Onward.{turned}
use Rattle.rc_spread.specs.Turned.{AreOut, AreTurned, AreWithin, flows_from}
use Rattle.rc_spread.proofs.PositionLaws.{all_positions, edges_all}
use Rattle.rc_spread.proofs.RealLaws.{is_real}

index-or : {A : Type 0} (xs : List A) (t : ℕ) (d e : A) → t < length xs → slice_index_or xs t d ≡ slice_index_or xs t e
index-or [] t d e less = absurd (omega arith)
index-or (x ∷ xs) zero d e less = refl
index-or (x ∷ xs) (suc t) d e less = index-or xs t d e (omega arith)

-- ---- one flow

abbrev led : ℕ → Flow → Flow
led onto f = record { from = onto; set = f.set }

-- ---- all rows

pub next_out : (into now after : List (List Flow)) (n : ℕ) (rows : List Flow) → n < length into → rows ≡ slice_index_or into n rows → AreOut into n now → AreTurned now rows n after → AreOut into (n + 1) after
next_out into now after n rows fits there a t = record {
  as_many = t.as_many ∙ a.as_many;
  each = λ p d less.
      let many = a.as_many in
      t.each p d (omega arith)
      ∙ (λ i. a.each p [] less i ++ flows_from p n ((there ∙ index-or into n rows [] fits) i))
      ∙ sym (ap (flat_map (λ q. flows_from p q (slice_index_or into q []))) (more n) ∙ flat-append (λ q. flows_from p q (slice_index_or into q [])) (range_with_len 0 n) (n ∷ []) ∙ ap (λ xs. flat_map (λ q. flows_from p q (slice_index_or into q [])) (range_with_len 0 n) ++ xs) (append-nil (flows_from p n (slice_index_or into n []))));
}
  where
    more : (m : ℕ) → range_with_len 0 (m + 1) ≡ range_with_len 0 m ++ m ∷ []
    more m = ap (range_with_len 0) (let e : m + 1 ≡ m + 1 - 0 = omega arith in e) ∙ numbers-more 0 m (omega arith) ∙ ap (λ k. range_with_len 0 k ++ m ∷ []) (let e : m - 0 ≡ m = omega arith in e)

-- ---- what is known of them

abbrev sent_to : ℕ → ℕ × Tree → ℕ × Tree
sent_to onto e = (onto, e.1)

abbrev picked : ℕ → List (ℕ × Tree) → List (ℕ × Tree)
picked p es = filter (λ (e : ℕ × Tree). e.0 == p) es

-- of known flows those from p
picked_flows : (seat : SeatView) (p onto : ℕ) (fs : List Flow) (es : List (ℕ × Tree)) → KnowsFlows seat fs es → KnowsFlows seat (flows_from p onto fs) (map (sent_to onto) (picked p es))
picked_flows seat p onto [] [] are = tt
picked_flows seat p onto [] (e ∷ es) are = absurd are
picked_flows seat p onto (f ∷ fs) [] are = absurd are
picked_flows seat p onto (f ∷ fs) (e ∷ es) are =
    subst (λ n. KnowsFlows seat (flows_from p onto (f ∷ fs)) (map (sent_to onto) (cond (n == p) (e ∷ picked p es) (picked p es)))) are.0 (by (f.from == p) (picked_flows seat p onto fs es are.2))
  where
    by : (b : Bool) → KnowsFlows seat (flows_from p onto fs) (map (sent_to onto) (picked p es)) → KnowsFlows seat (map (led onto) (cond b (f ∷ filter (λ (g : Flow). g.from == p) fs) (filter (λ (g : Flow). g.from == p) fs))) (map (sent_to onto) (cond b (e ∷ picked p es) (picked p es)))
    by true later = (refl, are.1, later)
    by false later = later

module _ (edge : ℕ → ℕ → Tree) (p onto : ℕ) where
  abbrev one : ℕ → List (ℕ × Tree) → List (ℕ × Tree)
  one x rest = picked p (cond (is_something (edge x onto)) ((x, edge x onto) ∷ rest) rest)

  past : (x : ℕ) (rest : List (ℕ × Tree)) → x ≢ p → one x rest ≡ picked p rest
  past x rest other = by (is_something (edge x onto))
    where
      by : (b : Bool) → picked p (cond b ((x, edge x onto) ∷ rest) rest) ≡ picked p rest
      by true = ap (λ c. cond c ((x, edge x onto) ∷ picked p rest) (picked p rest)) (ne_eqb x p other)
      by false = refl

  -- p isn't among the numbers behind it
  none_behind : (n a : ℕ) → p < a → picked p (real (edges_to edge (range_with_len a n) onto)) ≡ []
  none_behind zero a less = refl
  none_behind (suc n) a less = past a (real (edges_to edge (range_with_len (a + 1) n) onto)) (λ e. absurd (omega arith)) ∙ none_behind n (a + 1) (omega arith)

  -- and among those that hold it once
  once : (n a : ℕ) → a ≤ p → p < a + n → map (sent_to onto) (picked p (real (edges_to edge (range_with_len a n) onto))) ≡ real ((onto, edge p onto) ∷ [])
  once zero a low high = absurd (omega arith)
  once (suc n) a low high = by (cases_eq a p) (once n (a + 1))
    where
      here : (b : Bool) → a ≡ p → map (sent_to onto) (picked p (cond b ((a, edge a onto) ∷ real (edges_to edge (range_with_len (a + 1) n) onto)) (real (edges_to edge (range_with_len (a + 1) n) onto)))) ≡ cond b ((onto, edge a onto) ∷ []) []
      here true e =
          let first : ℕ × Tree = (onto, edge a onto) in
          ap (λ c. map (sent_to onto) (cond c ((a, edge a onto) ∷ picked p (real (edges_to edge (range_with_len (a + 1) n) onto))) (picked p (real (edges_to edge (range_with_len (a + 1) n) onto))))) (eq-eqb a p e)
          ∙ ap (λ xs. first ∷ map (sent_to onto) xs) (none_behind n (a + 1) (omega arith))
      here false e = ap (map (sent_to onto)) (none_behind n (a + 1) (omega arith))

      by : (a ≡ p) ⊎ (a ≢ p) → (a + 1 ≤ p → p < a + 1 + n → map (sent_to onto) (picked p (real (edges_to edge (range_with_len (a + 1) n) onto))) ≡ real ((onto, edge p onto) ∷ [])) → map (sent_to onto) (picked p (real (edges_to edge (range_with_len a (suc n)) onto))) ≡ real ((onto, edge p onto) ∷ [])
      by (inl e) later = here (is_something (edge a onto)) e ∙ ap (λ k. real ((onto, edge k onto) ∷ [])) e
      by (inr other) later = ap (map (sent_to onto)) (past a (real (edges_to edge (range_with_len (a + 1) n) onto)) other) ∙ later (let e = other in omega arith) (omega arith)

module _ (seat : SeatView) (into : List (List Flow)) (edge : ℕ → ℕ → Tree) (known : KnowsEdges seat into edge) where
  abbrev count : ℕ
  count = length into

  -- those from p into one position
  from_one : (p t : ℕ) → p < count → t < count → KnowsFlows seat (flows_from p t (slice_index_or into t [])) (real ((t, edge p t) ∷ []))
  from_one p t low less =
      subst (KnowsFlows seat (flows_from p t (slice_index_or into t []))) (once edge p t count 0 (omega arith) (omega arith))
      (picked_flows seat p t (slice_index_or into t []) (real_edges_to edge count t) (known.each t [] less))

  from_some : (p : ℕ) → p < count → (ts : List ℕ) → All (λ t. t < count) ts → KnowsFlows seat (flat_map (λ t. flows_from p t (slice_index_or into t [])) ts) (real (edges_to (turned edge) ts p))
  from_some p low [] all = tt
  from_some p low (t ∷ ts) all =
      subst (KnowsFlows seat (flows_from p t (slice_index_or into t []) ++ flat_map (λ t. flows_from p t (slice_index_or into t [])) ts)) (sym (real-append ((t, edge p t) ∷ []) (edges_to (turned edge) ts p)))
      (flows-append seat (flows_from p t (slice_index_or into t [])) (flat_map (λ t. flows_from p t (slice_index_or into t [])) ts) (real ((t, edge p t) ∷ [])) (real (edges_to (turned edge) ts p))
      (from_one p t low (All-head (λ t. t < count) t ts all)) (from_some p low ts (All-tail (λ t. t < count) t ts all)))

  -- the flows out of all positions are known
  pub knows_out : (out : List (List Flow)) → AreOut into count out → KnowsEdges seat out (turned edge)
  knows_out out a =
      record { each = subst (λ m. (q : ℕ) (d : List Flow) → q < m → KnowsFlows seat (slice_index_or out q d) (real_edges_to (turned edge) m q)) (sym a.as_many) row }
    where
      row : (q : ℕ) (d : List Flow) → q < count → KnowsFlows seat (slice_index_or out q d) (real_edges_to (turned edge) count q)
      row q d less = subst (λ fs. KnowsFlows seat fs (real_edges_to (turned edge) count q)) (sym (a.each q d less)) (from_some q less (positions count) (all_positions count))

  -- each of them comes from a position
  pub are_within : AreWithin into
  are_within = record {
    each = λ q d less. λ i e fits.
        let flows = known.each q d less in
        let many = as_many_flows seat (slice_index_or into q d) (real_edges_to edge count q) flows in
        let from = flow_from seat (slice_index_or into q d) (real_edges_to edge count q) flows i e (0, never) fits in
        let low = source q i (omega arith) in
        omega arith;
  }
    where
      source : (q i : ℕ) → i < length (real_edges_to edge count q) → (slice_index_or (real_edges_to edge count q) i (0, never)).0 < count
      source q i fits = All-filter is_real (λ (f : ℕ × Tree). f.0 < count) (edges_to edge (positions count) q) (edges_all (λ p. p < count) edge count q (λ p low. low)) i (0, never) fits
