-- Flows that a seat knows, by their places, and one after another.
use Rattle.std.proofs.Common.{refl, ◌≡◌, ◌≢◌, ap, sym, ◌∙◌, subst, ℕ, zero, suc, ◌+◌, ◌-◌, ◌<◌, ◌≤◌, ◌==◌, Bool, true, false, cond, List, [], ◌∷◌, ◌++◌, append-nil, length, map, filter, slice_index_or, inl, inr, ◌⊎◌, arith}
use Rattle.std.specs.List.{range_with_len}
use Rattle.std.proofs.lemmas.Bool.{cases_eq, ne_eqb}
use Rattle.std.proofs.lemmas.List.{map-append}
use Rattle.std.proofs.lemmas.List.Elements.{filter-append}
use Rattle.rc_base.specs.declared.ending.Kind.{Kind}
use Rattle.rc_jobs.specs.Collecting.{numbers, with_ending, with_flow}
use Rattle.rc_jobs.specs.Flows.{KnowsFlows, edges_to, flows_of, is_something, real}
use Rattle.rc_jobs.specs.declared.flow.Ending.{Ending}
use Rattle.rc_jobs.specs.declared.flow.Flow.{Flow}
use Rattle.rc_nodes.proofs.KnownLaws.{known_never}
use Rattle.rc_nodes.specs.Seats.{SeatView, SeatKnows}
use Rattle.rc_nodes.specs.declared.words.Ref.{Ref}
use Rattle.rc_trees.specs.Trees.{Tree, never, always, node}

pub as_many_flows : (seat : SeatView) (fs : List Flow) (ps : List (ℕ × Tree)) → KnowsFlows seat fs ps → length fs ≡ length ps
as_many_flows seat [] [] known = refl
as_many_flows seat [] (p ∷ ps) known = absurd known
as_many_flows seat (f ∷ fs) [] known = absurd known
as_many_flows seat (f ∷ fs) (p ∷ ps) known = ap suc (as_many_flows seat fs ps known.2)

pub flow_from : (seat : SeatView) (fs : List Flow) (ps : List (ℕ × Tree)) → KnowsFlows seat fs ps → (i : ℕ) (d : Flow) (e : ℕ × Tree) → i < length fs → (slice_index_or fs i d).from ≡ (slice_index_or ps i e).0
flow_from seat [] ps known i d e less = absurd (omega arith)
flow_from seat (f ∷ fs) [] known i d e less = absurd known
flow_from seat (f ∷ fs) (p ∷ ps) known zero d e less = known.0
flow_from seat (f ∷ fs) (p ∷ ps) known (suc i) d e less = flow_from seat fs ps known.2 i d e (omega arith)

pub flow_set : (seat : SeatView) (fs : List Flow) (ps : List (ℕ × Tree)) → KnowsFlows seat fs ps → (i : ℕ) (d : Flow) (e : ℕ × Tree) → i < length fs → SeatKnows seat (slice_index_or fs i d).set.index (slice_index_or ps i e).1
flow_set seat [] ps known i d e less = absurd (omega arith)
flow_set seat (f ∷ fs) [] known i d e less = absurd known
flow_set seat (f ∷ fs) (p ∷ ps) known zero d e less = known.1
flow_set seat (f ∷ fs) (p ∷ ps) known (suc i) d e less = flow_set seat fs ps known.2 i d e (omega arith)

-- ---- flows joined

pub never_is_no_header : (seat : SeatView) (r : ℕ) → SeatKnows seat r never → r ≡ 0
unfolding SeatKnows
never_is_no_header seat r known = known

pub real-append : (ps qs : List (ℕ × Tree)) → real (ps ++ qs) ≡ real ps ++ real qs
real-append [] qs = refl
real-append (p ∷ ps) qs = at (is_something p.1) (real-append ps qs)
  where
    at : (b : Bool) → real (ps ++ qs) ≡ real ps ++ real qs → cond b (p ∷ real (ps ++ qs)) (real (ps ++ qs)) ≡ cond b (p ∷ real ps) (real ps) ++ real qs
    at true later = ap (λ xs. p ∷ xs) later
    at false later = later

zero_of : (n : ℕ) → (n == 0) ≡ true → n ≡ 0
zero_of n is = by (cases_eq n 0)
  where
    by : (n ≡ 0) ⊎ (n ≢ 0) → n ≡ 0
    by (inl e) = e
    by (inr other) = absurd (let f = ne_eqb n 0 other in let g : true ≡ false = sym is ∙ f in cc)

-- what holds no header is known by the reference of no header alone
something : (seat : SeatView) (r : ℕ) (t : Tree) → SeatKnows seat r t → (r == 0) ≡ false → is_something t ≡ true
something seat r never known none = absurd (let e = never_is_no_header seat r known in let f : (r == 0) ≡ true = ap (λ n. n == 0) e in let g : true ≡ false = sym f ∙ none in cc)
something seat r always known none = refl
something seat r (node v l h) known none = refl

module _ (seat : SeatView) where
  pub flows-append : (fs gs : List Flow) (ps qs : List (ℕ × Tree)) → KnowsFlows seat fs ps → KnowsFlows seat gs qs → KnowsFlows seat (fs ++ gs) (ps ++ qs)
  flows-append [] gs [] qs one two = two
  flows-append [] gs (p ∷ ps) qs one two = absurd one
  flows-append (f ∷ fs) gs [] qs one two = absurd one
  flows-append (f ∷ fs) gs (p ∷ ps) qs one two = (one.0, one.1, flows-append fs gs ps qs one.2 two)

  -- one flow more, where its set holds some header
  module _ (fs : List Flow) (ps : List (ℕ × Tree)) (from : ℕ) (set : Ref) (are : KnowsFlows seat fs (real ps)) where
    abbrev flow : Flow
    flow = record { from = from; set = set }

    some : (t : Tree) → is_something t ≡ true → SeatKnows seat set.index t → KnowsFlows seat (fs ++ flow ∷ []) (real ps ++ real ((from, t) ∷ []))
    some t is known = subst (λ qs. KnowsFlows seat (fs ++ flow ∷ []) (real ps ++ qs)) (ap (λ b. cond b ((from, t) ∷ []) []) (sym is)) (flows-append fs (flow ∷ []) (real ps) ((from, t) ∷ []) are (refl, known, tt))

    by : (b : Bool) → (set.index == 0) ≡ b → (t : Tree) → SeatKnows seat set.index t → KnowsFlows seat (cond b fs (fs ++ flow ∷ [])) (real ps ++ real ((from, t) ∷ []))
    by true is t known =
        let nothing : t ≡ never = known_never seat t (subst (λ n. SeatKnows seat n t) (zero_of set.index is) known) in
        subst (λ u. KnowsFlows seat fs (real ps ++ real ((from, u) ∷ []))) (sym nothing) (subst (KnowsFlows seat fs) (sym (append-nil (real ps))) are)
    by false is t known = some t (something seat set.index t known is) known

    pub flow-more : (t : Tree) → SeatKnows seat set.index t → KnowsFlows seat (with_flow fs from set) (real (ps ++ (from, t) ∷ []))
    flow-more t known = subst (KnowsFlows seat (with_flow fs from set)) (sym (real-append ps ((from, t) ∷ []))) (by (set.index == 0) refl t known)

-- ---- the flows of endings of some kinds

pub flows_of-append : (these : Kind → Bool) (es fs : List Ending) → flows_of these (es ++ fs) ≡ flows_of these es ++ flows_of these fs
flows_of-append these es fs =
    ap (map (λ (e : Ending). e.flow)) (filter-append (λ (e : Ending). these e.kind) es fs)
    ∙ map-append (λ (e : Ending). e.flow) (filter (λ (e : Ending). these e.kind) es) (filter (λ (e : Ending). these e.kind) fs)

-- one ending more, of a kind that is among these or not
module _ (these : Kind → Bool) (es : List Ending) (from : ℕ) (kind : Kind) (set : Ref) where
  put : (b : Bool) → these kind ≡ b → flows_of these (es ++ record { kind = kind; flow = record { from = from; set = set } } ∷ []) ≡ cond b (flows_of these es ++ record { from = from; set = set } ∷ []) (flows_of these es)
  put b is = flows_of-append these es (record { kind = kind; flow = record { from = from; set = set } } ∷ []) ∙ ap (λ fs. flows_of these es ++ fs) (ap (λ c. map (λ (e : Ending). e.flow) (cond c (record { kind = kind; flow = record { from = from; set = set } } ∷ []) [])) is) ∙ at b
    where
      at : (c : Bool) → flows_of these es ++ map (λ (e : Ending). e.flow) (cond c (record { kind = kind; flow = record { from = from; set = set } } ∷ []) []) ≡ cond c (flows_of these es ++ record { from = from; set = set } ∷ []) (flows_of these es)
      at true = refl
      at false = append-nil (flows_of these es)

  pub ending_among : these kind ≡ true → flows_of these (with_ending es from kind set) ≡ with_flow (flows_of these es) from set
  ending_among is = by (set.index == 0)
    where
      by : (none : Bool) → flows_of these (cond none es (es ++ record { kind = kind; flow = record { from = from; set = set } } ∷ [])) ≡ cond none (flows_of these es) (flows_of these es ++ record { from = from; set = set } ∷ [])
      by true = refl
      by false = put true is

  pub ending_apart : these kind ≡ false → flows_of these (with_ending es from kind set) ≡ flows_of these es
  ending_apart is = by (set.index == 0)
    where
      by : (none : Bool) → flows_of these (cond none es (es ++ record { kind = kind; flow = record { from = from; set = set } } ∷ [])) ≡ flows_of these es
      by true = refl
      by false = put false is

-- ---- numbers

range-more : (n a : ℕ) → range_with_len a (suc n) ≡ range_with_len a n ++ (a + n) ∷ []
range-more zero a = ap (λ k. k ∷ []) (let e : a ≡ a + 0 = omega arith in e)
range-more (suc n) a = ap (λ xs. a ∷ xs) (range-more n (a + 1) ∙ ap (λ k. range_with_len (a + 1) n ++ k ∷ []) (let e : a + 1 + n ≡ a + suc n = omega arith in e))

pub numbers-more : (start end : ℕ) → start ≤ end → numbers start (end + 1) ≡ numbers start end ++ end ∷ []
numbers-more start end le =
    ap (range_with_len start) (let e : end + 1 - start ≡ suc (end - start) = omega arith in e)
    ∙ range-more (end - start) start
    ∙ ap (λ k. numbers start end ++ k ∷ []) (let e : start + (end - start) ≡ end = omega arith in e)

pub edges-more : (edge : ℕ → ℕ → Tree) (start end t : ℕ) → start ≤ end → edges_to edge (numbers start (end + 1)) t ≡ edges_to edge (numbers start end) t ++ (end, edge end t) ∷ []
edges-more edge start end t le = ap (λ ps. edges_to edge ps t) (numbers-more start end le) ∙ map-append (λ p. (p, edge p t)) (numbers start end) (end ∷ [])
