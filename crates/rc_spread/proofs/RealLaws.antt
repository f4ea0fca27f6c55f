-- Flows that let nothing pass may be left out.
use Rattle.std.proofs.Common.{refl, ◌≡◌, sym, subst, ℕ, Bool, true, false, cond, List, [], ◌∷◌, slice_index_or, All, arith}
use Rattle.std.specs.List.{filter}
use Rattle.std.proofs.lemmas.List.Elements.{All-nil, All-cons, All-head, All-tail}
use Rattle.rc_trees.specs.Trees.{Tree, never, always, node, IsReduced}
use Rattle.rc_trees.specs.Combine.{and}
use Rattle.rc_nodes.specs.Seats.{TableView, SeatView, IsSeatOf}
use Rattle.rc_nodes.proofs.KnownLaws.{known_reduced}
use Rattle.rc_jobs.specs.Flows.{KnowsFlows, is_something, no_header}
use Rattle.rc_jobs.specs.declared.flow.Flow.{Flow}
use Rattle.rc_jobs.proofs.FlowLaws.{as_many_flows, flow_set}
use Rattle.rc_spread.specs.Gathered.{IsInside}
use Rattle.rc_spread.proofs.GatherLaws.{IsSpared, nothing_passes}

abbrev pub no_flow : Flow
no_flow = record { from = 0; set = no_header }

unfiltered : {A : Type 0} (P : A → Type 0) (keep : A → Bool) → ((x : A) → keep x ≡ false → P x) → (xs : List A) → All P (filter keep xs) → All P xs
unfiltered P keep out [] all = All-nil P
unfiltered P keep out (x ∷ xs) all = by (keep x) refl all (unfiltered P keep out xs)
  where
    by : (b : Bool) → keep x ≡ b → All P (cond b (x ∷ filter keep xs) (filter keep xs)) → (All P (filter keep xs) → All P xs) → All P (x ∷ xs)
    by true e all rest = All-cons P x xs (All-head P x (filter keep xs) all) (rest (All-tail P x (filter keep xs) all))
    by false e all rest = All-cons P x xs (out x e) (rest all)

pub nothing_is : (t : Tree) → is_something t ≡ false → t ≡ never
nothing_is never e = refl
nothing_is always e = absurd (cc)
nothing_is (node v l h) e = absurd (cc)

abbrev pub is_real : ℕ × Tree → Bool
is_real f = is_something f.1

-- what a seat knows the real ones of is reduced altogether
pub all_reduced : (nodes : TableView) (seat : SeatView) → IsSeatOf nodes seat → (flows : List Flow) (through : List (ℕ × Tree)) → KnowsFlows seat flows (filter is_real through) → All (λ (f : ℕ × Tree). IsReduced f.1) through
all_reduced nodes seat mine flows through known =
    unfiltered (λ (f : ℕ × Tree). IsReduced f.1) is_real (λ f e. subst IsReduced (sym (nothing_is f.1 e)) tt) through
    (λ i d less.
    let count = as_many_flows seat flows (filter is_real through) known in
    known_reduced seat mine.sound (slice_index_or flows i no_flow).set.index (slice_index_or (filter is_real through) i d).1 (flow_set seat flows (filter is_real through) known i no_flow d (omega arith)))

-- and what isn't real is inside
pub all_spared : (sets : ℕ → Tree) (here : Tree) (through : List (ℕ × Tree)) → All (IsSpared sets is_real here) through
all_spared sets here through = λ i d fits. λ e. subst (λ t. IsInside (and (sets (slice_index_or through i d).0) t) here) (sym (nothing_is (slice_index_or through i d).1 e)) (nothing_passes (sets (slice_index_or through i d).0) here)
