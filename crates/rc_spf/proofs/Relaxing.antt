-- One more edge followed.
use Rattle.std.proofs.Common.{◌≡◌, ◌≢◌, ℕ, ◌+◌, ◌<◌, ◌≤◌, ◌⊎◌, inl, inr, List, [], ◌∷◌, ◌++◌, length, get_or, take, Option, None, sym, ◌∙◌, ap, subst, arith, Contains}
use Rattle.std.proofs.lemmas.List.Elements.{Contains-push, Contains-append_left, Contains-push_cases}
use Rattle.std.proofs.lemmas.List.{take_more}
use Rattle.std.specs.List.{slice_index_or}
use Rattle.rc_spf.specs.declared.graph.Edge.{Edge}
use Rattle.rc_spf.specs.Steps.{HasCost, IsImproved, IsRelaxed}

-- an edge that leads out of another node
pub relaxed_skip : (es : List Edge) (e : Edge) (u x : ℕ) (old new : List (Option ℕ)) →
    IsRelaxed es u x old new → e.from ≢ u → IsRelaxed (es ++ e ∷ []) u x old new
relaxed_skip es e u x old new r other = record { reached = reached; changed = changed }
  where
    reached : (f : Edge) → Contains (es ++ e ∷ []) f → f.from ≡ u → (y : ℕ) × HasCost new f.to y × (y ≤ x + f.cost)
    reached f has from = elim (Contains-push_cases es e f has) [
      | inl before ↦ r.reached f before from
      | inr same ↦ absurd (other (ap (λ (g : Edge). g.from) same ∙ from))
    ]

    changed : (k : ℕ) → (slice_index_or new k None ≡ slice_index_or old k None)
        ⊎ ((f : Edge) × Contains (es ++ e ∷ []) f × (f.from ≡ u) × (f.to ≡ k) × HasCost new k (x + f.cost)
        × ((y : ℕ) → HasCost old k y → x + f.cost < y))
    changed k = elim (r.changed k) [
      | inl same ↦ inl same
      | inr (f, has, from, to, cost, less) ↦ inr (f, Contains-append_left es (e ∷ []) f has, from, to, cost, less)
    ]

-- the edge's end improved to the sum
pub relaxed_push : (es : List Edge) (e : Edge) (u x : ℕ) (old mid new : List (Option ℕ)) →
    IsRelaxed es u x old mid → e.from ≡ u → IsImproved e.to (x + e.cost) mid new → IsRelaxed (es ++ e ∷ []) u x old new
relaxed_push es e u x old mid new r from' i = record { reached = reached; changed = changed }
  where
    Sum : ℕ → Type 0
    Sum k = (slice_index_or new k None ≡ slice_index_or old k None)
        ⊎ ((f : Edge) × Contains (es ++ e ∷ []) f × (f.from ≡ u) × (f.to ≡ k) × HasCost new k (x + f.cost)
        × ((y : ℕ) → HasCost old k y → x + f.cost < y))

    still : (k y b : ℕ) → HasCost mid k y → y ≤ b → (z : ℕ) × HasCost new k z × (z ≤ b)
    still k y b has le = elim (i.changed k) [
      | inl same ↦ (y, same ∙ has, le)
      | inr (at, sum, less) ↦ (x + e.cost, sum, let l : x + e.cost < y = less y has in omega arith)
    ]

    reached : (f : Edge) → Contains (es ++ e ∷ []) f → f.from ≡ u → (y : ℕ) × HasCost new f.to y × (y ≤ x + f.cost)
    reached f has from = elim (Contains-push_cases es e f has) [
      | inl before ↦ (let (y, cost, le) = r.reached f before from in still f.to y (x + f.cost) cost le)
      | inr same ↦ subst (λ (g : Edge). (y : ℕ) × HasCost new g.to y × (y ≤ x + g.cost)) same i.reached
    ]

    less_than : (k y : ℕ) → HasCost mid k (x + e.cost) ⊎ HasCost new k (x + e.cost) → ((z : ℕ) → HasCost mid k z → x + e.cost < z) → HasCost old k y → x + e.cost < y
    less_than k y _ less cost = elim (r.changed k) [
      | inl same ↦ less y (same ∙ cost)
      | inr (f, has, from, to, now, less') ↦ (let a : x + f.cost < y = less' y cost in let b : x + e.cost < x + f.cost = less (x + f.cost) now in omega arith)
    ]

    changed : (k : ℕ) → Sum k
    changed k = elim (i.changed k) [
      | inl same ↦ elim (r.changed k) [
        | inl same' ↦ inl (same ∙ same')
        | inr (f, has, from, to, cost, less) ↦ inr (f, Contains-append_left es (e ∷ []) f has, from, to, same ∙ cost, less)
      ]
      | inr (at, sum, less) ↦ inr (e, Contains-push es e, from', sym at, sum, λ y cost. less_than k y (inr sum) less cost)
    ]

-- a turn of the loop over the edges, at an edge out of another node
pub skip_more : (edges : List Edge) (i : ℕ) (d : Edge) (u x : ℕ) (old mid new : List (Option ℕ)) → i < length edges →
    IsRelaxed (take i edges) u x old mid → (get_or edges i d).from ≢ u → new ≡ mid → IsRelaxed (take (i + 1) edges) u x old new
skip_more edges i d u x old mid new lt r other same =
    rw (take_more edges i d lt, same) (relaxed_skip (take i edges) (get_or edges i d) u x old mid r other)

-- and at an edge out of the node
pub follow_more : (edges : List Edge) (i : ℕ) (d : Edge) (u x : ℕ) (old mid next new : List (Option ℕ)) → i < length edges →
    IsRelaxed (take i edges) u x old mid → (get_or edges i d).from ≡ u →
    IsImproved (get_or edges i d).to (x + (get_or edges i d).cost) mid next → new ≡ next → IsRelaxed (take (i + 1) edges) u x old new
follow_more edges i d u x old mid next new lt r from improved same =
    rw (take_more edges i d lt, same) (relaxed_push (take i edges) (get_or edges i d) u x old mid next r from improved)
