-- Each header is in some sector of a cut.
use Rattle.std.proofs.Common.{refl, ◌≡◌, sym, subst, ℕ, zero, suc, ◌+◌, ◌<◌, Bool, true, false, List, [], ◌∷◌, ◌++◌, length, map, slice_index_or, arith}
use Rattle.std.proofs.lemmas.List.{get_or-append-add, get_or_append_left, get_or-map, length-append, length-map}
use Rattle.rc_sectors.specs.Cuts.{Halves, uncut, halved, sectors_of, AreCut}
use Rattle.rc_sectors.specs.Sectors.{BeginsWith}

-- the bits behind the first one
abbrev behind : (ℕ → Bool) → ℕ → Bool
behind bits i = bits (suc i)

begins_longer : (b : Bool) (sector : List Bool) (bits : ℕ → Bool) → bits 0 ≡ b → BeginsWith sector (behind bits) → BeginsWith (b ∷ sector) bits
begins_longer b sector bits first rest zero d less = first
begins_longer b sector bits first rest (suc i) d less = rest i d (omega arith)

-- one of some sectors is that of the bits
abbrev Has : List (List Bool) → (ℕ → Bool) → Type 0
Has sectors bits = (i : ℕ) × (i < length sectors) × BeginsWith (slice_index_or sectors i []) bits

has_longer : (b : Bool) (sectors : List (List Bool)) (bits : ℕ → Bool) → bits 0 ≡ b → Has sectors (behind bits) → Has (map (λ s. b ∷ s) sectors) bits
has_longer b sectors bits first (i, less, begins) = (
  i,
  (let long = length-map sectors (λ s. b ∷ s) in omega arith),
  subst (λ s. BeginsWith s bits) (sym (get_or-map (λ s. b ∷ s) sectors i [] [] less)) (begins_longer b (slice_index_or sectors i []) bits first begins),
)

has_left : (one other : List (List Bool)) (bits : ℕ → Bool) → Has one bits → Has (one ++ other) bits
has_left one other bits (i, less, begins) = (
  i,
  (let long = length-append one other in omega arith),
  subst (λ s. BeginsWith s bits) (sym (get_or_append_left one other [] i less)) begins,
)

has_right : (one other : List (List Bool)) (bits : ℕ → Bool) → Has other bits → Has (one ++ other) bits
has_right one other bits (i, less, begins) = (
  length one + i,
  (let long = length-append one other in omega arith),
  subst (λ s. BeginsWith s bits) (sym (get_or-append-add one other i [])) begins,
)

has_sector : (halves : Halves) (bits : ℕ → Bool) → Has (sectors_of halves) bits
has_sector uncut bits = (0, omega arith, λ i d less. absurd (omega arith))
has_sector (halved low high) bits = by low high bits (bits 0) refl (has_sector low (behind bits)) (has_sector high (behind bits))
  where
    by : (low high : Halves) (bits : ℕ → Bool) (b : Bool) → bits 0 ≡ b → Has (sectors_of low) (behind bits) → Has (sectors_of high) (behind bits) → Has (map (λ s. false ∷ s) (sectors_of low) ++ map (λ s. true ∷ s) (sectors_of high)) bits
    by low high bits false first one other = has_left (map (λ s. false ∷ s) (sectors_of low)) (map (λ s. true ∷ s) (sectors_of high)) bits (has_longer false (sectors_of low) bits first one)
    by low high bits true first one other = has_right (map (λ s. false ∷ s) (sectors_of low)) (map (λ s. true ∷ s) (sectors_of high)) bits (has_longer true (sectors_of high) bits first other)

pub each_has : (sectors : List (List Bool)) (bits : ℕ → Bool) → AreCut sectors → Has sectors bits
each_has sectors bits cut = subst (λ ss. Has ss bits) (sym cut.are) (has_sector cut.halves bits)
