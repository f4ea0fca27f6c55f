-- What a cut makes of a sector.
use Rattle.std.proofs.Common.{refl, sym, ap, ◌∙◌, subst, ◌≡◌, ◌≢◌, ℕ, suc, ◌+◌, ◌<◌, ◌≤◌, Bool, true, false, List, [], ◌∷◌, ◌++◌, length, map, All, slice_index_or, append_assoc, arith}
use Rattle.std.proofs.lemmas.List.{append-nil, map-append, length-append, length-map, get_or-append-add}
use Rattle.std.proofs.lemmas.List.Elements.{All-append}
use Rattle.rc_sectors.specs.Cuts.{Halves, uncut, halved, sectors_of, sectors_below, AreBelow, AreCut, AreFrom}

-- ---- the sectors below one

more : (b : Bool) (sector : List Bool) (ss : List (List Bool)) → map (λ s. sector ++ s) (map (λ s. b ∷ s) ss) ≡ map (λ s. (sector ++ b ∷ []) ++ s) ss
more b sector [] = refl
more b sector (s ∷ ss) = let one : sector ++ b ∷ s ≡ (sector ++ b ∷ []) ++ s = sym (append_assoc sector (b ∷ []) s) in λ i. one i ∷ more b sector ss i

pub below_none : (ss : List (List Bool)) → map (λ s. [] ++ s) ss ≡ ss
below_none [] = refl
below_none (s ∷ ss) = ap (λ rest. s ∷ rest) (below_none ss)

below_halved : (sector : List Bool) (l h : Halves) → sectors_below sector (halved l h) ≡ sectors_below (sector ++ false ∷ []) l ++ sectors_below (sector ++ true ∷ []) h
below_halved sector l h =
    map-append (λ s. sector ++ s) (map (λ s. false ∷ s) (sectors_of l)) (map (λ s. true ∷ s) (sectors_of h))
    ∙ ap (λ ss. ss ++ map (λ s. sector ++ s) (map (λ s. true ∷ s) (sectors_of h))) (more false sector (sectors_of l))
    ∙ ap (λ ss. sectors_below (sector ++ false ∷ []) l ++ ss) (more true sector (sectors_of h))

-- ---- what is put behind others

pub two_below : (sector : List Bool) (before middle after : List (List Bool)) → AreBelow (sector ++ false ∷ []) before middle → AreBelow (sector ++ true ∷ []) middle after → AreBelow sector before after
two_below sector before middle after low high = record {
  halves = halved low.halves high.halves;
  are =
      high.are
      ∙ ap (λ ss. ss ++ sectors_below (sector ++ true ∷ []) high.halves) low.are
      ∙ append_assoc before (sectors_below (sector ++ false ∷ []) low.halves) (sectors_below (sector ++ true ∷ []) high.halves)
      ∙ ap (λ ss. before ++ ss) (sym (below_halved sector low.halves high.halves));
  short =
      subst (All (λ s. length s ≤ 32)) (sym (below_halved sector low.halves high.halves))
      (All-append (λ s. length s ≤ 32) (sectors_below (sector ++ false ∷ []) low.halves) (sectors_below (sector ++ true ∷ []) high.halves) low.short high.short);
}

pub all_below : (sectors : List (List Bool)) → AreBelow [] [] sectors → AreCut sectors
all_below sectors below = record {
  halves = below.halves;
  are = below.are ∙ below_none (sectors_of below.halves);
  short = subst (All (λ s. length s ≤ 32)) (sym below.are) below.short;
}

-- ---- where they stand

-- each cut makes some sector
some_first : (halves : Halves) → (s : List Bool) × (rest : List (List Bool)) × (sectors_of halves ≡ s ∷ rest)
some_first uncut = ([], [], refl)
some_first (halved l h) =
    let (s, rest, e) = some_first l in
    (false ∷ s, map (λ s. false ∷ s) rest ++ map (λ s. true ∷ s) (sectors_of h), ap (λ ss. map (λ s. false ∷ s) ss ++ map (λ s. true ∷ s) (sectors_of h)) e)

here : (front back : List (List Bool)) (s d : List Bool) → slice_index_or (front ++ s ∷ back) (length front) d ≡ s
here front back s d = ap (λ n. slice_index_or (front ++ s ∷ back) n d) (let e : length front ≡ length front + 0 = omega arith in e) ∙ get_or-append-add front (s ∷ back) 0 d

first_there : (sectors : List (List Bool)) (at : ℕ) (sector : List Bool) (halves : Halves) → AreFrom sectors at sector halves
    → (s : List Bool) × (rest : List (List Bool)) × (sectors_of halves ≡ s ∷ rest) × (at < length sectors) × ((d : List Bool) → slice_index_or sectors at d ≡ sector ++ s)
first_there sectors at sector halves stand =
    let (s, rest, e) = some_first halves in
    let whole : sectors ≡ stand.front ++ (sector ++ s) ∷ (map (λ s. sector ++ s) rest ++ stand.back) = stand.are ∙ ap (λ ss. stand.front ++ (map (λ s. sector ++ s) ss ++ stand.back)) e in
    let long : length sectors ≡ length stand.front + suc (length (map (λ s. sector ++ s) rest ++ stand.back)) = ap length whole ∙ length-append stand.front ((sector ++ s) ∷ (map (λ s. sector ++ s) rest ++ stand.back)) in
    let place = stand.place in
    (s, rest, e, omega arith, λ d. (λ i. slice_index_or (whole i) (sym stand.place i) d) ∙ here stand.front (map (λ s. sector ++ s) rest ++ stand.back) (sector ++ s) d)

module _ (sectors : List (List Bool)) (at : ℕ) (sector : List Bool) where
  pub is_there : (halves : Halves) → AreFrom sectors at sector halves → at < length sectors
  is_there halves stand = (first_there sectors at sector halves stand).3

  -- it isn't cut where the sector that stands there has no more bits
  pub is_uncut : (halves : Halves) (d : List Bool) → AreFrom sectors at sector halves → length (slice_index_or sectors at d) ≡ length sector → (halves ≡ uncut) × (slice_index_or sectors at d ≡ sector)
  is_uncut uncut d stand same =
      let (s, rest, e, less, there) = first_there sectors at sector uncut stand in
      (refl, there d ∙ ap (λ r. sector ++ r) (let q : s ≡ [] = cc in q) ∙ append-nil sector)
  is_uncut (halved l h) d stand same =
      let (s, rest, e, less, there) = first_there sectors at sector (halved l h) stand in
      let long : length (slice_index_or sectors at d) ≡ length sector + length s = ap length (there d) ∙ length-append sector s in
      let (r, rest, q) = some_first l in
      let begins : s ≡ false ∷ r = let e2 : sectors_of (halved l h) ≡ (false ∷ r) ∷ (map (λ s. false ∷ s) rest ++ map (λ s. true ∷ s) (sectors_of h)) = ap (λ ss. map (λ s. false ∷ s) ss ++ map (λ s. true ∷ s) (sectors_of h)) q in cc in
      let more : length s ≡ suc (length r) = ap length begins in
      absurd (omega arith)

  -- it is where that one has more
  pub is_cut : (halves : Halves) (d : List Bool) → AreFrom sectors at sector halves → length (slice_index_or sectors at d) ≢ length sector
      → (l h : Halves) × (halves ≡ halved l h) × (length sector < length (slice_index_or sectors at d))
  is_cut uncut d stand differ =
      let (s, rest, e, less, there) = first_there sectors at sector uncut stand in
      absurd (differ (ap length (there d ∙ ap (λ r. sector ++ r) (let q : s ≡ [] = cc in q) ∙ append-nil sector)))
  is_cut (halved l h) d stand differ =
      let (s, rest, e, less, there) = first_there sectors at sector (halved l h) stand in
      let long : length (slice_index_or sectors at d) ≡ length sector + length s = ap length (there d) ∙ length-append sector s in
      (l, h, refl, omega arith)

  pub low_from : (l h : Halves) → AreFrom sectors at sector (halved l h) → AreFrom sectors at (sector ++ false ∷ []) l
  low_from l h stand = record {
    front = stand.front;
    back = sectors_below (sector ++ true ∷ []) h ++ stand.back;
    are = stand.are ∙ ap (λ ss. stand.front ++ (ss ++ stand.back)) (below_halved sector l h) ∙ ap (λ ss. stand.front ++ ss) (append_assoc (sectors_below (sector ++ false ∷ []) l) (sectors_below (sector ++ true ∷ []) h) stand.back);
    place = stand.place;
  }

  pub high_from : (l h : Halves) → AreFrom sectors at sector (halved l h) → AreFrom sectors (at + length (sectors_of l)) (sector ++ true ∷ []) h
  unfolding low_from
  high_from l h stand = record {
    front = stand.front ++ sectors_below (sector ++ false ∷ []) l;
    back = stand.back;
    are = (low_from l h stand).are ∙ sym (append_assoc stand.front (sectors_below (sector ++ false ∷ []) l) (sectors_below (sector ++ true ∷ []) h ++ stand.back));
    place =
        length-append stand.front (sectors_below (sector ++ false ∷ []) l)
        ∙ (let long : length (sectors_below (sector ++ false ∷ []) l) ≡ length (sectors_of l) = length-map (sectors_of l) (λ s. (sector ++ false ∷ []) ++ s) in let place = stand.place in omega arith);
  }

pub both_long : (l h : Halves) → length (sectors_of (halved l h)) ≡ length (sectors_of l) + length (sectors_of h)
both_long l h =
    length-append (map (λ s. false ∷ s) (sectors_of l)) (map (λ s. true ∷ s) (sectors_of h))
    ∙ (λ i. length-map (sectors_of l) (λ s. false ∷ s) i + length-map (sectors_of h) (λ s. true ∷ s) i)

pub one_longer : (sector : List Bool) (b : Bool) → length (sector ++ b ∷ []) ≡ length sector + 1
one_longer sector b = length-append sector (b ∷ [])
