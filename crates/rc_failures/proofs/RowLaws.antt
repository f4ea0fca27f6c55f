-- The rows of pairs, made by their numbers.
use Rattle.std.proofs.Common.{◌≡◌, ap, ◌∙◌, subst, ℕ, suc, ◌+◌, ◌<◌, List, [], ◌∷◌, length, arith}
use Rattle.std.specs.Prelude.{slice_index_or}
use Rattle.rc_base.specs.declared.position.IfId.{IfId}
use Rattle.rc_config.specs.Cuts.{with_cut}
use Rattle.rc_config.specs.Lawful.{IsLawful}
use Rattle.rc_config.specs.declared.network.Network.{Network}
use Rattle.rc_config.specs.declared.network.Pair.{Pair}
use Rattle.rc_shares.specs.Making.{AreMade}
use Rattle.rc_outside.specs.Shares.{share_start}
use Rattle.rc_report.specs.declared.failures.FailRow.{FailRow}
use Rattle.rc_shares.proofs.StartLaws.{start-first, start-last}
use Rattle.rc_shares.proofs.StretchLaws.{stretch_up}
use Rattle.rc_shares.specs.Stretches.{IsStretch}
use Rattle.rc_failures.specs.Failures.{IsFailRow}
use Rattle.rc_failures.specs.Shares.{AreRowsOf, IsRowAt}
use Rattle.rc_failures.specs.declared.packet.Packet.{Packet}

-- a network that is cut is lawful where the whole one is
pub cut_lawful : (net : Network) (first second : IfId) → IsLawful net → IsLawful (with_cut net first second)
cut_lawful net first second is = record { few = is.few; in_order = is.in_order; named = is.named; each = is.each }

module _ (net : Network) (limit : ℕ) (packet : Packet) where
  abbrev Rows : List Pair → ℕ → FailRow → Type 0
  Rows = IsRowAt net limit packet

  abbrev IsRow : Pair → FailRow → Type 0
  IsRow = IsFailRow net limit packet.place packet.header packet.ends

  rows_from : (ps behind : List Pair) (a : ℕ) (rs : List FailRow) → ((i : ℕ) (d : Pair) → slice_index_or ps (a + i) d ≡ slice_index_or behind i d) → IsStretch (Rows ps) a (a + length behind) rs → AreMade IsRow behind rs
  unfolding IsStretch IsRowAt
  rows_from ps [] a [] there is = tt
  rows_from ps [] a (r ∷ rs) there is = (let up = stretch_up (Rows ps) (a + 1) (a + 0) rs is.1 in absurd (let none : ⊥ = omega (arith, up) in none))
  rows_from ps (p ∷ behind) a [] there is = absurd (let none : ⊥ = omega (arith, is) in none)
  rows_from ps (p ∷ behind) a (r ∷ rs) there is =
      let here : slice_index_or ps a p ≡ p = ap (λ k. slice_index_or ps k p) (let e : a ≡ a + 0 = omega arith in e) ∙ there 0 p in
      let rest : IsStretch (Rows ps) (a + 1) (a + 1 + length behind) rs = subst (λ k. IsStretch (Rows ps) (a + 1) k rs) (let e : a + length (p ∷ behind) ≡ a + 1 + length behind = omega arith in e) is.1 in
      (subst (λ q. IsRow q r) here (is.0 p), rows_from ps behind (a + 1) rs (λ i d. ap (λ k. slice_index_or ps k d) (let e : a + 1 + i ≡ a + suc i = omega arith in e) ∙ there (suc i) d) rest)

  rows_of_all : (ps : List Pair) (rs : List FailRow) → IsStretch (Rows ps) 0 (length ps) rs → AreMade IsRow ps rs
  rows_of_all ps rs is =
      rows_from ps ps 0 rs (λ i d. ap (λ k. slice_index_or ps k d) (let e : 0 + i ≡ i = omega arith in e)) (subst (λ n. IsStretch (Rows ps) 0 n rs) (let e : length ps ≡ 0 + length ps = omega arith in e) is)

  -- those of all workers are those of all pairs
  pub rows_of_shares : (ps : List Pair) (workers : ℕ) → 0 < workers → (rs : List FailRow) → AreRowsOf net limit packet ps workers 0 workers rs → AreMade IsRow ps rs
  rows_of_shares ps workers some rs is =
      rows_of_all ps rs (subst (λ b. IsStretch (Rows ps) 0 b rs) (start-last (length ps) workers some) (subst (λ a. IsStretch (Rows ps) a (share_start (length ps) workers workers) rs) (start-first (length ps) workers) is))
