-- There is one list of rows.
use Rattle.std.proofs.Common.{refl, ◌≡◌, ap, sym, ◌∙◌, subst, ℕ, Bool, true, false, List, [], ◌∷◌}
use Rattle.std.specs.Bool.{Decides}
use Rattle.rc_base.specs.declared.ending.Ends.{Ends}
use Rattle.rc_base.specs.declared.header.Header.{Header}
use Rattle.rc_base.specs.declared.position.Pos.{Pos}
use Rattle.rc_config.specs.Cuts.{with_cut}
use Rattle.rc_config.specs.declared.network.Network.{Network}
use Rattle.rc_config.specs.declared.network.Pair.{Pair}
use Rattle.rc_shares.specs.Making.{AreMade}
use Rattle.rc_report.specs.declared.failures.FailRow.{FailRow}
use Rattle.rc_rounds.proofs.OutcomeLaws.{one_outcome}
use Rattle.rc_route.specs.Outcomes.{end_of}
use Rattle.rc_route.specs.declared.outcome.Outcome.{Outcome}
use Rattle.rc_route.specs.declared.outcome.Outcome.TheVariants.{Fixed, Repeats, Limit}
use Rattle.rc_route.specs.declared.outcome.RoundsEnd.{RoundsEnd}
use Rattle.rc_topology.specs.Links.{pairs}
use Rattle.rc_topology.specs.Ports.{links_of}
use Rattle.rc_failures.specs.Failures.{IsArrival, IsAnalysis, IsFailRow, HasOneList}

-- two tests that decide one thing are the same
same_decision : {P : Type 0} (a b : Bool) → Decides a P → Decides b P → a ≡ b
same_decision true true h g = refl
same_decision false false h g = refl
same_decision true false h g = sym (g.1 (h.0 refl))
same_decision false true h g = h.1 (g.0 refl)

module _ (net : Network) (limit : ℕ) (place : Pos) (h : Header) (ends : Ends) where
  same_arrival : (outcome : Outcome) (a b : Bool) → IsArrival net place h ends outcome a → IsArrival net place h ends outcome b → a ≡ b
  same_arrival (Fixed k state) a b this that = same_decision a b this that
  same_arrival (Repeats i k) a b this that = this ∙ sym that
  same_arrival (Limit n) a b this that = this ∙ sym that

  same_analysis : (e f : RoundsEnd) (a b : Bool) → IsAnalysis net limit place h ends e a → IsAnalysis net limit place h ends f b → (e ≡ f) × (a ≡ b)
  same_analysis e f a b this that =
      let same = one_outcome net limit this.outcome that.outcome this.is_outcome that.is_outcome in
      (this.ended ∙ ap end_of same ∙ sym that.ended, same_arrival that.outcome a b (subst (λ o. IsArrival net place h ends o a) same this.arrival) that.arrival)

module _ (net : Network) (limit : ℕ) (place : Pos) (h : Header) (ends : Ends) where
  same_row : (pair : Pair) (r s : FailRow) → IsFailRow net limit place h ends pair r → IsFailRow net limit place h ends pair s → r ≡ s
  same_row pair r s this that =
      let same = same_analysis (with_cut net pair.first pair.second) limit place h ends r.end s.end r.arrives s.arrives this.analysis that.analysis in
      let first : r.first ≡ s.first = this.first ∙ sym that.first in
      let second : r.second ≡ s.second = this.second ∙ sym that.second in
      λ i. record { first = first i; second = second i; end = same.0 i; arrives = same.1 i }

  same_rows : (ps : List Pair) (rs ss : List FailRow) → AreMade (IsFailRow net limit place h ends) ps rs → AreMade (IsFailRow net limit place h ends) ps ss → rs ≡ ss
  same_rows [] [] [] these those = refl
  same_rows [] [] (s ∷ ss) these those = absurd those
  same_rows [] (r ∷ rs) ss these those = absurd these
  same_rows (p ∷ ps) [] ss these those = absurd these
  same_rows (p ∷ ps) (r ∷ rs) [] these those = absurd those
  same_rows (p ∷ ps) (r ∷ rs) (s ∷ ss) these those = ap (λ x. x ∷ rs) (same_row p r s these.0 those.0) ∙ ap (λ xs. s ∷ xs) (same_rows ps rs ss these.1 those.1)

pub one_list : HasOneList
one_list net limit place h ends these those are so_are = same_rows net limit place h ends (pairs (links_of net)) these those are so_are
