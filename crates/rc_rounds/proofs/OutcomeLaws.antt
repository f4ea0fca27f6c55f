-- A network has one outcome within a limit.
use Rattle.std.proofs.Common.{refl, ◌≡◌, sym, ap, ◌∙◌, subst, ℕ, ◌+◌, ◌-◌, ◌≤◌, ◌<◌, List, arith}
use Rattle.std.proofs.Math.Decide.{dec_lt}
use Rattle.rc_config.specs.declared.network.Network.{Network}
use Rattle.rc_ospf.proofs.OneAnswer.{one_internal}
use Rattle.rc_ospf.specs.declared.model.Internal.{Internal}
use Rattle.rc_route.specs.declared.state.RouterState.{RouterState}
use Rattle.rc_route.specs.declared.outcome.Outcome.{Outcome}
use Rattle.rc_route.specs.declared.outcome.Outcome.TheVariants.{Fixed, Repeats, Limit}
use Rattle.rc_rounds.specs.Rounds.{state_after, checkpoint, GoesOn, GoesOnBelow, EndsAs, HasOneOutcome}

module _ (net : Network) (internal : Internal) where
  -- where k rounds may be made, and the k-th ends them: it is that of the round before or of its checkpoint
  abbrev Ends : ℕ → ℕ → Type 0
  Ends limit k = (1 ≤ k) × (k ≤ limit) × GoesOnBelow net internal k × ¬ (GoesOn net internal k)

  fixed-ends : (limit k : ℕ) (state : List RouterState) → EndsAs net internal limit (Fixed k state) → Ends limit k
  fixed-ends limit k state h = (h.0, h.1, h.2, λ on. on.changes h.4)

  repeats-ends : (limit i k : ℕ) → EndsAs net internal limit (Repeats i k) → Ends limit k
  repeats-ends limit i k h = (h.0, h.1, h.2, λ on. on.is_new (subst (λ c. state_after net internal k ≡ state_after net internal c) h.3 h.5))

  -- the rounds end at one round
  same_end : (limit j k : ℕ) → Ends limit j → Ends limit k → j ≡ k
  same_end limit j k here there = pick (dec_lt j k) (dec_lt k j)
    where
      pick : Dec (j < k) → Dec (k < j) → j ≡ k
      pick (yes less) _ = absurd (here.3 (there.2 j here.0 less))
      pick (no _) (yes less) = absurd (there.3 (here.2 k there.0 less))
      pick (no not_less) (no not_more) = omega arith

  no_end : (limit k : ℕ) → Ends limit k → GoesOnBelow net internal (limit + 1) → ⊥
  no_end limit k here on = here.3 (on k here.0 (omega (arith, here.1)))

  pub same_outcome : (limit : ℕ) (this that : Outcome) → EndsAs net internal limit this → EndsAs net internal limit that → this ≡ that
  same_outcome limit (Fixed j s) (Fixed k t) h g =
      let e : j ≡ k = same_end limit j k (fixed-ends limit j s h) (fixed-ends limit k t g) in
      let f : s ≡ t = h.3 ∙ ap (state_after net internal) e ∙ sym g.3 in
      rw (e, f) refl
  same_outcome limit (Fixed j s) (Repeats i k) h g =
      let e : j ≡ k = same_end limit j k (fixed-ends limit j s h) (repeats-ends limit i k g) in
      absurd (g.4 (subst (λ x. state_after net internal x ≡ state_after net internal (x - 1)) e h.4))
  same_outcome limit (Fixed j s) (Limit n) h g = absurd (no_end limit j (fixed-ends limit j s h) g.1)
  same_outcome limit (Repeats i j) (Fixed k t) h g =
      let e : k ≡ j = same_end limit k j (fixed-ends limit k t g) (repeats-ends limit i j h) in
      absurd (h.4 (subst (λ x. state_after net internal x ≡ state_after net internal (x - 1)) e g.4))
  same_outcome limit (Repeats i j) (Repeats l k) h g =
      let e : j ≡ k = same_end limit j k (repeats-ends limit i j h) (repeats-ends limit l k g) in
      let f : i ≡ l = h.3 ∙ ap checkpoint e ∙ sym g.3 in
      rw (e, f) refl
  same_outcome limit (Repeats i j) (Limit n) h g = absurd (no_end limit j (repeats-ends limit i j h) g.1)
  same_outcome limit (Limit m) (Fixed k t) h g = absurd (no_end limit k (fixed-ends limit k t g) h.1)
  same_outcome limit (Limit m) (Repeats i k) h g = absurd (no_end limit k (repeats-ends limit i k g) h.1)
  same_outcome limit (Limit m) (Limit n) h g = ap Limit (h.0 ∙ sym g.0)

pub one_outcome : HasOneOutcome
one_outcome net limit this that h g =
    let same : h.internal ≡ g.internal = one_internal net h.internal g.internal (h.links ∙ sym g.links) h.is_internal g.is_internal in
    same_outcome net g.internal limit this that (subst (λ internal. EndsAs net internal limit this) same h.ends) g.ends
