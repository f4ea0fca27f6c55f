-- What is kept of the rounds, one round further.
use Rattle.std.proofs.Common.{refl, ◌≡◌, ◌≢◌, ◌⊎◌, inl, inr, sym, ap, ◌∙◌, subst, ℕ, ◌+◌, ◌-◌, ◌≤◌, ◌<◌, ◌==◌, Bool, true, false, if◌then◌else◌, List, Option, map, length, arith}
use Rattle.std.proofs.lemmas.Bool.Decides.{Decides-eqb}
use Rattle.std.proofs.Math.Decide.{dec_lt}
use Rattle.rc_base.specs.Prefix.{Cidr}
use Rattle.rc_bgp.specs.Changes.{AreChanges, AreChangesInside}
use Rattle.rc_config.specs.declared.network.Network.{Network}
use Rattle.rc_ospf.specs.declared.model.Internal.{Internal}
use Rattle.rc_route.specs.Tables.{IsStateOf}
use Rattle.rc_route.specs.declared.state.RouterState.{RouterState}
use Rattle.rc_reads.specs.Stayed.{AreFlagged}
use Rattle.rc_rib.specs.Inputs.{IsEarlier}
use Rattle.rc_rib.specs.Next.{next_state}
use Rattle.rc_rib.specs.declared.made.Made.{Made}
use Rattle.rc_rounds.specs.declared.round.Round.{Round}
use Rattle.rc_rounds.specs.declared.progress.Progress.{Progress}
use Rattle.rc_rounds.specs.Progress.{IsProgress, IsPowerBelow, IsRound, IsUnderWay, checkpoint_state}
use Rattle.rc_rounds.specs.Renewing.{AreMadeAnew, all_renewed, has_stayed}
use Rattle.rc_rounds.specs.Rounds.{state_after, GoesOn, EndsAs}
use Rattle.rc_route.specs.declared.outcome.Outcome.TheVariants.{Fixed, Repeats}
use Rattle.rc_rounds.proofs.CheckpointLaws.{power-is}
use Rattle.rc_rounds.proofs.RenewingLaws.{all_as_made}
use Rattle.rc_rounds.proofs.RoundLaws.{next_is, further, changed, went_on}
use Rattle.rc_rounds.proofs.ShareLaws.{all_flagged, all_in_order, all_made, all_told}

module _ (net : Network) (internal : Internal) (p : Progress) (at : IsUnderWay net internal p) where
  -- the state that is kept of the checkpoint is its state
  pub checkpoint_state-is : checkpoint_state p ≡ state_after net internal p.checkpoint
  checkpoint_state-is = by (p.checkpoint == p.done) refl
    where
      earlier : (b : Bool) → (p.checkpoint + 1 == p.done) ≡ b → p.checkpoint < p.done → (if b then p.before else p.kept) ≡ state_after net internal p.checkpoint
      earlier true e less =
          let same : p.checkpoint + 1 ≡ p.done = (Decides-eqb (p.checkpoint + 1) p.done).0 e in
          at.before same
      earlier false e less =
          let sooner : p.checkpoint + 1 < p.done = pick (dec_lt (p.checkpoint + 1) p.done) in
          at.kept sooner
        where
          pick : Dec (p.checkpoint + 1 < p.done) → p.checkpoint + 1 < p.done
          pick (yes h) = h
          pick (no h) =
              let same : p.checkpoint + 1 ≡ p.done = omega arith in
              let told : (p.checkpoint + 1 == p.done) ≡ true = (Decides-eqb (p.checkpoint + 1) p.done).1 same in
              absurd (cc (e, told))

      by : (b : Bool) → (p.checkpoint == p.done) ≡ b → (if b then p.last else (if p.checkpoint + 1 == p.done then p.before else p.kept)) ≡ state_after net internal p.checkpoint
      by true e = at.last ∙ ap (state_after net internal) (sym ((Decides-eqb p.checkpoint p.done).0 e))
      by false e = earlier (p.checkpoint + 1 == p.done) refl (less (dec_lt p.checkpoint p.done))
        where
          less : Dec (p.checkpoint < p.done) → p.checkpoint < p.done
          less (yes h) = h
          less (no h) =
              let w = at.within in
              let same : p.checkpoint ≡ p.done = omega arith in
              let told : (p.checkpoint == p.done) ≡ true = (Decides-eqb p.checkpoint p.done).1 same in
              absurd (cc (e, told))

  -- the rounds go on where the next state is neither
  pub goes_on : (next : List RouterState) → next ≡ next_state net internal p.last → next ≢ p.last → next ≢ checkpoint_state p → GoesOn net internal (p.done + 1)
  goes_on next made changes is_new =
      went_on net internal p.done p.checkpoint next p.last (next_is net internal p.done next p.last made at.last) at.last changes (power-is (p.done + 1) p.checkpoint at.checkpoint) (λ e. is_new (e ∙ sym checkpoint_state-is))

  -- the next state is that of the checkpoint: the rounds end there
  pub repeats : (next : List RouterState) → next ≡ next_state net internal p.last → next ≢ p.last → next ≡ checkpoint_state p → (limit k : ℕ) → k ≡ p.done + 1 → k ≤ limit → EndsAs net internal limit (Repeats p.checkpoint k)
  repeats next made changes same limit k e within =
      let new = next_is net internal p.done next p.last made at.last in
      subst (λ j. EndsAs net internal limit (Repeats p.checkpoint j)) (sym e)
      (omega arith, omega (arith, e, within), at.earlier, power-is (p.done + 1) p.checkpoint at.checkpoint, changed net internal p.done next p.last new at.last changes, sym new ∙ same ∙ checkpoint_state-is)

  -- the next state is the last one: the rounds end there
  pub ends_there : (next : List RouterState) → next ≡ next_state net internal p.last → next ≡ p.last → (limit k : ℕ) → k ≡ p.done + 1 → k ≤ limit → EndsAs net internal limit (Fixed k next)
  ends_there next made same limit k e within =
      let new = next_is net internal p.done next p.last made at.last in
      let last : p.done ≡ p.done + 1 - 1 = omega arith in
      subst (λ j. EndsAs net internal limit (Fixed j next)) (sym e) (omega arith, omega (arith, e, within), at.earlier, new, sym new ∙ same ∙ at.last ∙ ap (state_after net internal) last)

  -- one round further: the last state becomes the one before, and that one is kept where it is the checkpoint's
  module _ (next : List RouterState) (made : next ≡ next_state net internal p.last) (ordered : IsStateOf (length net.routers) next) (changes : List (List Cidr)) (told : AreChanges changes p.last next) (flags : List Bool) (flagged : AreFlagged flags p.last next) (goes : GoesOn net internal (p.done + 1)) (c : ℕ) (power : IsPowerBelow (p.done + 1 + 1) c) (one_of_both : (c ≡ p.done + 1) ⊎ (c ≡ p.checkpoint)) where
    kept : List RouterState
    kept = if p.checkpoint + 1 == p.done then p.before else p.kept

    stays : (c ≡ p.checkpoint) → p.checkpoint < p.done → kept ≡ state_after net internal c
    unfolding kept
    stays same less = subst (λ k. k ≡ state_after net internal c) (there (p.checkpoint == p.done) refl) (checkpoint_state-is ∙ ap (state_after net internal) (sym same))
      where
        there : (b : Bool) → (p.checkpoint == p.done) ≡ b → (if b then p.last else (if p.checkpoint + 1 == p.done then p.before else p.kept)) ≡ (if p.checkpoint + 1 == p.done then p.before else p.kept)
        there true e = let same : p.checkpoint ≡ p.done = (Decides-eqb p.checkpoint p.done).0 e in absurd (let none : ⊥ = omega (arith, less, same) in none)
        there false e = refl

    pub one_further : IsProgress net internal (record { done = p.done + 1; checkpoint = c; last = next; before = p.last; changes = changes; stayed = flags; kept = if p.checkpoint + 1 == p.done then p.before else p.kept })
    unfolding kept
    one_further = record {
      under_way = record {
        last = next_is net internal p.done next p.last made at.last;
        in_order = ordered;
        before = λ same. at.last ∙ ap (state_after net internal) (let e : p.done ≡ c = omega (arith, same) in e);
        checkpoint = power;
        within = within one_of_both;
        kept = λ less. elim one_of_both [ inl same ↦ absurd (let none : ⊥ = omega (arith, less, same) in none) | inr same ↦ stays same (omega (arith, less, same)) ];
        earlier = further net internal (p.done + 1) at.earlier goes;
      };
      before = λ some. at.last ∙ ap (state_after net internal) (let e : p.done ≡ p.done + 1 - 1 = omega arith in e);
      before_in_order = at.in_order.each;
      changes = λ some. told;
      stayed = flagged;
    }
      where
        within : (c ≡ p.done + 1) ⊎ (c ≡ p.checkpoint) → c ≤ p.done + 1
        within (inl same) = omega (arith, same)
        within (inr same) = omega (arith, same, at.within)

-- the last state is made from the one before
pub last_is_next : (net : Network) (internal : Internal) (p : Progress) (inside : List (List Cidr)) → IsProgress net internal p → (1 ≤ p.done → AreChangesInside inside p.before p.last) → 1 ≤ p.done → IsEarlier net internal p.last p.before p.changes inside
last_is_next net internal p inside at told_inside some =
    let more : p.done - 1 + 1 ≡ p.done = omega arith in
    let made = next_is net internal (p.done - 1) (next_state net internal p.before) p.before refl (at.before some) in
    record { made = at.under_way.last ∙ ap (state_after net internal) (sym more) ∙ sym made; in_order = at.before_in_order; told = at.changes some; told_inside = told_inside some }

-- ---- a round is put together

pub is_round : (net : Network) (internal : Internal) (p : Progress) (round : Round) (fresh : List (Option Made)) → IsProgress net internal p → AreMadeAnew net internal p.last fresh
    → round.state ≡ map (λ (m : Made). m.state) (all_renewed fresh p.last) → round.changes ≡ map (λ (m : Made). m.changed) (all_renewed fresh p.last) → round.stayed ≡ map has_stayed (all_renewed fresh p.last) → IsRound net internal p.last round
is_round net internal p round fresh at are state changes stayed =
    let made = all_as_made net internal p.last fresh at.under_way.in_order.each are in
    record {
      state = all_made net internal p.last (all_renewed fresh p.last) round.state made state;
      in_order = all_in_order net internal p.last (all_renewed fresh p.last) round.state made state;
      changes = all_told net internal p.last (all_renewed fresh p.last) round.state round.changes made at.under_way.in_order state changes;
      stayed = all_flagged net internal p.last (all_renewed fresh p.last) round.state round.stayed made at.under_way.in_order state stayed;
    }
