-- One round more.
use Rattle.std.proofs.Common.{◌≡◌, ◌≢◌, sym, ap, ◌∙◌, subst, ℕ, ◌+◌, ◌-◌, ◌<◌, Bool, false, IsTrue, ◌↔◌, List, [], arith, add-one}
use Rattle.std.proofs.Math.Decide.{dec_lt}
use Rattle.std.proofs.lemmas.Bool.{false≢true}
use Rattle.std.specs.List.Sorted.{IsStrictlySortedBy}
use Rattle.rc_config.specs.Lawful.{IsLawful}
use Rattle.rc_config.specs.declared.network.Network.{Network}
use Rattle.rc_ospf.specs.declared.model.Internal.{Internal}
use Rattle.rc_route.specs.declared.state.RouterState.{RouterState}
use Rattle.rc_rib.specs.Next.{next_state}
use Rattle.rc_rounds.specs.Rounds.{state_after, checkpoint, GoesOn, GoesOnBelow}

module _ (net : Network) (internal : Internal) where
  pub next_is : (i : ℕ) (next last : List RouterState) → next ≡ next_state net internal last → last ≡ state_after net internal i → next ≡ state_after net internal (i + 1)
  next_is i next last e h = e ∙ ap (next_state net internal) h ∙ sym (ap (state_after net internal) (add-one i))

  pub further : (k : ℕ) → GoesOnBelow net internal k → GoesOn net internal k → GoesOnBelow net internal (k + 1)
  further k below here j low high = pick (dec_lt j k)
    where
      pick : Dec (j < k) → GoesOn net internal j
      pick (yes less) = below j low less
      pick (no not_less) = let same : k ≡ j = omega arith in subst (GoesOn net internal) same here

  pub none_below : GoesOnBelow net internal 1
  none_below j low high = absurd (let none : ⊥ = omega arith in none)

  pub changed : (i : ℕ) (next last : List RouterState) → next ≡ state_after net internal (i + 1) → last ≡ state_after net internal i → next ≢ last → state_after net internal (i + 1) ≢ state_after net internal (i + 1 - 1)
  changed i next last new old apart e =
      let before : i + 1 - 1 ≡ i = omega arith in
      apart (new ∙ e ∙ ap (state_after net internal) before ∙ sym old)

  pub went_on : (i c : ℕ) (next last : List RouterState) → next ≡ state_after net internal (i + 1) → last ≡ state_after net internal i → next ≢ last → c ≡ checkpoint (i + 1) → next ≢ state_after net internal c → GoesOn net internal (i + 1)
  went_on i c next last new old apart at differs = record {
    changes = changed i next last new old apart;
    is_new = λ e. differs (new ∙ e ∙ ap (state_after net internal) (sym at));
  }

-- two states that the test tells apart
pub apart_by : (test : Bool) (x y : List RouterState) → (IsTrue test ↔ (x ≡ y)) → test ≡ false → x ≢ y
apart_by test x y decides is same = false≢true (sym is ∙ decides.1 same)

-- a network without routers is lawful
pub without_routers : (net : Network) → net.routers ≡ [] → IsLawful net
unfolding IsStrictlySortedBy
without_routers net none = record {
  few = rw none (omega arith);
  in_order = rw none tt;
  named = rw none (λ k d less. absurd (omega (arith, less)));
  each = rw none (λ k d less. absurd (omega (arith, less)));
}
