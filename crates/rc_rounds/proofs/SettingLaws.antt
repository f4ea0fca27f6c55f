-- What the routers of a round read, from what no round changes and the state before.
use Rattle.std.proofs.Common.{◌≡◌, ◌∙◌, sym, subst, ℕ, zero, suc, Bool, true, List, [], All, Option, Some, None, IfSome, length}
use Rattle.std.specs.Prelude.{slice_get}
use Rattle.std.specs.List.Sorted.{IsStrictlySortedBy}
use Rattle.rc_base.specs.Prefix.{Cidr, prefix_cmp}
use Rattle.rc_bgp.specs.Sessions.{configured_sessions}
use Rattle.rc_bgp.specs.Telling.{told_inside}
use Rattle.rc_bgp_session.specs.declared.session.Session.{Session}
use Rattle.rc_config.specs.Lawful.{IsLawful}
use Rattle.rc_config.specs.declared.network.Network.{Network}
use Rattle.rc_external.specs.Externals.{externals, IsByPrefix}
use Rattle.rc_external.specs.declared.as_external.ExternalRow.{ExternalRow}
use Rattle.rc_ospf.specs.declared.model.Internal.{Internal}
use Rattle.rc_route.specs.Tables.{IsStateOf, IsTable}
use Rattle.rc_route.specs.declared.best.Best.{Best}
use Rattle.rc_route.specs.declared.state.RouterState.{RouterState}
use Rattle.rc_reads.specs.Stayed.{AreFlagged, HaveStayed}
use Rattle.rc_reads.specs.declared.stayed.Stayed.{Stayed}
use Rattle.rc_rib.specs.Inputs.{AreInputs, IsEarlier}
use Rattle.rc_rib.specs.declared.inputs.Earlier.{Earlier}
use Rattle.rc_rib.specs.declared.inputs.Inputs.{Inputs}
use Rattle.rc_rounds.specs.Setting.{IsSetting}

-- the state a round earlier and what changed since, where they are told
pub told_earlier : (net : Network) (internal : Internal) (state : List RouterState) (o : Option Earlier) (has : Bool) (old : List RouterState) (changes inside : List (List Cidr))
    → IfSome o (λ (e : Earlier). (has ≡ true) × (e.state.now ≡ old) × (e.changes.now ≡ changes) × (e.inside.now ≡ inside)) → (has ≡ true → IsEarlier net internal state old changes inside) → IfSome o (λ (e : Earlier). IsEarlier net internal state e.state.now e.changes.now e.inside.now)
told_earlier net internal state None has old changes inside told is = tt
told_earlier net internal state (Some e) has old changes inside told is =
    subst (λ s. IsEarlier net internal state s e.changes.now e.inside.now) (sym told.1) (subst (λ c. IsEarlier net internal state old c e.inside.now) (sym told.2) (subst (IsEarlier net internal state old changes) (sym told.3) (is told.0)))

-- where there is no flag
pub no_flags : (flags : List Bool) (old now : List RouterState) → flags ≡ [] → AreFlagged flags old now
no_flags flags old now is = subst (λ fs. AreFlagged fs old now) (sym is) none
  where
    none : (s : ℕ) → slice_get [] s ≡ Some true → slice_get old s ≡ slice_get now s
    none zero set = absurd (cc)
    none (suc s) set = absurd (cc)

-- who knew the same after that round as before it
pub told_stayed : (net : Network) (stayed : Stayed) (state : List RouterState) (o : Option Earlier) (has : Bool) (old : List RouterState) (changes inside : List (List Cidr))
    → IfSome o (λ (e : Earlier). (has ≡ true) × (e.state.now ≡ old) × (e.changes.now ≡ changes) × (e.inside.now ≡ inside)) → (has ≡ true → HaveStayed net stayed old state) → IfSome o (λ (e : Earlier). HaveStayed net stayed e.state.now state)
told_stayed net stayed state None has old changes inside told have = tt
told_stayed net stayed state (Some e) has old changes inside told have = subst (λ s. HaveStayed net stayed s state) (sym told.1) (have told.0)

module _ (i : Inputs) (net : Network) (internal : Internal) (all : List (List Session)) (rows : List ExternalRow) (listed : List (Option (List Best))) (state : List RouterState)
    (same_net : i.network.now ≡ net) (same_internal : i.internal.now ≡ internal) (same_sessions : i.sessions.now ≡ all) (same_rows : i.externals.now ≡ rows) (same_listed : i.inside.now ≡ listed) (same_state : i.previous.now ≡ state) where
  earlier_read : IfSome i.earlier (λ (e : Earlier). IsEarlier net internal state e.state.now e.changes.now e.inside.now) → IfSome i.earlier (λ (e : Earlier). IsEarlier i.network.now i.internal.now i.previous.now e.state.now e.changes.now e.inside.now)
  earlier_read = by i.earlier
    where
      by : (o : Option Earlier) → IfSome o (λ (e : Earlier). IsEarlier net internal state e.state.now e.changes.now e.inside.now) → IfSome o (λ (e : Earlier). IsEarlier i.network.now i.internal.now i.previous.now e.state.now e.changes.now e.inside.now)
      by None is = tt
      by (Some e) is =
          subst (λ (n : Network). IsEarlier n i.internal.now i.previous.now e.state.now e.changes.now e.inside.now) (sym same_net)
          (subst (λ (x : Internal). IsEarlier net x i.previous.now e.state.now e.changes.now e.inside.now) (sym same_internal) (subst (λ s. IsEarlier net internal s e.state.now e.changes.now e.inside.now) (sym same_state) is))

  pub are_inputs : IsSetting net internal all → IsStateOf (length net.routers) state → rows ≡ externals net state → IsByPrefix rows → listed ≡ told_inside all state → IfSome i.earlier (λ (e : Earlier). IsEarlier net internal state e.state.now e.changes.now e.inside.now) → AreInputs i
  are_inputs s ordered made by_prefix told earlier = record {
    lawful = subst IsLawful (sym same_net) s.lawful;
    state = subst (λ (n : Network). IsStateOf (length n.routers) i.previous.now) (sym same_net) (subst (IsStateOf (length net.routers)) (sym same_state) ordered);
    routes = subst (λ (x : Internal). All IsTable x.routes) (sym same_internal) s.routes;
    own = subst (λ (x : Internal). All (IsStrictlySortedBy prefix_cmp) x.own) (sym same_internal) s.own;
    sessions = same_sessions ∙ s.sessions ∙ sym (λ k. configured_sessions (same_net k) (same_internal k).links);
    externals = same_rows ∙ made ∙ sym (λ k. externals (same_net k) (same_state k));
    by_prefix = subst IsByPrefix (sym same_rows) by_prefix;
    inside = same_listed ∙ told ∙ sym (λ k. told_inside (same_sessions k) (same_state k));
    earlier = earlier_read earlier;
  }
