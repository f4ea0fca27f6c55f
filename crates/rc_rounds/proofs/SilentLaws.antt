-- Where no router runs OSPF or BGP, rounds end alike with any links.
use Rattle.std.proofs.Common.{refl, ◌≡◌, inl, inr, ap, sym, ◌∙◌, subst, ℕ, zero, suc, ◌+◌, ◌-◌, List, [], ◌∷◌, map, Option, Some, None, IfSome}
use Rattle.std.specs.List.{flat_map}
use Rattle.std.specs.Option.{option_map_or}
use Rattle.rc_bgp.specs.Candidates.{best_paths}
use Rattle.rc_bgp.specs.RouterStates.{table_of}
use Rattle.rc_bgp.specs.Sessions.{configured_sessions, sessions_from}
use Rattle.rc_bgp.specs.Speakers.{silent, speaker_at, speaker_of, speakers}
use Rattle.rc_bgp_session.specs.declared.session.Session.{Session}
use Rattle.rc_bgp.specs.declared.speaker.Speaker.{Speaker}
use Rattle.rc_config.specs.Members.{router_at, router_ids}
use Rattle.rc_config.specs.declared.network.Network.{Network}
use Rattle.rc_config.specs.declared.router_text.RouterText.{RouterText}
use Rattle.rc_external.specs.Externals.{externals}
use Rattle.rc_link_state.specs.Adjacency.{adjacencies}
use Rattle.rc_ospf.specs.Areas.{AreOspfRouters}
use Rattle.rc_ospf_interfaces.specs.Interfaces.{interfaces_at, interfaces_of, ospf_interfaces}
use Rattle.rc_ospf.specs.Internal.{IsInternal, steps_of}
use Rattle.rc_ospf.specs.declared.model.Internal.{Internal}
use Rattle.rc_rib.specs.Next.{learned_routes, next_state, ospf_routes, table_after}
use Rattle.rc_route.specs.declared.state.RouterState.{RouterState}
use Rattle.rc_topology.specs.Ports.{links_of}
use Rattle.rc_topology.specs.Topology.{Topology}
use Rattle.rc_rounds.specs.Rounds.{state_after, checkpoint, EndsAs, GoesOn, GoesOnBelow, IsOutcome}
use Rattle.rc_rounds.specs.Silent.{AreAsked, AreSilent, IsSilent}
use Rattle.rc_route.specs.declared.outcome.Outcome.{Outcome}
use Rattle.rc_route.specs.declared.outcome.Outcome.TheVariants.{Fixed, Repeats, Limit}

flat_none : {A B : Type 0} (f : A → List B) (xs : List A) → ((x : A) → f x ≡ []) → flat_map f xs ≡ []
flat_none f [] none = refl
flat_none f (x ∷ xs) none = rw (none x) (flat_none f xs none)

module _ (net : Network) (none_speaks : AreSilent net) where
  -- ---- OSPF takes no step
  no_interfaces_at : (r : ℕ) → interfaces_at net r ≡ []
  no_interfaces_at r = by (router_at net r) (none_speaks r)
    where
      by : (found : Option RouterText) → IfSome found IsSilent → option_map_or (interfaces_of r) found [] ≡ []
      by None is = refl
      by (Some file) is = rw is.0 refl

  no_interfaces : ospf_interfaces net ≡ []
  unfolding ospf_interfaces
  no_interfaces = flat_none (interfaces_at net) (router_ids net) no_interfaces_at

  no_steps : (links : Topology) → steps_of net links ≡ []
  unfolding adjacencies
  no_steps links = ap (adjacencies links) no_interfaces

  -- ---- and no session is made
  no_locals : (r : ℕ) → (speaker_at net r).locals ≡ []
  no_locals r = by (router_at net r) (none_speaks r)
    where
      by : (found : Option RouterText) → IfSome found IsSilent → (option_map_or (speaker_of r) found (silent r)).locals ≡ []
      by None is = refl
      by (Some file) is = rw is.1 refl

  none_to : (links : Topology) (to : Speaker) (rs : List ℕ) → flat_map (sessions_from links net to) (map (speaker_at net) rs) ≡ []
  none_to links to [] = refl
  none_to links to (r ∷ rs) = rw (no_locals r) (none_to links to rs)

  no_sessions : (links : Topology) → configured_sessions net links ≡ map (λ (to : Speaker). []) (speakers net)
  unfolding configured_sessions speakers
  no_sessions links = λ k. map (λ to. none_to links to (router_ids net) k) (speakers net)

  same_sessions : (these those : Topology) → configured_sessions net these ≡ configured_sessions net those
  same_sessions these those = no_sessions these ∙ sym (no_sessions those)

  -- ---- so rounds are the same with other links
  module _ (i : Internal) (links : Topology) where
    abbrev other : Internal
    other = record i { links = links }

    -- what a router of this file knows after a round with these sessions
    abbrev after : List (List Session) → List RouterState → ℕ → RouterText → RouterState
    after all old r file =
        let best = best_paths net all old r in
        record { table = table_after r file (learned_routes best) (ospf_routes i (externals net old) r) (table_of old r); paths = best }

    abbrev all_after : List (List Session) → List RouterState → List RouterState
    all_after all old = map (λ r. option_map_or (after all old r) (router_at net r) (record { table = []; paths = [] })) (router_ids net)

    next_same : (old : List RouterState) → next_state net i old ≡ next_state net other old
    next_same old = ap (λ all. all_after all old) (same_sessions i.links links)

    state_same : (k : ℕ) → state_after net i k ≡ state_after net other k
    state_same zero = refl
    state_same (suc k) = next_same (state_after net i k) ∙ ap (next_state net other) (state_same k)

    goes_on : (k : ℕ) → GoesOn net i k → GoesOn net other k
    goes_on k on = record {
      changes = λ e. on.changes (state_same k ∙ e ∙ sym (state_same (k - 1)));
      is_new = λ e. on.is_new (state_same k ∙ e ∙ sym (state_same (checkpoint k)));
    }

    below : (k : ℕ) → GoesOnBelow net i k → GoesOnBelow net other k
    below k on n low high = goes_on n (on n low high)

    ends_same : (limit : ℕ) (o : Outcome) → EndsAs net i limit o → EndsAs net other limit o
    ends_same limit (Fixed k state) h = (h.0, h.1, below k h.2, h.3 ∙ state_same k, sym (state_same k) ∙ h.4 ∙ state_same (k - 1))
    ends_same limit (Repeats c k) h = (h.0, h.1, below k h.2, h.3, λ e. h.4 (state_same k ∙ e ∙ sym (state_same (k - 1))), sym (state_same k) ∙ h.5 ∙ state_same c)
    ends_same limit (Limit n) h = (h.0, below (limit + 1) h.1)

    internal_same : IsInternal net i → IsInternal net other
    internal_same is = record {
      routers = is.routers;
      as_many = is.as_many;
      are_routers = subst (λ steps. AreOspfRouters net steps 0 is.routers) (no_steps i.links ∙ sym (no_steps links)) is.are_routers;
      routes = is.routes;
      boundaries = is.boundaries;
      own = is.own;
    }

pub outcome_over : (net : Network) (i : Internal) (limit : ℕ) → AreAsked net i.links → IsInternal net i → (o : Outcome) → EndsAs net i limit o → IsOutcome net limit o
outcome_over net i limit (inl own) is o ends = record { internal = i; links = own; is_internal = is; ends = ends }
outcome_over net i limit (inr none) is o ends = record {
  internal = record i { links = links_of net };
  links = refl;
  is_internal = internal_same net none i (links_of net) is;
  ends = ends_same net none i (links_of net) limit o ends;
}
