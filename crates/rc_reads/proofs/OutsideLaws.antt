-- What comes from outside of the AS is the same where its senders know the same.
use Rattle.std.proofs.Common.{refl, ◌≡◌, ap, sym, ◌∙◌, ℕ, Bool, true, false, List, [], ◌∷◌, ◌++◌, Option, Some, None, is_some}
use Rattle.std.specs.Prelude.{slice_get, option_and_then}
use Rattle.std.specs.List.{cons_option, filter_map, find}
use Rattle.std.specs.Option.{option_map, option_map_or, option_to_list}
use Rattle.std.proofs.lemmas.Bool.{or_parts}
use Rattle.rc_base.proofs.KeepLaws.{In}
use Rattle.rc_config.specs.Members.{router_at, router_ids}
use Rattle.rc_config.specs.declared.network.Network.{Network}
use Rattle.rc_config.specs.declared.ospf.DefaultInformation.{DefaultInformation}
use Rattle.rc_config.specs.declared.ospf.OspfProcess.{OspfProcess}
use Rattle.rc_config.specs.declared.ospf.Redistribution.{Redistribution}
use Rattle.rc_config.specs.declared.router_text.RouterText.{RouterText}
use Rattle.rc_external.specs.AsExternal.{AsExternal}
use Rattle.rc_external.specs.Externals.{by_prefix, externals}
use Rattle.rc_external.specs.Origination.{default_sent, line_for, matches_source, redistributed, redistributed_by, sent_by, sent_by_file, sent_by_router}
use Rattle.rc_external.specs.Costs.{cost_cmp}
use Rattle.rc_external.specs.Routes.{external_routes, external_route_over, external_route_to, routes_over}
use Rattle.rc_ospf.specs.Internal.{boundaries_of}
use Rattle.rc_external.specs.Ways.{external_way_to}
use Rattle.rc_route.specs.Ways.{best_of}
use Rattle.rc_external.specs.declared.as_external.ExternalRow.{ExternalRow}
use Rattle.rc_ospf.specs.Boundaries.{has_any, is_boundary, is_boundary_file, is_boundary_process}
use Rattle.rc_ospf.specs.declared.model.Internal.{Internal}
use Rattle.rc_route.specs.declared.route.Route.{Route}
use Rattle.rc_route.specs.declared.state.RouterState.{RouterState}
use Rattle.rc_reads.proofs.ListLaws.{all_members, flat_map_agree, nothing_made}

-- ---- who has no such line sends nothing

no_lines : (rs : List Redistribution) → has_any rs ≡ false → rs ≡ []
no_lines [] e = refl
no_lines (r ∷ rs) e = absurd (cc)

no_default : (o : Option DefaultInformation) → is_some o ≡ false → o ≡ None
no_default None e = refl
no_default (Some l) e = absurd (cc)

sends_none : (q : ℕ) (file : RouterText) (known : RouterState) (p : OspfProcess) → is_boundary_process p ≡ false → sent_by q file known p ≡ []
sends_none q file known p e =
    let parts = or_parts (has_any p.redistributions) (is_some p.default_information) e in
    let none : (x : Route) → redistributed q file p known.paths x ≡ None = λ x. ap (λ rs. option_and_then (redistributed_by q file known.paths x) (find (λ (l : Redistribution). matches_source file l.source x.source) rs)) (no_lines p.redistributions parts.0) in
    ap (λ o. option_to_list (option_and_then (default_sent q known.table) o) ++ filter_map (redistributed q file p known.paths) known.table) (no_default p.default_information parts.1)
    ∙ nothing_made (redistributed q file p known.paths) known.table (all_members (λ x. redistributed q file p known.paths x ≡ None) known.table (λ x _. none x))

module _ (net : Network) where
  silent_router : (old : List RouterState) (q : ℕ) → is_boundary net q ≡ false → sent_by_router net old q ≡ []
  silent_router old q = by (router_at net q)
    where
      of_process : (file : RouterText) (known : RouterState) (p : Option OspfProcess) → option_map_or is_boundary_process p false ≡ false → option_map_or (sent_by q file known) p [] ≡ []
      of_process file known None e = refl
      of_process file known (Some p) e = sends_none q file known p e

      of_state : (file : RouterText) → is_boundary_file file ≡ false → (k : Option RouterState) → option_map_or (sent_by_file q file) k [] ≡ []
      of_state file e None = refl
      of_state file e (Some known) = of_process file known file.ospf e

      by : (o : Option RouterText) → option_map_or is_boundary_file o false ≡ false → option_map_or (λ file. option_map_or (sent_by_file q file) (slice_get old q) []) o [] ≡ []
      by None e = refl
      by (Some file) e = of_state file e (slice_get old q)

  -- where all who have such lines know the same, the same is sent
  pub same_sent : (old now : List RouterState) → ((q : ℕ) → In q (router_ids net) → is_boundary net q ≡ true → slice_get old q ≡ slice_get now q) → externals net old ≡ externals net now
  same_sent old now each =
      ap by_prefix (flat_map_agree (sent_by_router net old) (sent_by_router net now) (router_ids net) (all_members (λ q. sent_by_router net old q ≡ sent_by_router net now q) (router_ids net) (λ q there. by q there (is_boundary net q) refl)))
    where
      by : (q : ℕ) → In q (router_ids net) → (b : Bool) → is_boundary net q ≡ b → sent_by_router net old q ≡ sent_by_router net now q
      by q there true e = ap (λ k. option_map_or (λ file. option_map_or (sent_by_file q file) k []) (router_at net q) []) (each q there e)
      by q there false e = silent_router old q e ∙ sym (silent_router now q e)

-- ---- without a path to a router that sends it nothing comes from outside of the AS

no_ways : (sent : List AsExternal) → filter_map (external_way_to []) sent ≡ []
no_ways [] = refl
no_ways (e ∷ es) = no_ways es

no_route : (row : ExternalRow) → external_route_to [] row ≡ None
no_route row = ap (λ ways. option_map (external_route_over row.prefix) (best_of cost_cmp ways)) (no_ways row.externals)

nothing_outside : (rows : List ExternalRow) → routes_over [] rows ≡ []
nothing_outside [] = refl
nothing_outside (row ∷ rows) = ap (λ o. cons_option o (routes_over [] rows)) (no_route row) ∙ nothing_outside rows

pub none_outside : (internal : Internal) (rows : List ExternalRow) (r : ℕ) → boundaries_of internal r ≡ [] → external_routes internal rows r ≡ []
none_outside internal rows r none = ap (λ bs. routes_over bs rows) none ∙ nothing_outside rows
