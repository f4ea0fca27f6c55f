-- What the tables of a round are made from.
use Rattle.std.specs.Prelude.{◌≡◌, List, All, IfSome, length}
use Rattle.std.specs.List.Sorted.{IsStrictlySortedBy}
use Rattle.rc_base.specs.Prefix.{Cidr, prefix_cmp}
use Rattle.rc_bgp.specs.Changes.{AreChanges, AreChangesInside}
use Rattle.rc_bgp.specs.Sessions.{configured_sessions}
use Rattle.rc_bgp.specs.Telling.{told_inside}
use Rattle.rc_config.specs.Lawful.{IsLawful}
use Rattle.rc_config.specs.declared.network.Network.{Network}
use Rattle.rc_external.specs.Externals.{externals, IsByPrefix}
use Rattle.rc_ospf.specs.declared.model.Internal.{Internal}
use Rattle.rc_route.specs.Tables.{IsRouterState, IsStateOf, IsTable}
use Rattle.rc_route.specs.declared.state.RouterState.{RouterState}
use Rattle.rc_rib.specs.Next.{next_state}
use Rattle.rc_rib.specs.declared.inputs.Earlier.{Earlier}
use Rattle.rc_rib.specs.declared.inputs.Inputs.{Inputs}

-- the state came from an earlier one in order, and all that changed in best paths from there to here is told, and what of that changed in
-- what internal peers may be told
pub record IsEarlier (net : Network) (internal : Internal) (state earlier : List RouterState) (changes inside : List (List Cidr)) : Type 0 where
  pub made : state ≡ next_state net internal earlier
  pub in_order : All IsRouterState earlier
  pub told : AreChanges changes earlier state
  pub told_inside : AreChangesInside inside earlier state

-- sessions are the configured ones of the network over its links; externals, and what routers may tell inside, are those of the state
-- before; all that is to be in order is; and where there was a round earlier yet, the state before came from it
pub record AreInputs (i : Inputs) : Type 0 where
  pub lawful : IsLawful i.network.now
  pub state : IsStateOf (length i.network.now.routers) i.previous.now
  pub routes : All IsTable i.internal.now.routes
  pub own : All (IsStrictlySortedBy prefix_cmp) i.internal.now.own
  pub sessions : i.sessions.now ≡ configured_sessions i.network.now i.internal.now.links
  pub externals : i.externals.now ≡ externals i.network.now i.previous.now
  pub by_prefix : IsByPrefix i.externals.now
  pub inside : i.inside.now ≡ told_inside i.sessions.now i.previous.now
  pub earlier : IfSome i.earlier (λ (e : Earlier). IsEarlier i.network.now i.internal.now i.previous.now e.state.now e.changes.now e.inside.now)
