-- What no round changes.
use Rattle.std.specs.Prelude.{◌≡◌, List, All}
use Rattle.std.specs.List.Sorted.{IsStrictlySortedBy}
use Rattle.rc_base.specs.Prefix.{prefix_cmp}
use Rattle.rc_bgp.specs.Sessions.{configured_sessions}
use Rattle.rc_bgp_session.specs.declared.session.Session.{Session}
use Rattle.rc_config.specs.Lawful.{IsLawful}
use Rattle.rc_config.specs.declared.network.Network.{Network}
use Rattle.rc_ospf.specs.declared.model.Internal.{Internal}
use Rattle.rc_route.specs.Tables.{IsTable}

-- a lawful network, routes and prefixes of OSPF in order, and the sessions that its statements make over its links
pub record IsSetting (net : Network) (internal : Internal) (all : List (List Session)) : Type 0 where
  pub lawful : IsLawful net
  pub routes : All IsTable internal.routes
  pub own : All (IsStrictlySortedBy prefix_cmp) internal.own
  pub sessions : all ≡ configured_sessions net internal.links
