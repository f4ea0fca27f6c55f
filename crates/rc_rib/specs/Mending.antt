-- The next table of a router by what changed in its best paths.
use Rattle.std.specs.Prelude.{◌≡◌, ℕ, Bool, true, false, if◌then◌else◌, List, [], map, Option, Some, None, option_and_then}
use Rattle.std.specs.List.{list_any}
use Rattle.rc_base.specs.Prefix.{Cidr}
use Rattle.rc_bgp.specs.Learning.{learned_route}
use Rattle.rc_bgp.specs.RouterStates.{route_at}
use Rattle.rc_bgp.specs.Updating.{AreDecided, updated}
use Rattle.rc_config.specs.declared.router_text.RouterText.{RouterText}
use Rattle.rc_config.specs.declared.static_route.StaticRoute.{StaticRoute}
use Rattle.rc_fib.specs.Forwarding.{resolved}
use Rattle.rc_ospf.specs.Internal.{boundaries_of}
use Rattle.rc_ospf.specs.declared.model.Internal.{Internal}
use Rattle.rc_pieces.specs.declared.edit.Edit.{Edit}
use Rattle.rc_route.specs.Tables.{best_for}
use Rattle.rc_route.specs.declared.best.Best.{Best}
use Rattle.rc_route.specs.declared.route.Route.{Route}
use Rattle.rc_route.specs.declared.route.Source.{Source}
use Rattle.rc_route.specs.declared.route.Source.TheVariants.{Ebgp, Ibgp}
use Rattle.rc_rib.specs.Connected.{connected}
use Rattle.rc_rib.specs.Merging.{merged, of_both}
use Rattle.rc_rib.specs.Offers.{prefix_of}
use Rattle.rc_rib.specs.Static.{active_lines, asks_table, static_routes}

-- the connected and the static routes of a router of this file with this previous table, for each prefix the preferred one
abbrev pub own_routes : ℕ → RouterText → List Route → List Route
own_routes r file old = merged (connected r file.interfaces) (static_routes (active_lines r file.interfaces (resolved old) file.static_routes))

-- the route that the best path of a prefix gives
abbrev pub learned_at : List Best → Cidr → Option Route
learned_at paths p = option_and_then learned_route (best_for paths p)

-- the route of a prefix after a round: the preferred of a router's own one, of the one that its best path gives, and of the one by OSPF
abbrev pub of_all : List Route → Option Route → List Route → Cidr → Option Route
of_all own learned inside p = of_both (of_both (route_at own p) learned) (route_at inside p)

-- best paths give routes of this source
abbrev pub is_learned : Source → Bool
is_learned Ebgp = true
is_learned Ibgp = true
is_learned other = false

-- the same, by what the previous table has there: where it has none there is no other, and where it has one that no best path gave that is the
-- preferred of all others
abbrev pub route_after : List Route → List Route → Option Route → Option Route → Cidr → Option Route
route_after own inside None learned p = learned
route_after own inside (Some x) learned p = if is_learned x.source then of_all own learned inside p else of_both (Some x) learned

abbrev pub mended_at : List Route → List Best → List Route → List Route → Cidr → Option Route
mended_at own paths inside known p = route_after own inside (route_at known p) (learned_at paths p) p

-- a table, with that at prefixes that changed, which stand in order, in place of what it says there
abbrev pub mended : List Route → List Best → List Route → List Route → List Cidr → List Route
mended own paths inside known changed = updated prefix_of (mended_at own paths inside known) known changed

-- these edits say it at all those of the prefixes at which the table says otherwise
abbrev pub AreMended : List Route → List Best → List Route → List Route → List Cidr → List (Edit Route) → Type 0
AreMended own paths inside known changed edits = AreDecided prefix_of (mended_at own paths inside known) known changed (map (λ (e : Edit Route). e.prefix) edits) edits

-- but for its best paths a router of this file has the same routes after every state: no line `ip route` asks its table, and it has
-- no path to a router from which it would have routes from outside of the AS
pub record IsMendable (internal : Internal) (r : ℕ) (file : RouterText) : Type 0 where
  pub none_asks : list_any (λ (s : StaticRoute). asks_table s.target) file.static_routes ≡ false
  pub no_boundaries : boundaries_of internal r ≡ []
