use Rattle.std.proofs.Common.{◌≡◌, ◌++◌, drop, map, IfSome}
use Rattle.rc_bgp.specs.RouterStates.{table_of}
use Rattle.rc_bgp.specs.Updating.{AreTaken, edit_of}
use Rattle.rc_ospf.specs.Internal.{routes_of}
use Rattle.rc_pieces.specs.declared.edit.Edit.{Edit}
use Rattle.rc_route.specs.declared.route.Route.{Route}
use Rattle.rc_rib.specs.Mending.{mended_at, own_routes}
use Rattle.rc_rib.specs.Offers.{prefix_of}
use Rattle.rc_rib.proofs.mending.edits_of.Given as goal

-- the prefixes of the edits, and then those that are left
abbrev pub invariant-loop-prefix : goal.invariant-loop-prefix
invariant-loop-prefix l = record {
  taken : AreTaken prefix_of (mended_at (own_routes l.router l.file (table_of l.inputs.previous.now l.router)) l.paths (routes_of l.inputs.internal.now l.router) l.known) l.known l.changed (map (λ (e : Edit Route). e.prefix) l.edits.items ++ drop l.prefix-index l.changed);
  values : l.edits.items ≡ map (edit_of (mended_at (own_routes l.router l.file (table_of l.inputs.previous.now l.router)) l.paths (routes_of l.inputs.internal.now l.router) l.known)) (map (λ (e : Edit Route). e.prefix) l.edits.items);
  routes : l.routes ≡ l.known;
  best : l.best ≡ l.paths;
  own : IfSome l.own (λ t. t ≡ own_routes l.router l.file (table_of l.inputs.previous.now l.router));
}
