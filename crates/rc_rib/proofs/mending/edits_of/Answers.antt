use Rattle.std.proofs.Common.{◌≡◌, ◌++◌, List, refl, ◌∙◌, ap, sym, map, subst, arith}
use Rattle.std.proofs.lemmas.List.{map-append}
use Rattle.rc_base.specs.Prefix.{Cidr}
use Rattle.rc_bgp.specs.RouterStates.{route_at, table_of}
use Rattle.rc_bgp.specs.Updating.{AreTaken, edit_of}
use Rattle.rc_bgp.proofs.DecidedLaws.{all_decided, is_edited, is_taken, none_decided, stays_known}
use Rattle.rc_ospf.specs.Internal.{routes_of}
use Rattle.rc_pieces.specs.declared.edit.Edit.{Edit}
use Rattle.rc_route.specs.declared.route.Route.{Route}
use Rattle.rc_rib.specs.Mending.{learned_at, mended_at, own_routes, route_after}
use Rattle.rc_rib.specs.Offers.{prefix_of}
use Rattle.rc_rib.proofs.mending.edits_of.Goals as goal

abbrev prefixes : List (Edit Route) → List Cidr
prefixes edits = map (λ (e : Edit Route). e.prefix) edits

pub loop-prefix-init : goal.loop-prefix-init
loop-prefix-init c =
    let own = own_routes c.args.router c.args.file.now (table_of c.args.inputs.now.previous.now c.args.router) in
    let f = mended_at own c.args.paths.now (routes_of c.args.inputs.now.internal.now c.args.router) c.args.known.now in
    record {
      taken = subst (λ (es : List (Edit Route)). AreTaken prefix_of f c.args.known.now c.args.changed.now (prefixes es ++ c.args.changed.now)) (sym c.in_ok-edits.ensures.items) (none_decided prefix_of f c.args.known.now c.args.changed.now c.requires.changed);
      values = subst (λ (es : List (Edit Route)). es ≡ map (edit_of f) (prefixes es)) (sym c.in_ok-edits.ensures.items) refl;
      routes = c.of-routes.ensures;
      best = c.of-best.ensures;
      own = tt;
    }

pub loop-prefix-preserved-then-is_same : goal.loop-prefix-preserved-then-is_same
loop-prefix-preserved-then-is_same c =
    let own = own_routes c.args.router c.args.file.now (table_of c.args.inputs.now.previous.now c.args.router) in
    let inside = routes_of c.args.inputs.now.internal.now c.args.router in
    let f = mended_at own c.args.paths.now inside c.args.known.now in
    let q = c.prefix-item.result in
    let known_at = c.at-before.ensures.value ∙ ap (λ t. route_at t q) c.loop-prefix.invariant.routes in
    let learned = c.in_ok-learned.ensures.value ∙ ap (λ xs. learned_at xs q) c.loop-prefix.invariant.best in
    let is_route = c.in_ok-route.ensures.value ∙ (λ k. route_after own inside (known_at k) (learned k) q) in
    record {
      taken = stays_known prefix_of f c.args.known.now c.args.changed.now c.loop-prefix.prefix-index q c.loop-prefix-test.true c.prefix-item.is (prefixes c.loop-prefix.edits.items) c.loop-prefix.invariant.taken
          (sym known_at ∙ c.is_same.ensures c.if-is_same.true ∙ is_route);
      values = c.loop-prefix.invariant.values;
      routes = c.at-before.ensures.same ∙ c.loop-prefix.invariant.routes;
      best = c.in_ok-learned.ensures.same ∙ c.loop-prefix.invariant.best;
      own = c.in_ok-route.ensures.own;
    }

pub loop-prefix-preserved : goal.loop-prefix-preserved
loop-prefix-preserved c =
    let own = own_routes c.args.router c.args.file.now (table_of c.args.inputs.now.previous.now c.args.router) in
    let inside = routes_of c.args.inputs.now.internal.now c.args.router in
    let f = mended_at own c.args.paths.now inside c.args.known.now in
    let q = c.prefix-item.result in
    let known_at = c.at-before.ensures.value ∙ ap (λ t. route_at t q) c.loop-prefix.invariant.routes in
    let learned = c.in_ok-learned.ensures.value ∙ ap (λ xs. learned_at xs q) c.loop-prefix.invariant.best in
    let is_route = c.in_ok-route.ensures.value ∙ (λ k. route_after own inside (known_at k) (learned k) q) in
    let before = c.loop-prefix.edits.items in
    let after = c.push_back.new.self.items in
    let pushed = c.in_ok-push_back.ensures.items in
    let more = ap prefixes pushed ∙ map-append (λ (e : Edit Route). e.prefix) before _ in
    record {
      taken = is_taken prefix_of f c.args.known.now c.args.changed.now c.loop-prefix.prefix-index q c.loop-prefix-test.true c.prefix-item.is (prefixes before) c.loop-prefix.invariant.taken (prefixes after) more;
      values = is_edited prefix_of f c.args.known.now c.args.changed.now q c.in_ok-route.route (prefixes before) (prefixes after) before after is_route more pushed c.loop-prefix.invariant.values;
      routes = c.at-before.ensures.same ∙ c.loop-prefix.invariant.routes;
      best = c.in_ok-learned.ensures.same ∙ c.loop-prefix.invariant.best;
      own = c.in_ok-route.ensures.own;
    }

pub returns : goal.returns
returns c =
    let own = own_routes c.args.router c.args.file.now (table_of c.args.inputs.now.previous.now c.args.router) in
    let f = mended_at own c.args.paths.now (routes_of c.args.inputs.now.internal.now c.args.router) c.args.known.now in
    all_decided prefix_of f c.args.known.now c.args.changed.now c.loop-prefix.prefix-index (prefixes c.loop-prefix.edits.items) c.loop-prefix.edits.items (omega (arith, c.loop-prefix-test.false)) c.loop-prefix.invariant.taken c.loop-prefix.invariant.values
