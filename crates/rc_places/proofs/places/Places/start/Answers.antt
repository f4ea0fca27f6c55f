use Rattle.std.proofs.Common.{◌≡◌, ◌<◌, map, length, slice_index_or, ap, subst, ◌∙◌, arith}
use Rattle.rc_config.specs.Members.{router_ids}
use Rattle.rc_places.specs.Places.{start_of}
use Rattle.rc_places.proofs.PlaceLaws.{start-there, start-at}
use Rattle.rc_places.proofs.places.Places.start.Goals as goal

pub index-requires-2 : goal.index-requires-2
index-requires-2 c =
    let net = c.args.self.now in
    let starts = c.self.inside.starts in
    let is : starts.items ≡ map (start_of net) (router_ids net) = subst (λ n. starts.items ≡ map (start_of n) (router_ids n)) c.self.view_is c.self.invariant.1 in
    let there : c.args.router < length net.routers = c.requires in
    let inside = start-there net starts.items is c.args.router there in
    let long = starts.ok in
    omega arith

pub returns : goal.returns
returns c =
    let net = c.args.self.now in
    let starts = c.self.inside.starts in
    let is : starts.items ≡ map (start_of net) (router_ids net) = subst (λ n. starts.items ≡ map (start_of n) (router_ids n)) c.self.view_is c.self.invariant.1 in
    let there : c.args.router < length net.routers = c.requires in
    c.index-2.ensures ∙ ap (λ k. slice_index_or starts.items k c.index-2.result.now) c.index.ensures ∙ start-at net starts.items is c.args.router there c.index-2.result.now
