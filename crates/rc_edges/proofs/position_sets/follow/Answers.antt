use Rattle.std.proofs.Common.{subst, ap, sym, ◌∙◌, length}
use Rattle.rc_config.specs.Members.{positions}
use Rattle.rc_edges.proofs.LikeLaws.{like}
use Rattle.rc_edges.proofs.MakingLaws.{sending_like}
use Rattle.rc_router_sets.specs.Edges.{edge}
use Rattle.rc_edges.specs.Given.{IsRow, joined, nothing}
use Rattle.rc_edges.specs.Likes.{is_like}
use Rattle.rc_places.specs.Places.{position_at}
use Rattle.rc_trees.specs.Recipes.{tree}
use Rattle.rc_edges.proofs.position_sets.follow.Goals as goal

pub returns-then-is_like-clause-sends : goal.returns-then-is_like-clause-sends
returns-then-is_like-clause-sends g c =
    let plane = c.args.site.now.plane.now in
    let q = c.args.last.now in
    let t = c.args.site.now.position in
    sending_like c.args.nodes.now c.args.work.now plane c.args.ends q t (like plane.network q t (ap (λ net. is_like net q t) (sym c.network.ensures) ∙ sym c.is_like.ensures ∙ c.if-is_like.true)) c.args.sending.now c.requires.last

pub fill-requires-clause-made : goal.fill-requires-clause-made
fill-requires-clause-made g c = c.in_ok-renew.ensures.sets c.args.nodes.now c.args.work.now c.args.last.now (sym c.router_at.ensures) c.requires.last.made

pub fill-requires-clause-row : goal.fill-requires-clause-row
fill-requires-clause-row g c =
    subst (λ net. IsRow c.args.work.now c.clear.new.self (length (positions net)) (joined nothing)) (sym c.requires.places)
    (c.clear.ensures c.args.work.now (length (positions c.args.site.now.plane.now.network)) (λ t. tree (edge c.args.site.now.plane.now c.args.last.now (position_at c.args.site.now.plane.now.network t))) c.requires.last.row)
