use Rattle.std.proofs.Common.{◌≡◌, ap, ◌∙◌, sym, subst, MatchOption}
use Rattle.std.specs.Bool.{Decides}
use Rattle.rc_moves.specs.Moves.{plane_of, plane_with}
use Rattle.rc_walk.specs.ShortestWalks.{IsShortestWalk, NoWalkEnds}
use Rattle.rc_failures.specs.Failures.{Arrives}
use Rattle.rc_failures.proofs.ArrivalLaws.{arrives_where_found}
use Rattle.rc_failures.proofs.analysing.arrives_over.Goals as goal

pub returns : goal.returns
returns c =
    let plane = plane_of c.args.net.now c.args.state in
    let place = c.args.packet.now.place in
    let h = c.args.packet.now.header in
    let ends = c.args.packet.now.ends in
    let found = c.in_ok-walk.walk in
    let same : c.of-plane.result ≡ plane = c.of-plane.ensures ∙ ap (plane_with c.args.net.now) c.in_ok-tables.ensures in
    let is = subst (λ p. MatchOption found (NoWalkEnds p h ends place) (IsShortestWalk p h ends place)) same c.in_ok-walk.ensures in
    subst (λ b. Decides b (Arrives plane place h ends)) (sym c.is_some.ensures) (arrives_where_found plane place h ends found is)
