use Rattle.std.proofs.Common.{refl, subst, option_to_list}
use Rattle.std.specs.Prelude.{MatchOption}
use Rattle.std.proofs.lemmas.Result.{IfOk-weaker}
use Rattle.rc_walk.specs.ShortestWalks.{IsShortestWalk, NoWalkEnds}
use Rattle.rc_answers.specs.Written.{AreShortest}
use Rattle.rc_answers.proofs.packets.uneven_walks.Goals as goal

pub returns : goal.returns
returns c =
    let plane = c.args.plane.now in
    let q = c.args.place.now in
    let h = c.args.header.now in
    let arriving = c.in_ok-arriving.arriving in
    let failing = c.in_ok-failing.failing in
    IfOk-weaker c.with_found.result _ _
    (λ walks is. (
      arriving,
      option_to_list failing,
      subst (λ ends. AreShortest plane q ends h arriving) c.arrivals.ensures c.in_ok-arriving.ensures,
      (failing, subst (λ ends. MatchOption failing (NoWalkEnds plane h ends q) (IsShortestWalk plane h ends q)) c.failures.ensures c.in_ok-failing.ensures, refl),
      is,
    ))
    c.with_found.ensures
