use Rattle.std.proofs.Common.{sym, ap, ◌∙◌}
use Rattle.rc_bgp_decide.specs.Decision.{place_of_best}
use Rattle.rc_bgp_decide.proofs.DecisionLaws.{place_within, none_from_none}
use Rattle.rc_bgp_decide.proofs.LeaderLaws.{leader_is_best}
use Rattle.rc_bgp_decide.proofs.leader.best_place.Goals as goal

pub returns-clause-best : goal.returns-clause-best
returns-clause-best g c = c.leading_place.ensures ∙ leader_is_best g.T.Stands.stands c.args.all.now

pub returns-clause-place : goal.returns-clause-place
returns-clause-place g c = place_within g.T.Stands.stands c.args.all.now c.leading_place.result (c.leading_place.ensures ∙ leader_is_best g.T.Stands.stands c.args.all.now)

pub returns-clause-none : goal.returns-clause-none
returns-clause-none g c =
    let best = c.leading_place.ensures ∙ leader_is_best g.T.Stands.stands c.args.all.now in
    (λ none. none_from_none g.T.Stands.stands c.args.all.now (sym best ∙ none), λ empty. best ∙ ap (place_of_best g.T.Stands.stands) empty)
