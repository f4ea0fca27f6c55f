use Rattle.rc_bgp_decide.proofs.SeveralLaws.{best_of_several, none_of_several, within_several, apart_several}
use Rattle.rc_bgp_decide.proofs.multipath.multi.Goals as goal

pub returns-clause-best : goal.returns-clause-best
returns-clause-best c = best_of_several c.places_among.result c.args.most c.args.paths.now c.requires c.places_among.ensures

pub returns-clause-none : goal.returns-clause-none
returns-clause-none c = none_of_several c.places_among.result c.args.most c.args.paths.now c.requires c.places_among.ensures

pub returns-clause-within : goal.returns-clause-within
returns-clause-within c = within_several c.places_among.result c.args.most c.args.paths.now c.places_among.ensures

pub returns-clause-distinct : goal.returns-clause-distinct
returns-clause-distinct c = apart_several c.places_among.result c.args.most c.args.paths.now c.places_among.ensures
