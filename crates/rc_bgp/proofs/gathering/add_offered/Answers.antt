use Rattle.std.proofs.Common.{ap, unwrap_or}
use Rattle.std.proofs.lemmas.Result.{on_ok_weaker}
use Rattle.rc_bgp.specs.RouterStates.{paths_of}
use Rattle.rc_bgp.proofs.TellingLaws.{told_all}
use Rattle.rc_bgp.proofs.gathering.add_offered.Goals as goal

pub returns-in-Some-clause-value : goal.returns-in-Some-clause-value
returns-in-Some-clause-value c =
    on_ok_weaker c.add_all_told.result
    (told_all c.args.listener.now.net c.args.resolver.now c.args.state.now c.args.session.now c.args.inside.now c.in-Some.listed.now c.args.rows.now _ c.requires.inside
    (ap (λ listed. unwrap_or listed (paths_of c.args.state.now c.args.session.now.sender)) c.in-Some.ensures)) c.add_all_told.ensures.value
