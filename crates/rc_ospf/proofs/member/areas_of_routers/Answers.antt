use Rattle.std.proofs.Common.{◌≡◌, ◌∙◌, ap, map}
use Rattle.std.specs.List.{range_with_len}
use Rattle.std.proofs.lemmas.Result.{IfOk-weaker}
use Rattle.rc_ospf.specs.Members.{areas_at, areas_in}
use Rattle.rc_shares.proofs.MakingLaws.{all_given}
use Rattle.rc_ospf.proofs.member.areas_of_routers.Goals as goal

pub made_at_once-requires-clause-fits : goal.made_at_once-requires-clause-fits
made_at_once-requires-clause-fits g c κs within = λ k d lt. tt

pub returns : goal.returns
returns g c =
    let net = c.args.net.now in
    IfOk-weaker c.made_at_once.result _ (λ all. all ≡ areas_in net)
    (λ all made. all_given (areas_at net) (λ _. Unit {0}) c.as_slice.result.now all made ∙ ap (map (areas_at net)) (c.as_slice.ensures ∙ c.in_ok-ids.ensures ∙ ap (range_with_len 0) c.len.ensures)) c.made_at_once.ensures
