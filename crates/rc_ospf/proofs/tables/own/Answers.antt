use Rattle.std.proofs.Common.{◌≡◌, ◌∙◌, ap, map}
use Rattle.std.specs.List.{range_with_len}
use Rattle.std.proofs.lemmas.Result.{IfOk-weaker}
use Rattle.rc_config.specs.Members.{router_ids}
use Rattle.rc_ospf.specs.Routes.{own_prefixes}
use Rattle.rc_shares.proofs.MakingLaws.{all_given}
use Rattle.rc_ospf.proofs.tables.own.Goals as goal

pub made_at_once-requires-clause-fits : goal.made_at_once-requires-clause-fits
made_at_once-requires-clause-fits g c κs within = λ k d lt. tt

pub returns : goal.returns
returns g c =
    let net = c.args.net.now in
    IfOk-weaker c.made_at_once.result _ (λ own. own ≡ map (own_prefixes net) (router_ids net))
    (λ own made. all_given (own_prefixes net) (λ _. Unit {0}) c.as_slice.result.now own made ∙ ap (map (own_prefixes net)) (c.as_slice.ensures ∙ c.in_ok-ids.ensures ∙ ap (range_with_len 0) c.len.ensures)) c.made_at_once.ensures
