use Rattle.std.proofs.lemmas.Result.{IfOk-weaker}
use Rattle.rc_ospf.specs.Routes.{own_prefixes}
use Rattle.rc_shares.specs.Making.{IsGiven}
use Rattle.rc_ospf.proofs.tables.PrefixesInMakes.make.Goals as goal

pub returns : goal.returns
returns c = IfOk-weaker c.own_prefixes.result _ (IsGiven (own_prefixes c.args.self.now.net.now) (λ _. Unit {0}) c.args.router.now) (λ p is. record { value = is; is_of_kind = tt }) c.own_prefixes.ensures
