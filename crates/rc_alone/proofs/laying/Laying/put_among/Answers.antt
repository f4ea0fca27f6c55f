use Rattle.std.proofs.Common.{refl, [], ◌∷◌}
use Rattle.rc_alone.specs.Laying.{ospf_route}
use Rattle.rc_alone.proofs.LayingLaws.{goes_further, on_done}
use Rattle.rc_alone.proofs.laying.Laying.put_among.Goals as goal

pub returns : goal.returns
returns c =
    on_done c.put_at.result _ _ (λ at metric.
    let r = ospf_route c.args.prefix c.args.source metric c.args.hops.now in
    goes_further c.args.self.now c.put_before.new.self c.put_at.new.self (r ∷ []) (r ∷ []) [] (c.in_ok-put_before.ensures.whole r refl) (at metric)) c.put_at.ensures
