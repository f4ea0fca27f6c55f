use Rattle.std.proofs.Common.{refl}
use Rattle.rc_alone.specs.Laying.{ospf_route}
use Rattle.rc_alone.proofs.LayingLaws.{on_done, put_past, taken_one}
use Rattle.rc_alone.proofs.laying.LayingTakesRoutes.take.Goals as goal

pub returns-then-are_behind : goal.returns-then-are_behind
returns-then-are_behind c =
    let r = ospf_route c.args.prefix c.args.source c.args._metric c.args.hops.now in
    let behind = c.are_behind.ensures c.if-are_behind.true in
    on_done c.push.result _ _ (λ pushes start routes becomes. taken_one start c.args.self.now _ routes r (put_past c.args.self.now _ r behind.0 behind.1 refl pushes) becomes) c.push.ensures

pub returns : goal.returns
returns c =
    let r = ospf_route c.args.prefix c.args.source c.args._metric c.args.hops.now in
    on_done c.put_among.result _ _ (λ at start routes becomes. taken_one start c.args.self.now c.put_among.new.self routes r (at c.args._metric) becomes) c.put_among.ensures
