use Rattle.std.proofs.Common.{subst, IfSome}
use Rattle.rc_failures.specs.Failures.{IsAnalysis}
use Rattle.rc_failures.specs.declared.analysing.Analysed.{Analysed}
use Rattle.rc_failures.proofs.analysing.analysis_of.Goals as goal

pub returns-in-Some : goal.returns-in-Some
returns-in-Some g c =
    let packet = c.args.packet.now in
    subst (λ o. IfSome o (λ (a : Analysed). IsAnalysis c.args.net.now c.args.limit packet.place packet.header packet.ends a.end a.arrives)) c.in-Some.is c.in_ok-known.ensures
