use Rattle.std.proofs.Common.{◌∙◌, sym}
use Rattle.rc_bgp.proofs.PairLaws.{none_to}
use Rattle.rc_bgp.proofs.pairing.sessions_to.Goals as goal

pub returns-then-not-has_process : goal.returns-then-not-has_process
returns-then-not-has_process c =
    c.new.ensures ∙ sym (none_to c.args.links.now c.args.net.now c.args.senders.now c.args.to.now (sym c.has_process.ensures ∙ c.if-not-has_process.true))
