use Rattle.std.proofs.Common.{sym, ◌∙◌}
use Rattle.rc_bgp.proofs.ReachLaws.{direct_reaches}
use Rattle.rc_bgp.proofs.reaching.reaches.Goals as goal

pub returns-then-is_direct : goal.returns-then-is_direct
returns-then-is_direct c = direct_reaches c.args.table.now c.args.addr (sym c.is_direct.ensures ∙ c.if-is_direct.true)
