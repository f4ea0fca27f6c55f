use Rattle.std.proofs.Common.{rules}
use Rattle.rc_bgp.proofs.HearLaws.{heard_again}
use Rattle.rc_bgp.proofs.listener.Listener.again.Goals as goal

pub returns-in_ok-made-in-Some-clause-value : goal.returns-in_ok-made-in-Some-clause-value
returns-in_ok-made-in-Some-clause-value c =
    heard_again c.args.self.now.net c.args.resolver.now c.args.self.now.session c.in-Some.last c.args.told.now c.in_ok-made-in-Some.made (search rules) (search rules) (search rules)
