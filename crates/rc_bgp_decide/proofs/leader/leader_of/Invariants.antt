use Rattle.std.proofs.Common.{◌≡◌, drop, None}
use Rattle.rc_bgp_decide.specs.Tests.{leader_from}
use Rattle.rc_bgp_decide.proofs.leader.leader_of.Given as goal

abbrev pub invariant-loop-place : goal.invariant-loop-place
invariant-loop-place g l = leader_from g.T.Stands.stands l.all l.leader l.place (drop l.place l.all) ≡ leader_from g.T.Stands.stands l.all None 0 l.all
