use Rattle.rc_shares.proofs.StretchLaws.{both_made}
use Rattle.rc_shares.proofs.each.ListsShared.together.Goals as goal

pub returns : goal.returns
returns g c = λ own mine theirs a b d parts left right. both_made (g.W.Each.makes c.args.self.now.each.now) c.args.left c.args.right c.both.result a b d c.both.ensures left right
