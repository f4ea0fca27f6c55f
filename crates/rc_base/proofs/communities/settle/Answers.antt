use Rattle.rc_base.proofs.CommunityLaws.{settled}
use Rattle.rc_base.proofs.communities.settle.Goals as goal

pub returns : goal.returns
returns c = settled c.args.numbers.now.items c.sort.new.self.items c.dedup.new.self.items c.in_ok-sort.ensures.permutation c.in_ok-sort.ensures.sorted c.dedup.ensures.filtered
