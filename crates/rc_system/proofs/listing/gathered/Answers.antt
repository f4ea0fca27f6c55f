use Rattle.std.proofs.Common.{rules}
use Rattle.rc_system.proofs.NamesMore.{one_more, none_more}
use Rattle.rc_system.proofs.listing.gathered.Goals as goal

pub loop-found-preserved-in-Continue-branch-3 : goal.loop-found-preserved-in-Continue-branch-3
loop-found-preserved-in-Continue-branch-3 g c = one_more c.loop-found.yielded c.in-Some.found c.in-Some-2.name c.loop-found.names c.push.new.self (search rules) (search rules) c.loop-found.invariant

pub loop-found-preserved : goal.loop-found-preserved
loop-found-preserved g c = none_more c.loop-found.yielded c.in-Some.found c.loop-found.names (search rules) c.loop-found.invariant
