use Rattle.rc_trees.proofs.RecipeLaws.{reduced-tree}
use Rattle.rc_sets.specs.Regions.{hop_set}
use Rattle.rc_sets.proofs.RegionLaws.{has-hop_set}
use Rattle.rc_sets.proofs.RegionsReduced.{of_reduced-hop_set}
use Rattle.rc_sets.proofs.laws.a_hop_is_its_set.Goals as goal

pub returns-clause-hops : goal.returns-clause-hops
returns-clause-hops c = λ table hop h ordered is. has-hop_set table ordered h is hop

pub returns-clause-reduced : goal.returns-clause-reduced
returns-clause-reduced c = λ table hop ordered. reduced-tree (hop_set table hop) (of_reduced-hop_set table ordered hop)
