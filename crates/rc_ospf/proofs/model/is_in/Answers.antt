use Rattle.std.proofs.Common.{◌∙◌}
use Rattle.rc_topology.proofs.PrefixLaws.{bisected}
use Rattle.rc_ospf.proofs.model.is_in.Goals as goal

pub returns : goal.returns
returns c = c.is_ok.ensures.value ∙ bisected c.args.prefixes.now c.requires c.args.prefix.now c.binary_search.result c.binary_search.ensures.bound c.binary_search.ensures.position
