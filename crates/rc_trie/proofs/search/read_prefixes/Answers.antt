use Rattle.std.proofs.Common.{subst}
use Rattle.rc_base.specs.Prefix.{IsCidr}
use Rattle.rc_trie.proofs.SearchLaws.{all_read, none_read, read_more}
use Rattle.rc_trie.proofs.search.read_prefixes.Goals as goal

pub loop-row-init : goal.loop-row-init
loop-row-init g c = none_read g.T.HasPrefix.prefix_of c.args.rows.now

pub loop-row-preserved : goal.loop-row-preserved
loop-row-preserved g c =
    let canonical = subst IsCidr c.prefix.ensures c.network-network.ensures.canonical in
    read_more g.T.HasPrefix.prefix_of c.args.rows.now c.loop-row.row-index c.row-item.result c.loop-row.invariant c.loop-row-test.true c.row-item.is canonical

pub returns : goal.returns
returns g c = all_read g.T.HasPrefix.prefix_of c.args.rows.now c.loop-row.row-index c.loop-row-test.false c.requires c.loop-row.invariant
