use Rattle.std.proofs.Common.{◌<◌, length, sym, ◌∙◌, arith}
use Rattle.rc_reads.specs.Reads.{addresses_of_entry, names_address}
use Rattle.rc_reads.proofs.NameLaws.{one_found, one_less}
use Rattle.rc_reads.proofs.reading.names_some.Goals as goal

pub returns-then-names_at : goal.returns-then-names_at
returns-then-names_at c =
    let p = names_address c.args.net.now c.args.router in
    sym (c.loop-index.invariant ∙ one_found p addresses_of_entry c.args.interfaces.now c.loop-index.index (sym c.names_at.ensures ∙ c.if-names_at.true))

pub loop-index-preserved : goal.loop-index-preserved
loop-index-preserved c =
    let p = names_address c.args.net.now c.args.router in
    let less : c.loop-index.index < length c.args.interfaces.now = omega (arith, c.loop-index-test.true, c.len-index-end.ensures) in
    c.loop-index.invariant ∙ one_less p addresses_of_entry c.args.interfaces.now c.loop-index.index less (sym c.names_at.ensures ∙ c.if-names_at.false)
