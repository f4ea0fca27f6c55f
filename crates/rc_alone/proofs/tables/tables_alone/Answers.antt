use Rattle.std.proofs.Common.{◌∙◌, ◌≤◌, arith}
use Rattle.rc_alone.proofs.FixedLaws.{fibs_prepared, found}
use Rattle.rc_alone.proofs.tables.tables_alone.Goals as goal

pub prepared-tables-requires : goal.prepared-tables-requires
prepared-tables-requires g c =
    fibs_prepared c.args.net.now c.in_ok-grounds.grounds c.in_ok-grounds.ensures.grounds (c.all_read_nothing.ensures c.if-not-all_read_nothing.false) c.in_ok-fibs.fibs c.in_ok-fibs.ensures

pub returns : goal.returns
returns g c =
    let within : 2 ≤ c.args.limit = omega (arith, c.if-limit-lt2.false) in
    found c.args.net.now c.in_ok-grounds.grounds c.in_ok-grounds.ensures.grounds (c.all_read_nothing.ensures c.if-not-all_read_nothing.false) c.in_ok-fibs.fibs c.in_ok-fibs.ensures
    c.args.limit within c.into_links.result c.prepared-tables.result c.in_ok-round.round c.into_links.ensures (c.into_links.ensures ∙ c.in_ok-grounds.ensures.links ∙ c.in_ok-links.ensures) c.prepared-tables.ensures c.in_ok-round.ensures
