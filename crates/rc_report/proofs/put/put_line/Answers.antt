use Rattle.std.proofs.Common.{◌++◌, flat_map, subst}
use Rattle.rc_outside.specs.Put.{IsPut}
use Rattle.rc_report.specs.Parts.{part_text}
use Rattle.rc_report.proofs.put.put_line.Goals as goal

pub returns : goal.returns
returns g c = subst (λ begun. IsPut g.S.Sink c.args.out.now c.end_with.new.out c.end_with.result (begun ++ flat_map part_text c.args.parts.now)) c.clear.ensures c.end_with.ensures
