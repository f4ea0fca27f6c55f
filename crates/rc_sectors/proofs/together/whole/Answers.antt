use Rattle.std.proofs.Common.{refl, []}
use Rattle.rc_sectors.proofs.TogetherLaws.{whole_stands}
use Rattle.rc_sectors.proofs.together.whole.Goals as goal

pub put_together-requires-clause-stand : goal.put_together-requires-clause-stand
put_together-requires-clause-stand g c =
    let all = whole_stands c.args.sectors.now c.requires.may.cut in
    record { sector = []; halves = all.0; as_long = refl; stand = all.1 }

pub returns-clause-set : goal.returns-clause-set
returns-clause-set g c =
    let all = whole_stands c.args.sectors.now c.requires.may.cut in
    λ t reduced are. c.in_ok-set.ensures.made.knows [] all.0 t refl all.1 reduced are
