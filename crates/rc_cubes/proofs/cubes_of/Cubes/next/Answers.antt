use Rattle.std.proofs.Common.{◌∙◌, ap, sym, ◌∷◌, Some}
use Rattle.rc_nodes.proofs.KnownLaws.{known_reduced}
use Rattle.rc_cubes.specs.declared.cube.Cube.{Cube}
use Rattle.rc_cubes.specs.Cubes.{later}
use Rattle.rc_cubes.proofs.CountLaws.{fewer}
use Rattle.rc_cubes.proofs.WayLaws.{goes_on, ends}
use Rattle.rc_cubes.proofs.cubes_of.Cubes.next.Goals as goal

pub returns-in-Some-clause-next : goal.returns-in-Some-clause-next
returns-in-Some-clause-next g c = λ t k.
    let r = known_reduced c.args.seat.now c.requires.seat.sound c.args.self.now.set.index t k in
    goes_on c.args.self.now.last t r c.in-Some.cube (c.in-Some.ensures.behind t k) ∙ ap (λ (d : Cube). c.in-Some.cube ∷ later d t) (sym c.copy.ensures)

pub returns-in-None-clause-next : goal.returns-in-None-clause-next
returns-in-None-clause-next g c = λ t k. let e = ends c.args.self.now.last t (c.in-None.ensures.behind t k) in (e, e)

pub returns-in-Some-clause-fewer : goal.returns-in-Some-clause-fewer
returns-in-Some-clause-fewer g c =
    let (t, k) = c.requires.known in
    let r = known_reduced c.args.seat.now c.requires.seat.sound c.args.self.now.set.index t k in
    let goes = goes_on c.args.self.now.last t r c.in-Some.cube (c.in-Some.ensures.behind t k) ∙ ap (λ (d : Cube). c.in-Some.cube ∷ later d t) (sym c.copy.ensures) in
    fewer c.args.seat.now c.behind.new.seat c.requires.seat.sound c.in-Some.ensures.seat.sound c.args.self.now (record { set = c.args.self.now.set; last = Some c.copy.result }) t k (c.in-Some.ensures.keeps c.args.self.now.set.index t k) c.in-Some.cube goes
