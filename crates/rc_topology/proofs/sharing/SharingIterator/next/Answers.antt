use Rattle.std.proofs.Common.{ap, length, sym, ◌∙◌, arith}
use Rattle.rc_topology.proofs.LeftLaws.{left_then, left_none}
use Rattle.rc_topology.proofs.sharing.SharingIterator.next.Goals as goal

-- the first one left comes, and the others are left
pub returns-in-Some-clause-steps : goal.returns-in-Some-clause-steps
returns-in-Some-clause-steps c =
    let t = c.self.inside in
    sym c.self.view_is ∙ left_then t.links.now t.router t.last t.prefixes.now c.in-Some.found (sym c.in-Some.ensures)

pub returns-in-Some-clause-goes : goal.returns-in-Some-clause-goes
returns-in-Some-clause-goes c =
    let t = c.self.inside in
    let fewer = ap length (sym c.self.view_is ∙ left_then t.links.now t.router t.last t.prefixes.now c.in-Some.found (sym c.in-Some.ensures)) in
    record { on = λ finite. (tt, tt, omega (arith, fewer)); keeps = tt; rests = λ finite. tt }

-- none is left
pub returns-in-None-clause-steps : goal.returns-in-None-clause-steps
returns-in-None-clause-steps c =
    let t = c.self.inside in
    let none = sym c.self.view_is ∙ left_none t.links.now t.router t.last t.prefixes.now (sym c.in-None.ensures) in
    (none, none)
