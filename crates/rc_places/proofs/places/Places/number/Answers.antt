use Rattle.std.proofs.Common.{subst, arith}
use Rattle.rc_base.specs.declared.position.Pos.TheVariants.{Entering}
use Rattle.rc_config.specs.Lawful.{IsPosition}
use Rattle.rc_places.proofs.PlaceLaws.{number_there}
use Rattle.rc_places.proofs.places.Places.number.Goals as goal

pub overflow_add-result : goal.overflow_add-result
overflow_add-result c =
    let net = c.args.self.now in
    let there = subst (IsPosition net) c.in-Entering.is c.requires in
    let below = (number_there net (Entering c.in-Entering.interface) there).0 in
    omega arith

pub overflow_add-result-in-Entering : goal.overflow_add-result-in-Entering
overflow_add-result-in-Entering c =
    let net = c.args.self.now in
    let there = subst (IsPosition net) c.in-Entering.is c.requires in
    let below = (number_there net (Entering c.in-Entering.interface) there).0 in
    omega arith
