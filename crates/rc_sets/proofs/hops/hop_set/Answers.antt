use Rattle.std.proofs.Common.{◌≡◌, ◌∙◌, Result, Ok, Err, IfOk}
use Rattle.rc_route.specs.declared.route.Hop.{Hop}
use Rattle.rc_nodes.specs.Seats.{SeatKnows}
use Rattle.rc_trees.specs.Recipes.{tree}
use Rattle.rc_bdd.proofs.ErrorLaws.{room_is_cause}
use Rattle.rc_sets.specs.Marks.{prefixes_over}
use Rattle.rc_sets.specs.Regions.{hop_set}
use Rattle.rc_sets.proofs.hops.hop_set.Goals as goal

for_hop : {V E : Type 0} (P : Hop → Type 0) (Q : Hop → V → Type 0) (hop : Hop) → P hop → (r : Result V E) → IfOk r (λ v. (x : Hop) → P x → Q x v) → IfOk r (Q hop)
for_hop P Q hop p (Ok v) each = each hop p
for_hop P Q hop p (Err e) each = tt

pub set_over-requires-clause-may : goal.set_over-requires-clause-may
set_over-requires-clause-may g c = (c.args.hop.now, c.as_slice.ensures.value ∙ c.in-Ok.ensures, c.requires.may)

pub returns-clause-set : goal.returns-clause-set
returns-clause-set g c =
    for_hop (λ x. c.as_slice.result.now ≡ prefixes_over x c.args.fib.now) (λ x r. SeatKnows c.set_over.new.work r.index (tree (hop_set c.args.fib.now x))) c.args.hop.now
    (c.as_slice.ensures.value ∙ c.in-Ok.ensures) c.set_over.result c.set_over.ensures.set

pub returns-clause-cause : goal.returns-clause-cause
returns-clause-cause g c = room_is_cause c.args.nodes.now c.set_over.new.work c.set_over.result c.set_over.ensures.room
