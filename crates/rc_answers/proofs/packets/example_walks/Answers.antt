use Rattle.std.proofs.Common.{rules, ◌≡◌, ◌∙◌, sym, subst, ◌++◌, ◌∷◌, [], ◌+◌, Some}
use Rattle.rc_cubes.specs.Cubes.{cubes, left, Goes}
use Rattle.rc_nodes.specs.Seats.{SeatKnows}
use Rattle.rc_answers.proofs.ExampleLaws.{AreUnderWay, goes_on}
use Rattle.rc_answers.proofs.packets.example_walks.Goals as goal

pub loop-preserved : goal.loop-preserved
loop-preserved g c =
    let plane = c.args.plane.now in
    let asked = c.args.asked.now in
    let before = c.loop.invariant in
    record {
      seat = c.next.ensures.seat;
      keeps = λ r t known. c.next.ensures.keeps r t (before.keeps r t known);
      set = c.next.ensures.set ∙ before.set;
      way = λ t known.
          let here : SeatKnows c.loop.seat c.loop.cubes.set.index t = subst (λ set. SeatKnows c.loop.seat set.index t) (sym before.set) (before.keeps c.args.set.index t known) in
          let goes : Goes (left c.loop.cubes.last t) (Some c.in-Some.cube) (left c.next.new.self.last t) = subst (λ o. Goes (left c.loop.cubes.last t) o (left c.next.new.self.last t)) c.in-Some.is (c.next.ensures.next t here) in
          let under : AreUnderWay plane asked (cubes t) c.loop.counter (c.in-Some.cube ∷ left c.next.new.self.last t) c.loop.walks.items =
          subst (λ cs. AreUnderWay plane asked (cubes t) c.loop.counter cs c.loop.walks.items) goes (before.way t known) in
          let pushed : c.push.new.self.items ≡ c.loop.walks.items ++ c.in_ok-walks_of-in-Some.field-0 ∷ [] = search rules in
          subst (AreUnderWay plane asked (cubes t) (c.loop.counter + 1) (left c.next.new.self.last t)) (sym pushed)
          (goes_on plane asked (cubes t) c.loop.counter c.in-Some.cube (left c.next.new.self.last t) c.loop.walks.items c.in_ok-walks_of-in-Some.field-0 under c.in_ok-walks_of-in-Some.ensures);
    }
