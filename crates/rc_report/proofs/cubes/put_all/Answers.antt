use Rattle.std.proofs.Common.{sym, ◌∙◌, subst}
use Rattle.rc_nodes.specs.declared.words.Ref.{Ref}
use Rattle.rc_nodes.specs.Seats.{SeatKnows}
use Rattle.rc_report.proofs.CubeLaws.{put_more, stopped}
use Rattle.rc_report.proofs.cubes.put_all.Goals as goal

pub loop-cube-preserved : goal.loop-cube-preserved
loop-cube-preserved g c =
    let i = c.loop-cube.invariant in
    record {
      seat = c.in-Some.ensures.seat;
      keeps = λ r t k. c.in-Some.ensures.keeps r t (i.keeps r t k);
      set = c.in-Some.ensures.set ∙ i.set;
      put = λ t k.
          let known = subst (λ (x : Ref). SeatKnows c.loop-cube.seat x.index t) (sym i.set) (i.keeps c.args.set.index t k) in
          put_more c.args.net.now c.next-in-Some.result c.loop-cube.left c.next-in-Some.new.self (i.put t k) (c.in-Some.ensures.next t known) c.next-in-Some.ensures.steps c.in_ok-put_cube.ensures;
    }

pub returns-in_err-put_cube-clause-put : goal.returns-in_err-put_cube-clause-put
returns-in_err-put_cube-clause-put g c = λ t k.
    let i = c.loop-cube.invariant in
    let known = subst (λ (x : Ref). SeatKnows c.loop-cube.seat x.index t) (sym i.set) (i.keeps c.args.set.index t k) in
    stopped c.args.net.now c.next-in-Some.result c.loop-cube.left c.next-in-Some.new.self (i.put t k) (c.in-Some.ensures.next t known) c.next-in-Some.ensures.steps c.from_residual.ensures.0 c.in_err-put_cube.ensures
