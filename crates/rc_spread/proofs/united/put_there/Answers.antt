use Rattle.std.proofs.Common.{rules, ◌≡◌, sym, subst, slice_index_or}
use Rattle.std.proofs.lemmas.Result.{on_ok_weaker}
use Rattle.rc_jobs.specs.Flows.{no_header}
use Rattle.rc_nodes.specs.Seats.{SeatKnows}
use Rattle.rc_spread.proofs.PassageLaws.{no_set, passages_kept, takes_none}
use Rattle.rc_spread.proofs.united.put_there.Goals as goal

pub returns-then-eq-clause-put : goal.returns-then-eq-clause-put
returns-then-eq-clause-put g c = λ sets flows flow t known set through is.
    let none : (slice_index_or c.args.sets.now c.args.flow.now.from no_header).index ≡ 0 = search rules in
    takes_none c.args.work.now sets c.args.passages.now.items flows flow (no_set c.args.work.now sets (slice_index_or c.args.sets.now c.args.flow.now.from no_header).index flow none set) known

pub returns-clause-put : goal.returns-clause-put
returns-clause-put g c =
    let before = c.args.work.now in
    let later = c.set_in-through.new.work in
    on_ok_weaker c.put_passage.result
    (λ takes. λ sets flows flow t known set through is.
    takes later sets flows flow (passages_kept before sets later c.set_in-through.ensures.keeps c.args.passages.now.items flows known)
    (c.set_in-through.ensures.keeps (slice_index_or c.args.sets.now c.args.flow.now.from no_header).index (sets flow.0) set)
    (subst (SeatKnows later c.set_in-through.result.index) (sym is) (c.set_in-through.ensures.within t through)))
    c.put_passage.ensures
