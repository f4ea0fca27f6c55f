use Rattle.std.proofs.Common.{rules, ◌≡◌, ◌<◌, ◌≤◌, length, take, subst, sym, arith}
use Rattle.std.proofs.lemmas.List.{take_all}
use Rattle.rc_nodes.specs.Seats.{SeatKnows}
use Rattle.rc_trees.specs.Trees.{never, top}
use Rattle.rc_nodes.proofs.KnownLaws.{known_never, known_reduced, knows_never, one_known}
use Rattle.rc_sectors.specs.Sectors.{within}
use Rattle.rc_sectors.proofs.SectorLaws.{within-never, within-top, within-more}
use Rattle.rc_sectors.proofs.sector.set_in.Goals as goal

pub loop-bit-init : goal.loop-bit-init
loop-bit-init g c = record { mine = c.requires.seat; keeps = λ r t h. h; within = λ t h. h }

pub side-set-requires-clause-known : goal.side-set-requires-clause-known
side-set-requires-clause-known g c = let k = c.requires.known in (within (take c.loop-bit.bit c.args.sector.now) k.0, c.loop-bit.invariant.within k.0 k.1)

pub side-set-requires-clause-from : goal.side-set-requires-clause-from
side-set-requires-clause-from g c t known =
    let k = c.requires.known in
    let sector = c.args.sector.now in
    let n = c.loop-bit.bit in
    let less : n < length sector = c.loop-bit-test.true in
    let whole = known_reduced c.args.work.now c.requires.seat.sound c.args.set.index k.0 k.1 in
    let same : within (take n sector) k.0 ≡ t = one_known c.loop-bit.work c.loop-bit.invariant.mine.sound c.loop-bit.set.index (within (take n sector) k.0) t (c.loop-bit.invariant.within k.0 k.1) known in
    let tops : n ≤ top (within (take n sector) k.0) = within-top sector n k.0 whole (omega arith) c.requires.short in
    subst (λ s. n ≤ top s) same tops

pub loop-bit-preserved : goal.loop-bit-preserved
loop-bit-preserved g c =
    let sector = c.args.sector.now in
    let n = c.loop-bit.bit in
    let less : n < length sector = c.loop-bit-test.true in
    record {
      mine = c.side-set.ensures.seat;
      keeps = λ r t h. c.side-set.ensures.keeps r t (c.loop-bit.invariant.keeps r t h);
      within = λ t h. subst (SeatKnows c.side-set.new.self c.side-set.result.index) (sym (within-more sector n _ t less)) (c.side-set.ensures.side (within (take n sector) t) (c.loop-bit.invariant.within t h));
    }

pub returns-clause-within : goal.returns-clause-within
returns-clause-within g c t known =
    let sector = c.args.sector.now in
    let stop = c.loop-bit-test.false in
    subst (λ s. SeatKnows c.loop-bit.work c.loop-bit.set.index (within s t)) (take_all c.loop-bit.bit sector (omega arith)) (c.loop-bit.invariant.within t known)

pub returns-then-eq-clause-within : goal.returns-then-eq-clause-within
returns-then-eq-clause-within g c t known =
    let sector = c.args.sector.now in
    let n = c.loop-bit.bit in
    let zero : c.loop-bit.set.index ≡ 0 = search rules in
    let none : within (take n sector) t ≡ never = known_never c.loop-bit.work (within (take n sector) t) (subst (λ r. SeatKnows c.loop-bit.work r (within (take n sector) t)) zero (c.loop-bit.invariant.within t known)) in
    subst (SeatKnows c.loop-bit.work 0) (sym (within-never sector n t none)) (knows_never c.loop-bit.work)
