use Rattle.std.proofs.Common.{◌<◌, ◌++◌, ◌∷◌, [], true, false, subst, arith}
use Rattle.std.proofs.lemmas.Result.{IfOk-weaker}
use Rattle.rc_nodes.specs.Seats.{SeatKnows}
use Rattle.rc_sectors.specs.Sectors.{within, flows_within}
use Rattle.rc_spread.proofs.UnitedLaws.{are_half, are_kept, both_joined, may_be_joined, may_half, may_in_turn, passages_gathered, tests_from}
use Rattle.rc_spread.specs.United.{passing}
use Rattle.rc_spread.proofs.united.+by_sides.Goals as goal

pub in_turn-requires-clause-may : goal.in_turn-requires-clause-may
in_turn-requires-clause-may g t c =
    let m = c.requires.may in
    may_in_turn c.args.work.now c.args.passages.now c.args.bit c.requires.short m.sector m.sets m.flows m.are c.args.nodes.now m.allowed

pub returns-then-passages-le-FEW-clause-set : goal.returns-then-passages-le-FEW-clause-set
returns-then-passages-le-FEW-clause-set g t c =
    IfOk-weaker c.in_turn.result _ _
    (λ r made. λ sector sets flows are.
    subst (SeatKnows c.in_turn.new.work r.index) (passages_gathered c.args.work.now c.args.passages.now c.args.bit c.requires.short sector sets flows are)
    (made (λ q. within sector (sets q)) (passing (λ q. within sector (sets q)) (flows_within sector flows)) are.known))
    c.in_turn.ensures.set

pub sides_of-requires-clause-from : goal.sides_of-requires-clause-from
sides_of-requires-clause-from g t c =
    let m = c.requires.may in
    tests_from c.args.work.now c.args.passages.now c.args.bit c.requires.short m.sector m.sets m.flows m.are c.args.nodes.now c.requires.seat

pub sides_of-requires-2-clause-from : goal.sides_of-requires-2-clause-from
sides_of-requires-2-clause-from g t c =
    let m = c.requires.may in
    let now = c.sides_of.new.work in
    tests_from now c.args.passages.now c.args.bit c.requires.short m.sector m.sets m.flows (are_kept c.args.work.now now c.sides_of.ensures.keeps c.args.passages.now c.args.bit m.sector m.sets m.flows m.are) c.args.nodes.now c.sides_of.ensures.seat

pub by_sides-requires : goal.by_sides-requires
by_sides-requires g t c κs within =
    let m = c.requires.may in
    let less : c.args.bit < 32 = omega (arith, c.if-bit-ge-DESTINATION_BITS.false) in (
      omega (arith, c.decreases),
      (
        within,
        (
          c.sides_of-2.ensures.seat,
          (
            omega arith,
            may_half c.args.work.now c.sides_of.new.work c.sides_of-2.new.work c.args.passages.now c.in-Ok.lows.items c.as_slice.result.now c.args.bit false c.in-Ok.ensures.sides c.sides_of-2.ensures.keeps c.as_slice.ensures.value
                c.args.nodes.now m.sector m.sets m.flows m.are m.allowed,
          ),
        ),
      ),
    )

pub by_sides-requires-2 : goal.by_sides-requires-2
by_sides-requires-2 g t c κs within =
    let m = c.requires.may in
    let less : c.args.bit < 32 = omega (arith, c.if-bit-ge-DESTINATION_BITS.false) in (
      omega (arith, c.decreases),
      (
        within,
        (
          c.by_sides.ensures.seat,
          (
            omega arith,
            may_half c.sides_of.new.work c.sides_of-2.new.work c.by_sides.new.work c.args.passages.now c.in-Ok-sides_of.highs.items c.as_slice-2.result.now c.args.bit true c.in-Ok-sides_of.ensures.sides c.by_sides.ensures.keeps c.as_slice-2.ensures.value
                c.args.nodes.now m.sector m.sets m.flows (are_kept c.args.work.now c.sides_of.new.work c.sides_of.ensures.keeps c.args.passages.now c.args.bit m.sector m.sets m.flows m.are) m.allowed,
          ),
        ),
      ),
    )

pub branch-set-requires-clause-may : goal.branch-set-requires-clause-may
branch-set-requires-clause-may g t c =
    let m = c.requires.may in
    let before = c.args.work.now in
    let parted = c.sides_of.new.work in
    let passages = c.args.passages.now in
    let bit = c.args.bit in
    let less : bit < 32 = omega (arith, c.if-bit-ge-DESTINATION_BITS.false) in
    let low = c.in_ok-low.ensures.set (m.sector ++ false ∷ []) m.sets m.flows
    (are_half before parted c.sides_of-2.new.work passages c.in-Ok.lows.items c.as_slice.result.now bit false c.in-Ok.ensures.sides c.sides_of-2.ensures.keeps c.as_slice.ensures.value m.sector m.sets m.flows m.are) in
    let high = c.in_ok-high.ensures.set (m.sector ++ true ∷ []) m.sets m.flows
    (are_half parted c.sides_of-2.new.work c.by_sides.new.work passages c.in-Ok-sides_of.highs.items c.as_slice-2.result.now bit true c.in-Ok-sides_of.ensures.sides c.by_sides.ensures.keeps c.as_slice-2.ensures.value m.sector m.sets m.flows
    (are_kept before parted c.sides_of.ensures.keeps passages bit m.sector m.sets m.flows m.are)) in
    may_be_joined before passages bit c.requires.short m.sector m.sets m.flows m.are less c.by_sides-2.new.work c.in_ok-low.low.index c.in_ok-high.high.index (c.by_sides-2.ensures.keeps _ _ low) high c.args.nodes.now m.allowed

pub returns-in_Ok-set-clause-set : goal.returns-in_Ok-set-clause-set
returns-in_Ok-set-clause-set g t c = λ sector sets flows are.
    let before = c.args.work.now in
    let parted = c.sides_of.new.work in
    let passages = c.args.passages.now in
    let bit = c.args.bit in
    let less : bit < 32 = omega (arith, c.if-bit-ge-DESTINATION_BITS.false) in
    let low = c.in_ok-low.ensures.set (sector ++ false ∷ []) sets flows
    (are_half before parted c.sides_of-2.new.work passages c.in-Ok.lows.items c.as_slice.result.now bit false c.in-Ok.ensures.sides c.sides_of-2.ensures.keeps c.as_slice.ensures.value sector sets flows are) in
    let high = c.in_ok-high.ensures.set (sector ++ true ∷ []) sets flows
    (are_half parted c.sides_of-2.new.work c.by_sides.new.work passages c.in-Ok-sides_of.highs.items c.as_slice-2.result.now bit true c.in-Ok-sides_of.ensures.sides c.by_sides.ensures.keeps c.as_slice-2.ensures.value sector sets flows
    (are_kept before parted c.sides_of.ensures.keeps passages bit sector sets flows are)) in
    both_joined before passages bit c.requires.short sector sets flows are less c.by_sides-2.new.work c.in_ok-low.low.index c.in_ok-high.high.index (c.by_sides-2.ensures.keeps _ _ low) high c.branch-set.new.self c.in_Ok-set.set.index c.in_Ok-set.ensures.joined
