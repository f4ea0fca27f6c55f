use Rattle.std.proofs.Common.{arith, sym, ap, ◌∙◌, ◌≡◌, ◌≢◌, ◌<◌, length, slice_index_or}
use Rattle.rc_sectors.proofs.CutLaws.{is_there}
use Rattle.rc_sectors.proofs.TogetherLaws.{one_made, is_short, stand_low, stand_high, may_branch, both_made, may_kept}
use Rattle.rc_sectors.proofs.together.+put_together.Goals as goal

pub bounds-sectors-at : goal.bounds-sectors-at
bounds-sectors-at g t c =
    let w = c.requires.stand in
    is_there c.args.sectors.now c.args.at w.sector w.halves w.stand

pub bounds-sets-at : goal.bounds-sets-at
bounds-sets-at g t c =
    let w = c.requires.stand in
    let many = c.requires.may.are.as_many in
    let less : c.args.at < length c.args.sectors.now = is_there c.args.sectors.now c.args.at w.sector w.halves w.stand in
    omega arith

pub returns-then-len-bits-clause-made : goal.returns-then-len-bits-clause-made
returns-then-len-bits-clause-made g t c =
    let d = c.index-sectors-at.result in
    let same : length (slice_index_or c.args.sectors.now c.args.at d) ≡ c.args.bits = sym (ap length c.index-sectors-at.is) ∙ sym c.len.ensures ∙ c.if-len-bits.true in
    one_made c.args.sectors.now c.args.at c.args.bits d same c.args.work.now c.args.sets.now (record { index = 0 }) c.requires.stand

pub overflow_add-bits : goal.overflow_add-bits
overflow_add-bits g t c =
    let d = c.index-sectors-at.result in
    let differ : length (slice_index_or c.args.sectors.now c.args.at d) ≢ c.args.bits = λ e. c.if-len-bits.false (c.len.ensures ∙ ap length c.index-sectors-at.is ∙ e) in
    let short : c.args.bits < 32 = is_short c.args.sectors.now c.args.at c.args.bits d differ c.requires.may.cut c.requires.stand in
    omega arith

pub put_together-requires : goal.put_together-requires
put_together-requires g t c κs within =
    let d = c.index-sectors-at.result in
    let differ : length (slice_index_or c.args.sectors.now c.args.at d) ≢ c.args.bits = λ e. c.if-len-bits.false (c.len.ensures ∙ ap length c.index-sectors-at.is ∙ e) in
    let short : c.args.bits < 32 = is_short c.args.sectors.now c.args.at c.args.bits d differ c.requires.may.cut c.requires.stand in
    (omega (arith, c.decreases), (within, (c.requires.seat, (c.requires.may, stand_low c.args.sectors.now c.args.at c.args.bits d differ c.requires.stand))))

pub overflow_add-bits-2 : goal.overflow_add-bits-2
overflow_add-bits-2 g t c =
    let d = c.index-sectors-at.result in
    let differ : length (slice_index_or c.args.sectors.now c.args.at d) ≢ c.args.bits = λ e. c.if-len-bits.false (c.len.ensures ∙ ap length c.index-sectors-at.is ∙ e) in
    let short : c.args.bits < 32 = is_short c.args.sectors.now c.args.at c.args.bits d differ c.requires.may.cut c.requires.stand in
    omega arith

pub put_together-requires-2 : goal.put_together-requires-2
put_together-requires-2 g t c κs within =
    let d = c.index-sectors-at.result in
    let differ : length (slice_index_or c.args.sectors.now c.args.at d) ≢ c.args.bits = λ e. c.if-len-bits.false (c.len.ensures ∙ ap length c.index-sectors-at.is ∙ e) in
    let short : c.args.bits < 32 = is_short c.args.sectors.now c.args.at c.args.bits d differ c.requires.may.cut c.requires.stand in
    let low = c.put_together.ensures in (
      omega (arith, c.decreases),
      (
        within,
        (
          low.seat,
          (
            may_kept c.args.nodes.now c.args.work.now c.put_together.new.work c.args.sectors.now c.args.sets.now low.keeps c.requires.may,
            stand_high c.args.sectors.now c.args.at c.args.bits d differ c.args.work.now c.put_together.new.work c.args.sets.now c.in_ok-low.low.index c.in_ok-low.middle c.in_ok-low.ensures.made c.requires.stand,
          ),
        ),
      ),
    )

pub branch-work-requires-clause-may : goal.branch-work-requires-clause-may
branch-work-requires-clause-may g t c =
    let d = c.index-sectors-at.result in
    let differ : length (slice_index_or c.args.sectors.now c.args.at d) ≢ c.args.bits = λ e. c.if-len-bits.false (c.len.ensures ∙ ap length c.index-sectors-at.is ∙ e) in
    may_branch c.args.sectors.now c.args.at c.args.bits d differ c.args.work.now c.put_together.new.work c.args.sets.now c.in_ok-low.low.index c.in_ok-low.middle c.in_ok-low.ensures.made
    c.put_together-2.new.work c.in_ok-high.high.index c.in_ok-high.end c.put_together.ensures.keeps c.put_together-2.ensures.keeps c.in_ok-high.ensures.made
    c.args.nodes.now c.requires.may c.requires.stand

pub returns-clause-made : goal.returns-clause-made
returns-clause-made g t c =
    let d = c.index-sectors-at.result in
    let differ : length (slice_index_or c.args.sectors.now c.args.at d) ≢ c.args.bits = λ e. c.if-len-bits.false (c.len.ensures ∙ ap length c.index-sectors-at.is ∙ e) in
    both_made c.args.sectors.now c.args.at c.args.bits d differ c.args.work.now c.put_together.new.work c.args.sets.now c.in_ok-low.low.index c.in_ok-low.middle c.in_ok-low.ensures.made
    c.put_together-2.new.work c.in_ok-high.high.index c.in_ok-high.end c.put_together.ensures.keeps c.put_together-2.ensures.keeps c.in_ok-high.ensures.made
    c.branch-work.new.self c.in_ok-set.set.index c.requires.may.cut c.in_ok-set.ensures.joined

pub returns-in_err-high-clause-keeps : goal.returns-in_err-high-clause-keeps
returns-in_err-high-clause-keeps g t c = λ r u k. c.put_together-2.ensures.keeps r u (c.put_together.ensures.keeps r u k)

pub returns-in_err-set-clause-keeps : goal.returns-in_err-set-clause-keeps
returns-in_err-set-clause-keeps g t c = λ r u k. c.branch-work.ensures.keeps r u (c.put_together-2.ensures.keeps r u (c.put_together.ensures.keeps r u k))

pub returns-clause-keeps : goal.returns-clause-keeps
returns-clause-keeps g t c = λ r u k. c.branch-work.ensures.keeps r u (c.put_together-2.ensures.keeps r u (c.put_together.ensures.keeps r u k))
