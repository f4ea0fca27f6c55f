use Rattle.std.proofs.Common.{rules, ◌≡◌, ◌<◌, ◌∙◌, [], length, slice_index_or}
use Rattle.std.proofs.lemmas.List.{get_or_default}
use Rattle.rc_spread.proofs.AloneLaws.{all_led, next_led}
use Rattle.rc_spread.proofs.alone.led_to.Goals as goal

pub loop-p-preserved : goal.loop-p-preserved
loop-p-preserved c =
    let out = c.args.out.now in
    let p = slice_index_or c.args.from.now c.loop-p.p-index 0 in
    let low : p < length out = c.requires.from c.loop-p.p-index 0 c.loop-p-test.true in
    let row : c.as_slice.result.now ≡ slice_index_or out p c.as_slice.result.now = search rules in
    let step = c.in_ok-note_led.ensures in
    record {
      many = step.many ∙ c.loop-p.invariant.many;
      listed = step.listed;
      led = next_led out c.args.from.now c.loop-p.p-index c.as_slice.result.now c.loop-p.found.items c.note_led.new.found.items (row ∙ get_or_default out p c.as_slice.result.now [] low) step.kept step.noted c.loop-p.invariant.led;
    }

pub returns : goal.returns
returns c =
    all_led c.args.out.now c.args.from.now c.loop-p.p-index c.loop-p.marked.items c.loop-p.found.items c.loop-p-test.false c.loop-p.invariant.many c.loop-p.invariant.listed c.loop-p.invariant.led
