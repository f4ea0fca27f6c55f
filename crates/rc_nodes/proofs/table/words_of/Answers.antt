use Rattle.std.proofs.Common.{sym, ap, ◌∙◌, ◌∷◌, ◌++◌, []}
use Rattle.std.specs.Slots.{slots_items}
use Rattle.rc_nodes.proofs.CloseLaws.{taken_more}
use Rattle.rc_nodes.proofs.table.words_of.Goals as goal

pub loop-slot-preserved : goal.loop-slot-preserved
loop-slot-preserved c = record { so_far = c.in_ok-push.ensures.items ∙ ap (λ ws. ws ++ c.word.result ∷ []) c.loop-slot.invariant.so_far ∙ sym (taken_more (slots_items c.args.closed.now.words) c.loop-slot.slot c.word.result c.word.ensures) }
