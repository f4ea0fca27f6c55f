use Rattle.std.proofs.Common.{subst, ◌<◌, ◌∙◌}
use Rattle.rc_spf.proofs.Queues.{rising_nearest_at}
use Rattle.rc_spf.proofs.queue.Rising.pop.Goals as goal

pub returns-then-self-len-clause-least : goal.returns-then-self-len-clause-least
returns-then-self-len-clause-least c =
    let long = c.len.ensures ∙ (c.self.inside.entries.ok).0 in
    rw (← c.self.view_is) (rising_nearest_at _ _ _ c.self.invariant (subst (λ n. c.self.inside.gone < n) long c.if-self-len.true) c.index-first.ensures)
