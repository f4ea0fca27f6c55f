use Rattle.std.proofs.Common.{◌≡◌, length}
use Rattle.rc_link_state.specs.Areas.{AreAttachedTo}
use Rattle.rc_link_state.proofs.area.attachments.Given as goal

abbrev pub invariant-loop-router : goal.invariant-loop-router
invariant-loop-router l = (length l.lists.items ≡ l.router) × AreAttachedTo l.router l.networks l.lists.items
