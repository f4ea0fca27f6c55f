use Rattle.std.proofs.Common.{◌≡◌, [], replicate}
use Rattle.rc_link_state.proofs.by_router.ByRouter.of_none.Given as goal

abbrev pub invariant-loop : goal.invariant-loop
invariant-loop g l = l.lists.items ≡ replicate l.counter []
