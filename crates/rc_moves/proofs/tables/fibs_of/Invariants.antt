use Rattle.std.proofs.Common.{◌≡◌, ◌++◌, All, map, length}
use Rattle.rc_route.specs.Tables.{IsRouterState}
use Rattle.rc_route.specs.declared.state.RouterState.{RouterState}
use Rattle.rc_fib.specs.Entries.{IsFib}
use Rattle.rc_fib.specs.Forwarding.{resolved}
use Rattle.rc_moves.proofs.tables.fibs_of.Given as goal

-- what is prepared, and then what is left of the state prepared
abbrev pub invariant-loop-known : goal.invariant-loop-known
invariant-loop-known l = record {
  value : map (λ (s : RouterState). resolved s.table) l.fn.state ≡ l.fibs.items ++ map (λ (s : RouterState). resolved s.table) l.left.items;
  in_order : All IsFib l.fibs.items;
  left : All IsRouterState l.left.items;
}

abbrev pub decreases-loop-known : goal.decreases-loop-known
decreases-loop-known l = length l.left.items
