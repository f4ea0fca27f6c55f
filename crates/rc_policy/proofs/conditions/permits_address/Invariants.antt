use Rattle.std.proofs.Common.{◌≡◌}
use Rattle.rc_policy.specs.Policy.{access_list_permits}
use Rattle.rc_policy.proofs.conditions.permits_address.Given as goal

-- the lines that are left decide
abbrev pub invariant-loop-line : goal.invariant-loop-line
invariant-loop-line l = access_list_permits (record { kind = l.access_list.kind; lines = l.line-iterator }) l.addr ≡ access_list_permits l.access_list l.addr
