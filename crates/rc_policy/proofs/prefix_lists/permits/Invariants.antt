use Rattle.std.proofs.Common.{◌≡◌}
use Rattle.rc_policy.specs.Policy.{prefix_list_permits}
use Rattle.rc_policy.proofs.prefix_lists.permits.Given as goal

-- the lines that are left decide
abbrev pub invariant-loop-line : goal.invariant-loop-line
invariant-loop-line l = prefix_list_permits (record { lines = l.line-iterator }) l.prefix ≡ prefix_list_permits l.list l.prefix
