use Rattle.std.proofs.Common.{◌≡◌, vec_len}
use Rattle.rc_spf.proofs.Grouping.{AllEmpty}
use Rattle.rc_spf.proofs.groups.empty_groups.Given as goal

abbrev pub invariant-loop : goal.invariant-loop
invariant-loop l = (vec_len l.groups ≡ l.counter) × AllEmpty l.groups.items
