use Rattle.std.proofs.Common.{◌≡◌, ◌≤◌, ◌-◌, eqb}
use Rattle.std.specs.Prelude.{find}
use Rattle.std.specs.List.{range_with_len}
use Rattle.rc_base.specs.Addr.{mask, mask_len}
use Rattle.rc_base.proofs.addr.len_of.Given as goal

abbrev pub invariant-loop-len : goal.invariant-loop-len
invariant-loop-len l = record { most : l.len ≤ 33; same : find (λ n. eqb (mask n) l.mask) (range_with_len l.len (33 - l.len)) ≡ mask_len l.mask }

abbrev pub decreases-loop-len : goal.decreases-loop-len
decreases-loop-len l = 33 - l.len
