use Rattle.std.proofs.Common.{◌≡◌, ◌++◌}
use Rattle.rc_as_path.proofs.as_path.AsPath.prepend_all.Given as goal

-- the numbers that are left, before the path so far
abbrev pub invariant-loop-asn : goal.invariant-loop-asn
invariant-loop-asn l = l.asn-iterator.iter.rest.now ++ l.path ≡ l.numbers ++ l.self
