use Rattle.std.proofs.Common.{◌≡◌, drop, map}
use Rattle.rc_gram_acl.specs.NumberName.{number_named, row_of}
use Rattle.rc_gram_acl.proofs.number_name.number_named.Given as goal

abbrev pub invariant-loop-row : goal.invariant-loop-row
invariant-loop-row l = number_named (map row_of (drop l.row-index l.rows)) l.word ≡ number_named (map row_of l.rows) l.word
