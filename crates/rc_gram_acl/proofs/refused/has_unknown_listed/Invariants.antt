use Rattle.std.proofs.Common.{◌≡◌, length}
use Rattle.std.specs.List.{list_any}
use Rattle.rc_openings.specs.Words.{words_left}
use Rattle.rc_gram_acl.specs.Port.{until_end}
use Rattle.rc_gram_acl.specs.Values.{is_unknown_port}
use Rattle.rc_gram_acl.proofs.refused.has_unknown_listed.Given as goal

abbrev pub invariant-loop-word : goal.invariant-loop-word
invariant-loop-word l = list_any is_unknown_port (until_end l.side (words_left l.rest)) ≡ list_any is_unknown_port (until_end l.side (words_left l.fn.words))

abbrev pub decreases-loop-word : goal.decreases-loop-word
decreases-loop-word l = length (words_left l.rest)
