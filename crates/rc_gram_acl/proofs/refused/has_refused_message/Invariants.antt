use Rattle.std.proofs.Common.{◌≡◌, length}
use Rattle.std.specs.List.{list_any}
use Rattle.rc_openings.specs.Words.{words_left}
use Rattle.rc_gram_acl.specs.Refused.{is_refused_message}
use Rattle.rc_gram_acl.proofs.refused.has_refused_message.Given as goal

abbrev pub invariant-loop-word : goal.invariant-loop-word
invariant-loop-word l = list_any is_refused_message (words_left l.rest) ≡ list_any is_refused_message (words_left l.fn.words)

abbrev pub decreases-loop-word : goal.decreases-loop-word
decreases-loop-word l = length (words_left l.rest)
