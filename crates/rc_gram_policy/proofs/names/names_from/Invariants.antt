use Rattle.std.proofs.Common.{◌≡◌, length}
use Rattle.rc_base.specs.Name.{name_of}
use Rattle.rc_openings.specs.Words.{words_left}
use Rattle.rc_gram_policy.specs.Parts.{values_in_front}
use Rattle.rc_gram_policy.proofs.Front.{all_followed}
use Rattle.rc_gram_policy.proofs.names.names_from.Given as goal

-- the names so far, and then those of what is left
abbrev pub invariant-loop-word : goal.invariant-loop-word
invariant-loop-word l = record {
  same : all_followed l.names (values_in_front name_of (words_left l.behind)) ≡ values_in_front name_of (words_left l.fn.words);
  kept : words_left l.rest ≡ words_left l.behind;
}

abbrev pub decreases-loop-word : goal.decreases-loop-word
decreases-loop-word l = length (words_left l.behind)
