use Rattle.std.proofs.Common.{◌≡◌, ◌≤◌, All, length}
use Rattle.rc_openings.specs.Words.{words_left}
use Rattle.rc_gram_policy.specs.Parts.{values_in_front}
use Rattle.rc_gram_policy.specs.Values.{as_number_of}
use Rattle.rc_gram_policy.proofs.Front.{all_followed}
use Rattle.rc_gram_policy.proofs.as_path.numbers_from.Given as goal

-- the numbers so far, and then those of what is left, and each so far is from 1 on
abbrev pub invariant-loop-word : goal.invariant-loop-word
invariant-loop-word l = record {
  same : all_followed l.numbers (values_in_front as_number_of (words_left l.behind)) ≡ values_in_front as_number_of (words_left l.fn.words);
  kept : words_left l.rest ≡ words_left l.behind;
  each : All (λ n. 1 ≤ n) l.numbers;
}

abbrev pub decreases-loop-word : goal.decreases-loop-word
decreases-loop-word l = length (words_left l.behind)
