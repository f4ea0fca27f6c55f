use Rattle.std.proofs.Common.{◌≡◌, ◌≤◌, length}
use Rattle.std.specs.Prelude.{IfSome}
use Rattle.rc_openings.specs.Words.{words_left}
use Rattle.rc_gram_ospf.specs.RedistributeOptions.{options_in, options_behind}
use Rattle.rc_gram_ospf.proofs.redistribute_options.read_options.Given as goal

-- what is left, behind what was read, says what all words say
abbrev pub invariant-loop-word : goal.invariant-loop-word
invariant-loop-word l = record {
  same : options_behind l.so_far (words_left l.words) ≡ options_in (words_left l.fn.words);
  within : IfSome l.so_far.metric (λ n. n ≤ 16777214);
}

abbrev pub decreases-loop-word : goal.decreases-loop-word
decreases-loop-word l = length (words_left l.words)
