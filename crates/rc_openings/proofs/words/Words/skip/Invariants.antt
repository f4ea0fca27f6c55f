use Rattle.std.proofs.Common.{◌≡◌, ◌-◌, drop}
use Rattle.rc_openings.specs.Words.{words_left}
use Rattle.rc_openings.proofs.words.Words.skip.Given as goal

abbrev pub invariant-loop : goal.invariant-loop
invariant-loop l = drop (l.count - l.counter) (words_left l.self) ≡ drop l.fn.count (words_left l.fn.self)
