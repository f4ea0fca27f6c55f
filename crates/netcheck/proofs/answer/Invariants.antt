use Rattle.std.proofs.Common.{◌≡◌, take, map}
use Rattle.std.specs.Prelude.{string_bytes}
use Rattle.netcheck.proofs.answer.Given as goal

abbrev pub invariant-loop-word : goal.invariant-loop-word
invariant-loop-word g l = map (λ w. w.now) l.words.items ≡ map string_bytes (take l.word-index l.given)
