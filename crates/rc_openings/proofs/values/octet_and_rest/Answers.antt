use Rattle.std.proofs.Common.{arith}
use borrow.Author.Tests.{ltb-true}
use Rattle.rc_openings.proofs.AddressLemmas.{no_octet}
use Rattle.rc_openings.proofs.values.octet_and_rest.Goals.{in_default-via-then-word-lt2, in_default-via-else-word-lt2+then-word-lt3+in_default-1, in_default-via-else-word-lt2+else-word-lt3+then-word-lt4+in_default+in_default-word-3, in_default-via-else-word-lt2+else-word-lt3+else-word-lt4+in_default+in_default-word-5+in_default-word-6}
use Rattle.rc_openings.proofs.values.octet_and_rest.Goals as goal

pub returns-in_default-clause-value : goal.returns-in_default-clause-value
returns-in_default-clause-value c =
    let word = c.args.word.now in
    elim c.in_default.branch [
      | in_default-via-then-word-lt2 w ↦ no_octet word (λ l e. omega (arith, ltb-true)) (λ l e. omega (arith, ltb-true)) (λ l e. omega (arith, ltb-true))
      | in_default-via-else-word-lt2+then-word-lt3+in_default-1 w ↦ no_octet word (λ l e. omega arith) (λ l e. omega (arith, ltb-true)) (λ l e. omega (arith, ltb-true))
      | in_default-via-else-word-lt2+else-word-lt3+then-word-lt4+in_default+in_default-word-3 w ↦ no_octet word (λ l e. omega arith) (λ l e. omega arith) (λ l e. omega (arith, ltb-true))
      | in_default-via-else-word-lt2+else-word-lt3+else-word-lt4+in_default+in_default-word-5+in_default-word-6 w ↦ no_octet word (λ l e. omega arith) (λ l e. omega arith) (λ l e. omega arith)
    ]
