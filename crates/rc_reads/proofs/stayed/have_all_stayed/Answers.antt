use Rattle.std.proofs.Common.{refl, sym, ◌∙◌, arith}
use Rattle.rc_reads.proofs.ListLaws.{same_elements}
use Rattle.rc_reads.proofs.stayed.have_all_stayed.Goals as goal

-- each router was seen
pub returns : goal.returns
returns c = (
  λ _. sym (same_elements c.args.old.now c.args.now.now c.requires.long (λ k less. c.loop-index.invariant k (omega (arith, less, c.requires.long, c.len-index-end.ensures, c.loop-index-test.false)))),
  λ _. refl,
)
