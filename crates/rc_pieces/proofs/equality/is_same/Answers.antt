use Rattle.std.proofs.Common.{refl, arith}
use Rattle.rc_pieces.proofs.SameLaws.{same_elements}
use Rattle.rc_pieces.proofs.equality.is_same.Goals as goal

-- each router was seen
pub returns : goal.returns
returns c = ((λ _. same_elements c.args.a.now c.args.b.now c.requires (λ k less. c.loop-index.invariant k (omega (arith, less, c.len-index-end.ensures, c.loop-index-test.false)))), (λ _. refl))
