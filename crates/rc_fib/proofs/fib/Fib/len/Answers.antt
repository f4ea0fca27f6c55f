use Rattle.std.proofs.Common.{ap, ◌∙◌, length}
use Rattle.rc_fib.proofs.StretchLaws.{as_many}
use Rattle.rc_fib.proofs.fib.Fib.len.Goals as goal

pub returns : goal.returns
returns c = c.len.ensures ∙ as_many c.self.inside.prefixes c.self.inside.stretches c.self.invariant.0 ∙ ap length c.self.view_is
