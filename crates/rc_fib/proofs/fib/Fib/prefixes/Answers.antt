use Rattle.std.proofs.Common.{ap, sym, ◌∙◌, map}
use Rattle.rc_fib.specs.Entry.{Entry}
use Rattle.rc_fib.proofs.StretchLaws.{prefixes_are}
use Rattle.rc_fib.proofs.fib.Fib.prefixes.Goals as goal

pub returns-clause-value : goal.returns-clause-value
returns-clause-value c = c.as_slice.ensures ∙ sym (prefixes_are 0 c.self.inside.prefixes c.self.inside.stretches c.self.invariant.0) ∙ ap (map (λ (e : Entry). e.prefix)) c.self.view_is
