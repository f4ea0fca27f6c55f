use Rattle.std.proofs.Common.{List, sym, subst}
use Rattle.rc_fib.specs.Stretches.{AreStretches}
use Rattle.rc_fib.specs.declared.stretch.Stretch.{Stretch}
use Rattle.rc_fib.proofs.StretchLaws.{stretches_are}
use Rattle.rc_fib.proofs.fib.Fib.stretches.Goals as goal

pub returns : goal.returns
returns c =
    subst (λ (ss : List Stretch). AreStretches 0 ss c.args.self.now) (sym c.as_slice.ensures)
    (subst (AreStretches 0 c.self.inside.stretches) c.self.view_is (stretches_are 0 c.self.inside.prefixes c.self.inside.stretches c.self.invariant.0))
