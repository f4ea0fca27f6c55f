use Rattle.clap.specs.Words.{App}
use Rattle.rc_words.specs.Arguments.{IsTold}
use Rattle.rc_words.proofs.ArgumentLaws.{AreLeft}
use Rattle.rc_words.proofs.app.with_arguments.Given as goal

abbrev pub invariant-loop-argument : goal.invariant-loop-argument
invariant-loop-argument l = (a : App) → IsTold l.fn.command a → AreLeft a l.command l.arguments l.argument-index
