-- Why a file has no model, where one of its lines gave nothing.
use Rattle.std.specs.Prelude.{ℕ}
use Rattle.rc_openings.specs.declared.reading.LineError.{LineError}
use Rattle.rc_openings.specs.declared.reading.LineError.TheVariants.{Refused, Memory}
use Rattle.rc_grammar.specs.declared.refusal.FileCause.TheVariants.{Line}
use Rattle.rc_grammar.specs.declared.refusal.ReadError.{ReadError}
use Rattle.rc_grammar.specs.declared.refusal.ReadError.TheVariants as read

-- the line of this number gave nothing
abbrev pub failed_at : ℕ → LineError → ReadError
failed_at number (Refused refusal) = read.Refused (record { line = number; cause = Line refusal })
failed_at number Memory = read.Memory
