-- The numbers of a file's refusals. Nothing is decided by them.
use Rattle.std.specs.Prelude.{ℕ}
use Rattle.rc_openings.specs.Reading.{code_of}
use Rattle.rc_grammar.specs.declared.refusal.FileCause.{FileCause}
use Rattle.rc_grammar.specs.declared.refusal.FileCause.TheVariants.{Line, LineTooLong, NoHostName, OpenBanner, TooManyInterfaces}

-- the number of a refusal of a file
abbrev pub cause_code : FileCause → ℕ
cause_code (Line refusal) = code_of refusal
cause_code LineTooLong = 5
cause_code NoHostName = 6
cause_code OpenBanner = 7
cause_code TooManyInterfaces = 12
