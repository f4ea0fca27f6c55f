-- A line does what its answer says.
use Rattle.std.proofs.Common.{◌≡◌, Ok, ap, sym, subst}
use Rattle.std.specs.Prelude.{Result}
use Rattle.rc_openings.specs.Reading.{Fails as LineFails}
use Rattle.rc_openings.specs.declared.reading.LineError.{LineError}
use Rattle.rc_openings.specs.declared.reading.LineError.TheVariants as error
use Rattle.rc_openings.specs.declared.reading.LineRefusal.{LineRefusal}
use Rattle.rc_lines.specs.Lines.{TextLine}
use Rattle.rc_config.specs.declared.command.Command.{Command}
use Rattle.rc_config.specs.declared.command.Command.TheVariants as command
use Rattle.rc_grammar.specs.File.{failed_at, open_after, said, with_answer, with_command, with_said, Fails, Leaves}
use Rattle.rc_grammar.specs.declared.reading.Reading.{Reading}
use Rattle.rc_grammar.specs.declared.refusal.ReadError.{ReadError}
use Rattle.rc_grammar.specs.Grammars.{says}

-- it is passed over
pub said-passed : (r : Reading) (l : TextLine) → said says r l ≡ Ok command.Passed → with_said says r l ≡ Ok (record r { block = open_after r.block command.Passed })
said-passed r l is = ap (with_answer l.number r) is

-- a command changes the model
pub said-command : {T : Type 0} (result : Result T ReadError) (r made : Reading) (l : TextLine) (m : Command) → said says r l ≡ Ok m → Leaves result made (with_command l.number r m) → Leaves result made (with_said says r l)
said-command result r made l m is h = subst (λ (a : Result Command LineRefusal). Leaves result made (with_answer l.number r a)) (sym is) h

-- and where it gives none the file has no model
pub said-fails : (r : Reading) (l : TextLine) (e : LineError) → LineFails e (said says r l) → Fails (failed_at l.number e) (with_said says r l)
said-fails r l (error.Refused refusal) is = ap (with_answer l.number r) is
said-fails r l error.Memory is = tt
