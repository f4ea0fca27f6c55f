-- One line more: a refusal stays, and what is left gives the same answer.
use Rattle.std.proofs.Common.{◌≡◌, List, [], ◌∷◌, Ok, Err, refl, ap, ◌∙◌, sym, subst}
use Rattle.rc_lines.specs.Lines.{TextLine}
use Rattle.std.specs.Prelude.{Result}
use Rattle.rc_grammar.specs.File.{step, with_lines, Fails}
use Rattle.rc_grammar.specs.declared.refusal.ReadError.{ReadError}
use Rattle.rc_grammar.specs.declared.refusal.ReadError.TheVariants as error
use Rattle.rc_grammar.specs.declared.reading.Reading.{Reading}
use Rattle.rc_grammar.specs.declared.refusal.FileRefusal.{FileRefusal}
use Rattle.rc_grammar.specs.Grammars.{says}

pub with_lines-Err : (refusal : FileRefusal) (lines : List TextLine) → with_lines says (Err refusal) lines ≡ Err refusal
with_lines-Err refusal [] = refl
with_lines-Err refusal (line ∷ lines) = with_lines-Err refusal lines

fails-lines : (e : ReadError) (r : Reading) (line : TextLine) (rest : List TextLine) → Fails e (step says r line) → Fails e (with_lines says (Ok r) (line ∷ rest))
fails-lines error.Memory r line rest h = tt
fails-lines (error.Refused refusal) r line rest h = ap (λ (s : Result Reading FileRefusal). with_lines says s rest) h ∙ with_lines-Err refusal rest

-- where a line fails, all lines do
pub failed : (e : ReadError) (r : Reading) (line : TextLine) (lines rest : List TextLine) (all : Result Reading FileRefusal) → with_lines says (Ok r) lines ≡ all → lines ≡ line ∷ rest → Fails e (step says r line) → Fails e all
failed e r line lines rest all same is h =
    let here : with_lines says (Ok r) (line ∷ rest) ≡ all = ap (λ (ls : List TextLine). with_lines says (Ok r) ls) (sym is) ∙ same in
    subst (Fails e) here (fails-lines e r line rest h)

-- where a line is read, what is left says what all lines do
pub went-on : (r next : Reading) (line : TextLine) (lines rest : List TextLine) (all : Result Reading FileRefusal) → with_lines says (Ok r) lines ≡ all → lines ≡ line ∷ rest → step says r line ≡ Ok next → with_lines says (Ok next) rest ≡ all
went-on r next line lines rest all same is e =
    ap (λ (s : Result Reading FileRefusal). with_lines says s rest) (sym e) ∙ (ap (λ (ls : List TextLine). with_lines says (Ok r) ls) (sym is) ∙ same)
