-- The refusal of a file is that of the least line that is refused, where every line before it is taken.
use Rattle.std.proofs.Common.{◌≡◌, ◌∙◌, ℕ, ◌+◌, Bool, true, false, cond, List, [], ◌∷◌, ◌++◌, length, drop, is_some, Option, Some, None, Ok, Err, refl, sym, ap, subst, arith}
use Rattle.std.specs.Prelude.{Result}
use Rattle.std.specs.Str.Lines.{lines}
use Rattle.rc_openings.specs.Words.{words_of}
use Rattle.rc_openings.specs.declared.reading.LineRefusal.{LineRefusal}
use Rattle.rc_lines.specs.Banners.{open_after}
use Rattle.rc_lines.specs.Lines.{TextLine, lines_of, is_too_long, numbered}
use Rattle.rc_lines.specs.declared.banner.Delimiter.{Delimiter}
use Rattle.rc_lines.specs.declared.banner.Part.{Part}
use Rattle.rc_lines.specs.declared.banner.Part.TheVariants as part
use Rattle.rc_config.specs.declared.command.Command.{Command}
use Rattle.rc_config.specs.declared.router_text.HostLine.{HostLine}
use Rattle.rc_grammar.specs.File.{IsRefusal, RefusesTheFirst, at_line, at_line_of, by_part, interface_of, is_one_too_many, is_passed, read_by, refused, said, start, step, with_answer, with_command, with_host, with_lines, without_host}
use Rattle.rc_grammar.specs.declared.reading.Reading.{Reading}
use Rattle.rc_grammar.specs.declared.refusal.FileCause.TheVariants.{NoHostName}
use Rattle.rc_grammar.specs.declared.refusal.FileRefusal.{FileRefusal}
use Rattle.rc_grammar.proofs.Refused.{with_lines-Err}
use Rattle.rc_grammar.specs.Grammars.{says}

abbrev Read : Type 0
Read = Result Reading FileRefusal

-- ---- a refusal names its line
abbrev Names : ℕ → Read → Type 0
Names n (Ok r) = Unit {0}
Names n (Err refusal) = refusal.line ≡ n

either-names : (n : ℕ) (b : Bool) (x y : Read) → Names n x → Names n y → Names n (cond b x y)
either-names n true x y p q = p
either-names n false x y p q = q

command-names : (n : ℕ) (r : Reading) (m : Command) → Names n (with_command n r m)
command-names n r m = either-names n (is_one_too_many r.file (interface_of m)) _ _ refl tt

answer-names : (n : ℕ) (r : Reading) (a : Result Command LineRefusal) → Names n (with_answer n r a)
answer-names n r (Ok m) = command-names n r m
answer-names n r (Err refusal) = refl

part-names : (r : Reading) (l : TextLine) (p : Part) → Names l.number (by_part says r l p)
part-names r l part.Plain = either-names l.number (is_passed (words_of l.text)) _ _ tt (answer-names l.number (at_line r l.text) (said says (at_line r l.text) l))
part-names r l part.InBanner = tt
part-names r l part.Banner = tt
part-names r l part.ShortBanner = refl
part-names r l part.OpenBanner = refl

step-names : (r : Reading) (l : TextLine) → Names l.number (step says r l)
unfolding step
step-names r l = either-names l.number (is_too_long l.text) _ _ refl (part-names r l l.part)

-- ---- lines are numbered from 1
abbrev head_number : List TextLine → ℕ
head_number [] = 0
head_number (l ∷ ls) = l.number

number-of : (texts : List (List ℕ)) (before : List TextLine) (d : Option Delimiter) (n : ℕ) (line : TextLine) (later : List TextLine) → numbered d n texts ≡ before ++ line ∷ later → line.number ≡ n + length before
number-of [] [] d n line later e = absurd (cc)
number-of [] (b ∷ before) d n line later e = absurd (cc)
number-of (t ∷ texts) [] d n line later e = let first : n ≡ line.number = ap head_number e in omega arith
number-of (t ∷ texts) (b ∷ before) d n line later e = let rest = number-of texts before (open_after d t) (n + 1) line later (ap (drop 1) e) in omega arith

-- ---- where lines are refused, one is, and those before it are taken
record IsSplit (r : Reading) (ls : List TextLine) (refusal : FileRefusal) : Type 0 where
  before : List TextLine
  line : TextLine
  later : List TextLine
  reading : Reading
  split : ls ≡ before ++ line ∷ later
  taken : with_lines says (Ok r) before ≡ Ok reading
  refused : step says reading line ≡ Err refusal

split-of : (r : Reading) (ls : List TextLine) (refusal : FileRefusal) → with_lines says (Ok r) ls ≡ Err refusal → IsSplit r ls refusal
split-of r [] refusal e = absurd (cc)
split-of r (line ∷ ls) refusal e = by (step says r line) refl (λ next. split-of next ls refusal) e
  where
    by : (read : Read) → step says r line ≡ read → ((next : Reading) → with_lines says (Ok next) ls ≡ Err refusal → IsSplit next ls refusal) → with_lines says read ls ≡ Err refusal → IsSplit r (line ∷ ls) refusal
    by (Err x) is rest e = record { before = []; line = line; later = ls; reading = r; split = refl; taken = refl; refused = is ∙ (sym (with_lines-Err x ls) ∙ e) }
    by (Ok next) is rest e =
        let found = rest next e in
        record {
          before = line ∷ found.before;
          line = found.line;
          later = found.later;
          reading = found.reading;
          split = ap (λ (ms : List TextLine). line ∷ ms) found.split;
          taken = ap (λ (s : Read). with_lines says s found.before) is ∙ found.taken;
          refused = found.refused;
        }

with_lines-append : (read : Read) (ls more : List TextLine) → with_lines says read (ls ++ more) ≡ with_lines says (with_lines says read ls) more
with_lines-append read [] more = refl
with_lines-append (Ok r) (line ∷ ls) more = with_lines-append (step says r line) ls more
with_lines-append (Err x) (line ∷ ls) more = with_lines-append (Err x) ls more

abbrev err_of : {A : Type 0} → Result A FileRefusal → FileRefusal → FileRefusal
err_of (Ok x) other = other
err_of (Err refusal) other = refusal

pub first_refusal : RefusesTheFirst
unfolding read_by
first_refusal bytes refusal = (λ e. from (with_lines says (Ok start) (lines_of bytes)) refl e, back)
  where
    unnamed : (reading : Reading) (host : Option HostLine) → reading.file.host ≡ host → with_lines says (Ok start) (lines_of bytes) ≡ Ok reading → cond (is_some host) (Ok reading.file) (refused 0 NoHostName) ≡ Err refusal → IsRefusal bytes refusal
    unnamed reading (Some host) has is e = absurd (cc)
    unnamed reading None has is e = without_host reading is has (sym (ap (λ r. err_of r refusal) e))

    from : (read : Read) → with_lines says (Ok start) (lines_of bytes) ≡ read → with_host read ≡ Err refusal → IsRefusal bytes refusal
    from (Ok reading) is e = unnamed reading reading.file.host refl is e
    from (Err x) is e =
        let same : x ≡ refusal = ap (λ r. err_of r refusal) e in
        let found = split-of start (lines_of bytes) refusal (is ∙ ap Err same) in
        let named : refusal.line ≡ found.line.number = subst (Names found.line.number) found.refused (step-names found.reading found.line) in
        let number = number-of (lines bytes) found.before None 1 found.line found.later found.split in
        at_line_of found.before found.line found.later found.reading found.split found.taken found.refused (omega arith)

    back : IsRefusal bytes refusal → with_host (with_lines says (Ok start) (lines_of bytes)) ≡ Err refusal
    back (without_host reading is none same) = ap with_host is ∙ ap (λ (h : Option HostLine). cond (is_some h) (Ok reading.file) (refused 0 NoHostName)) none ∙ ap Err (sym same)
    back (at_line_of before line later reading split taken bad number) =
        ap with_host
        (ap (with_lines says (Ok start)) split ∙ with_lines-append (Ok start) before (line ∷ later) ∙ ap (λ (s : Read). with_lines says s (line ∷ later)) taken
        ∙ ap (λ (s : Read). with_lines says s later) bad ∙ with_lines-Err refusal later)
