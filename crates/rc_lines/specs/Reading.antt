-- A file as its reader sees it: lines that are read one by one, and banners, which are passed over.
use Rattle.std.specs.Prelude.{◌≡◌, ◌↔◌, ℕ, ◌+◌, true, false, List, [], ◌∷◌, ◌++◌, length, Some, None}
use Rattle.std.specs.List.{AllByRecursion}
use Rattle.std.specs.Str.Lines.{lines}
use Rattle.rc_lines.specs.Banners.{Opened, holds, is_banner, opened}
use Rattle.rc_lines.specs.Lines.{TextLine, lines_of}
use Rattle.rc_lines.specs.declared.banner.Part.{Part}
use Rattle.rc_lines.specs.declared.banner.Part.TheVariants.{Plain, InBanner, Banner, ShortBanner, OpenBanner}

abbrev pub line : ℕ → List ℕ → Part → TextLine
line n text part = record { number = n; text = text; part = part }

-- the later lines of a banner, the first of them n
abbrev pub inside : ℕ → List (List ℕ) → List TextLine
inside n [] = []
inside n (text ∷ texts) = line n text InBanner ∷ inside (n + 1) texts

-- a banner's first line, which gives this delimiter
pub record Opens (text : List ℕ) (o : Opened) : Type 0 where
  pub banner : is_banner text ≡ true
  pub delimiter : opened text ≡ Some o

-- its delimiter comes again on its own line, or doesn't
abbrev pub ClosesItself : List ℕ → Opened → Type 0
ClosesItself text o = Opens text o × (holds o.delimiter o.behind ≡ true)

abbrev pub StaysOpen : List ℕ → Opened → Type 0
StaysOpen text o = Opens text o × (holds o.delimiter o.behind ≡ false)

-- none of these lines holds the delimiter
abbrev pub HasNone : Opened → List (List ℕ) → Type 0
HasNone o texts = AllByRecursion (λ t. holds o.delimiter t ≡ false) texts

-- The lines of a file, the first of them n. A banner ends on its own line where that holds the delimiter again, else with the first
-- later line that does, and where none does it is open to the end.
pub data AreLines : ℕ → List (List ℕ) → List TextLine → Type 0 where
  none : {n : ℕ} → AreLines n [] []
  plain : {n : ℕ} {text : List ℕ} {texts : List (List ℕ)} {ls : List TextLine} → is_banner text ≡ false → AreLines (n + 1) texts ls → AreLines n (text ∷ texts) (line n text Plain ∷ ls)
  short : {n : ℕ} {text : List ℕ} {texts : List (List ℕ)} {ls : List TextLine} → is_banner text ≡ true → opened text ≡ None → AreLines (n + 1) texts ls
      → AreLines n (text ∷ texts) (line n text ShortBanner ∷ ls)
  closed_there : {n : ℕ} {text : List ℕ} {o : Opened} {texts : List (List ℕ)} {ls : List TextLine} → ClosesItself text o → AreLines (n + 1) texts ls → AreLines n (text ∷ texts) (line n text Banner ∷ ls)
  closed_later : {n : ℕ} {text : List ℕ} {o : Opened} (between : List (List ℕ)) (last : List ℕ) (texts : List (List ℕ)) {ls : List TextLine} → StaysOpen text o
      → HasNone o between → holds o.delimiter last ≡ true → AreLines (n + 1 + length between + 1) texts ls
      → AreLines n (text ∷ (between ++ last ∷ texts)) (line n text Banner ∷ (inside (n + 1) (between ++ last ∷ []) ++ ls))
  never_closed : {n : ℕ} {text : List ℕ} {o : Opened} {texts : List (List ℕ)} → StaysOpen text o → HasNone o texts → AreLines n (text ∷ texts) (line n text OpenBanner ∷ inside (n + 1) texts)

-- the lines that the cursor gives are those of the file, and no others are
abbrev pub AreGiven : Type 0
AreGiven = (bytes : List ℕ) (ls : List TextLine) → AreLines 1 (lines bytes) ls ↔ (ls ≡ lines_of bytes)
