-- What a line says in a block: its opening decides, and the grammar of its form reads the words behind the opening.
use Rattle.std.specs.Prelude.{◌≡◌, ◌==◌, ℕ, Bool, false, not, ◌&&◌, ◌||◌, List, [], ◌∷◌, Option, Some, None, Result, Ok, Err, if◌then◌else◌, is_some, drop, length, codes}
use Rattle.std.specs.List.{list_any}
use Rattle.std.specs.Str.{bytes_eq}
use Rattle.rc_openings.specs.declared.block.Block.{Block}
use Rattle.rc_openings.specs.declared.block.Block.TheVariants as block
use Rattle.rc_openings.specs.declared.decision.Decision.{Decision as Found}
use Rattle.rc_openings.specs.declared.decision.Decision.TheVariants as found
use Rattle.rc_openings.specs.declared.form.Form.{Form as FormKind}
use Rattle.rc_openings.specs.declared.reading.LineError.{LineError}
use Rattle.rc_openings.specs.declared.reading.LineError.TheVariants as error
use Rattle.rc_openings.specs.declared.reading.LineRefusal.{LineRefusal}
use Rattle.rc_openings.specs.declared.reading.LineRefusal.TheVariants.{Unknown, Unsupported, BadValue, OutOfPlace}
use Rattle.rc_openings.specs.declared.opening.Verdict.{Verdict}
use Rattle.rc_openings.specs.declared.opening.Verdict.TheVariants as verdict
use Rattle.rc_openings.specs.Block.{rows_of, begins_form_anywhere}
use Rattle.rc_openings.specs.Opening.{Row, IsAnswer, begins_with, decisive_row}
use Rattle.rc_openings.specs.Values.{number_within}
use Rattle.rc_openings.specs.Words.{words_left, words_of}

-- the number of a refusal
abbrev pub code_of : LineRefusal → ℕ
code_of Unknown = 1
code_of Unsupported = 2
code_of BadValue = 3
code_of OutOfPlace = 4

-- one of these words is one of those
abbrev pub share_a_word : List (List ℕ) → List (List ℕ) → Bool
share_a_word ws refused = list_any (λ w. list_any (bytes_eq w) refused) ws

-- a line that fits no row of its form is not modelled where it has one of the form's refused words, and else has a bad value
abbrev pub judged : {C : Type 0} → List (List ℕ) → List (List ℕ) → Result C LineRefusal → Result C LineRefusal
judged refused rest (Err BadValue) = if share_a_word rest refused then Err Unsupported else Err BadValue
judged refused rest answer = answer

-- a line with which no opening of its block begins is out of place where it begins with a form of another block, and else unknown
abbrev pub unopened : List (List ℕ) → LineRefusal
unopened line = if begins_form_anywhere line then OutOfPlace else Unknown

-- the sequence number, from 1 to 2147483647, with which a line begins
abbrev pub number_in_front : List (List ℕ) → Option ℕ
number_in_front [] = None
number_in_front (w ∷ ws) = number_within 1 2147483647 w

abbrev pub behind_number : List (List ℕ) → List (List ℕ)
behind_number [] = []
behind_number (w ∷ ws) = if is_some (number_within 1 2147483647 w) then ws else w ∷ ws

-- the words that are a line's own: in the block of an access list those behind a sequence number
abbrev pub own_words : Block → List (List ℕ) → List (List ℕ)
own_words block.AccessList line = behind_number line
own_words at line = line

-- an address of IPv6 is written with colons (RFC 4291 s.2.2), and one of IPv4 without any
abbrev pub has_colon : List ℕ → Bool
has_colon word = list_any (λ b. b == 58) word

-- a line about a neighbour of another address family than IPv4 (RFC 4760): its second word is that neighbour's address
abbrev pub is_of_another_family : List (List ℕ) → Bool
is_of_another_family (w ∷ a ∷ ws) = bytes_eq w (codes "neighbor") && has_colon a
is_of_another_family _ = false

-- a line that takes back what was said of such a neighbour: its third word is that neighbour's address
abbrev pub unsays_another_family : List (List ℕ) → Bool
unsays_another_family [] = false
unsays_another_family (w ∷ line) = bytes_eq w (codes "no") && is_of_another_family line

abbrev pub names_another_family : List (List ℕ) → Bool
names_another_family line = is_of_another_family line || unsays_another_family line

-- The block by whose openings a line is read: its own one, but for a line about a neighbour of another address family under
-- `router bgp` or `address-family ipv4`, which is passed over whatever it says.
abbrev pub read_in : Block → List (List ℕ) → Block
read_in block.Bgp line = if names_another_family line then block.Ignored else block.Bgp
read_in block.Ipv4Family line = if names_another_family line then block.Ignored else block.Ipv4Family
read_in at line = at

-- what the openings of its block say of a line: it is passed over, it is refused, or it is of a form and has these words behind its
-- opening
pub data Decision : Type 0 where
  Passed : Decision
  Refused : (refusal : LineRefusal) → Decision
  OfForm : (form : FormKind) → (behind : List (List ℕ)) → Decision

abbrev pub verdict_on : List (List ℕ) → Verdict → Decision
verdict_on behind verdict.Ignored = Passed
verdict_on behind verdict.Refused = Refused Unsupported
verdict_on behind (verdict.Form f) = OfForm f behind

-- the decision of the opening that decides, if there is one
abbrev pub decision_by : List (List ℕ) → Option Row → Decision
decision_by line None = Refused (unopened line)
decision_by line (Some row) = verdict_on (drop (length row.words) line) row.verdict

-- of the openings of the block in which the line is read, with which its own words begin, the one with most words decides so
abbrev pub IsDecided : Block → List (List ℕ) → Decision → Type 0
IsDecided block line decision =
    (row : Option Row) × IsAnswer (rows_of (read_in block line)) (own_words block line) row × (decision ≡ decision_by (own_words block line) row)

-- the same, computed: by a line's own words, and by the line
abbrev pub decision_of : Block → List (List ℕ) → Decision
decision_of block own = decision_by own (decisive_row (rows_of block) own)

-- what the openings of its block say of a line, computed
unfoldable pub decided : Block → List (List ℕ) → Decision
decided block line = decision_of (read_in block line) (own_words block line)

-- With these began the lines of a BGP process that netcheck refused until it read address families and peer groups. It is what a law
-- on the files of that time speaks of.
unfoldable pub later : List (List (List ℕ))
later =
    words_of (codes "address-family")
    ∷ words_of (codes "exit-address-family")
    ∷ words_of (codes "no neighbor")
    ∷ words_of (codes "no bgp default ipv4-unicast")
    ∷ words_of (codes "neighbor * peer-group")
    ∷ []

abbrev pub begins_later : List (List ℕ) → Bool
begins_later line = list_any (begins_with line) later

-- the line was refused under `router bgp`: a line about an IPv6 neighbour was passed over then too, but one that takes something back was not
abbrev pub was_refused : List (List ℕ) → Bool
was_refused line = not (is_of_another_family line) && begins_later line

-- in another block such a line was of no form that was known
abbrev pub unplaced : List (List ℕ) → Decision → Decision
unplaced line (Refused OutOfPlace) = if begins_later line then Refused Unknown else Refused OutOfPlace
unplaced line decision = decision

-- what the openings of its block said of a line then
abbrev pub decided_before : Block → List (List ℕ) → Decision
decided_before block.Bgp line = if was_refused line then Refused Unsupported else decided block.Bgp line
decided_before at line = unplaced (own_words at line) (decided at line)

-- what was found, with a cursor over the words behind the opening, is this decision
abbrev pub IsDecision : Decision → Found → Type 0
IsDecision decision found.Passed = decision ≡ Passed
IsDecision decision (found.Refused refusal) = decision ≡ Refused refusal
IsDecision decision (found.Form f behind) = decision ≡ OfForm f (words_left behind)

-- the rows of forms: what a line of a form says by the words behind its opening, and the command of a line that is passed over
pub record FormRows (C : Type 0) : Type 0 where
  pub answer : FormKind → List (List ℕ) → Result C LineRefusal
  pub passed : C

-- what a line says, given the decision on it
abbrev pub said : {C : Type 0} → FormRows C → Decision → Result C LineRefusal
said rows Passed = Ok rows.passed
said rows (Refused refusal) = Err refusal
said rows (OfForm f behind) = rows.answer f behind

-- the line says this in a block: one opening decides, and the row of its form is the meaning
abbrev pub SaysBy : {C : Type 0} → FormRows C → Block → List (List ℕ) → Result C LineRefusal → Type 0
SaysBy rows block line answer = (decision : Decision) × IsDecided block line decision × (answer ≡ said rows decision)

-- what it says, computed
abbrev pub said_by : {C : Type 0} → FormRows C → Block → List (List ℕ) → Result C LineRefusal
said_by rows block line = said rows (decided block line)

-- memory ran out, or the line is refused so
abbrev pub Fails : {C : Type 0} → LineError → Result C LineRefusal → Type 0
Fails error.Memory answer = Unit {0}
Fails (error.Refused refusal) answer = answer ≡ Err refusal

-- a call gave this answer, unless memory ran out
abbrev pub Gives : {C : Type 0} → Result C LineError → Result C LineRefusal → Type 0
Gives (Ok c) answer = answer ≡ Ok c
Gives (Err e) answer = Fails e answer

-- P of the answer, unless memory ran out
abbrev pub IfAnswered : {C : Type 0} → Result C LineError → (Result C LineRefusal → Type 0) → Type 0
IfAnswered (Ok c) P = P (Ok c)
IfAnswered (Err (error.Refused refusal)) P = P (Err refusal)
IfAnswered (Err error.Memory) P = Unit {0}
