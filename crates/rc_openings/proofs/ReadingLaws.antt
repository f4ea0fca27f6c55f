-- A line says one thing.
use Rattle.std.proofs.Common.{◌≡◌, ap, sym, refl, ◌∙◌, List, ℕ, Ok, Err}
use Rattle.std.specs.Prelude.{Result}
use Rattle.rc_openings.specs.declared.block.Block.{Block}
use Rattle.rc_openings.specs.declared.reading.LineError.{LineError}
use Rattle.rc_openings.specs.declared.reading.LineError.TheVariants as error
use Rattle.rc_openings.specs.declared.reading.LineRefusal.{LineRefusal}
use Rattle.rc_openings.specs.Block.{rows_of}
use Rattle.rc_openings.specs.Opening.{decisive_row}
use Rattle.rc_openings.specs.Reading.{Decision, FormRows, SaysBy, IsDecided, decided, decision_by, own_words, read_in, said, said_by, Gives, IfAnswered}
use Rattle.rc_openings.proofs.ApartLemmas.{answer_is, decisive_row-is}

-- what the decisive opening decides is what is computed
pub decided_is : (block : Block) (line : List (List ℕ)) (decision : Decision) → IsDecided block line decision → decision ≡ decided block line
unfolding decided
decided_is block line decision h = h.2 ∙ ap (decision_by (own_words block line)) (answer_is (read_in block line) (own_words block line) h.0 h.1)

-- and what is computed is so decided
pub is_decided : (block : Block) (line : List (List ℕ)) (decision : Decision) → decision ≡ decided block line → IsDecided block line decision
unfolding decided
is_decided block line decision h = (decisive_row (rows_of (read_in block line)) (own_words block line), decisive_row-is (rows_of (read_in block line)) (own_words block line), h)

module _ {C : Type 0} (rows : FormRows C) (block : Block) (line : List (List ℕ)) where
  pub says_is : (answer : Result C LineRefusal) → SaysBy rows block line answer → answer ≡ said_by rows block line
  says_is answer h = h.2 ∙ ap (said rows) (decided_is block line h.0 h.1)

  says_so : (answer : Result C LineRefusal) → said_by rows block line ≡ answer → SaysBy rows block line answer
  says_so answer h = (decided block line, is_decided block line (decided block line) refl, sym h)

  -- where it gave what the line says, one opening decides and one row is the meaning
  pub given_says : (r : Result C LineError) → Gives r (said_by rows block line) → IfAnswered r (SaysBy rows block line)
  given_says (Ok c) h = says_so (Ok c) h
  given_says (Err (error.Refused refusal)) h = says_so (Err refusal) h
  given_says (Err error.Memory) h = tt
