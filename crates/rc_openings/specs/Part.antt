-- The parts of a line: each is read from the words in front of it, and leaves the words behind it.
use Rattle.std.specs.Prelude.{◌≡◌, ℕ, List, [], ◌∷◌, Option, Some, None, option_map}
use Rattle.std.specs.Option.{option_and_then}
use Rattle.rc_openings.specs.declared.words.Words.{Words}
use Rattle.rc_openings.specs.Words.{words_left}

-- what the part is, and the words that are left; none where the words don't begin with such a part
abbrev pub Part : Type 0 → Type 0
Part T = Option (T × List (List ℕ))

-- one part, and another behind it
abbrev pub and_then : {S T : Type 0} → Part S → (S → List (List ℕ) → Option T) → Option T
and_then None next = None
and_then (Some p) next = next p.0 p.1

-- a part whose words are those of another
abbrev pub part_map : {S T : Type 0} → (S → T) → Part S → Part T
part_map f None = None
part_map f (Some p) = Some (f p.0, p.1)

-- a value that was read, in front of words
abbrev pub before : {T : Type 0} → List (List ℕ) → Option T → Part T
before rest None = None
before rest (Some value) = Some (value, rest)

-- what was read, with a cursor over the words that are left, is this part
abbrev pub IsPart : {T : Type 0} → Part T → Option (T × Words) → Type 0
IsPart part None = part ≡ None
IsPart part (Some p) = part ≡ Some (p.0, words_left p.1)

-- the values of words, where each has one
abbrev pub each_value : {T : Type 0} → (List ℕ → Option T) → List (List ℕ) → Option (List T)
each_value value_of [] = Some []
each_value value_of (w ∷ ws) = option_and_then (λ x. option_map (λ xs. x ∷ xs) (each_value value_of ws)) (value_of w)
