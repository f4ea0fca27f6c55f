-- The parts of a line that may be absent, or stand there several times.
use Rattle.std.specs.Prelude.{ℕ, List, [], ◌∷◌, Option, Some, None, if◌then◌else◌, option_map}
use Rattle.std.specs.Option.{option_map_or}
use Rattle.std.specs.Str.{bytes_eq}
use Rattle.rc_openings.specs.Part.{Part, before}
use Rattle.rc_openings.specs.Values.{number_within}
use Rattle.rc_openings.specs.Words.{is_none_left}

-- `[KEY N]`, with N from low to high
abbrev pub optional : List ℕ → ℕ → ℕ → List (List ℕ) → Part (Option ℕ)
optional key low high (w ∷ n ∷ rest) = if bytes_eq w key then before rest (option_map Some (number_within low high n)) else Some (None, w ∷ n ∷ rest)
optional key low high words = Some (None, words)

-- a value in front of those that the words behind it are
abbrev pub followed : {A : Type 0} → A → List A × List (List ℕ) → List A × List (List ℕ)
followed x p = (x ∷ p.0, p.1)

-- the values that the words in front are, up to the first word that is none, and the words from there on
abbrev pub values_in_front : {A : Type 0} → (List ℕ → Option A) → List (List ℕ) → List A × List (List ℕ)
values_in_front value_of [] = ([], [])
values_in_front value_of (w ∷ rest) = option_map_or (λ x. followed x (values_in_front value_of rest)) (value_of w) ([], w ∷ rest)

-- one value or more, and nothing behind
abbrev pub whole : {A : Type 0} → List A × List (List ℕ) → Option (List A)
whole ([], rest) = None
whole (x ∷ xs, rest) = if is_none_left rest then Some (x ∷ xs) else None

-- the words are one value or more
abbrev pub values_of : {A : Type 0} → (List ℕ → Option A) → List (List ℕ) → Option (List A)
values_of value_of words = whole (values_in_front value_of words)
