-- What may stand behind the target of a static route: options in any order, each kind at most once.
use Rattle.std.specs.Prelude.{ℕ, Bool, true, false, ◌&&◌, List, [], ◌∷◌, ◌++◌, Option, Some, None, if◌then◌else◌, is_some, option_map, unwrap_or, codes}
use Rattle.std.specs.List.{filter_map}
use Rattle.std.specs.Option.{option_and_then, option_to_list}
use Rattle.std.specs.Str.{bytes_eq}
use Rattle.rc_openings.specs.Values.{number_of, number_within}
use Rattle.rc_gram_if.specs.declared.route_options.RouteOptions.{RouteOptions}

-- an administrative distance from 1 to 255; `name WORD` with any word, or `tag N` with a number below 2^32, which have no effect
pub data RouteOption : Type 0 where
  Distance : (distance : ℕ) → RouteOption
  Named : RouteOption
  Tagged : RouteOption

-- one option in front of others
abbrev pub followed : Option RouteOption → Option (List RouteOption) → Option (List RouteOption)
followed None os = None
followed (Some o) None = None
followed (Some o) (Some os) = Some (o ∷ os)

abbrev pub distance_word : List ℕ → Option RouteOption
distance_word w = option_map Distance (number_within 1 255 w)

-- the option that the value of `tag` makes
abbrev pub tag_with : List ℕ → Option RouteOption
tag_with x = option_map (λ n. Tagged) (number_of x)

-- the options that words are, one behind the other, where they are no other words
abbrev pub options_of : List (List ℕ) → Option (List RouteOption)
options_of [] = Some []
options_of (w ∷ []) = followed (distance_word w) (Some [])
options_of (w ∷ x ∷ rest) =
    if bytes_eq w (codes "name") then followed (Some Named) (options_of rest)
    else (if bytes_eq w (codes "tag") then followed (tag_with x) (options_of rest)
    else followed (distance_word w) (options_of (x ∷ rest)))

-- what an option of each kind says
abbrev pub distance_in : RouteOption → Option ℕ
distance_in (Distance n) = Some n
distance_in Named = None
distance_in Tagged = None

abbrev pub name_in : RouteOption → Option Bool
name_in (Distance n) = None
name_in Named = Some true
name_in Tagged = None

abbrev pub tag_in : RouteOption → Option Bool
tag_in (Distance n) = None
tag_in Named = None
tag_in Tagged = Some true

abbrev pub is_at_most_one : {A : Type 0} → List A → Bool
is_at_most_one [] = true
is_at_most_one (x ∷ []) = true
is_at_most_one (x ∷ y ∷ rest) = false

abbrev pub first_of : {A : Type 0} → List A → Option A
first_of [] = None
first_of (x ∷ xs) = Some x

-- what options say, each kind of which stands there at most once: those of a kind are given as a list
abbrev pub said_once : List ℕ → List Bool → List Bool → Option RouteOptions
said_once distances names tags =
    if is_at_most_one distances && is_at_most_one names && is_at_most_one tags
    then Some (record { distance = first_of distances; named = is_some (first_of names); tagged = is_some (first_of tags) }) else None

abbrev pub said_by : List RouteOption → Option RouteOptions
said_by os = said_once (filter_map distance_in os) (filter_map name_in os) (filter_map tag_in os)

-- what words say, where they are options
abbrev pub options_in : List (List ℕ) → Option RouteOptions
options_in words = option_and_then said_by (options_of words)

-- the distance that options say: 1 where none of them is a distance
abbrev pub distance_said : RouteOptions → ℕ
distance_said o = unwrap_or o.distance 1

-- the distance that words behind a target give, where they are options
abbrev pub distance_of : List (List ℕ) → Option ℕ
distance_of words = option_map distance_said (options_in words)

-- ---- options behind others

-- the options that say this, as they are written
abbrev pub written : RouteOptions → List RouteOption
written o = option_to_list (option_map Distance o.distance) ++ (if o.named then Named ∷ [] else []) ++ (if o.tagged then Tagged ∷ [] else [])

-- what options say behind those that say this
abbrev pub said_behind : RouteOptions → Option (List RouteOption) → Option RouteOptions
said_behind before os = option_and_then (λ (more : List RouteOption). said_by (written before ++ more)) os

-- what words say behind them
abbrev pub options_behind : RouteOptions → List (List ℕ) → Option RouteOptions
options_behind before words = said_behind before (options_of words)
