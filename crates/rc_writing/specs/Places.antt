-- Places by their names, as text.
use Rattle.std.specs.Prelude.{ℕ, List, [], ◌++◌, codes, Option, Some}
use Rattle.std.specs.Option.{option_map_or}
use Rattle.rc_words.specs.declared.request.Ask.{Ask}
use Rattle.rc_words.specs.declared.request.Ask.TheVariants.{Routes, Trace, Reach, Loops, Uneven, Lines, Failures, Summary}
use Rattle.rc_words.specs.declared.request.PlaceName.{PlaceName}

-- where the packets start that are asked about in a made network: at the LAN of its first router
abbrev pub sample_place : PlaceName
sample_place = record { router = codes "r000"; interface = Some (codes "GigabitEthernet0/3") }

-- the name of an interface behind a colon
abbrev pub behind_colon : Option (List ℕ) → List ℕ
behind_colon interface = option_map_or (λ name. codes ":" ++ name) interface []

abbrev pub name_of_place : PlaceName → List ℕ
name_of_place place = place.router ++ behind_colon place.interface

-- the text that names the router or the place
abbrev pub place_text : Ask → List ℕ
place_text (Routes router) = option_map_or (λ text. text) router []
place_text (Trace place header) = name_of_place place
place_text (Reach place ends examples) = name_of_place place
place_text (Loops place examples) = name_of_place place
place_text (Uneven place examples) = name_of_place place
place_text (Lines router) = option_map_or (λ text. text) router []
place_text (Failures place header ends) = name_of_place place
place_text Summary = name_of_place sample_place
