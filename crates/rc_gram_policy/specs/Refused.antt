-- The words that make a line of a policy one that isn't modelled, where it fits no row.
use Rattle.std.specs.Prelude.{ℕ, List, [], if◌then◌else◌, codes}
use Rattle.rc_openings.specs.Reading.{share_a_word}
use Rattle.rc_openings.specs.Words.{words_of}
use Rattle.rc_openings.specs.declared.form.MapEntryForm.{MapEntryForm}
use Rattle.rc_openings.specs.declared.form.MapEntryForm.TheVariants as form
use Rattle.rc_openings.specs.declared.reading.LineRefusal.{LineRefusal}
use Rattle.rc_openings.specs.declared.reading.LineRefusal.TheVariants.{Unsupported, BadValue}

-- these words anywhere in a line of a community list
unfoldable pub refused_in_list : List (List ℕ)
refused_in_list = words_of (codes "internet local-AS none exact-match")

-- of each form of the entries of a route map, these words anywhere behind its opening
unfoldable pub refused_in_entry : MapEntryForm → List (List ℕ)
refused_in_entry form.SetCommunity = words_of (codes "internet local-AS none exact-match")
refused_in_entry form.MatchCommunity = words_of (codes "exact-match")
refused_in_entry form.PrependAsPath = words_of (codes "last-as")
refused_in_entry form.SetOrigin = words_of (codes "egp")
refused_in_entry _ = []

-- why a line that fits no row is refused, where these words aren't modelled
abbrev pub refusal_of : List (List ℕ) → List (List ℕ) → LineRefusal
refusal_of refused words = if share_a_word words refused then Unsupported else BadValue
