-- Lines of route maps with what they say, by computation.
use Rattle.std.specs.Prelude.{◌≡◌, refl, ℕ, true, false, List, [], ◌∷◌, ◌++◌, replicate, Ok, Err, codes}
use Rattle.rc_base.specs.declared.origin.Origin.TheVariants.{Igp, Incomplete}
use Rattle.rc_openings.specs.Words.{words_of}
use Rattle.rc_openings.specs.declared.form.MapEntryForm.{MapEntryForm}
use Rattle.rc_openings.specs.declared.form.MapEntryForm.TheVariants as form
use Rattle.rc_openings.specs.declared.reading.LineRefusal.TheVariants.{Unsupported, BadValue}
use Rattle.rc_config.specs.declared.access_list.Action.{Action}
use Rattle.rc_config.specs.declared.access_list.Action.TheVariants.{Permit, Deny}
use Rattle.rc_config.specs.declared.map_line.MapLine.{MapLine}
use Rattle.rc_config.specs.declared.map_line.MapLine.TheVariants.{Match, Set}
use Rattle.rc_config.specs.declared.map_line.MatchKind.TheVariants.{AccessList, PrefixList, CommunityList}
use Rattle.rc_config.specs.declared.map_line.SetLine.{SetLine}
use Rattle.rc_config.specs.declared.map_line.SetLine.TheVariants as set
use Rattle.rc_config.specs.declared.sets.MetricType.TheVariants.{Type1, Type2}
use Rattle.rc_gram_policy.specs.declared.map_opening.OpenedEntry.{OpenedEntry}
use Rattle.rc_gram_policy.specs.Lines.{Answer, map_answer, opening_answer}
use Rattle.rc_gram_policy.specs.Refused.{refused_in_entry}

abbrev Opens : List ℕ → Answer OpenedEntry → Type 0
Opens text answer = opening_answer (words_of text) ≡ answer

-- line 9 of a file, of this form, says this by the words behind its opening
abbrev Says : MapEntryForm → List ℕ → Answer MapLine → Type 0
Says f text answer = map_answer 9 f (words_of text) ≡ answer

abbrev sets : SetLine → Answer MapLine
sets line = Ok (Set line)

abbrev entry : List ℕ → Action → ℕ → Answer OpenedEntry
entry map action n = Ok (record { map = map; number = n; action = action })

-- a name, an action and a number from 0 to 65535
pub openings :
    Opens (codes "M permit 0") (entry (codes "M") Permit 0)
    × Opens (codes "M deny 65535") (entry (codes "M") Deny 65535)
    × Opens (codes "10 permit 010") (entry (codes "10") Permit 10)
    × Opens (codes "M permit 65536") (Err BadValue)
    × Opens (codes "M permit") (Err BadValue)
    × Opens (codes "M 10") (Err BadValue)
    × Opens (codes "M permit 10 20") (Err BadValue)
    × Opens [] (Err BadValue)
    × Opens (replicate 64 65 ++ codes " permit 10") (Err BadValue)
unfolding words_of
openings = (refl, refl, refl, refl, refl, refl, refl, refl, refl)

-- one name or more; `prefix-list` is a name too, where it doesn't make another opening
pub matches :
    Says form.MatchAddress (codes "A") (Ok (Match AccessList (codes "A" ∷ []) 9))
    × Says form.MatchAddress (codes "7 A 7") (Ok (Match AccessList (codes "7" ∷ codes "A" ∷ codes "7" ∷ []) 9))
    × Says form.MatchAddress (codes "X prefix-list") (Ok (Match AccessList (codes "X" ∷ codes "prefix-list" ∷ []) 9))
    × Says form.MatchPrefixList (codes "P Q") (Ok (Match PrefixList (codes "P" ∷ codes "Q" ∷ []) 9))
    × Says form.MatchCommunity (codes "007 C") (Ok (Match CommunityList (codes "007" ∷ codes "C" ∷ []) 9))
    × Says form.MatchAddress [] (Err BadValue)
    × Says form.MatchPrefixList [] (Err BadValue)
    × Says form.MatchCommunity [] (Err BadValue)
    × Says form.MatchAddress (codes "A " ++ replicate 64 65) (Err BadValue)
    × Says form.MatchPrefixList (replicate 64 65 ++ codes " P") (Err BadValue)
unfolding words_of refused_in_entry
matches = (refl, refl, refl, refl, refl, refl, refl, refl, refl, refl)

-- a list of communities isn't matched exactly; that is a name to other openings
pub exact :
    Says form.MatchCommunity (codes "7 exact-match") (Err Unsupported)
    × Says form.MatchCommunity (codes "exact-match") (Err Unsupported)
    × Says form.MatchCommunity (codes "exact-match 7") (Err Unsupported)
    × Says form.MatchAddress (codes "exact-match") (Ok (Match AccessList (codes "exact-match" ∷ []) 9))
unfolding words_of refused_in_entry
exact = (refl, refl, refl, refl)

-- each number at the ends of its range
pub numbers :
    Says form.SetLocalPreference (codes "0") (sets (set.LocalPreference 0))
    × Says form.SetLocalPreference (codes "4294967295") (sets (set.LocalPreference 4294967295))
    × Says form.SetLocalPreference (codes "4294967296") (Err BadValue)
    × Says form.SetLocalPreference [] (Err BadValue)
    × Says form.SetMetric (codes "0") (sets (set.Metric 0))
    × Says form.SetMetric (codes "4294967295") (sets (set.Metric 4294967295))
    × Says form.SetMetric (codes "4294967296") (Err BadValue)
    × Says form.SetMetric (codes "+5") (Err BadValue)
    × Says form.SetMetric (codes "5 6") (Err BadValue)
    × Says form.SetWeight (codes "0") (sets (set.Weight 0))
    × Says form.SetWeight (codes "65535") (sets (set.Weight 65535))
    × Says form.SetWeight (codes "65536") (Err BadValue)
unfolding words_of refused_in_entry
numbers = (refl, refl, refl, refl, refl, refl, refl, refl, refl, refl, refl, refl)

-- openings that say all
pub choices :
    Says form.SetMetricType1 [] (sets (set.MetricType Type1))
    × Says form.SetMetricType2 [] (sets (set.MetricType Type2))
    × Says form.SetMetricType1 (codes "5") (Err BadValue)
    × Says form.SetMetricType2 (codes "type-1") (Err BadValue)
    × Says form.SetOriginIgp [] (sets (set.Origin Igp))
    × Says form.SetOriginIncomplete [] (sets (set.Origin Incomplete))
    × Says form.SetOriginIgp (codes "egp") (Err BadValue)
    × Says form.SetOriginIncomplete (codes "5") (Err BadValue)
    × Says form.SetOrigin (codes "egp") (Err Unsupported)
    × Says form.SetOrigin (codes "egp 100") (Err Unsupported)
    × Says form.SetOrigin (codes "bgp") (Err BadValue)
    × Says form.SetOrigin [] (Err BadValue)
unfolding words_of refused_in_entry
choices = (refl, refl, refl, refl, refl, refl, refl, refl, refl, refl, refl, refl)

-- one community or more, as a set, with `additive` at the end or without
pub communities :
    Says form.SetCommunity (codes "65000:2 additive") (sets (set.Communities (4259840002 ∷ []) true))
    × Says form.SetCommunity (codes "30 10 0:20 10") (sets (set.Communities (10 ∷ 20 ∷ 30 ∷ []) false))
    × Says form.SetCommunity (codes "no-export no-advertise") (sets (set.Communities (0xffffff01 ∷ 0xffffff02 ∷ []) false))
    × Says form.SetCommunity [] (Err BadValue)
    × Says form.SetCommunity (codes "additive") (Err BadValue)
    × Says form.SetCommunity (codes "additive 65000:2") (Err BadValue)
    × Says form.SetCommunity (codes "65000:2 additive additive") (Err BadValue)
    × Says form.SetCommunity (codes "65000:2 additive 65000:3") (Err BadValue)
    × Says form.SetCommunity (codes "65000:2 foo") (Err BadValue)
    × Says form.SetCommunity (codes "65536:2") (Err BadValue)
    × Says form.SetCommunity (codes "none") (Err Unsupported)
    × Says form.SetCommunity (codes "65000:2 internet") (Err Unsupported)
    × Says form.SetCommunity (codes "local-AS additive") (Err Unsupported)
    × Says form.SetCommunity (codes "exact-match") (Err Unsupported)
unfolding words_of refused_in_entry
communities = (refl, refl, refl, refl, refl, refl, refl, refl, refl, refl, refl, refl, refl, refl)

-- one to ten numbers of AS in their order, also one that comes again
pub prepended :
    Says form.PrependAsPath (codes "65001 65001") (sets (set.Prepend (65001 ∷ 65001 ∷ [])))
    × Says form.PrependAsPath (codes "4294967295 1") (sets (set.Prepend (4294967295 ∷ 1 ∷ [])))
    × Says form.PrependAsPath (codes "1 2 3 4 5 6 7 8 9 10") (sets (set.Prepend (1 ∷ 2 ∷ 3 ∷ 4 ∷ 5 ∷ 6 ∷ 7 ∷ 8 ∷ 9 ∷ 10 ∷ [])))
    × Says form.PrependAsPath (codes "1 2 3 4 5 6 7 8 9 10 11") (Err BadValue)
    × Says form.PrependAsPath [] (Err BadValue)
    × Says form.PrependAsPath (codes "0") (Err BadValue)
    × Says form.PrependAsPath (codes "1 0 2") (Err BadValue)
    × Says form.PrependAsPath (codes "4294967296") (Err BadValue)
    × Says form.PrependAsPath (codes "last-as 3") (Err Unsupported)
    × Says form.PrependAsPath (codes "1 last-as") (Err Unsupported)
unfolding words_of refused_in_entry
prepended = (refl, refl, refl, refl, refl, refl, refl, refl, refl, refl)
