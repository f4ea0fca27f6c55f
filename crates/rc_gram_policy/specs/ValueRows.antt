-- The values of policies, by computation.
use Rattle.std.specs.Prelude.{◌≡◌, ℕ, refl, List, [], ◌∷◌, map, replicate, Some, None, codes}
use Rattle.rc_openings.specs.Words.{words_of}
use Rattle.rc_gram_policy.specs.Parts.{values_in_front, values_of}
use Rattle.rc_gram_policy.specs.Values.{community_of, as_number_of}

-- two numbers to 65535, or one to 4294967295, also with zeros in front, or a name
pub communities :
    map community_of (words_of (codes "0:0 65535:65535 65000:1 0001:00002 no-export no-advertise 0 4294967295 0000000007"))
    ≡ map Some (0 ∷ 4294967295 ∷ 4259840001 ∷ 65538 ∷ 0xffffff01 ∷ 0xffffff02 ∷ 0 ∷ 4294967295 ∷ 7 ∷ [])
unfolding words_of
communities = refl

-- too large a part, too many or too few, and other words
pub no_communities :
    map community_of (words_of (codes "65536:0 0:65536 1:2:3 1: :1 : 4294967296 00000000001 -1 No-Export internet local-AS additive"))
    ≡ replicate 13 None
unfolding words_of
no_communities = refl

-- from 1 to 4294967295
pub as_numbers :
    map as_number_of (words_of (codes "1 65536 4294967295 007 0 4294967296 1.1 last-as"))
    ≡ Some 1 ∷ Some 65536 ∷ Some 4294967295 ∷ Some 7 ∷ replicate 4 None
unfolding words_of
as_numbers = refl

-- the words in front are these numbers, and these words stand behind them
abbrev Reads : List ℕ → List ℕ → List ℕ → Type 0
Reads text numbers left = values_in_front as_number_of (words_of text) ≡ (numbers, words_of left)

-- in their order, also one that comes again; no number is read behind the first word that is none
pub read_in_front :
    Reads [] [] []
    × Reads (codes "7") (7 ∷ []) []
    × Reads (codes "7 8 7") (7 ∷ 8 ∷ 7 ∷ []) []
    × Reads (codes "7 8 x 9") (7 ∷ 8 ∷ []) (codes "x 9")
    × Reads (codes "7 0") (7 ∷ []) (codes "0")
    × Reads (codes "x 7") [] (codes "x 7")
unfolding words_of
read_in_front = (refl, refl, refl, refl, refl, refl)

-- one value or more, and no other word
pub read_whole :
    (values_of as_number_of (words_of (codes "7 8")) ≡ Some (7 ∷ 8 ∷ []))
    × (values_of as_number_of [] ≡ None)
    × (values_of as_number_of (words_of (codes "7 x")) ≡ None)
    × (values_of as_number_of (words_of (codes "x")) ≡ None)
unfolding words_of
read_whole = (refl, refl, refl, refl)
