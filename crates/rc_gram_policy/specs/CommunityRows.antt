-- Lines of community lists with what they say, by computation.
use Rattle.std.specs.Prelude.{◌≡◌, refl, ℕ, List, [], ◌∷◌, Ok, Err, codes}
use Rattle.std.specs.Fmt.{digits}
use Rattle.rc_openings.specs.Words.{words_of}
use Rattle.rc_openings.specs.declared.reading.LineRefusal.TheVariants.{Unsupported, BadValue}
use Rattle.rc_config.specs.declared.community_list.CommunityLine.{CommunityLine}
use Rattle.rc_config.specs.declared.access_list.Action.{Action}
use Rattle.rc_config.specs.declared.access_list.Action.TheVariants.{Permit, Deny}
use Rattle.rc_gram_policy.specs.Lines.{Answer, numbered_answer, standard_answer}
use Rattle.rc_gram_policy.specs.Refused.{refused_in_list}

abbrev SaysNumbered : List ℕ → Answer (List ℕ × CommunityLine) → Type 0
SaysNumbered text answer = numbered_answer (words_of text) ≡ answer

abbrev SaysStandard : List ℕ → Answer (List ℕ × CommunityLine) → Type 0
SaysStandard text answer = standard_answer (words_of text) ≡ answer

-- a line of a list
abbrev of_list : List ℕ → Action → List ℕ → Answer (List ℕ × CommunityLine)
of_list name action numbers = Ok (name, record { action = action; communities = numbers })

-- 1 to 99; the list is named by the digits without zeros in front
pub numbered :
    SaysNumbered (codes "1 permit 65000:1") (of_list (codes "1") Permit (4259840001 ∷ []))
    × SaysNumbered (codes "99 deny no-export") (of_list (codes "99") Deny (0xffffff01 ∷ []))
    × SaysNumbered (codes "007 permit 7") (of_list (codes "7") Permit (7 ∷ []))
    × SaysNumbered (codes "0 permit 7") (Err BadValue)
    × SaysNumbered (codes "100 permit 7") (Err BadValue)
    × SaysNumbered (codes "C permit 7") (Err BadValue)
unfolding words_of digits refused_in_list
numbered = (refl, refl, refl, refl, refl, refl)

-- by name, a number too; communities are a set
pub by_name :
    SaysStandard (codes "C permit 65000:1") (of_list (codes "C") Permit (4259840001 ∷ []))
    × SaysStandard (codes "007 deny no-advertise") (of_list (codes "007") Deny (0xffffff02 ∷ []))
    × SaysStandard (codes "C permit 30 10 0:20 10") (of_list (codes "C") Permit (10 ∷ 20 ∷ 30 ∷ []))
    × SaysStandard (codes "permit permit 0") (of_list (codes "permit") Permit (0 ∷ []))
unfolding words_of refused_in_list
by_name = (refl, refl, refl, refl)

-- an action and one community or more
pub misfits :
    SaysStandard (codes "C permit") (Err BadValue)
    × SaysStandard (codes "C") (Err BadValue)
    × SaysStandard [] (Err BadValue)
    × SaysStandard (codes "C 65000:1") (Err BadValue)
    × SaysStandard (codes "C remark 65000:1") (Err BadValue)
    × SaysStandard (codes "C permit 65000:65536") (Err BadValue)
    × SaysStandard (codes "C permit 65000:1 additive") (Err BadValue)
    × SaysStandard (codes "C permit 65000:1 foo 65000:2") (Err BadValue)
    × SaysNumbered (codes "1 permit") (Err BadValue)
    × SaysNumbered [] (Err BadValue)
unfolding words_of digits refused_in_list
misfits = (refl, refl, refl, refl, refl, refl, refl, refl, refl, refl)

-- words whose meaning isn't modelled, wherever they stand in a line that doesn't fit
pub not_modelled :
    SaysNumbered (codes "1 permit internet") (Err Unsupported)
    × SaysNumbered (codes "1 permit 65000:1 local-AS") (Err Unsupported)
    × SaysNumbered (codes "100 permit none") (Err Unsupported)
    × SaysNumbered (codes "1 permit exact-match") (Err Unsupported)
    × SaysStandard (codes "C permit internet") (Err Unsupported)
    × SaysStandard (codes "C deny local-AS") (Err Unsupported)
    × SaysStandard (codes "none permit foo") (Err Unsupported)
    × SaysStandard (codes "C permit 65000:1 exact-match") (Err Unsupported)
    × SaysStandard (codes "internet permit 65000:1") (of_list (codes "internet") Permit (4259840001 ∷ []))
    × SaysStandard (codes "C permit Internet") (Err BadValue)
unfolding words_of digits refused_in_list
not_modelled = (refl, refl, refl, refl, refl, refl, refl, refl, refl, refl)
