-- Lines of prefix lists with what they say, by computation.
use Rattle.std.specs.Prelude.{◌≡◌, refl, ℕ, List, [], ◌∷◌, ◌++◌, map, replicate, Option, Some, None, Ok, Err, codes}
use Rattle.rc_base.specs.Prefix.{Cidr, prefix_at}
use Rattle.rc_openings.specs.Words.{words_of}
use Rattle.rc_openings.specs.declared.reading.LineRefusal.TheVariants.{BadValue}
use Rattle.rc_config.specs.declared.access_list.Action.{Action}
use Rattle.rc_config.specs.declared.access_list.Action.TheVariants.{Permit, Deny}
use Rattle.rc_config.specs.declared.prefix_list.PrefixLine.{PrefixLine}
use Rattle.rc_config.specs.declared.prefix_list.PrefixList.{PrefixList}
use Rattle.rc_gram_policy.specs.PrefixLines.{sequence_for}
use Rattle.rc_gram_policy.specs.Lines.{Answer, prefix_answer}

abbrev line : ℕ → Action → Cidr → Option ℕ → Option ℕ → PrefixLine
line n action prefix ge le = record { sequence = n; action = action; prefix = prefix; ge = ge; le = le }

-- 10.9.0.0 with this length
abbrev subnet : ℕ → Cidr
subnet len = prefix_at 0x0a090000 len

-- lines of these numbers
abbrev lines : List ℕ → List PrefixLine
lines numbers = map (λ n. line n Permit (subnet 16) None None) numbers

-- a list Q with lines of these numbers
abbrev lists : List ℕ → List (List ℕ × PrefixList)
lists numbers = (codes "Q", record { lines = lines numbers }) ∷ []

-- the line of a list that isn't there yet
abbrev Says : List ℕ → Answer (List ℕ × PrefixLine) → Type 0
Says text answer = prefix_answer (lists (20 ∷ [])) (words_of text) ≡ answer

abbrev of_p : PrefixLine → Answer (List ℕ × PrefixLine)
of_p l = Ok (codes "P", l)

-- bounds over the length and to 32, the lower one first and not above the upper
pub bounds :
    Says (codes "P permit 10.9.0.0/16") (of_p (line 5 Permit (subnet 16) None None))
    × Says (codes "P deny 10.9.0.0/16 ge 17") (of_p (line 5 Deny (subnet 16) (Some 17) None))
    × Says (codes "P permit 10.9.0.0/16 le 17") (of_p (line 5 Permit (subnet 16) None (Some 17)))
    × Says (codes "P permit 10.9.0.0/16 ge 32 le 32") (of_p (line 5 Permit (subnet 16) (Some 32) (Some 32)))
    × Says (codes "P permit 10.9.0.0/16 ge 24 le 25") (of_p (line 5 Permit (subnet 16) (Some 24) (Some 25)))
    × Says (codes "P permit 0.0.0.0/0 le 32") (of_p (line 5 Permit (prefix_at 0 0) None (Some 32)))
    × Says (codes "P permit 0.0.0.0/0 ge 1") (of_p (line 5 Permit (prefix_at 0 0) (Some 1) None))
unfolding words_of
bounds = (refl, refl, refl, refl, refl, refl, refl)

pub wrong_bounds :
    Says (codes "P permit 10.9.0.0/16 ge 16") (Err BadValue)
    × Says (codes "P permit 10.9.0.0/16 le 16") (Err BadValue)
    × Says (codes "P permit 10.9.0.0/16 ge 33") (Err BadValue)
    × Says (codes "P permit 10.9.0.0/16 le 33") (Err BadValue)
    × Says (codes "P permit 10.9.0.0/16 ge 25 le 24") (Err BadValue)
    × Says (codes "P permit 10.9.0.0/16 le 24 ge 20") (Err BadValue)
    × Says (codes "P permit 10.9.0.0/16 ge 20 ge 24") (Err BadValue)
    × Says (codes "P permit 10.9.0.0/16 ge") (Err BadValue)
    × Says (codes "P permit 10.9.0.0/16 ge 20 le") (Err BadValue)
    × Says (codes "P permit 10.9.0.0/16 eq 20") (Err BadValue)
    × Says (codes "P permit 10.9.0.0/16 20") (Err BadValue)
    × Says (codes "P permit 10.9.0.0/32 le 32") (Err BadValue)
unfolding words_of
wrong_bounds = (refl, refl, refl, refl, refl, refl, refl, refl, refl, refl, refl, refl)

-- host bits are cleared, and a length has one to ten digits
pub prefixes :
    Says (codes "P permit 10.9.255.255/16") (of_p (line 5 Permit (subnet 16) None None))
    × Says (codes "P permit 10.9.1.1/08") (of_p (line 5 Permit (prefix_at 0x0a000000 8) None None))
    × Says (codes "P permit 10.9.1.1/0000000032") (of_p (line 5 Permit (prefix_at 0x0a090101 32) None None))
    × Says (codes "P permit 10.9.1.1/00000000032") (Err BadValue)
    × Says (codes "P permit 10.9.1.1/33") (Err BadValue)
    × Says (codes "P permit 10.9.1.1") (Err BadValue)
    × Says (codes "P permit 10.9.1/24") (Err BadValue)
    × Says (codes "P permit any") (Err BadValue)
unfolding words_of
prefixes = (refl, refl, refl, refl, refl, refl, refl, refl)

-- a name, a number where one is written, and an action
pub fronts :
    Says (codes "P seq 0 permit 10.9.0.0/16") (of_p (line 0 Permit (subnet 16) None None))
    × Says (codes "P seq 4294967295 deny 10.9.0.0/16") (of_p (line 4294967295 Deny (subnet 16) None None))
    × Says (codes "P seq 20 permit 10.9.0.0/16") (of_p (line 20 Permit (subnet 16) None None))
    × Says (codes "P seq 4294967296 permit 10.9.0.0/16") (Err BadValue)
    × Says (codes "P seq permit 10.9.0.0/16") (Err BadValue)
    × Says (codes "P 5 permit 10.9.0.0/16") (Err BadValue)
    × Says (codes "P Permit 10.9.0.0/16") (Err BadValue)
    × Says (codes "P permit") (Err BadValue)
    × Says (codes "P seq 5") (Err BadValue)
    × Says (codes "P") (Err BadValue)
    × Says [] (Err BadValue)
    × Says (replicate 64 65 ++ codes " permit 10.9.0.0/16") (Err BadValue)
unfolding words_of
fronts = (refl, refl, refl, refl, refl, refl, refl, refl, refl, refl, refl, refl)

-- a list that is there: a line gets a number by those that are there, and none twice
pub of_a_list :
    Says (codes "Q permit 10.9.0.0/16") (Ok (codes "Q", line 25 Permit (subnet 16) None None))
    × Says (codes "Q seq 7 permit 10.9.0.0/16") (Ok (codes "Q", line 7 Permit (subnet 16) None None))
    × Says (codes "Q seq 20 permit 10.9.0.0/16") (Err BadValue)
unfolding words_of
of_a_list = (refl, refl, refl)

-- 5 at first, and then 5 above the greatest, up to 4294967295
pub numbers :
    (sequence_for [] None ≡ Some 5)
    × (sequence_for (lines (5 ∷ 10 ∷ [])) None ≡ Some 15)
    × (sequence_for (lines (3 ∷ 47 ∷ [])) None ≡ Some 52)
    × (sequence_for (lines (4294967290 ∷ [])) None ≡ Some 4294967295)
    × (sequence_for (lines (4294967291 ∷ [])) None ≡ None)
    × (sequence_for (lines (0 ∷ [])) None ≡ Some 5)
    × (sequence_for (lines (5 ∷ 10 ∷ [])) (Some 7) ≡ Some 7)
    × (sequence_for (lines (5 ∷ 10 ∷ [])) (Some 5) ≡ None)
    × (sequence_for (lines (5 ∷ 10 ∷ [])) (Some 10) ≡ None)
    × (sequence_for (lines (5 ∷ 10 ∷ [])) (Some 4294967295) ≡ Some 4294967295)
numbers = (refl, refl, refl, refl, refl, refl, refl, refl, refl, refl)
