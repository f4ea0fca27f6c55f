-- Numbers of lists and of lines, by computation.
use Rattle.std.specs.Prelude.{◌≡◌, refl, ℕ, List, [], ◌∷◌, map, Some, None, codes}
use Rattle.rc_config.specs.AccessList.{any_address, standard_line}
use Rattle.rc_config.specs.declared.access_list.Action.TheVariants.{Permit}
use Rattle.rc_config.specs.declared.access_list.AccessListLine.{AccessListLine}
use Rattle.rc_config.specs.declared.access_list.AccessListKind.TheVariants.{Standard, Extended}
use Rattle.rc_openings.specs.Values.{number_of}
use Rattle.std.specs.Fmt.{digits}
use Rattle.std.specs.Option.{option_map}
use Rattle.rc_base.specs.Name.{name_of_number}
use Rattle.rc_gram_acl.specs.ListNumber.{kind_of_number}
use Rattle.rc_gram_acl.specs.Sequence.{sequence_for}

-- each end of the ranges
pub kinds :
    map kind_of_number (0 ∷ 1 ∷ 99 ∷ 100 ∷ 199 ∷ 200 ∷ 1299 ∷ 1300 ∷ 1999 ∷ 2000 ∷ 2699 ∷ 2700 ∷ [])
    ≡ None ∷ Some Standard ∷ Some Standard ∷ Some Extended ∷ Some Extended ∷ None ∷ None ∷ Some Standard ∷ Some Standard ∷ Some Extended ∷ Some Extended ∷ None ∷ []
kinds = refl

-- the word 005 is the list 5
pub names : (option_map name_of_number (number_of (codes "005")) ≡ Some (codes "5")) × (name_of_number 2699 ≡ codes "2699") × (name_of_number 100 ≡ codes "100")
unfolding digits
names = (refl, refl, refl)

-- lines of these numbers
abbrev lines : List ℕ → List AccessListLine
lines numbers = map (λ n. standard_line n Permit any_address) numbers

-- 10 at first, and then 10 above the greatest
pub unwritten :
    (sequence_for [] None ≡ Some 10)
    × (sequence_for (lines (10 ∷ 20 ∷ [])) None ≡ Some 30)
    × (sequence_for (lines (3 ∷ 47 ∷ [])) None ≡ Some 57)
    × (sequence_for (lines (2147483637 ∷ [])) None ≡ Some 2147483647)
    × (sequence_for (lines (2147483638 ∷ [])) None ≡ None)
unwritten = (refl, refl, refl, refl, refl)

-- a written number is from 1 to 2147483647, and no line has it yet
pub written :
    (sequence_for [] (Some 1) ≡ Some 1)
    × (sequence_for (lines (10 ∷ 30 ∷ [])) (Some 20) ≡ Some 20)
    × (sequence_for (lines (10 ∷ 30 ∷ [])) (Some 10) ≡ None)
    × (sequence_for (lines (10 ∷ 30 ∷ [])) (Some 30) ≡ None)
    × (sequence_for [] (Some 0) ≡ None)
    × (sequence_for [] (Some 2147483647) ≡ Some 2147483647)
    × (sequence_for [] (Some 2147483648) ≡ None)
written = (refl, refl, refl, refl, refl, refl, refl)
