-- Worked cases of things by number, each by computation.
use Rattle.std.specs.Prelude.{◌≡◌, ℕ, true, false, List, [], ◌∷◌, Some, None, fold, refl}
use Rattle.rc_config.specs.ByNumber.{placed, with_number, without_number, has_number, last_number}

-- things with a number and a word of their own
abbrev number : ℕ × ℕ → ℕ
number x = x.0

abbrev three : List (ℕ × ℕ)
three = (10, 1) ∷ (20, 2) ∷ (30, 3) ∷ []

pub first_of_none : placed number (20, 9) [] ≡ (20, 9) ∷ []
first_of_none = refl

-- in front of all, between two, and behind all
pub in_front : placed number (5, 9) three ≡ (5, 9) ∷ (10, 1) ∷ (20, 2) ∷ (30, 3) ∷ []
in_front = refl

pub between : placed number (15, 9) three ≡ (10, 1) ∷ (15, 9) ∷ (20, 2) ∷ (30, 3) ∷ []
between = refl

pub behind : placed number (31, 9) three ≡ (10, 1) ∷ (20, 2) ∷ (30, 3) ∷ (31, 9) ∷ []
behind = refl

-- in place of the one of the same number, whether first, in the middle or last
pub same_first : placed number (10, 9) three ≡ (10, 9) ∷ (20, 2) ∷ (30, 3) ∷ []
same_first = refl

pub same_middle : placed number (20, 9) three ≡ (10, 1) ∷ (20, 9) ∷ (30, 3) ∷ []
same_middle = refl

pub same_last : placed number (30, 9) three ≡ (10, 1) ∷ (20, 2) ∷ (30, 9) ∷ []
same_last = refl

-- in whatever order they come
pub falling : fold (λ xs x. placed number x xs) [] ((30, 3) ∷ (20, 2) ∷ (10, 1) ∷ []) ≡ three
falling = refl

pub found : with_number number 20 three ≡ Some (20, 2)
found = refl

pub not_found : with_number number 15 three ≡ None
not_found = refl

pub there : has_number number 30 three ≡ true
there = refl

pub not_there : has_number number 31 three ≡ false
not_there = refl

pub others : without_number number 20 three ≡ (10, 1) ∷ (30, 3) ∷ []
others = refl

pub all_others : without_number number 15 three ≡ three
all_others = refl

pub greatest : last_number number three ≡ Some 30
greatest = refl

pub no_greatest : last_number number [] ≡ None
no_greatest = refl
