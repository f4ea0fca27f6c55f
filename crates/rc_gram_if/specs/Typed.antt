-- Names that are plainly those of main interfaces that may have addresses.
use Rattle.std.specs.Prelude.{◌≡◌, refl, ℕ, Bool, true, false, not, ◌==◌, ◌&&◌, ◌||◌, List, [], ◌∷◌, Option, Some, None, codes}
use Rattle.std.specs.Char.{is_ascii_digit}
use Rattle.std.specs.List.{list_any}
use Rattle.rc_openings.specs.Opening.{left_behind}

-- a point begins the number of a subinterface
abbrev pub has_point : List ℕ → Bool
has_point text = list_any (λ b. b == 46) text

abbrev pub is_plain_number : List ℕ → Bool
is_plain_number [] = false
is_plain_number (d ∷ rest) = is_ascii_digit d && not (has_point (d ∷ rest))

abbrev pub if_plain : Option (List ℕ) → Bool
if_plain None = false
if_plain (Some rest) = is_plain_number rest

-- a word with such a number behind it
abbrev pub is_numbered : List ℕ → List ℕ → Bool
is_numbered word text = if_plain (left_behind word text)

-- the commonest types
abbrev pub is_plainly_typed : List ℕ → Bool
is_plainly_typed text = is_numbered (codes "GigabitEthernet") text || is_numbered (codes "TenGigabitEthernet") text || is_numbered (codes "FastEthernet") text

-- worked cases
pub main_interface : is_plainly_typed (codes "GigabitEthernet0/1") ≡ true
main_interface = refl

pub subinterface : is_plainly_typed (codes "GigabitEthernet0/1.5") ≡ false
subinterface = refl

pub without_number : is_plainly_typed (codes "GigabitEthernet") ≡ false
without_number = refl
