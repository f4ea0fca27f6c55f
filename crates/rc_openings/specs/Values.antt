-- What a word says as a value.
use Rattle.std.specs.Prelude.{ℕ, ◌+◌, ◌-◌, ◌*◌, ◌==◌, Bool, false, nat_lt, nat_le, ◌&&◌, if◌then◌else◌, List, [], ◌∷◌, length, Option, Some, None}
use Rattle.std.specs.List.{slice_split}
use Rattle.std.specs.Option.{option_and_then, option_or}
use Rattle.std.specs.Char.{is_ascii_alphabetic, is_ascii_digit}
use Rattle.rc_base.specs.Addr.{mask_len}
use Rattle.rc_base.specs.Name.{is_name}
use Rattle.rc_base.specs.Prefix.{Cidr, prefix_at}

-- the number that decimal digits write, after those that made n
abbrev pub digits_from : ℕ → List ℕ → Option ℕ
digits_from n [] = Some n
digits_from n (d ∷ ds) = if is_ascii_digit d then digits_from (10 * n + (d - 48)) ds else None

-- a number up to a limit
abbrev pub at_most : ℕ → Option ℕ → Option ℕ
at_most limit None = None
at_most limit (Some n) = if nat_le n limit then Some n else None

-- one to so many digits, whose number is at most the limit
abbrev pub digits_up_to : ℕ → ℕ → List ℕ → Option ℕ
digits_up_to most limit word = if nat_lt 0 (length word) && nat_le (length word) most then at_most limit (digits_from 0 word) else None

-- the number that a word is: one to ten digits, below 2^32
abbrev pub number_of : List ℕ → Option ℕ
number_of word = digits_up_to 10 4294967295 word

-- the number that a word is, within a range, ends included
abbrev pub number_within : ℕ → ℕ → List ℕ → Option ℕ
number_within low high word = option_and_then (λ n. if nat_le low n && nat_le n high then Some n else None) (number_of word)

-- one to three digits, at most 255
abbrev pub octet : List ℕ → Option ℕ
octet word = digits_up_to 3 255 word

abbrev pub address_of_octets : Option ℕ → Option ℕ → Option ℕ → Option ℕ → Option ℕ
address_of_octets (Some a) (Some b) (Some c) (Some d) = Some (((a * 256 + b) * 256 + c) * 256 + d)
address_of_octets _ _ _ _ = None

abbrev pub address_of_parts : List (List ℕ) → Option ℕ
address_of_parts (a ∷ b ∷ c ∷ d ∷ []) = address_of_octets (octet a) (octet b) (octet c) (octet d)
address_of_parts _ = None

-- the address that a word is: four octets with dots between them, of one to three digits each
abbrev pub address_of : List ℕ → Option ℕ
address_of word = address_of_parts (slice_split (λ b. b == 46) word)

-- the octet that the first of several parts is
abbrev pub first_octet : List (List ℕ) → Option ℕ
first_octet (a ∷ b ∷ parts) = octet a
first_octet _ = None

-- the length of the mask that a word is
abbrev pub mask_length_of : List ℕ → Option ℕ
mask_length_of word = option_and_then mask_len (address_of word)

-- the prefix of an address and a length, where there are both
abbrev pub prefix_from : Option ℕ → Option ℕ → Option Cidr
prefix_from (Some a) (Some len) = Some (prefix_at a len)
prefix_from _ _ = None

abbrev pub prefix_of_parts : List (List ℕ) → Option Cidr
prefix_of_parts (a ∷ len ∷ []) = prefix_from (address_of a) (number_within 0 32 len)
prefix_of_parts _ = None

-- the prefix that a word is: an address, a slash and a length, of which it is the prefix that holds the address
abbrev pub prefix_of : List ℕ → Option Cidr
prefix_of word = prefix_of_parts (slice_split (λ b. b == 47) word)

-- the area that a word is (RFC 2328 s.C.2): a number, or an address that stands for its value
abbrev pub area_of : List ℕ → Option ℕ
area_of word = option_or (number_of word) (address_of word)

-- whether a word begins with a letter
abbrev pub begins_with_letter : List ℕ → Bool
begins_with_letter [] = false
begins_with_letter (b ∷ bs) = is_ascii_alphabetic b

-- a name that an interface may have: it begins with a letter
abbrev pub is_interface_name : List ℕ → Bool
is_interface_name text = is_name text && begins_with_letter text

-- the interface's name that a word is: it begins with a letter
abbrev pub interface_of : List ℕ → Option (List ℕ)
interface_of word = if is_interface_name word then Some word else None
