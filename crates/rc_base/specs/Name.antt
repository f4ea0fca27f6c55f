-- Names of routers, interfaces and lists: 1 to 63 printable ASCII bytes without a blank.
use Rattle.std.specs.Prelude.{◌≡◌, ℕ, ◌-◌, List, ◌++◌, length, replicate, take, Bool, true, ◌&&◌, nat_le, nat_lt, nat_eq, if◌then◌else◌, Option, Some, None, decimal}
use Rattle.std.specs.List.{list_all}
use Rattle.std.specs.Cmp.Lexicographic.{pointwise}
use Rattle.std.proofs.Common.{ap, ◌∙◌}

-- printable ASCII without the blank
abbrev pub is_name_byte : ℕ → Bool
is_name_byte b = nat_lt 32 b && nat_lt b 127

-- a name: 1 to 63 printable ASCII bytes without a blank
abbrev pub is_name : List ℕ → Bool
is_name text = nat_lt 0 (length text) && nat_le (length text) 63 && list_all is_name_byte text

-- the name that a text is, none where it isn't one
abbrev pub name_of : List ℕ → Option (List ℕ)
name_of text = if is_name text then Some text else None

-- the name of what has a number in place of a name: its decimal digits, without zeros in front
abbrev pub name_of_number : ℕ → List ℕ
name_of_number n = decimal n

-- two names are one, byte by byte
abbrev pub same_name : List ℕ → List ℕ → Bool
same_name = pointwise nat_eq

-- a text of n bytes in a field of 63, with zeros behind it
abbrev pub padded : ℕ → List ℕ → List ℕ
padded n text = text ++ replicate (63 - n) 0

-- the first len of the bytes are a name, and zeros follow
pub record IsPadded (len : ℕ) (bytes : List ℕ) : Type 0 where
  pub name : is_name (take len bytes) ≡ true
  pub long : length (take len bytes) ≡ len
  pub zeros : padded len (take len bytes) ≡ bytes

pub padded-take : (len : ℕ) (bytes : List ℕ) → IsPadded len bytes → padded (length (take len bytes)) (take len bytes) ≡ bytes
padded-take len bytes h = ap (λ n. padded n (take len bytes)) h.long ∙ h.zeros
