-- The bits of a packet header, by the table of its fields: they are numbered from 0, field behind field, each field's most significant bit
-- first.
use Rattle.std.specs.Prelude.{◌≡◌, ◌≢◌, ℕ, ◌+◌, ◌-◌, ◌^◌, ◌<◌, ◌==◌, Bool, true, false, List, [], ◌∷◌, nat_lt, if◌then◌else◌, bit_or}
use Rattle.std.specs.List.{list_all}
use Rattle.rc_base.specs.declared.header.Header.{Header}
use Rattle.rc_base.specs.declared.field.Field.{Field}
use Rattle.rc_base.specs.Fields.{fields, is_set, of, place, width, with, zeros}

-- each field of a header fits its bits
abbrev pub IsHeader : Header → Type 0
IsHeader h = (f : Field) → of f h < 2 ^ width f

-- ---- the numbers of the bits

-- how many bits some fields have
abbrev pub total : List Field → ℕ
total [] = 0
total (f ∷ fs) = width f + total fs

-- how many bits a header has
abbrev pub bit_count : ℕ
bit_count = total fields

abbrev pub same_field : Field → Field → Bool
same_field f g = place f == place g

-- how many bits of some fields stand before a field
abbrev pub first_in : List Field → Field → ℕ
first_in [] f = 0
first_in (g ∷ gs) f = if same_field g f then 0 else width g + first_in gs f

-- the number of a field's first bit, and of its last
abbrev pub first_bit : Field → ℕ
first_bit f = first_in fields f

abbrev pub last_bit : Field → ℕ
last_bit f = first_bit f + width f - 1

-- ---- a bit of a header, by its number

-- by the number that it has among the bits of some fields
abbrev pub bit_in : List Field → Header → ℕ → Bool
bit_in [] h v = false
bit_in (f ∷ fs) h v = if nat_lt v (width f) then is_set (of f h) (width f - 1 - v) else bit_in fs h (v - width f)

-- the bit is 1
unfoldable pub bit : Header → ℕ → Bool
bit h v = bit_in fields h v

abbrev pub set_in : List Field → Header → ℕ → Header
set_in [] h v = h
set_in (f ∷ fs) h v = if nat_lt v (width f) then with f (bit_or (of f h) (2 ^ (width f - 1 - v))) h else set_in fs h (v - width f)

-- the header with a bit set to 1
unfoldable pub set_bit : Header → ℕ → Header
set_bit h v = set_in fields h v

-- no bit is set
abbrev pub is_free : Header → Bool
is_free h = list_all (λ f. of f h == 0) fields

-- ---- what the table has to do

-- a field that is put is read again, bit by bit, and each other one stays
pub record FieldsAreApart : Type 0 where
  pub put : (f : Field) (n : ℕ) (h : Header) (k : ℕ) → k < width f → is_set (of f (with f n h)) k ≡ is_set n k
  pub others : (f g : Field) (n : ℕ) (h : Header) → same_field f g ≡ false → of g (with f n h) ≡ of g h

-- a field's number is read by its bits, the least significant one last
abbrev pub FieldsAreRead : Type 0
FieldsAreRead = (h : Header) (f : Field) (i : ℕ) → i < width f → bit h (last_bit f - i) ≡ is_set (of f h) i

-- a bit that is set is 1, each other one stays, and in the header of zeros there is none
pub record BitsAreSet : Type 0 where
  pub now : (h : Header) (k : ℕ) → k < bit_count → bit (set_bit h k) k ≡ true
  pub others : (h : Header) (k i : ℕ) → k ≢ i → bit (set_bit h k) i ≡ bit h i
  pub zero : (k : ℕ) → bit zeros k ≡ false

-- a header has these bits
pub record HasBits (b : ℕ → Bool) : Type 0 where
  pub header : Header
  pub fits : IsHeader header
  pub same : (v : ℕ) → v < bit_count → bit header v ≡ b v

-- whatever the bits, a header has them
abbrev pub HeadersAreBits : Type 0
HeadersAreBits = (b : ℕ → Bool) → HasBits b
