-- A packet's header from its options, of which each field of the table has one.
use Rattle.std.specs.Prelude.{ℕ, ◌-◌, ◌^◌, List, [], ◌∷◌, Option, Some, option_and_then}
use Rattle.rc_base.specs.Fields.{fields, width, with, zeros}
use Rattle.rc_base.specs.declared.field.Field.{Field}
use Rattle.rc_base.specs.declared.header.Header.{Header}

-- the greatest number of a field
abbrev pub greatest : Field → ℕ
greatest f = 2 ^ width f - 1

-- a header with the numbers of some fields, where there are all of them
abbrev pub with_numbers : (Field → Option ℕ) → List Field → Header → Option Header
with_numbers number [] h = Some h
with_numbers number (f ∷ fs) h = option_and_then (λ n. with_numbers number fs (with f n h)) (number f)

-- the header of all fields' numbers
abbrev pub header_of : (Field → Option ℕ) → Option Header
header_of number = with_numbers number fields zeros
