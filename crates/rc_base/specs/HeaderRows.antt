-- The layout of a header's bits, by computation: where each field begins and ends, and how many bits there are.
use Rattle.std.specs.Prelude.{◌≡◌, refl, [], ◌∷◌, map}
use Rattle.rc_base.specs.Fields.{fields}
use Rattle.rc_base.specs.Header.{bit_count, first_bit, last_bit}

pub first_bits : map first_bit fields ≡ 0 ∷ 32 ∷ 64 ∷ 72 ∷ 88 ∷ 104 ∷ 112 ∷ 120 ∷ 121 ∷ []
first_bits = refl

pub last_bits : map last_bit fields ≡ 31 ∷ 63 ∷ 71 ∷ 87 ∷ 103 ∷ 111 ∷ 119 ∷ 120 ∷ 121 ∷ []
last_bits = refl

pub all_bits : bit_count ≡ 122
all_bits = refl
