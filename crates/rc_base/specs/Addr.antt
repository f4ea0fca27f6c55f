-- IPv4 addresses (RFC 791 s.3.2) and masks (RFC 950 s.2.1) as numbers below 2 ^ 32.
use Rattle.std.specs.Prelude.{ℕ, ◌-◌, ◌/◌, ◌%◌, ◌^◌, ◌==◌, Option, find, List, ◌++◌, codes, decimal}
use Rattle.std.specs.List.{range_with_len}

-- the first len bits of an address, as a number
abbrev pub leading_bits : ℕ → ℕ → ℕ
leading_bits len a = a / 2 ^ (32 - len)

-- the mask of a length (RFC 950 s.2.1): len ones and then zeros
abbrev pub mask : ℕ → ℕ
mask len = 2 ^ 32 - 2 ^ (32 - len)

-- the length of a mask: that of the lengths from 0 to 32 whose mask it is
unfoldable pub mask_len : ℕ → Option ℕ
mask_len m = find (λ len. mask len == m) (range_with_len 0 33)

-- an address as four decimal octets with dots between them (RFC 1123 s.2.1)
unfoldable pub dotted : ℕ → List ℕ
dotted a = decimal (a / 2 ^ 24) ++ codes "." ++ decimal (a / 2 ^ 16 % 256) ++ codes "." ++ decimal (a / 2 ^ 8 % 256) ++ codes "." ++ decimal (a % 256)
