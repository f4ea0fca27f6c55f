-- The classes of addresses (RFC 791 s.3.2).
use Rattle.std.specs.Prelude.{ℕ, nat_lt, if◌then◌else◌, Option, Some, None}

-- the length of the network of an address: class A below 128.0.0.0, class B below 192.0.0.0, class C below 224.0.0.0, and no network
-- from there on
abbrev pub natural_length : ℕ → Option ℕ
natural_length a = if nat_lt a 0x80000000 then Some 8 else (if nat_lt a 0xc0000000 then Some 16 else (if nat_lt a 0xe0000000 then Some 24 else None))
