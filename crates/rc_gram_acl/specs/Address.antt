-- Tests of addresses.
use Rattle.std.specs.Prelude.{ℕ, List, [], ◌∷◌, Option, Some, None, if◌then◌else◌, codes}
use Rattle.std.specs.Option.{option_map}
use Rattle.std.specs.Str.{bytes_eq}
use Rattle.rc_openings.specs.Values.{address_of}
use Rattle.rc_openings.specs.Part.{Part, before}
use Rattle.rc_config.specs.AccessList.{any_address, host_address}
use Rattle.rc_config.specs.declared.access_list.AddressTest.{AddressTest}

-- the address behind `host`
abbrev pub host : List (List ℕ) → Part AddressTest
host [] = None
host (a ∷ rest) = before rest (option_map host_address (address_of a))

-- a wildcard behind an address: any dotted word
abbrev pub wildcard_from : ℕ → List (List ℕ) → Part AddressTest
wildcard_from a [] = None
wildcard_from a (w ∷ rest) = before rest (option_map (λ n. record { addr = a; wildcard = n }) (address_of w))

-- an address and a wildcard
abbrev pub masked : Option ℕ → List (List ℕ) → Part AddressTest
masked None rest = None
masked (Some a) rest = wildcard_from a rest

-- a test of an extended line: `any`, `host A` or `A W`
abbrev pub address : List (List ℕ) → Part AddressTest
address [] = None
address (w ∷ rest) = if bytes_eq w (codes "any") then Some (any_address, rest) else (if bytes_eq w (codes "host") then host rest else masked (address_of w) rest)

-- the test, or that of the address alone
abbrev pub or_alone : ℕ → List (List ℕ) → Part AddressTest → Part AddressTest
or_alone a rest None = Some (host_address a, rest)
or_alone a rest (Some p) = Some p

-- an address, with a wildcard where the next word is one
abbrev pub masked_or_alone : Option ℕ → List (List ℕ) → Part AddressTest
masked_or_alone None rest = None
masked_or_alone (Some a) rest = or_alone a rest (wildcard_from a rest)

-- the test of a standard line: `any`, `host A`, `A` or `A W`
abbrev pub source : List (List ℕ) → Part AddressTest
source [] = None
source (w ∷ rest) = if bytes_eq w (codes "any") then Some (any_address, rest) else (if bytes_eq w (codes "host") then host rest else masked_or_alone (address_of w) rest)
