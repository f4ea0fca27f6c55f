-- The made network: n routers in a ring, with their networks and addresses.
use Rattle.std.specs.Prelude.{ℕ, ◌+◌, ◌-◌, ◌*◌, ◌/◌, ◌%◌, ◌^◌, ◌==◌, Bool, ◌&&◌, nat_lt, nat_le, if◌then◌else◌, Option, Some, None}

-- the network between router i and the next one: a /30 each, from 10.0.0.0 on
abbrev pub ring_network : ℕ → ℕ
ring_network i = 10 * 2 ^ 24 + 4 * i

-- the network of the chord at router i: a /30 each, from 10.1.0.0 on
abbrev pub chord_network : ℕ → ℕ
chord_network i = 10 * 2 ^ 24 + 2 ^ 16 + 4 * i

-- the LAN of router i: a /24 each, from 172.16.0.0 on
abbrev pub lan_network : ℕ → ℕ
lan_network i = 172 * 2 ^ 24 + (16 + i / 256) * 2 ^ 16 + i % 256 * 2 ^ 8

-- the router before router i in a ring of n
abbrev pub before : ℕ → ℕ → ℕ
before n i = (i + n - 1) % n

-- in the first half every eighth router has a chord to the router half the ring further on
abbrev pub begins_chord : ℕ → ℕ → Bool
begins_chord n i = nat_lt i (n / 2) && (i % 8 == 0)

-- a router's address on its chord: the first one at the router where it begins, the second at the other
abbrev pub chord_address : ℕ → ℕ → Option ℕ
chord_address n i =
    if begins_chord n i then Some (chord_network i + 1)
    else if nat_le (n / 2) i && begins_chord n (i - n / 2) then Some (chord_network (i - n / 2) + 2)
    else None

-- every fourth router filters what leaves for its LAN
abbrev pub filters : ℕ → Bool
filters i = i % 4 == 1
