-- Worked cases of connected routes, each by computation.
use Rattle.std.specs.Prelude.{◌≡◌, ℕ, ◌+◌, ◌*◌, true, List, [], ◌∷◌, Some, codes, refl}
use Rattle.rc_base.specs.Prefix.{prefix_at}
use Rattle.rc_config.specs.declared.interface.Interface.{Interface}
use Rattle.rc_config.specs.Interface.{fresh}
use Rattle.rc_config.specs.MaskedAddr.{MaskedAddr}
use Rattle.rc_rib.specs.Connected.{connected, connected_route_over}
use Rattle.rc_route.specs.declared.route.Route.{Route}

-- 10.0.m.n
abbrev address : ℕ → ℕ → ℕ → MaskedAddr
address m n len = record { addr = 10 * 16777216 + m * 256 + n; len = len }

abbrev up_with : List MaskedAddr → Interface
up_with addresses = record fresh { secondary = addresses }

abbrev primary_with : MaskedAddr → Interface
primary_with a = record fresh { primary = Some a }

abbrev shut_with : List MaskedAddr → Interface
shut_with addresses = record fresh { secondary = addresses; shutdown = true }

-- a route of router 7
abbrev route : MaskedAddr → List ℕ → Route
route a interfaces = connected_route_over 7 (prefix_at a.addr a.len) interfaces

abbrev first : List ℕ
first = codes "Gi0/0"

abbrev sub : List ℕ
sub = codes "Gi0/0.10"

-- the route of an address has its prefix, with no host bits
pub one_route : connected 7 ((first, primary_with (address 1 1 24)) ∷ []) ≡ route (address 1 0 24) (0 ∷ []) ∷ []
unfolding connected
one_route = refl

-- an interface that is shut has none
pub shut_has_no_route : connected 7 ((first, shut_with (address 1 1 24 ∷ [])) ∷ []) ≡ []
unfolding connected
shut_has_no_route = refl

pub sub_of_shut_has_no_route : connected 7 ((first, shut_with []) ∷ (sub, primary_with (address 1 1 24)) ∷ []) ≡ []
unfolding connected
sub_of_shut_has_no_route = refl

-- two interfaces with one prefix make one route
pub shared_prefix : connected 7 ((first, primary_with (address 1 1 24)) ∷ (codes "Gi0/1", primary_with (address 1 2 24)) ∷ []) ≡ route (address 1 0 24) (0 ∷ 1 ∷ []) ∷ []
unfolding connected
shared_prefix = refl

-- an index is that among all interfaces, those that are down too
pub index_among_all : connected 7 ((first, shut_with (address 1 1 24 ∷ [])) ∷ (codes "Gi0/1", primary_with (address 1 2 24)) ∷ []) ≡ route (address 1 0 24) (1 ∷ []) ∷ []
unfolding connected
index_among_all = refl

-- a secondary address makes a route of its own
pub secondary_route : connected 7 ((first, record fresh { primary = Some (address 2 1 24); secondary = address 1 1 24 ∷ [] }) ∷ []) ≡ route (address 1 0 24) (0 ∷ []) ∷ route (address 2 0 24) (0 ∷ []) ∷ []
unfolding connected
secondary_route = refl

-- one prefix twice on an interface counts once
pub twice_counts_once : connected 7 ((first, up_with (address 1 1 24 ∷ address 2 1 24 ∷ address 1 7 24 ∷ [])) ∷ []) ≡ route (address 1 0 24) (0 ∷ []) ∷ route (address 2 0 24) (0 ∷ []) ∷ []
unfolding connected
twice_counts_once = refl

-- the order is by address, then length
pub address_before_length : connected 7 ((first, up_with (address 2 1 24 ∷ address 1 1 32 ∷ address 1 0 25 ∷ address 1 0 24 ∷ [])) ∷ []) ≡
    route (address 1 0 24) (0 ∷ []) ∷ route (address 1 0 25) (0 ∷ []) ∷ route (address 1 1 32) (0 ∷ []) ∷ route (address 2 0 24) (0 ∷ []) ∷ []
unfolding connected
address_before_length = refl
