-- Worked cases of indexes, each by computation.
use Rattle.std.specs.Prelude.{◌≡◌, ℕ, ◌+◌, ◌*◌, List, [], ◌∷◌, refl}
use Rattle.rc_base.specs.Index.{members, index_of}
use Rattle.rc_base.specs.Prefix.{Cidr, prefix_at}
use Rattle.rc_base.specs.declared.position.IfId.{IfId}

-- 10.0.m.0/24
abbrev subnet : ℕ → Cidr
subnet m = prefix_at (10 * 16777216 + m * 256) 24

abbrev interface : ℕ → ℕ → IfId
interface r n = record { router = r; index = n }

-- each interface of router r has 10.0.r.0/24 and that of the router with the next number, in reverse
abbrev two_each : IfId → List Cidr
two_each i = subnet (i.router + 1) ∷ subnet i.router ∷ []

-- rows stand in order of prefix, members in the order of the interfaces
pub rows_in_order : index_of two_each (interface 1 0 ∷ interface 2 5 ∷ interface 2 3 ∷ [])
    ≡ (subnet 1, interface 1 0 ∷ []) ∷ (subnet 2, interface 1 0 ∷ interface 2 5 ∷ interface 2 3 ∷ []) ∷ (subnet 3, interface 2 5 ∷ interface 2 3 ∷ []) ∷ []
rows_in_order = refl

-- a prefix twice on an interface counts once
pub once : index_of (λ i. subnet 4 ∷ subnet 1 ∷ subnet 4 ∷ []) (interface 0 0 ∷ []) ≡ (subnet 1, interface 0 0 ∷ []) ∷ (subnet 4, interface 0 0 ∷ []) ∷ []
once = refl

-- interfaces of one place on two routers are two
pub two_routers : index_of (λ i. subnet 4 ∷ []) (interface 0 7 ∷ interface 1 7 ∷ []) ≡ (subnet 4, interface 0 7 ∷ interface 1 7 ∷ []) ∷ []
two_routers = refl

-- an interface without prefixes stands nowhere
pub without_prefix : index_of (λ i. []) (interface 0 0 ∷ []) ≡ []
without_prefix = refl

pub members_there : members (index_of two_each (interface 1 0 ∷ interface 2 5 ∷ [])) (subnet 2) ≡ interface 1 0 ∷ interface 2 5 ∷ []
members_there = refl

-- a prefix of another length is another prefix
pub no_members : members (index_of two_each (interface 1 0 ∷ [])) (prefix_at (10 * 16777216 + 256) 25) ≡ []
no_members = refl
