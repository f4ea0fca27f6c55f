-- Prefixes of IPv4 addresses (RFC 4632 s.3.1).
use Rattle.std.specs.Prelude.{◌≡◌, ℕ, ◌-◌, ◌*◌, ◌^◌, ◌<◌, ◌≤◌, Bool, ◌&&◌, ◌==◌, nat_le, List, [], ◌∷◌, ◌++◌, codes, decimal}
use Rattle.std.specs.Ordering.{nat_cmp, eq_by_cmp}
use Rattle.std.specs.Cmp.Lexicographic.{slice_cmp}
use Rattle.std.specs.declared.cmp.Ordering.{Ordering}
use Rattle.rc_base.specs.Addr.{leading_bits, dotted}

-- a network address and how many of its leading bits count
pub record Cidr : Type 0 where
  pub network : ℕ
  pub len : ℕ

-- the prefix of this length that holds an address: the host bits are 0
abbrev pub prefix_at : ℕ → ℕ → Cidr
prefix_at a len = record { network = leading_bits len a * 2 ^ (32 - len); len = len }

-- a prefix is one of 32-bit addresses, it has at most 32 bits, and no host bit is set
pub record IsCidr (p : Cidr) : Type 0 where
  pub below : p.network < 2 ^ 32
  pub short : p.len ≤ 32
  pub no_host_bits : p.network ≡ (prefix_at p.network p.len).network

-- the first bits of the address are the prefix's
abbrev pub contains : Cidr → ℕ → Bool
contains p a = leading_bits p.len a == leading_bits p.len p.network

-- p is as long as q or shorter, and q's network is one of p's addresses
abbrev pub covers : Cidr → Cidr → Bool
covers p q = nat_le p.len q.len && contains p q.network

-- by address, then length
abbrev pub prefix_key : Cidr → List ℕ
prefix_key p = p.network ∷ p.len ∷ []

-- prefixes by address, then length
abbrev pub prefix_cmp : Cidr → Cidr → Ordering
prefix_cmp p q = slice_cmp nat_cmp (prefix_key p) (prefix_key q)

-- two prefixes are one: one address and one length
abbrev pub same_prefix : Cidr → Cidr → Bool
same_prefix = eq_by_cmp prefix_cmp

-- 0.0.0.0/0, the prefix of a default route
abbrev pub default_prefix : Cidr
default_prefix = record { network = 0; len = 0 }

-- the prefix is 0.0.0.0/0
abbrev pub is_default : Cidr → Bool
is_default p = same_prefix p default_prefix

-- a prefix as its address, a slash and its length
unfoldable pub prefix_text : Cidr → List ℕ
prefix_text p = dotted p.network ++ codes "/" ++ decimal p.len
