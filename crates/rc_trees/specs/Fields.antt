-- The trees of tests of a header's fields.
use Rattle.std.specs.Prelude.{ℕ, zero, suc, ◌-◌, ◌^◌, Bool, true, false, nat_lt, if◌then◌else◌, List, flat_map}
use Rattle.rc_base.specs.Addr.{leading_bits}
use Rattle.rc_base.specs.Fields.{is_set}
use Rattle.rc_base.specs.Prefix.{Cidr, prefix_at}
use Rattle.rc_trees.specs.Trees.{Tree, never, always, node}
use Rattle.rc_trees.specs.Combine.{joined}
use Rattle.rc_trees.specs.Recipes.{Recipe, given, nodes}

-- ---- numbers of a header, bit by bit: the last bit of the number is the header's bit `last`

-- a bit, where the wildcard leaves it in, is this one; and then another test
abbrev pub with_bit : Bool → Bool → ℕ → Tree → Tree
with_bit true one v t = t
with_bit false true v t = node v never t
with_bit false false v t = node v t never

-- the headers of which, of the last so many bits of a number, each whose wildcard bit is 0 is that of n
unfoldable pub masked : ℕ → ℕ → ℕ → ℕ → Tree
masked last zero wildcard n = always
masked last (suc k) wildcard n = with_bit (is_set wildcard k) (is_set n k) (last - k) (masked last k wildcard n)

-- the headers whose number is n, which has no more bits
abbrev pub exact : ℕ → ℕ → ℕ → Tree
exact last count n = if nat_lt n (2 ^ count) then masked last count 0 n else never

-- a number is lower where n's bit is 1 and its own 0, and higher where it is the other way round; else the bits behind decide
abbrev pub under_bit : Bool → ℕ → Tree → Tree
under_bit true v rest = joined v always rest
under_bit false v rest = joined v rest never

-- the number is lower than n, and where it is n this decides
unfoldable pub under : ℕ → ℕ → ℕ → Tree → Tree
under last zero n equal = equal
under last (suc k) n equal = under_bit (is_set n k) (last - k) (under last k n equal)

-- the headers whose number is lower than n
abbrev pub below : ℕ → ℕ → ℕ → Tree
below last count n = if nat_lt n (2 ^ count) then under last count n never else always

-- the headers whose number is at most n
abbrev pub at_most : ℕ → ℕ → ℕ → Tree
at_most last count n = if nat_lt n (2 ^ count) then under last count n always else always

-- ---- destinations

-- the headers whose destination a prefix holds
abbrev pub chain : Cidr → Recipe
chain p = given (exact (p.len - 1) p.len (leading_bits p.len p.network))

-- the headers to one address
abbrev pub host : ℕ → Recipe
host a = chain (prefix_at a 32)

-- the nodes of the chains of some prefixes
abbrev pub chain_nodes : List Cidr → List Tree
chain_nodes ps = flat_map (λ p. nodes (chain p)) ps
