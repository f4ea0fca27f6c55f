-- Marked prefixes in order, as they are looked up bit by bit.
use Rattle.std.specs.Prelude.{◌≡◌, ℕ, zero, suc, ◌+◌, ◌-◌, ◌*◌, ◌^◌, ◌<◌, ◌≤◌, ◌⊎◌, ◌==◌, Bool, true, false, cond, List, [], ◌∷◌, filter, length, map}
use Rattle.std.specs.List.{AllByRecursion, list_any}
use Rattle.rc_base.specs.Addr.{leading_bits}
use Rattle.rc_base.specs.Prefix.{Cidr, IsCidr}
use Rattle.rc_trees.specs.Trees.{Tree, top, IsReduced}
use Rattle.rc_trees.specs.Trees.{value, HasNodesOf}
use Rattle.std.specs.Int.{bit_at}
use Rattle.rc_fib.specs.Entry.{Entry}
use Rattle.rc_route.specs.Hops.{same_hop}
use Rattle.rc_route.specs.declared.route.Hop.{Hop}
use Rattle.rc_sets.specs.Regions.{gives}

-- the k-th bit of an address, the most significant first
abbrev pub address_bit : ℕ → ℕ → Bool
address_bit a k = bit_at a (31 - k) == 1

-- a prefix of a table, and whether its route gives the hop that is asked for
pub record Mark : Type 0 where
  pub prefix : Cidr
  pub gives : Bool

-- a route with this prefix gives the hop
abbrev pub mark_of : Hop → Entry → Mark
mark_of x e = record { prefix = e.prefix; gives = list_any (same_hop x) e.hops }

abbrev pub marks : Hop → List Entry → List Mark
marks x es = map (mark_of x) es

-- the prefixes of all routes
abbrev pub prefixes : List Mark → List Cidr
prefixes ms = map (λ (m : Mark). m.prefix) ms

-- and of those that give the hop
abbrev pub giving : List Mark → List Cidr
giving ms = prefixes (filter (λ (m : Mark). m.gives) ms)

-- the same, of a table
abbrev pub prefixes_over : Hop → List Entry → List Cidr
prefixes_over x es = map (λ (e : Entry). e.prefix) (filter (gives x) es)

-- ---- prefixes and bits

abbrev pub digit : Bool → ℕ
digit true = 1
digit false = 0

-- the first so many bits, as a number
abbrev pub lead : (ℕ → Bool) → ℕ → ℕ
lead bits zero = 0
lead bits (suc n) = 2 * lead bits n + digit (bits n)

-- the first bits are the prefix's
abbrev pub inside : Cidr → (ℕ → Bool) → Bool
inside p bits = lead bits p.len == leading_bits p.len p.network

-- a prefix of an address of 32 bits
pub record IsPrefix (p : Cidr) : Type 0 where
  pub canonical : IsCidr p
  pub small : p.network < 2 ^ 32

-- ---- marks in order

-- by address, then length
abbrev pub Before : Cidr → Cidr → Type 0
Before p q = (p.network < q.network) ⊎ ((p.network ≡ q.network) × (p.len < q.len))

-- each prefix stands before those after it
abbrev pub Rises : List Mark → Type 0
Rises [] = Unit {0}
Rises (m ∷ ms) = AllByRecursion (λ (n : Mark). Before m.prefix n.prefix) ms × Rises ms

abbrev pub AreMarks : List Mark → Type 0
AreMarks ms = AllByRecursion (λ (m : Mark). IsPrefix m.prefix) ms

abbrev pub held : (ℕ → Bool) → Mark → Bool
held bits m = inside m.prefix bits

-- what the last mark that holds the bits says, else what was known before
abbrev pub decided : Bool → List Mark → (ℕ → Bool) → Bool
decided known [] bits = known
decided known (m ∷ ms) bits = decided (cond (held bits m) m.gives known) ms bits

-- ---- a part of them

-- marks in order, each of at least so many bits, the first of which are those of the way
pub record AreOn (depth : ℕ) (way : ℕ → Bool) (marks : List Mark) : Type 0 where
  pub all : AllByRecursion (λ (m : Mark). IsPrefix m.prefix × (depth ≤ m.prefix.len) × (leading_bits depth m.prefix.network ≡ lead way depth)) marks
  pub rises : Rises marks

-- on the way the tree says what the marks decide, and it tests no bit of the way
pub record IsSetOf (depth : ℕ) (way : ℕ → Bool) (known : Bool) (marks : List Mark) (t : Tree) : Type 0 where
  pub reduced : IsReduced t
  pub above : depth ≤ top t
  pub values : (bits : ℕ → Bool) → lead bits depth ≡ lead way depth → value t bits ≡ decided known marks bits

-- these are the prefixes of the routes on some way, these those of the routes that give a hop, and the tree is its set on that way
pub record IsHopSet (depth : ℕ) (known : Bool) (routes given : List Cidr) (t : Tree) : Type 0 where
  pub marked : List Mark
  pub way : ℕ → Bool
  pub are_routes : routes ≡ prefixes marked
  pub are_given : given ≡ giving marked
  pub on : AreOn depth way marked
  pub set : IsSetOf depth way known marked t

-- and that set may be made
pub record MayBuild (may : List Tree) (depth : ℕ) (known : Bool) (routes given : List Cidr) : Type 0 where
  pub tree : Tree
  pub set : IsHopSet depth known routes given tree
  pub allowed : HasNodesOf may tree

-- ---- a step

-- whether the first of some prefixes is that of the way itself
abbrev pub begins : ℕ → List Cidr → Bool
begins depth [] = false
begins depth (p ∷ ps) = p.len == depth

-- the route of the way itself, if any, decides for all that is on it
abbrev pub known_at : ℕ → Bool → List Cidr → List Cidr → Bool
known_at depth known [] given = known
known_at depth known (p ∷ ps) given = cond (p.len == depth) (begins depth given) known

-- and the others are longer
abbrev pub prefixes_below : ℕ → List Cidr → List Cidr
prefixes_below depth [] = []
prefixes_below depth (p ∷ ps) = cond (p.len == depth) ps (p ∷ ps)

-- ---- all that is on a way

-- routes of one length, as many as there are prefixes of it on a way of so many bits: so each address there is in one of them
pub record IsWhole (depth : ℕ) (routes : List Cidr) : Type 0 where
  pub len : ℕ
  pub alike : AllByRecursion (λ (p : Cidr). p.len ≡ len) routes
  pub many : length routes ≡ 2 ^ (len - depth)
