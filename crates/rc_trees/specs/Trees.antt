-- Decision trees over the bits of a header (Bryant 1986): a set of headers as a tree of tests.
use Rattle.std.specs.Prelude.{◌≡◌, ◌≢◌, ℕ, ◌<◌, ◌==◌, Bool, true, false, ◌&&◌, ◌⊎◌, min, if◌then◌else◌, List, [], ◌∷◌}
use Rattle.rc_base.specs.Header.{bit, bit_count}
use Rattle.rc_base.specs.declared.header.Header.{Header}

-- a set of headers as a tree (Bryant 1986): no header, every header, or a test of a bit with the tree for 0 (low) and the tree for 1
-- (high)
pub data Tree : Type 0 where
  never : Tree
  always : Tree
  node : ℕ → Tree → Tree → Tree

-- the value of a tree: a test goes on to its high side where the bit is 1, else to its low side
abbrev pub value : Tree → (ℕ → Bool) → Bool
value never bits = false
value always bits = true
value (node v low high) bits = if bits v then value high bits else value low bits

-- a header is in the set of the tree
abbrev pub holds : Tree → Header → Bool
holds t h = value t (bit h)

-- ---- reduced trees

-- the bit tested on top; a constant tests none, which comes behind all of them
abbrev pub top : Tree → ℕ
top never = bit_count
top always = bit_count
top (node v low high) = v

-- a tree in which bits rise from the top down and no test is idle; each set has one such tree
abbrev pub IsReduced : Tree → Type 0
IsReduced never = Unit {0}
IsReduced always = Unit {0}
IsReduced (node v low high) = (v < top low) × (v < top high) × (low ≢ high) × IsReduced low × IsReduced high

-- two trees are one
abbrev pub same_tree : Tree → Tree → Bool
same_tree never never = true
same_tree always always = true
same_tree (node v l r) (node w m s) = (v == w) && (same_tree l m && same_tree r s)
same_tree _ _ = false

-- the tree is no constant
abbrev pub is_node : Tree → Bool
is_node never = false
is_node always = false
is_node (node v low high) = true

-- ---- the sides of a tree at a bit: where it doesn't test that one on top, it is its own side

-- the tree for the headers in which a bit is 0
abbrev pub low_side : ℕ → Tree → Tree
low_side v never = never
low_side v always = always
low_side v (node w low high) = if v == w then low else node w low high

-- the tree for the headers in which a bit is 1
abbrev pub high_side : ℕ → Tree → Tree
high_side v never = never
high_side v always = always
high_side v (node w low high) = if v == w then high else node w low high

-- the least bit that one of two trees tests on top
abbrev pub first_of : Tree → Tree → ℕ
first_of s t = min (top s) (top t)

-- ---- lists of trees

-- the tree is one of the list
abbrev pub IsAmong : List Tree → Tree → Type 0
IsAmong [] t = ⊥
IsAmong (x ∷ xs) t = (x ≡ t) ⊎ IsAmong xs t

-- each node of the second list is one of the first
abbrev pub HasNodes : List Tree → List Tree → Type 0
HasNodes may wanted = (t : Tree) → IsAmong wanted t → is_node t ≡ true → IsAmong may t

-- each node that stands in the tree is one of the list
abbrev pub HasNodesOf : List Tree → Tree → Type 0
HasNodesOf may never = Unit {0}
HasNodesOf may always = Unit {0}
HasNodesOf may (node v low high) = IsAmong may (node v low high) × HasNodesOf may low × HasNodesOf may high
