-- Places in a list that is in order of prefix.
use Rattle.std.specs.Prelude.{◌≡◌, ℕ, ◌-◌, ◌<◌, ◌≤◌, Bool, true, false, List, length, slice_get, slice_index_or}
use Rattle.std.specs.Option.{option_map_or}
use Rattle.std.specs.Ordering.{is_lt}
use Rattle.std.specs.declared.cmp.Ordering.TheVariants.{Less}
use Rattle.rc_base.specs.Prefix.{Cidr, IsCidr, contains, prefix_cmp}
use Rattle.rc_trie.specs.declared.row.Row.{Row}
use Rattle.rc_trie.specs.Tree.{AreInOrder}

-- what a row is seen as: its prefix with its value
abbrev pub row_of : Row → Cidr × ℕ
row_of r = (r.prefix, r.value)

-- rows in order of prefix
abbrev pub AreRows : List Row → Type 0
AreRows rows = AreInOrder (λ (r : Row). r.prefix) rows

module _ {X : Type 0} (prefix : X → Cidr) (rows : List X) where
  -- the rows before a place begin at the address or before it, and the others behind it
  pub record IsReach (a m : ℕ) : Type 0 where
    pub within : m ≤ length rows
    pub before : (k : ℕ) (d : X) → k < m → (prefix (slice_index_or rows k d)).network ≤ a
    pub behind : (k : ℕ) (d : X) → m ≤ k → k < length rows → a < (prefix (slice_index_or rows k d)).network

  -- no row from a place on holds the address
  abbrev pub NoneHolds : ℕ → ℕ → Type 0
  NoneHolds from a = (k : ℕ) (d : X) → from ≤ k → k < length rows → contains (prefix (slice_index_or rows k d)) a ≡ false

-- no prefix that holds both addresses begins behind the third one
pub record IsShared (x a first : ℕ) : Type 0 where
  pub last : (q : Cidr) → IsCidr q → contains q x ≡ true → contains q a ≡ true → q.network ≤ first

-- the rows before a place stand before the prefix, and the others don't
pub record IsPlace (rows : List Row) (p : Cidr) (m : ℕ) : Type 0 where
  pub within : m ≤ length rows
  pub before : (k : ℕ) (d : Row) → k < m → prefix_cmp (slice_index_or rows k d).prefix p ≡ Less
  pub behind : (k : ℕ) (d : Row) → m ≤ k → k < length rows → is_lt (prefix_cmp (slice_index_or rows k d).prefix p) ≡ false

-- the last of the rows, if any, stands before the prefix
abbrev pub ends_before : List Row → Cidr → Bool
ends_before rows p = option_map_or (λ (r : Row). is_lt (prefix_cmp r.prefix p)) (slice_get rows (length rows - 1)) true
