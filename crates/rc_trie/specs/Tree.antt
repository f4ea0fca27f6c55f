-- A map from prefixes to values as the list of its rows, by address, then length; and the row of the longest prefix that holds an address.
use Rattle.std.specs.Prelude.{◌≡◌, ℕ, ◌<◌, ◌≤◌, true, if◌then◌else◌, nat_lt, List, All, Option, Some, filter, length, slice_get, slice_index_or}
use Rattle.std.specs.List.{reduce}
use Rattle.std.specs.BTreeMap.{insert_entry}
use Rattle.rc_base.specs.Prefix.{Cidr, IsCidr, contains, prefix_cmp}
use Rattle.rc_route.specs.Tables.{IsListed}

-- things by their prefixes: one for each, by address, then length; and each prefix is one
pub record AreInOrder {A : Type 0} (prefix : A → Cidr) (xs : List A) : Type 0 where
  pub sorted : IsListed prefix xs
  pub canonical : All (λ x. IsCidr (prefix x)) xs

-- of the things whose prefix holds the address the one with the longest prefix
abbrev pub longest_by : {A : Type 0} → (A → Cidr) → List A → ℕ → Option A
longest_by prefix xs a =
    reduce (λ x y. if nat_lt (prefix x).len (prefix y).len then y else x) (filter (λ x. contains (prefix x) a) xs)

-- the thing at a place holds the address; of the others that do, those before it are shorter, and none is longer
pub record IsLongestAt {A : Type 0} (prefix : A → Cidr) (xs : List A) (a place : ℕ) : Type 0 where
  pub thing : A
  pub is : slice_get xs place ≡ Some thing
  pub holds : contains (prefix thing) a ≡ true
  pub before : (k : ℕ) (d : A) → k < place → contains (prefix (slice_index_or xs k d)) a ≡ true → (prefix (slice_index_or xs k d)).len < (prefix thing).len
  pub others : (k : ℕ) (d : A) → k < length xs → contains (prefix (slice_index_or xs k d)) a ≡ true → (prefix (slice_index_or xs k d)).len ≤ (prefix thing).len

-- the row of the longest prefix that holds the address (RFC 1812 s.5.2.4.3)
abbrev pub longest_row : List (Cidr × ℕ) → ℕ → Option (Cidr × ℕ)
longest_row rows a = longest_by (λ (row : Cidr × ℕ). row.0) rows a

-- the rows with this value under the prefix: in place of the one that stands there, and else as one row more in its order
abbrev pub with_row : List (Cidr × ℕ) → Cidr → ℕ → List (Cidr × ℕ)
with_row rows p v = insert_entry prefix_cmp rows p v
