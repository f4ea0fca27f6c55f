-- Where a prefix is looked for in a list in pieces.
use Rattle.std.specs.Prelude.{◌≡◌, ◌≤◌, ℕ, Bool, true, false, not, List, Option, Some, drop, length, slice_get}
use Rattle.std.specs.Option.{option_map_or}
use Rattle.std.specs.Ordering.{is_lt}
use Rattle.rc_base.specs.Prefix.{Cidr, prefix_cmp, same_prefix}
use Rattle.rc_route.specs.Tables.{IsListed, listed_at}
use Rattle.rc_pieces.specs.Pieces.{AreFilled, first_prefix, piece_before}

module _ {A : Type 0} where
  -- each piece has elements, and these are those of the piece before a place
  pub record IsAtPlace (pieces : List (List A)) (place : ℕ) (items : List A) : Type 0 where
    pub filled : AreFilled pieces
    pub before : items ≡ piece_before place pieces

module _ {A : Type 0} (prefix_of : A → Cidr) (p : Cidr) where
  -- the element at an index has the prefix
  pub record IsHere (items : List A) (index : ℕ) (item : A) : Type 0 where
    pub at : slice_get items index ≡ Some item
    pub own : same_prefix (prefix_of item) p ≡ true

  -- there is a piece, and it begins at the prefix or before it
  abbrev pub is_begun : Option (List A) → Bool
  is_begun piece = option_map_or (λ xs. not (is_lt (prefix_cmp p (first_prefix prefix_of xs)))) piece false

  -- there is an element, and it stands before the prefix
  abbrev pub stands_before : Option A → Bool
  stands_before item = option_map_or (λ x. is_lt (prefix_cmp (prefix_of x) p)) item false

  -- there is no element, or it stands behind the prefix
  abbrev pub stands_behind : Option A → Bool
  stands_behind item = option_map_or (λ x. is_lt (prefix_cmp p (prefix_of x))) item true

  -- behind so many elements is what is there for the prefix, if anything is
  pub record IsPassed (items : List A) (count : ℕ) : Type 0 where
    pub within : count ≤ length items
    pub in_order : IsListed prefix_of (drop count items)
    pub at : listed_at prefix_of (drop count items) p ≡ listed_at prefix_of items p
