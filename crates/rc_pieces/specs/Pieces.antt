-- Lists in pieces.
use Rattle.std.specs.Prelude.{◌≡◌, ◌≢◌, ◌≤◌, ℕ, zero, suc, All, List, [], ◌∷◌, Option, Some, None, MatchOption, drop, length, map, slice_get, unwrap_or}
use Rattle.std.specs.Arc.{arc_value}
use Rattle.std.specs.List.{AllByRecursion, flat_map}
use Rattle.std.specs.declared.alloc.Global.{Global}
use Rattle.std.specs.declared.cmp.Ordering.TheVariants.{Less}
use Rattle.std.specs.declared.sync.Arc.{Arc}
use Rattle.rc_base.specs.Prefix.{Cidr, default_prefix, prefix_cmp}
use Rattle.rc_route.specs.Tables.{IsListed, listed_at}

module _ {A : Type 0} where
  -- the elements of pieces, one piece behind the other
  abbrev pub joined : List (List A) → List A
  joined pieces = flat_map (λ (piece : List A). piece) pieces

  -- each piece has elements
  abbrev pub AreFilled : List (List A) → Type 0
  AreFilled pieces = AllByRecursion (λ (piece : List A). piece ≢ []) pieces

  -- each piece has elements, and so many there are in all
  pub record ArePieces (pieces : List (List A)) (len : ℕ) : Type 0 where
    pub filled : AreFilled pieces
    pub long : len ≡ length (joined pieces)

  -- the pieces that are kept
  abbrev pub kept_pieces : Option (Arc (List (List A)) Global) → List (List A)
  kept_pieces None = []
  kept_pieces (Some pieces) = arc_value pieces

  -- the piece before a place; before the first one there is nothing
  abbrev pub piece_before : ℕ → List (List A) → List A
  piece_before zero pieces = []
  piece_before (suc n) pieces = unwrap_or (slice_get pieces n) []

module _ {A : Type 0} (prefix_of : A → Cidr) where
  -- the prefix of the first of some elements
  abbrev pub first_prefix : List A → Cidr
  first_prefix [] = default_prefix
  first_prefix (x ∷ xs) = prefix_of x

  -- the elements of a piece, of which there are some, and the prefix of the first one
  pub record IsPiece (xs : List A) (p : Cidr) : Type 0 where
    pub some : xs ≢ []
    pub first : p ≡ first_prefix xs

  -- this is the prefix of the first of some elements, where there are some
  abbrev pub IsFirst : List A → Option Cidr → Type 0
  IsFirst xs first = MatchOption first (xs ≡ []) (IsPiece xs)

  -- each piece is in order
  pub record AreEachInOrder (pieces : List (List A)) : Type 0 where
    pub each : All (IsListed prefix_of) pieces

  -- all of some things stand behind a prefix
  abbrev pub AllBehind : Cidr → List A → Type 0
  AllBehind p xs = AllByRecursion (λ q. prefix_cmp p q ≡ Less) (map prefix_of xs)

  -- the piece before a place has what is there for the prefix in all pieces, and is in order; all from the place on stand behind the prefix
  pub record IsPlaceFor (pieces : List (List A)) (p : Cidr) (place : ℕ) : Type 0 where
    pub at : listed_at prefix_of (joined pieces) p ≡ listed_at prefix_of (piece_before place pieces) p
    pub in_order : IsListed prefix_of (piece_before place pieces)
    pub within : place ≤ length pieces
    pub later : AllBehind p (joined (drop place pieces))
