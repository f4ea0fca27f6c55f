-- A list in order of prefix, with what a function says at some prefixes in place of what stands there.
use Rattle.std.specs.Prelude.{◌≡◌, true, false, List, [], ◌∷◌, ◌++◌, map, Option}
use Rattle.std.specs.List.{list_any}
use Rattle.std.specs.List.Sorted.{IsStrictlySortedBy}
use Rattle.std.specs.Option.{option_to_list}
use Rattle.rc_base.specs.Prefix.{Cidr, prefix_cmp, same_prefix}
use Rattle.rc_pieces.specs.Editing.{before, behind}
use Rattle.rc_pieces.specs.declared.edit.Edit.{Edit}
use Rattle.rc_route.specs.Tables.{listed_at}

module _ {A : Type 0} where
  -- what a function says at a prefix, as an edit of a list
  abbrev pub edit_of : (Cidr → Option A) → Cidr → Edit A
  edit_of f p = record { prefix = p; value = f p }

module _ {A : Type 0} (prefix_of : A → Cidr) where
  -- the prefixes stand in order
  abbrev pub updated : (Cidr → Option A) → List A → List Cidr → List A
  updated f xs [] = xs
  updated f xs (p ∷ ps) = before prefix_of p xs ++ (option_to_list (f p) ++ updated f (behind prefix_of p xs) ps)

  -- some of these prefixes, in order: all at which the list says other than the function
  pub record AreTaken (f : Cidr → Option A) (xs : List A) (ps taken : List Cidr) : Type 0 where
    pub in_order : IsStrictlySortedBy prefix_cmp taken
    pub among : (p : Cidr) → list_any (same_prefix p) taken ≡ true → list_any (same_prefix p) ps ≡ true
    pub others : (p : Cidr) → list_any (same_prefix p) ps ≡ true → list_any (same_prefix p) taken ≡ false → listed_at prefix_of xs p ≡ f p

  -- such prefixes, and what the function says at each
  pub record AreDecided (f : Cidr → Option A) (xs : List A) (ps changed : List Cidr) (edits : List (Edit A)) : Type 0 where
    pub taken : AreTaken f xs ps changed
    pub values : edits ≡ map (edit_of f) changed
