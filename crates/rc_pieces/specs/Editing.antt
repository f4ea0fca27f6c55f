-- A list in order of prefix, with what edits say in place of what stands there.
use Rattle.std.specs.Prelude.{◌≡◌, Bool, true, false, if◌then◌else◌, All, IfSome, List, [], ◌∷◌, ◌++◌, Option, Some, None, map}
use Rattle.std.specs.List.{filter}
use Rattle.std.specs.List.Sorted.{IsStrictlySortedBy}
use Rattle.std.specs.Option.{option_to_list}
use Rattle.std.specs.Ordering.{is_lt}
use Rattle.rc_base.specs.Prefix.{Cidr, prefix_cmp, same_prefix}
use Rattle.rc_route.specs.Tables.{IsListed, listed_at}
use Rattle.rc_pieces.specs.declared.edit.Edit.{Edit}

module _ {A : Type 0} where
  -- the first of some edits is of a prefix before an end, if there is one
  abbrev pub goes_before : List (Edit A) → Option Cidr → Bool
  goes_before [] end = false
  goes_before (e ∷ es) None = true
  goes_before (e ∷ es) (Some end) = is_lt (prefix_cmp e.prefix end)

  -- what edits say of a prefix; where they say nothing of it, what was there
  abbrev pub said : List (Edit A) → Cidr → Option A → Option A
  said [] p was = was
  said (e ∷ es) p was = if same_prefix p e.prefix then e.value else said es p was

module _ {A : Type 0} (prefix_of : A → Cidr) where
  -- what stands before a prefix, and what stands behind it
  abbrev pub before : Cidr → List A → List A
  before p xs = filter (λ x. is_lt (prefix_cmp (prefix_of x) p)) xs

  abbrev pub behind : Cidr → List A → List A
  behind p xs = filter (λ x. is_lt (prefix_cmp p (prefix_of x))) xs

  -- a list in order with what each edit says at its prefix; the prefixes of the edits stand in order
  abbrev pub edited : List A → List (Edit A) → List A
  edited xs [] = xs
  edited xs (e ∷ es) = before e.prefix xs ++ (option_to_list e.value ++ edited (behind e.prefix xs) es)

  -- edits in order of prefix, one for each, and each value has the prefix of its edit
  pub record AreEdits (edits : List (Edit A)) : Type 0 where
    pub in_order : IsStrictlySortedBy prefix_cmp (map (λ (e : Edit A). e.prefix) edits)
    pub own : All (λ (e : Edit A). IfSome e.value (λ x. prefix_of x ≡ e.prefix)) edits

  -- a list is in order, and has at each prefix what the edits say of it, or where they say nothing of it what the other list has
  pub record SaysAsEdited (xs : List A) (edits : List (Edit A)) (made : List A) : Type 0 where
    pub in_order : IsListed prefix_of made
    pub at : (p : Cidr) → listed_at prefix_of made p ≡ said edits p (listed_at prefix_of xs p)

  -- elements that come behind others begin at this prefix, where there are some
  abbrev pub BeginAt : List A → Option Cidr → Type 0
  BeginAt [] end = end ≡ None
  BeginAt (x ∷ xs) end = end ≡ Some (prefix_of x)

  -- with elements behind that begin at an end, the same comes of what is made, what is left and the edits left, and of all elements and all edits
  pub record KeepsWhole (items : List A) (end : Option Cidr) (edits : List (Edit A)) (made left : List A) (edits-left : List (Edit A)) : Type 0 where
    pub in_order : (rest : List A) → IsListed prefix_of (items ++ rest) → IsListed prefix_of (left ++ rest)
    pub same : (rest : List A) → IsListed prefix_of (items ++ rest) → BeginAt rest end → edited (items ++ rest) edits ≡ made ++ edited (left ++ rest) edits-left

  -- so it is where what is made is put behind what was there, and nothing is left
  pub record PutsWhole (items : List A) (end : Option Cidr) (edits edits-left : List (Edit A)) (old new : List A) : Type 0 where
    pub same : (rest : List A) → IsListed prefix_of (items ++ rest) → BeginAt rest end → old ++ edited (items ++ rest) edits ≡ new ++ edited rest edits-left
