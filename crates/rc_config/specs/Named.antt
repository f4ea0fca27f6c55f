-- Values under names, as a list of names and values in the order of first mention.
use Rattle.std.specs.Prelude.{◌≡◌, ℕ, List, [], ◌∷◌, Option, if◌then◌else◌}
use Rattle.std.specs.List.{position, IsDistinct}
use Rattle.std.specs.List.Sorted.{IsStrictlySortedBy}
use Rattle.std.specs.Ordering.{nat_cmp}
use Rattle.std.specs.Cmp.Lexicographic.{slice_cmp}
use Rattle.std.specs.Map.{keys_of, lookup}
use Rattle.rc_base.specs.Name.{same_name}

-- the value under a name
abbrev pub named : {V : Type 0} → List (List ℕ × V) → List ℕ → Option V
named entries name = lookup (same_name name) entries

-- the index of a name
abbrev pub index_of : {V : Type 0} → List (List ℕ × V) → List ℕ → Option ℕ
index_of entries name = position (same_name name) (keys_of entries)

-- the entries with a value under a name: a name that is there keeps its index, and a new one goes last
abbrev pub with_value : {V : Type 0} → List (List ℕ × V) → List ℕ → V → List (List ℕ × V)
with_value [] name value = (name, value) ∷ []
with_value (e ∷ entries) name value = if same_name name e.0 then (e.0, value) ∷ entries else e ∷ with_value entries name value

-- each name stands once in the entries and has its index, and no other name has one
pub record AreIndexed {V : Type 0} (places : List (List ℕ × ℕ)) (entries : List (List ℕ × V)) : Type 0 where
  pub distinct : IsDistinct same_name (keys_of entries)
  pub at : (name : List ℕ) → lookup (same_name name) places ≡ index_of entries name

-- the names rise in byte order
abbrev pub AreNamesInOrder : {V : Type 0} → List (List ℕ × V) → Type 0
AreNamesInOrder entries = IsStrictlySortedBy (slice_cmp nat_cmp) (keys_of entries)
