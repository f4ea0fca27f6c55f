-- General words on lists.
use Rattle.std.specs.Prelude.{Bool, not, List, [], filter}
use Rattle.std.specs.List.{fold, list_any}
use Rattle.std.specs.declared.cmp.Ordering.{Ordering}
use Rattle.std.specs.BTreeSet as sorted
use Rattle.indexmap.specs.IndexSet as seen

-- the elements of a list in an order, each once
abbrev pub in_order : {A : Type 0} → (A → A → Ordering) → List A → List A
in_order cmp xs = fold (sorted.insert_key cmp) [] xs

-- the elements in the order in which they come, each once: repeats after the first are dropped
abbrev pub first_seen : {A : Type 0} → (A → A → Bool) → List A → List A
first_seen eq xs = fold (seen.insert_key eq) [] xs

-- the elements of a list for which it has no better one
abbrev pub keep : {A : Type 0} → (A → A → Bool) → List A → List A
keep better xs = filter (λ x. not (list_any (λ y. better y x) xs)) xs
