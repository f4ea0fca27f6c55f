-- The configurations of a folder are there.
use Rattle.std.proofs.Common.{◌≡◌, ℕ, Bool, true, false, cond, List, [], ◌∷◌, map, filter, Option, Some, None, IfSome, IsSome, IsTrue, IsPermutation, All, refl, sym, subst}
use Rattle.std.specs.Str.{bytes_eq}
use Rattle.std.specs.List.{AllByRecursion}
use Rattle.std.proofs.lemmas.List.Elements.{filter_passes, All-filter, All-from_recursion}
use Rattle.std.proofs.lemmas.List.Sorted.{All-permutation}
use Rattle.std.proofs.lemmas.Slice.Eq.{bytes_eq-Decides}
use Rattle.rc_outside.specs.Folder.{File, is_in, is_named, names_in, bytes_at, is_config}
use Rattle.rc_loading.specs.Net.{AreConfigs}

pub are_configs : (names configs : List (List ℕ)) → AreConfigs names configs → All (λ n. IsTrue (is_config n)) configs
are_configs names configs h = subst (All (λ n. is_config n ≡ true)) (sym h.are) (filter_passes is_config h.sorted)

some_later : (b : Bool) (x : List ℕ) (o : Option (List ℕ)) → IsSome o → IsSome (cond b (Some x) o)
some_later true x o h = refl
some_later false x o h = h

weaker : (P Q : List ℕ → Type 0) (xs : List (List ℕ)) → ((x : List ℕ) → P x → Q x) → AllByRecursion P xs → AllByRecursion Q xs
weaker P Q [] f h = tt
weaker P Q (x ∷ xs) f h = (f x h.0, weaker P Q xs f h.1)

same_bytes : (x : List ℕ) → bytes_eq x x ≡ true
same_bytes x = (bytes_eq-Decides x x).1 refl

listed-more : (dir : List ℕ) (f : File) (fs : List File) (b : Bool) → is_in dir f ≡ b → AllByRecursion (λ n. IsSome (bytes_at dir n fs)) (names_in dir fs)
    → AllByRecursion (λ n. IsSome (bytes_at dir n (f ∷ fs))) (map (λ g. g.name) (cond b (f ∷ filter (is_in dir) fs) (filter (is_in dir) fs)))
listed-more dir f fs true h rest = (rw (h, same_bytes) refl, weaker (λ n. IsSome (bytes_at dir n fs)) (λ n. IsSome (bytes_at dir n (f ∷ fs))) (names_in dir fs) (λ n. some_later (is_named dir n f) f.bytes (bytes_at dir n fs)) rest)
listed-more dir f fs false h rest = weaker (λ n. IsSome (bytes_at dir n fs)) (λ n. IsSome (bytes_at dir n (f ∷ fs))) (names_in dir fs) (λ n. some_later (is_named dir n f) f.bytes (bytes_at dir n fs)) rest

-- each name that is listed is there
listed : (dir : List ℕ) (files : List File) → AllByRecursion (λ n. IsSome (bytes_at dir n files)) (names_in dir files)
listed dir [] = tt
listed dir (f ∷ fs) = listed-more dir f fs (is_in dir f) refl (listed dir fs)

pub all_there : (told : Option (List File)) (dir : List ℕ) (names configs : List (List ℕ)) → IfSome told (λ files. IsPermutation (names_in dir files) names) → AreConfigs names configs
    → IfSome told (λ files. All (λ n. IsSome (bytes_at dir n files)) configs)
all_there None dir names configs p h = tt
all_there (Some files) dir names configs p h =
    let P : List ℕ → Type 0 = λ n. IsSome (bytes_at dir n files) in
    let all : All P (names_in dir files) = All-from_recursion P (names_in dir files) (listed dir files) in
    let kept : All P (filter is_config h.sorted) = All-filter is_config P h.sorted (All-permutation P names h.sorted h.same (All-permutation P (names_in dir files) names p all)) in
    subst (All P) (sym h.are) kept
