-- The names listed so far, and the files that are left.
use Rattle.std.proofs.Common.{◌≡◌, ℕ, Bool, true, false, ◌&&◌, not, List, [], ◌∷◌, ◌++◌, sym, ◌∙◌, append_assoc, inl, inr}
use Rattle.std.specs.List.{list_any}
use Rattle.std.specs.Str.{bytes_eq}
use Rattle.std.proofs.lemmas.List.Folds.{list_any-append}
use Rattle.rc_outside.specs.Folder.{File, is_in, is_named, names_in, first_of_each}
use Rattle.rc_outside.proofs.Paths.{names-kept, names-dropped, names-other, seen-kept, seen-dropped, seen-other, new, not_new}

abbrev pub has : List (List ℕ) → List ℕ → Bool
has names n = list_any (λ f. bytes_eq f n) names

pub record IsListing (dir : List ℕ) (all : List File) (names : List (List ℕ)) (earlier left : List File) : Type 0 where
  pub listed : names ++ names_in dir (first_of_each earlier left) ≡ names_in dir (first_of_each [] all)
  pub seen : (n : List ℕ) → has names n ≡ list_any (is_named dir n) earlier

pub listing-kept : {dir : List ℕ} {all : List File} {names : List (List ℕ)} {earlier : List File} {f : File} {fs : List File} → IsListing dir all names earlier (f ∷ fs)
    → (m : List ℕ) → m ≡ f.name → (is_in dir f && not (has names f.name)) ≡ true → IsListing dir all (names ++ m ∷ []) (earlier ++ f ∷ []) fs
listing-kept {dir} {all} {names} {earlier} {f} {fs} h m text is_new =
    let facts = new (is_in dir f) (has names f.name) is_new in
    let none : list_any (is_named dir f.name) earlier ≡ false = sym (h.seen f.name) ∙ facts.1 in
    let step = names-kept dir earlier f fs facts.0 none in
    record {
      listed = rw (text, append_assoc) (rw step at h.listed);
      seen = λ n. rw (list_any-append, text) (seen-kept (has names n) dir n earlier f (h.seen n) facts.0);
    }

pub listing-same : {dir : List ℕ} {all : List File} {names : List (List ℕ)} {earlier : List File} {f : File} {fs : List File} → IsListing dir all names earlier (f ∷ fs)
    → (is_in dir f && not (has names f.name)) ≡ false → IsListing dir all names (earlier ++ f ∷ []) fs
listing-same {dir} {all} {names} {earlier} {f} {fs} h old =
    elim (not_new (is_in dir f) (has names f.name) old) [
      | inl there ↦ record {
        listed = rw (names-other dir earlier f fs there) at h.listed;
        seen = λ n. seen-other (has names n) dir n earlier f (h.seen n) there;
      }
      | inr both ↦
          let some : list_any (is_named dir f.name) earlier ≡ true = sym (h.seen f.name) ∙ both.1 in
          record {
            listed = rw (names-dropped dir earlier f fs both.0 some) at h.listed;
            seen = λ n. seen-dropped (has names n) dir n earlier f (h.seen n) some;
          }
    ]
