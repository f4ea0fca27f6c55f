-- One entry more.
use Rattle.std.proofs.Common.{refl, sym, ◌∙◌, ap, subst, append-nil}
use Rattle.std.proofs.lemmas.List.Elements.{filter_map-append, All-push}
use Rattle.std.specs.Prelude.{◌≡◌, ℕ, List, [], ◌∷◌, ◌++◌, All, IsOk, Option, Some, None, Ok, option_to_list}
use Rattle.rc_system.specs.Edge.{Found, name_found, names_in}

more_names : (found : List Found) (name : Option (List ℕ)) → names_in (found ++ Ok name ∷ []) ≡ names_in found ++ option_to_list name
more_names found None = filter_map-append name_found found (Ok None ∷ [])
more_names found (Some name) = filter_map-append name_found found (Ok (Some name) ∷ [])

-- It is a file.
pub one_more : (found : List Found) (item : Found) (name : List ℕ) (names more : List (List ℕ)) → item ≡ Ok (Some name) → more ≡ names ++ name ∷ [] → All IsOk found × (names ≡ names_in found) → All IsOk (found ++ item ∷ []) × (more ≡ names_in (found ++ item ∷ []))
one_more found item name names more is pushed (ok, names_are) =
    subst (λ i. All IsOk (found ++ i ∷ []) × (more ≡ names_in (found ++ i ∷ []))) (sym is)
    (All-push IsOk found (Ok (Some name)) ok refl, pushed ∙ ap (λ n. n ++ name ∷ []) names_are ∙ sym (more_names found (Some name)))

-- It is none.
pub none_more : (found : List Found) (item : Found) (names : List (List ℕ)) → item ≡ Ok None → All IsOk found × (names ≡ names_in found) → All IsOk (found ++ item ∷ []) × (names ≡ names_in (found ++ item ∷ []))
none_more found item names is (ok, names_are) =
    subst (λ i. All IsOk (found ++ i ∷ []) × (names ≡ names_in (found ++ i ∷ []))) (sym is)
    (All-push IsOk found (Ok None) ok refl, names_are ∙ sym (more_names found None ∙ append-nil (names_in found)))
