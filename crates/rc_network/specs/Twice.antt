-- The first host name that is named twice.
use Rattle.std.specs.Prelude.{◌≡◌, ◌↔◌, ℕ, true, List, [], ◌∷◌, ◌++◌, map, Some, None}
use Rattle.std.specs.List.{IsDistinct, list_any}
use Rattle.rc_base.specs.Name.{same_name}
use Rattle.rc_network.specs.Build.{Model, first_twice, host_of}

-- the host names of models
abbrev pub hosts : List Model → List (List ℕ)
hosts models = map (λ m. host_of m.1) models

-- a model's host name is that of an earlier one, and all earlier ones differ
pub record IsFirstTwice (models : List Model) (m : Model) : Type 0 where
  pub before : List Model
  pub later : List Model
  pub split : models ≡ before ++ m ∷ later
  pub again : list_any (same_name (host_of m.1)) (hosts before) ≡ true
  pub once : IsDistinct same_name (hosts before)

-- the host name that is refused is the first that is named twice, and none is where all differ
pub record FindsTheFirstTwice (models : List Model) : Type 0 where
  pub first : (m : Model) → (first_twice [] models ≡ Some m) ↔ IsFirstTwice models m
  pub none : (first_twice [] models ≡ None) ↔ IsDistinct same_name (hosts models)

-- the host name that is refused is that of the first model whose name an earlier one has, and none is where all differ
abbrev pub NamesTheFirstTwice : Type 0
NamesTheFirstTwice = (models : List Model) → FindsTheFirstTwice models
