-- What lines say of a value: a line says it, or says nothing of it.
use Rattle.std.specs.Prelude.{if◌then◌else◌, List, [], ◌∷◌, Option, None, is_some}
use Rattle.std.specs.List.{filter_map, last_or}
use Rattle.std.specs.Option.{option_or}

-- what the last of the lines says that says anything
abbrev pub last_said : {L V : Type 0} → (L → Option V) → List L → Option V
last_said says lines = last_or None (filter_map says lines)

-- what the first of them says that says anything
abbrev pub first_said : {L V : Type 0} → (L → Option V) → List L → Option V
first_said says [] = None
first_said says (line ∷ lines) = option_or (says line) (first_said says lines)

-- the lines from the first on that says anything
abbrev pub from_first : {L V : Type 0} → (L → Option V) → List L → List L
from_first says [] = []
from_first says (line ∷ lines) = if is_some (says line) then line ∷ lines else from_first says lines
