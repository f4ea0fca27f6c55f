-- The numbers of all statuses, by computation.
use Rattle.std.specs.Prelude.{◌≡◌, [], ◌∷◌, map, refl}
use Rattle.rc_writing.specs.Codes.{status_code}
use Rattle.rc_writing.specs.declared.status.Status.TheVariants.{Done, Refused, Usage, Repeats, Limit, Nodes, Source, Sink, Memory, NoPlace}

pub numbers : map status_code (Done ∷ Refused ∷ Usage ∷ Repeats ∷ Limit ∷ Nodes ∷ Source ∷ Sink ∷ Memory ∷ NoPlace ∷ []) ≡ 0 ∷ 1 ∷ 2 ∷ 3 ∷ 4 ∷ 5 ∷ 6 ∷ 7 ∷ 8 ∷ 9 ∷ []
numbers = refl
