-- How rounds ended, as text.
use Rattle.std.specs.Prelude.{ℕ, List, ◌++◌, codes, decimal}
use Rattle.rc_route.specs.declared.outcome.RoundsEnd.{RoundsEnd}
use Rattle.rc_route.specs.declared.outcome.RoundsEnd.TheVariants.{Fixed, Repeats, Limit}

-- an outcome: the round of a fixed point, the two rounds with the same state, or the limit of rounds
abbrev pub end_text : RoundsEnd → List ℕ
end_text (Fixed k) = codes "fixed " ++ decimal k
end_text (Repeats i k) = codes "repeats " ++ decimal i ++ codes " " ++ decimal k
end_text (Limit n) = codes "limit " ++ decimal n

-- the first line of an answer that is no refusal
unfoldable pub outcome_line : RoundsEnd → List ℕ
outcome_line end = (codes "outcome " ++ end_text end) ++ codes "\n"
