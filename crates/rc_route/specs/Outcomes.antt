-- How rounds end, beside the states of which they are.
use Rattle.std.specs.Prelude.{ℕ}
use Rattle.rc_route.specs.Tables.{IsStateOf}
use Rattle.rc_route.specs.declared.outcome.Outcome.{Outcome}
use Rattle.rc_route.specs.declared.outcome.Outcome.TheVariants.{Fixed, Repeats, Limit}
use Rattle.rc_route.specs.declared.outcome.RoundsEnd.{RoundsEnd}
use Rattle.rc_route.specs.declared.outcome.RoundsEnd.TheVariants as rounds_end

-- the state of a fixed point has so many routers, and each one's routes stand in order
abbrev pub IsInOrder : ℕ → Outcome → Type 0
IsInOrder routers (Fixed k state) = IsStateOf routers state
IsInOrder routers (Repeats i k) = Unit {0}
IsInOrder routers (Limit n) = Unit {0}

-- how the rounds end, apart from the state of a fixed point
abbrev pub end_of : Outcome → RoundsEnd
end_of (Fixed k state) = rounds_end.Fixed k
end_of (Repeats i k) = rounds_end.Repeats i k
end_of (Limit n) = rounds_end.Limit n
