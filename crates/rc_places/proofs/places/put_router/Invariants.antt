use Rattle.std.proofs.Common.{◌≡◌, ◌∷◌, ◌++◌, map}
use Rattle.std.specs.List.{range_with_len}
use Rattle.rc_base.specs.declared.position.Pos.TheVariants.{Own, Entering}
use Rattle.rc_places.proofs.places.put_router.Given as goal

abbrev pub invariant-loop-index : goal.invariant-loop-index
invariant-loop-index l =
    l.all.items ≡ l.fn.all.items ++ (Own l.router ∷ map Entering (map (λ n. record { router = l.router; index = n }) (range_with_len 0 l.index)))
