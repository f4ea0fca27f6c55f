-- Few hops, of which it is quickly told that they are in order.
use Rattle.std.specs.Prelude.{Bool, true, false, List, [], ◌∷◌}
use Rattle.std.specs.Ordering.{is_gt}
use Rattle.rc_route.specs.Hops.{hop_cmp}
use Rattle.rc_route.specs.declared.route.Hop.{Hop}

-- none, one, or two of which the second stands behind the first
abbrev pub are_few_in_order : List Hop → Bool
are_few_in_order [] = true
are_few_in_order (h ∷ []) = true
are_few_in_order (h ∷ k ∷ []) = is_gt (hop_cmp k h)
are_few_in_order (h ∷ k ∷ l ∷ hops) = false
