-- What the sets of a position are made of.
use Rattle.std.proofs.Common.{refl, ◌≡◌, ap, sym, ℕ, List, [], Option, None}
use Rattle.std.specs.List.{slice_get}
use Rattle.std.specs.Prelude.{unwrap_or}
use Rattle.rc_base.specs.declared.position.Pos.{Pos}
use Rattle.rc_base.specs.declared.ending.Kind.TheVariants.{DeniedIn, Accepted}
use Rattle.rc_router_sets.specs.Endings.{end}
use Rattle.rc_router_sets.specs.Sent.{forwarded, let_in, sent, to_router}
use Rattle.rc_fib.specs.Entry.{Entry}
use Rattle.rc_route.specs.declared.route.Hop.{Hop}
use Rattle.rc_sets.specs.Regions.{hop_set}
use Rattle.rc_trees.specs.Recipes.{given, and, minus, tree}
use Rattle.rc_trees.specs.Trees.{always, never}
use Rattle.rc_moves.specs.Moves.{DataPlane, fib_of, router_of}

module _ (plane : DataPlane) (q : Pos) where
  pub forwarded_is : minus (let_in plane.network q) (to_router plane (router_of q)) ≡ forwarded plane q
  unfolding forwarded
  forwarded_is = refl

  pub sent_is : (x : Hop) → and (forwarded plane q) (hop_set (fib_of plane (router_of q)) x) ≡ sent plane q x
  unfolding sent
  sent_is x = refl

  pub accepted_is : and (let_in plane.network q) (to_router plane (router_of q)) ≡ end plane q Accepted
  unfolding end
  accepted_is = refl

  pub denied_in_is : minus (given always) (let_in plane.network q) ≡ end plane q DeniedIn
  unfolding end
  denied_in_is = refl

-- where there is no table no header goes over a hop
pub no_table : (plane : DataPlane) (r : ℕ) (x : Hop) → slice_get plane.fibs r ≡ None → never ≡ tree (hop_set (fib_of plane r) x)
unfolding hop_set
no_table plane r x none = ap (λ (o : Option (List Entry)). tree (hop_set (unwrap_or o []) x)) (sym none)
