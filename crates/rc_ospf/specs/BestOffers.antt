-- The best of the ways to offers, taken one after another, as the code does it.
use Rattle.std.specs.Prelude.{◌≡◌, ℕ, ◌+◌, ◌<◌, ◌==◌, nat_lt, Bool, true, false, if◌then◌else◌, List, [], ◌∷◌, length, slice_index_or, Option, Some, None}
use Rattle.std.specs.Ordering.{nat_cmp}
use Rattle.rc_route.specs.Ways.{hops_at}
use Rattle.rc_route.specs.declared.route.Hop.{Hop}
use Rattle.rc_ospf.specs.ByPrefix.{ways_of, cost_to}
use Rattle.rc_ospf.specs.Offered.{Offered}
use Rattle.rc_link_state.specs.Tables.{hops_of}
use Rattle.rc_link_state.specs.Walks.{Reach}
use Rattle.rc_ospf.specs.declared.best.Best.{Best}

-- a way that is known and one at this cost to the offer at a later place
abbrev pub better_of : Best → ℕ → ℕ → Best
better_of b c at =
    if nat_lt c b.cost then record { cost = c; at = at; is_alone = true }
    else if c == b.cost then record { cost = c; at = b.at; is_alone = false }
    else b

abbrev pub cheaper : Option ℕ → Option Best → ℕ → Option Best
cheaper None best at = best
cheaper (Some c) None at = Some (record { cost = c; at = at; is_alone = true })
cheaper (Some c) (Some b) at = Some (better_of b c at)

-- of the offers from a place on
abbrev pub best_from : Reach → Bool → ℕ → Option Best → ℕ → List Offered → Option Best
best_from reach others r best at [] = best
best_from reach others r best at (o ∷ os) = best_from reach others r (cheaper (cost_to reach others r o) best at) (at + 1) os

-- the first hops of the least walks to the router of an offer inside its area
abbrev pub hops_to : Reach → Offered → List Hop
hops_to reach o = hops_of (reach o.area o.router)

-- where no other way costs as much, the least walks to the router that offers it have the hops of all that do
pub record HasBest (reach : Reach) (others : Bool) (r : ℕ) (offers : List Offered) (b : Best) : Type 0 where
  pub within : b.at < length offers
  pub alone : b.is_alone ≡ true → (d : Offered) → hops_at nat_cmp b.cost (ways_of reach others r offers) ≡ hops_to reach (slice_index_or offers b.at d)
