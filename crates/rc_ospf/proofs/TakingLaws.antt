-- The routes of a router as they are taken, destination by destination.
use Rattle.std.proofs.Common.{refl, ◌≡◌, ap, sym, ◌∙◌, subst, List, [], ◌∷◌, ◌++◌, append-nil, append_assoc, option_to_list, Option, None, Some, All, arith}
use Rattle.std.specs.List.{cons_option, filter_map}
use Rattle.rc_route.specs.declared.route.Route.{Route}
use Rattle.rc_ospf.specs.Areas.{OspfRouter}
use Rattle.rc_ospf.specs.ByPrefix.{destination_route}
use Rattle.rc_ospf.specs.Routes.{IsShortRoute}
use Rattle.rc_ospf.specs.Taking.{Takes}
use Rattle.rc_ospf.specs.declared.destination.Destination.{Destination}

-- nothing more is taken
pub none_taken : {T : Type 0} (becomes : T → List Route → T → Type 0) (now : T) (more : List Route) → more ≡ [] → Takes becomes more now now
none_taken becomes now more none = λ start routes is. subst (λ rs. becomes start (routes ++ rs) now) (sym none) (subst (λ rs. becomes start rs now) (sym (append-nil routes)) is)

-- the same is taken
pub same_taken : {T : Type 0} (becomes : T → List Route → T → Type 0) (old now : T) (some more : List Route) → some ≡ more → Takes becomes some old now → Takes becomes more old now
same_taken becomes old now some more same takes = subst (λ rs. Takes becomes rs old now) same takes

-- a list to which routes were put is these, where there were none before, and they are short
pub all_listed : (start now : List Route) (routes : List Route) → start ≡ [] → (now ≡ start ++ routes) × (All IsShortRoute start → All IsShortRoute now) → (now ≡ routes) × All IsShortRoute now
all_listed start now routes none (whole, short) = (whole ∙ ap (λ rs. rs ++ routes) none, short (subst (All IsShortRoute) (sym none) (search arith)))

-- the routes to the destinations before those that are left are taken
pub record AreTaken {T : Type 0} (becomes : T → List Route → T → Type 0) (m : OspfRouter) (left all : List Destination) (old now : T) : Type 0 where
  pub done : List Route
  pub parts : done ++ filter_map (destination_route m) left ≡ filter_map (destination_route m) all
  pub taken : Takes becomes done old now

module _ {T : Type 0} (becomes : T → List Route → T → Type 0) (m : OspfRouter) (all : List Destination) (old : T) where
  pub none_yet : AreTaken becomes m all all old old
  none_yet = record { done = []; parts = refl; taken = λ start before is. subst (λ rs. becomes start rs old) (sym (append-nil before)) is }

  -- a destination more, with its route, if there is one
  pub one_more : (d : Destination) (left : List Destination) (now new : T) (o : Option Route) → o ≡ destination_route m d
      → ((start : T) (routes : List Route) → becomes start routes now → becomes start (routes ++ option_to_list o) new) → AreTaken becomes m (d ∷ left) all old now → AreTaken becomes m left all old new
  one_more d left now new o is takes a = record {
    done = a.done ++ option_to_list o;
    parts = joined o ∙ ap (λ x. a.done ++ cons_option x (filter_map (destination_route m) left)) is ∙ a.parts;
    taken = λ start before was. subst (λ rs. becomes start rs new) (append_assoc before a.done (option_to_list o)) (takes start (before ++ a.done) (a.taken start before was));
  }
    where
      joined : (x : Option Route) → (a.done ++ option_to_list x) ++ filter_map (destination_route m) left ≡ a.done ++ cons_option x (filter_map (destination_route m) left)
      joined None = ap (λ rs. rs ++ filter_map (destination_route m) left) (append-nil a.done)
      joined (Some r) = append_assoc a.done (r ∷ []) (filter_map (destination_route m) left)

  pub all_taken : (left : List Destination) (now : T) → left ≡ [] → AreTaken becomes m left all old now → Takes becomes (filter_map (destination_route m) all) old now
  all_taken left now none a start before is =
      let whole : a.done ≡ filter_map (destination_route m) all = sym (append-nil a.done) ∙ ap (λ ds. a.done ++ filter_map (destination_route m) ds) (sym none) ∙ a.parts in
      subst (λ rs. becomes start (before ++ rs) now) whole (a.taken start before is)
