-- The sets of one hop: what each is made of, and which of them edges and endings are.
use Rattle.std.proofs.Common.{refl, ◌≡◌, ap, sym, ◌∙◌, subst, ℕ, ◌<◌, Bool, true, false, not, ◌&&◌, cond, List, [], ◌∷◌, Option, Some, None, Result, IfOk, arith}
use Rattle.rc_base.specs.declared.ending.Kind.{Kind}
use Rattle.rc_base.specs.declared.ending.Kind.TheVariants.{DeniedIn, Accepted, NoRoute, NullRouted, DeniedOut, Unreachable, Exits, Delivered}
use Rattle.rc_base.specs.declared.position.IfId.{IfId}
use Rattle.rc_base.specs.declared.position.Pos.{Pos}
use Rattle.rc_base.specs.declared.position.Pos.TheVariants.{Own, Entering}
use Rattle.rc_bdd.specs.Work.{MayCombine}
use Rattle.rc_bdd.specs.declared.work.SetError.{SetError}
use Rattle.rc_router_sets.proofs.JoinLaws.{may_and, may_like, may_minus, operated, piece}
use Rattle.rc_router_sets.specs.Edges.{onto_link}
use Rattle.rc_router_sets.specs.Endings.{is_none}
use Rattle.rc_router_sets.specs.Ends.{ends_over}
use Rattle.rc_router_sets.specs.Sent.{forwarded, leaving, let_out, sent, to_interface, untaken}
use Rattle.rc_router_sets.specs.Steps.{earlier, fixed, if_so, is_everything, is_first, operation, part_at, parted, second, step_at, step_sets, stop_step, takes_away}
use Rattle.rc_router_sets.specs.declared.hop_steps.Part.{Part}
use Rattle.rc_router_sets.specs.declared.hop_steps.Part.TheVariants.{Over, LetOut, Taken, Subnets}
use Rattle.rc_router_sets.specs.declared.hop_steps.Step.{Step}
use Rattle.rc_router_sets.specs.declared.hop_steps.Step.TheVariants.{Forwarded, Sent, Leaving, Stopped, Untaken, Kept, Rest}
use Rattle.rc_nodes.specs.Seats.{TableView, SeatView, SeatKnows}
use Rattle.rc_nodes.specs.declared.words.Ref.{Ref}
use Rattle.rc_route.specs.declared.route.Hop.{Hop}
use Rattle.rc_route.specs.declared.route.Hop.TheVariants.{Null, Dev, Via}
use Rattle.rc_topology.specs.Links.{linked, port_is, takers}
use Rattle.rc_topology.specs.Ports.{is_loopback, is_serial}
use Rattle.rc_trees.proofs.PartLaws.{and-first, and-second, minus-first, minus-second}
use Rattle.rc_trees.specs.Recipes.{Recipe, given, and, parts, tree, Uses}
use Rattle.rc_trees.specs.Trees.{Tree, always, HasNodes}
use Rattle.rc_moves.specs.Moves.{DataPlane, router_of}

-- ---- an operation and what it takes

pub uses_first : (b : Bool) (r s : Recipe) → Uses (parted b r s) r
uses_first true r s = minus-first r s
uses_first false r s = and-first r s

pub uses_second : (b : Bool) (r s : Recipe) → Uses (parted b r s) s
uses_second true r s = minus-second r s
uses_second false r s = and-second r s

pub tree_parted : (b : Bool) (r s : Recipe) → operation b (tree r) (tree s) ≡ tree (parted b r s)
tree_parted true r s = refl
tree_parted false r s = refl

may_operate : (b : Bool) (nodes : TableView) (v : SeatView) (m n : ℕ) (r s : Recipe) → SeatKnows v m (tree r) → SeatKnows v n (tree s) → HasNodes nodes.may (parts (parted b r s)) → MayCombine nodes v (operation b) m n
may_operate true nodes v m n r s knows_left knows_right has = may_minus nodes v m n r s knows_left knows_right has
may_operate false nodes v m n r s knows_left knows_right has = may_and nodes v m n r s knows_left knows_right has

-- before a step of which each goes down
abbrev pub rank : Step → ℕ
rank Forwarded = 0
rank Sent = 1
rank Leaving = 2
rank Stopped = 2
rank Untaken = 3
rank Kept = 4
rank Rest = 4

pub falls : (s : Step) → is_first s ≡ false → rank (earlier s) < rank s
falls Forwarded later = absurd (let e : true ≡ false = later in cc)
falls Sent later = omega arith
falls Leaving later = omega arith
falls Stopped later = omega arith
falls Untaken later = omega arith
falls Kept later = omega arith
falls Rest later = omega arith

-- ---- parts

pub everything_is : (plane : DataPlane) (q : Pos) (x : Hop) (p : Part) → is_everything p q ≡ true → given always ≡ part_at plane q p x
unfolding let_out
everything_is plane q x Over all = absurd (let e : false ≡ true = all in cc)
everything_is plane (Own r) x LetOut all = refl
everything_is plane (Entering i) x LetOut all = absurd (let e : false ≡ true = all in cc)
everything_is plane q x Taken all = absurd (let e : false ≡ true = all in cc)
everything_is plane q x Subnets all = absurd (let e : false ≡ true = all in cc)

pub fixed_is : (plane : DataPlane) (q : Pos) (x : Hop) (p : Part) → is_everything p q ≡ false → fixed plane (router_of q) p x ≡ part_at plane q p x
unfolding let_out
fixed_is plane q x Over some = refl
fixed_is plane (Own r) x LetOut some = absurd (let e : true ≡ false = some in cc)
fixed_is plane (Entering i) x LetOut some = refl
fixed_is plane q x Taken some = refl
fixed_is plane q x Subnets some = refl

module _ (plane : DataPlane) (q : Pos) (x : Hop) where
  -- ---- steps

  pub first_is : (s : Step) → is_first s ≡ true → forwarded plane q ≡ step_at plane q s x
  first_is Forwarded first = refl
  first_is Sent first = absurd (let e : false ≡ true = first in cc)
  first_is Leaving first = absurd (let e : false ≡ true = first in cc)
  first_is Stopped first = absurd (let e : false ≡ true = first in cc)
  first_is Untaken first = absurd (let e : false ≡ true = first in cc)
  first_is Kept first = absurd (let e : false ≡ true = first in cc)
  first_is Rest first = absurd (let e : false ≡ true = first in cc)

  pub later_is : (s : Step) → is_first s ≡ false → parted (takes_away s) (step_at plane q (earlier s) x) (part_at plane q (second s) x) ≡ step_at plane q s x
  unfolding sent leaving
  later_is Forwarded later = absurd (let e : true ≡ false = later in cc)
  later_is Sent later = refl
  later_is Leaving later = refl
  later_is Stopped later = refl
  later_is Untaken later = refl
  later_is Kept later = refl
  later_is Rest later = refl

  module _ (s : Step) (later : is_first s ≡ false) (may : List Tree) (has : HasNodes may (parts (step_at plane q s x))) where
    abbrev before : Recipe
    before = step_at plane q (earlier s) x

    abbrev part : Recipe
    part = part_at plane q (second s) x

    whole : HasNodes may (parts (parted (takes_away s) before part))
    whole = may_like may (step_at plane q s x) (parted (takes_away s) before part) (sym (later_is s later)) has

    pub may_earlier : (e : Step) → e ≡ earlier s → HasNodes may (parts (step_at plane q e x))
    may_earlier e is = subst (λ z. HasNodes may (parts (step_at plane q z x))) (sym is) (piece may (parted (takes_away s) before part) before (uses_first (takes_away s) before part) whole)

    pub may_second : (p : Part) → p ≡ second s → HasNodes may (parts (part_at plane q p x))
    may_second p is = subst (λ z. HasNodes may (parts (part_at plane q z x))) (sym is) (piece may (parted (takes_away s) before part) part (uses_second (takes_away s) before part) whole)

  -- the operation of a step
  module _ (s : Step) (later : is_first s ≡ false) (e : Step) (e-is : e ≡ earlier s) (p : Part) (p-is : p ≡ second s) (b : Bool) (b-is : b ≡ takes_away s)
      (v : SeatView) (m n : ℕ) (knows_left : SeatKnows v m (tree (step_at plane q e x))) (knows_right : SeatKnows v n (tree (part_at plane q p x))) where
    left : SeatKnows v m (tree (step_at plane q (earlier s) x))
    left = subst (λ z. SeatKnows v m (tree (step_at plane q z x))) e-is knows_left

    right : SeatKnows v n (tree (part_at plane q (second s) x))
    right = subst (λ z. SeatKnows v n (tree (part_at plane q z x))) p-is knows_right

    pub may_step : (nodes : TableView) → HasNodes nodes.may (parts (step_at plane q s x)) → MayCombine nodes v (operation b) m n
    may_step nodes has =
        subst (λ c. MayCombine nodes v (operation c) m n) (sym b-is)
        (may_operate (takes_away s) nodes v m n (step_at plane q (earlier s) x) (part_at plane q (second s) x) left right (whole s later nodes.may has))

    pub step_known : (w : SeatView) (result : Result Ref SetError) → IfOk result (λ (r : Ref). (t u : Tree) → SeatKnows v m t → SeatKnows v n u → SeatKnows w r.index (operation b t u)) → IfOk result (λ (r : Ref). SeatKnows w r.index (tree (step_at plane q s x)))
    step_known w result made =
        subst (λ t. IfOk result (λ (r : Ref). SeatKnows w r.index t))
        (ap (λ c. operation c (tree (step_at plane q (earlier s) x)) (tree (part_at plane q (second s) x))) b-is ∙ tree_parted (takes_away s) (step_at plane q (earlier s) x) (part_at plane q (second s) x) ∙ ap tree (later_is s later))
        (operated v w (operation b) m n (tree (step_at plane q (earlier s) x)) (tree (part_at plane q (second s) x)) left right result made)

-- ---- edges

module _ (plane : DataPlane) (q : Pos) (t : IfId) (x : Hop) (i : IfId) where
  abbrev pub owned_part : Recipe
  owned_part = and (step_at plane q Leaving x) (to_interface plane t)

  abbrev pub rest_part : Recipe
  rest_part = step_at plane q Rest x

  pub link_front : x ≡ Dev i → onto_link plane q t i ≡ owned_part ∷ cond (port_is plane.links is_serial i) (rest_part ∷ []) []
  unfolding untaken
  link_front is = ap (λ y. and (step_at plane q Leaving y) (to_interface plane t) ∷ cond (port_is plane.links is_serial i) (step_at plane q Rest y ∷ []) []) (sym is)

  pub link_one : x ≡ Dev i → port_is plane.links is_serial i ≡ false → onto_link plane q t i ≡ owned_part ∷ []
  link_one is none = link_front is ∙ ap (λ b. owned_part ∷ cond b (rest_part ∷ []) []) none

  pub link_two : x ≡ Dev i → port_is plane.links is_serial i ≡ true → onto_link plane q t i ≡ owned_part ∷ rest_part ∷ []
  link_two is serial = link_front is ∙ ap (λ b. owned_part ∷ cond b (rest_part ∷ []) []) serial

-- ---- endings

module _ (plane : DataPlane) (q : Pos) where
  so : (b : Bool) (s : Step) (x : Hop) (r : Recipe) → r ≡ step_at plane q s x → cond b (r ∷ []) [] ≡ step_sets plane q (if_so b s) x
  so true s x r is = ap (λ z. z ∷ []) is
  so false s x r is = refl

  not_so : (b : Bool) (s : Step) (x : Hop) (r : Recipe) → r ≡ step_at plane q s x → cond b [] (r ∷ []) ≡ step_sets plane q (if_so (not b) s) x
  not_so true s x r is = refl
  not_so false s x r is = ap (λ z. z ∷ []) is

  neither : (a b : Bool) (s : Step) (x : Hop) (r : Recipe) → r ≡ step_at plane q s x → cond a [] (cond b [] (r ∷ [])) ≡ step_sets plane q (if_so (not a && not b) s) x
  neither true b s x r is = refl
  neither false b s x r is = not_so b s x r is

  not_but : (a b : Bool) (s : Step) (x : Hop) (r : Recipe) → r ≡ step_at plane q s x → cond a [] (cond b (r ∷ []) []) ≡ step_sets plane q (if_so (not a && b) s) x
  not_but true b s x r is = refl
  not_but false b s x r is = so b s x r is

  pub stop_is : (k : Kind) (x : Hop) → ends_over plane q k x ≡ step_sets plane q (stop_step plane.links k x) x
  unfolding untaken
  stop_is DeniedIn Null = refl
  stop_is DeniedIn (Dev i) = refl
  stop_is DeniedIn (Via g None) = refl
  stop_is DeniedIn (Via g (Some i)) = refl
  stop_is Accepted Null = refl
  stop_is Accepted (Dev i) = refl
  stop_is Accepted (Via g None) = refl
  stop_is Accepted (Via g (Some i)) = refl
  stop_is NoRoute Null = refl
  stop_is NoRoute (Dev i) = refl
  stop_is NoRoute (Via g None) = refl
  stop_is NoRoute (Via g (Some i)) = refl
  stop_is NullRouted Null = refl
  stop_is NullRouted (Dev i) = refl
  stop_is NullRouted (Via g None) = refl
  stop_is NullRouted (Via g (Some i)) = refl
  stop_is DeniedOut Null = refl
  stop_is DeniedOut (Dev i) = refl
  stop_is DeniedOut (Via g None) = refl
  stop_is DeniedOut (Via g (Some i)) = refl
  stop_is Unreachable Null = refl
  stop_is Unreachable (Dev i) = so (port_is plane.links is_loopback i) Leaving (Dev i) (step_at plane q Leaving (Dev i)) refl
  stop_is Unreachable (Via g None) = refl
  stop_is Unreachable (Via g (Some i)) = so (port_is plane.links is_loopback i) Leaving (Via g (Some i)) (step_at plane q Leaving (Via g (Some i))) refl
  stop_is Exits Null = refl
  stop_is Exits (Dev i) = neither (port_is plane.links is_loopback i) (port_is plane.links is_serial i && not (is_none (linked plane.links i))) Rest (Dev i) (step_at plane q Rest (Dev i)) refl
  stop_is Exits (Via g None) = refl
  stop_is Exits (Via g (Some i)) = not_but (port_is plane.links is_loopback i) (is_none (takers plane.links i g)) Leaving (Via g (Some i)) (step_at plane q Leaving (Via g (Some i))) refl
  stop_is Delivered Null = refl
  stop_is Delivered (Dev i) = not_so (port_is plane.links is_loopback i) Kept (Dev i) (step_at plane q Kept (Dev i)) refl
  stop_is Delivered (Via g None) = refl
  stop_is Delivered (Via g (Some i)) = refl

  pub no_step : (k : Kind) (x : Hop) (o : Option Step) → o ≡ stop_step plane.links k x → o ≡ None → ends_over plane q k x ≡ []
  no_step k x o is none = stop_is k x ∙ ap (λ z. step_sets plane q z x) (sym is ∙ none)

  pub one_step : (k : Kind) (x : Hop) (o : Option Step) (s : Step) → o ≡ stop_step plane.links k x → o ≡ Some s → ends_over plane q k x ≡ step_at plane q s x ∷ []
  one_step k x o s is some = stop_is k x ∙ ap (λ z. step_sets plane q z x) (sym is ∙ some)
