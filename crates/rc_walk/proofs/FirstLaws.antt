-- There is a first walk from each position, where each hop says where a packet goes.
use Rattle.std.proofs.Common.{refl, ◌≡◌, ap, ◌∙◌, subst, ℕ, zero, suc, ◌+◌, ◌≤◌, ◌<◌, Bool, true, false, not, cond, if◌then◌else◌, List, [], ◌∷◌, ◌++◌, length, All, Option, Some, None, is_some, arith}
use Rattle.std.specs.Prelude.{unwrap_or, filter, flat_map, slice_get, nat_lt}
use Rattle.std.specs.List.{IsDistinct, fold, reduce}
use Rattle.std.specs.Option.{option_map_or}
use Rattle.std.proofs.lemmas.List.{length-append}
use Rattle.std.proofs.lemmas.List.Elements.{All-head, All-tail, All-nil, All-filter}
use Rattle.std.proofs.lemmas.Map.Keys.{IsDistinct-push}
use Rattle.rc_base.specs.declared.header.Header.{Header}
use Rattle.rc_base.specs.declared.ending.Kind.{Kind}
use Rattle.rc_base.specs.declared.ending.Kind.TheVariants.{DeniedIn, Accepted, DeniedOut, Unreachable, Exits, Delivered}
use Rattle.rc_base.specs.declared.position.IfId.{IfId}
use Rattle.rc_base.specs.declared.position.Pos.{Pos}
use Rattle.rc_base.specs.Positions.{same_position}
use Rattle.rc_base.specs.Prefix.{contains}
use Rattle.rc_topology.specs.Topology.{Topology}
use Rattle.rc_topology.specs.Ports.{is_loopback, is_serial}
use Rattle.rc_topology.specs.Links.{all_ids, linked, takers, is_own, holds, port_is}
use Rattle.rc_route.specs.declared.route.Hop.{Hop}
use Rattle.rc_route.specs.declared.route.Hop.TheVariants.{Null, Dev, Via}
use Rattle.rc_fib.specs.Entry.{Entry}
use Rattle.rc_fib.specs.Forwarding.{is_resolved, resolved_hops}
use Rattle.rc_moves.specs.declared.walk.Move.{Move}
use Rattle.rc_moves.specs.declared.walk.Move.TheVariants.{Next, End}
use Rattle.rc_moves.specs.declared.walk.Stop.TheVariants.{At, Loop}
use Rattle.rc_moves.specs.Moves.{DataPlane, HasResolvedHops, is_let_in, is_let_out, moves_by, moves_by_hops, moves_inside, moves_on_link, moves_onto_or, moves_out_of, moves_over, router_of, fib_of}
use Rattle.rc_walk.specs.FirstWalks.{first_move, AreFirstMoves, IsFirstWalk, follow, first_walk_on, first_walk}
use Rattle.rc_moves.specs.Walks.{stands_in, last_position}
use Rattle.rc_moves.proofs.PositionLaws.{same_position-laws}
use Rattle.rc_walk.proofs.WalkLaws.{among_moves}
use Rattle.rc_moves.proofs.BoundLaws.{few_steps}

-- ---- a position has a first move

-- the list has a first element
abbrev Begins : {A : Type 0} → List A → Type 0
Begins xs = is_some (slice_get xs 0) ≡ true

begins-cond : {A : Type 0} (b : Bool) (xs ys : List A) → Begins xs → Begins ys → Begins (cond b xs ys)
begins-cond true xs ys h g = h
begins-cond false xs ys h g = g

begins-append : {A : Type 0} (xs ys : List A) → Begins xs → Begins (xs ++ ys)
begins-append [] ys h = absurd (cc)
begins-append (x ∷ xs) ys h = refl

begins-onto : (is : List IfId) (others : List Move) → Begins others → Begins (moves_onto_or is others)
begins-onto [] others h = h
begins-onto (i ∷ is) others h = refl

abbrev IsResolved : Hop → Type 0
IsResolved hop = is_resolved hop ≡ true

module _ (links : Topology) (h : Header) where
  begins-on_link : (i : IfId) → Begins (moves_on_link links h i)
  begins-on_link i =
      begins-cond (holds links i h.dst) (End Delivered ∷ []) (cond (port_is links is_serial i) (moves_onto_or (linked links i) (End Exits ∷ [])) (End Exits ∷ [])) refl (begins-cond (port_is links is_serial i) (moves_onto_or (linked links i) (End Exits ∷ [])) (End Exits ∷ []) (begins-onto (linked links i) (End Exits ∷ []) refl) refl)

  begins-out_of : (i : IfId) (g : Option ℕ) → Begins (moves_out_of links h i g)
  begins-out_of i g =
      let past : List Move = cond (is_some g) (End Exits ∷ []) (moves_on_link links h i) in
      let there : List IfId = takers links i (unwrap_or g h.dst) in
      begins-cond (port_is links is_loopback i) (End Unreachable ∷ []) (moves_onto_or there past) refl (begins-onto there past (begins-cond (is_some g) (End Exits ∷ []) (moves_on_link links h i) refl (begins-on_link i)))

module _ (plane : DataPlane) (h : Header) (q : Pos) where
  begins-over : (i : IfId) (g : Option ℕ) → Begins (moves_over plane h q i g)
  begins-over i g =
      begins-cond (is_let_out plane.network h q i) (moves_out_of plane.links h i g) (End DeniedOut ∷ []) (begins-out_of plane.links h i g) refl

  begins-by : (hop : Hop) → IsResolved hop → Begins (moves_by plane h q hop)
  begins-by Null r = refl
  begins-by (Dev i) r = begins-over i None
  begins-by (Via g None) r = absurd (cc)
  begins-by (Via g (Some i)) r = begins-over i (Some g)

  begins-by_hops : (hops : List Hop) → All IsResolved hops → Begins (moves_by_hops plane h q hops)
  begins-by_hops [] all = refl
  begins-by_hops (x ∷ xs) all = begins-append (moves_by plane h q x) (flat_map (moves_by plane h q) xs) (begins-by x (All-head IsResolved x xs all))

abbrev HasResolved : Entry → Type 0
HasResolved e = All IsResolved e.hops

either : (b : Bool) (x y : Entry) → HasResolved x → HasResolved y → HasResolved (cond b y x)
either true x y h g = g
either false x y h g = h

folded : (better : Entry → Entry → Bool) (x : Entry) (xs : List Entry) → HasResolved x → All HasResolved xs → HasResolved (fold (λ d e. cond (better d e) e d) x xs)
folded better x [] h all = h
folded better x (y ∷ ys) h all =
    folded better (cond (better x y) y x) ys (either (better x y) x y h (All-head HasResolved y ys all)) (All-tail HasResolved y ys all)

chosen : (better : Entry → Entry → Bool) (xs : List Entry) → All HasResolved xs → All IsResolved (option_map_or (λ (e : Entry). e.hops) (reduce (λ d e. cond (better d e) e d) xs) [])
chosen better [] all = All-nil IsResolved
chosen better (x ∷ xs) all = folded better x xs (All-head HasResolved x xs all) (All-tail HasResolved x xs all)

hops_resolved : (fib : List Entry) (a : ℕ) → All HasResolved fib → All IsResolved (resolved_hops fib a)
hops_resolved fib a all =
    chosen (λ (d e : Entry). nat_lt d.prefix.len e.prefix.len) (filter (λ (e : Entry). contains e.prefix a) fib) (All-filter (λ (e : Entry). contains e.prefix a) HasResolved fib all)

fib_resolved : (fibs : List (List Entry)) (r : ℕ) → HasResolvedHops fibs → All HasResolved (unwrap_or (slice_get fibs r) [])
fib_resolved [] r all = All-nil HasResolved
fib_resolved (fib ∷ fibs) zero all = All-head (All HasResolved) fib fibs all
fib_resolved (fib ∷ fibs) (suc r) all = fib_resolved fibs r (All-tail (All HasResolved) fib fibs all)

module _ (plane : DataPlane) (h : Header) (resolved : HasResolvedHops plane.fibs) where
  begins-inside : (q : Pos) → Begins (moves_inside plane h q)
  begins-inside q =
      let hops : List Hop = resolved_hops (fib_of plane (router_of q)) h.dst in
      let all : All IsResolved hops = hops_resolved (fib_of plane (router_of q)) h.dst (fib_resolved plane.fibs (router_of q) resolved) in
      begins-cond (is_own plane.links (router_of q) h.dst) (End Accepted ∷ []) (moves_by_hops plane h q hops) refl (begins-by_hops plane h q hops all)

  pub has_first_move : (q : Pos) → is_some (first_move plane h q) ≡ true
  has_first_move q = begins-cond (is_let_in plane.network h q) (moves_inside plane h q) (End DeniedIn ∷ []) (begins-inside q) refl

-- ---- on by first moves

module _ (plane : DataPlane) (h : Header) where
  -- the positions that are walked are a start and steps by first moves, up to here
  pub record IsUnderWay (start : Pos) (walked : List Pos) (here : Pos) : Type 0 where
    pub steps : List Pos
    pub positions : walked ≡ start ∷ steps
    pub first : AreFirstMoves plane h start steps
    pub last : last_position start steps ≡ here
    pub once : IsDistinct same_position walked

  alone : (q : Pos) → IsDistinct same_position (q ∷ [])
  unfolding IsDistinct
  alone q = (tt, tt)

  pub setting_out : (q : Pos) → IsUnderWay q (q ∷ []) q
  setting_out q = record { steps = []; positions = refl; first = tt; last = refl; once = alone q }

  first-push : (ts : List Pos) (q t : Pos) → AreFirstMoves plane h q ts → first_move plane h (last_position q ts) ≡ Some (Next t) → AreFirstMoves plane h q (ts ++ t ∷ [])
  first-push [] q t f e = (e, tt)
  first-push (u ∷ us) q t f e = (f.0, first-push us u t f.1 e)

  last-push : (ts : List Pos) (q t : Pos) → last_position q (ts ++ t ∷ []) ≡ t
  last-push [] q t = refl
  last-push (u ∷ us) q t = last-push us u t

  module _ (start : Pos) (walked : List Pos) (here : Pos) (a : IsUnderWay start walked here) where
    at_last : (m : Move) → first_move plane h here ≡ Some m → first_move plane h (last_position start a.steps) ≡ Some m
    at_last m e = ap (first_move plane h) a.last ∙ e

    -- on to the next position
    pub goes_on : (t : Pos) → first_move plane h here ≡ Some (Next t) → stands_in walked t ≡ false → IsUnderWay start (walked ++ t ∷ []) t
    goes_on t e apart = record {
      steps = a.steps ++ t ∷ [];
      positions = ap (λ ps. ps ++ t ∷ []) a.positions;
      first = first-push a.steps start t a.first (at_last (Next t) e);
      last = last-push a.steps start t;
      once = IsDistinct-push same_position-laws walked t a.once apart;
    }

    -- at an ending
    pub ends_there : (kind : Kind) → first_move plane h here ≡ Some (End kind) → IsFirstWalk plane h start (record { positions = walked; stop = At kind })
    ends_there kind e = record {
      steps = a.steps;
      positions = a.positions;
      first = a.first;
      once = subst (IsDistinct same_position) a.positions a.once;
      stops = at_last (End kind) e;
    }

    -- before a position that is walked already
    pub loops_there : (t : Pos) → first_move plane h here ≡ Some (Next t) → stands_in walked t ≡ true → IsFirstWalk plane h start (record { positions = walked; stop = Loop })
    loops_there t e there = record {
      steps = a.steps;
      positions = a.positions;
      first = a.first;
      once = subst (IsDistinct same_position) a.positions a.once;
      stops = (t, at_last (Next t) e, there);
    }

    -- no more positions are walked than a walk has
    pub few_walked : length walked ≤ 1 + length (all_ids plane.links)
    few_walked =
        let few : length a.steps ≤ length (all_ids plane.links) = few_steps plane h start a.steps (among_moves plane h start a.steps a.first) (subst (IsDistinct same_position) a.positions a.once) in
        let long : length walked ≡ length (start ∷ a.steps) = ap length a.positions in
        omega (arith, few, long)

-- ---- a position is put behind the others, where it isn't among them

module _ (before : List Pos) (q : Pos) (added : Bool) (after : List Pos) (told : added ≡ not (stands_in before q)) (put : after ≡ (if added then before ++ q ∷ [] else before)) where
  when : (b : Bool) → stands_in before q ≡ b → after ≡ (if not b then before ++ q ∷ [] else before)
  when b e = put ∙ ap (λ x. if x then before ++ q ∷ [] else before) (told ∙ ap not e)

  pub put_new : added ≡ true → (stands_in before q ≡ false) × (after ≡ before ++ q ∷ [])
  put_new new = by (stands_in before q) refl
    where
      by : (b : Bool) → stands_in before q ≡ b → (stands_in before q ≡ false) × (after ≡ before ++ q ∷ [])
      by true e = absurd (let none : ⊥ = cc (new, told ∙ ap not e) in none)
      by false e = (e, when false e)

-- ---- the first walk, computed

module _ (plane : DataPlane) (h : Header) (resolved : HasResolvedHops plane.fibs) (start : Pos) where
  walked_on : (more : ℕ) (walked : List Pos) (q : Pos) → IsUnderWay plane h start (walked ++ q ∷ []) q → length (all_ids plane.links) < more + length walked → IsFirstWalk plane h start (first_walk_on plane h more walked q)
  walked_on zero walked q a enough =
      let few : length (walked ++ q ∷ []) ≤ 1 + length (all_ids plane.links) = few_walked plane h start (walked ++ q ∷ []) q a in
      absurd (let none : ⊥ = omega (arith, few, length-append walked (q ∷ [])) in none)
  walked_on (suc more) walked q a enough =
      on (first_move plane h q) refl (λ t e apart. walked_on more (walked ++ q ∷ []) t (goes_on plane h start (walked ++ q ∷ []) q a t e apart) (omega (arith, length-append walked (q ∷ []))))
    where
      on : (o : Option Move) → first_move plane h q ≡ o → ((t : Pos) → first_move plane h q ≡ Some (Next t) → stands_in (walked ++ q ∷ []) t ≡ false → IsFirstWalk plane h start (first_walk_on plane h more (walked ++ q ∷ []) t)) → IsFirstWalk plane h start (follow plane h (first_walk_on plane h more (walked ++ q ∷ [])) (walked ++ q ∷ []) o)
      on None e rest =
          let some : is_some (first_move plane h q) ≡ true = has_first_move plane h resolved q in
          absurd (let none : ⊥ = cc (some, ap is_some e) in none)
      on (Some (End kind)) e rest = ends_there plane h start (walked ++ q ∷ []) q a kind e
      on (Some (Next t)) e rest = by (stands_in (walked ++ q ∷ []) t) refl
        where
          by : (b : Bool) → stands_in (walked ++ q ∷ []) t ≡ b → IsFirstWalk plane h start (cond b (record { positions = walked ++ q ∷ []; stop = Loop }) (first_walk_on plane h more (walked ++ q ∷ []) t))
          by true there = loops_there plane h start (walked ++ q ∷ []) q a t e there
          by false apart = rest t e apart

  -- the walk that is computed is the first walk
  pub first_walk_is : IsFirstWalk plane h start (first_walk plane h start)
  first_walk_is = walked_on (suc (length (all_ids plane.links))) [] start (setting_out plane h start) (omega arith)
