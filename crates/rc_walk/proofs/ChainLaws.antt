-- A chain of as many moves as there are positions comes to one of them again, and from there it can go on for ever.
use Rattle.std.proofs.Common.{refl, ◌≡◌, ap, sym, subst, ℕ, zero, suc, ◌+◌, ◌<◌, Bool, true, false, ◌||◌, List, [], ◌∷◌, ◌++◌, length, Contains, arith}
use Rattle.std.specs.Prelude.{◌↔◌}
use Rattle.std.specs.List.{IsDistinct}
use Rattle.std.proofs.lemmas.List.{length-append}
use Rattle.std.proofs.lemmas.Map.Keys.{IsDistinct-push}
use Rattle.rc_base.specs.Positions.{same_position}
use Rattle.rc_base.specs.declared.header.Header.{Header}
use Rattle.rc_base.specs.declared.position.Pos.{Pos}
use Rattle.rc_config.specs.Lawful.{IsPosition}
use Rattle.rc_config.specs.Members.{positions}
use Rattle.rc_topology.specs.Links.{all_ids}
use Rattle.rc_topology.specs.Ports.{links_of}
use Rattle.rc_moves.proofs.BoundLaws.{few_steps}
use Rattle.rc_walk.proofs.ChoiceLaws.{alone, last_behind, or_none}
use Rattle.rc_moves.proofs.NetworkLaws.{length-positions, some_router}
use Rattle.rc_moves.proofs.PositionLaws.{same_position-Decides, same_position-laws}
use Rattle.rc_moves.specs.Moves.{DataPlane, moves}
use Rattle.rc_moves.specs.Walks.{AreMoves, GoesOnForEver, HasChain, IsLooping, MayStopAt, last_position, stands_in}
use Rattle.rc_moves.specs.declared.walk.Move.TheVariants.{Next}
use Rattle.rc_moves.specs.declared.walk.Stop.TheVariants.{Loop}

module _ (plane : DataPlane) (h : Header) where
  -- ---- one move more

  moves-push : (us : List Pos) (p t : Pos) → AreMoves plane h p us → Contains (moves plane h (last_position p us)) (Next t) → AreMoves plane h p (us ++ t ∷ [])
  moves-push [] p t are on = (on, tt)
  moves-push (u ∷ us) p t are on = (are.0, moves-push us u t are.1 on)

  -- ---- a walk that comes back goes on for ever

  -- what is left of a walk behind a position that stands in it
  behind : (p : Pos) (ts : List Pos) (t : Pos) → AreMoves plane h p ts → stands_in (p ∷ ts) t ≡ true → (rest : List Pos) × AreMoves plane h t rest × (last_position t rest ≡ last_position p ts)
  behind p [] t are there =
      let same : t ≡ p = (same_position-Decides t p).0 (or_none (same_position t p) there) in
      ([], tt, same)
  behind p (u ∷ us) t are there = by (same_position t p) refl there (behind u us t are.1)
    where
      by : (b : Bool) → same_position t p ≡ b → (b || stands_in (u ∷ us) t) ≡ true → (stands_in (u ∷ us) t ≡ true → (rest : List Pos) × AreMoves plane h t rest × (last_position t rest ≡ last_position u us)) → (rest : List Pos) × AreMoves plane h t rest × (last_position t rest ≡ last_position u us)
      by true is now later =
          let same : p ≡ t = sym ((same_position-Decides t p).0 is) in
          (u ∷ us, subst (λ x. AreMoves plane h x (u ∷ us)) same are, refl)
      by false other now later = later now

  -- a position on the way, and the positions that are left up to the last one
  module _ (last back : Pos) (returns : Contains (moves plane h last) (Next back)) (again : (rest : List Pos) × AreMoves plane h back rest × (last_position back rest ≡ last)) where
    abbrev OnTheWay : Type 0
    OnTheWay = (p : Pos) × (rest : List Pos) × AreMoves plane h p rest × (last_position p rest ≡ last)

    next : OnTheWay → OnTheWay
    next (p, [], each, ends) = (back, again.0, again.1, again.2)
    next (p, u ∷ us, each, ends) = (u, us, each.1, ends)

    is_a_move : (s : OnTheWay) → Contains (moves plane h s.0) (Next (next s).0)
    unfolding next
    is_a_move (p, [], each, ends) = subst (λ x. Contains (moves plane h x) (Next back)) (sym ends) returns
    is_a_move (p, u ∷ us, each, ends) = each.0

    after : OnTheWay → ℕ → OnTheWay
    after s zero = s
    after s (suc k) = next (after s k)

    pub round_and_round : (s : OnTheWay) → GoesOnForEver plane h s.0
    unfolding after
    round_and_round s = record { path = λ k. (after s k).0; from = refl; each = λ k. is_a_move (after s k) }

  pub loops_for_ever : (q : Pos) → IsLooping plane h q → GoesOnForEver plane h q
  loops_for_ever q l =
      let w = l.is_walk in
      let stops : MayStopAt plane h l.walk.positions (last_position q w.steps) Loop = subst (MayStopAt plane h l.walk.positions (last_position q w.steps)) l.back w.stops in
      let (t, returns, there) = stops in
      let again = behind q w.steps t w.each (subst (λ ps. stands_in ps t ≡ true) w.positions there) in
      round_and_round (last_position q w.steps) t returns again (q, w.steps, w.each, refl)

  -- ---- what goes on for ever has chains of any length

  first_moves : (path : ℕ → Pos) → ((k : ℕ) → Contains (moves plane h (path k)) (Next (path (suc k)))) → (k i : ℕ) → HasChain plane h (path i) k
  first_moves path each zero i = record { steps = []; as_many = refl; each = tt }
  first_moves path each (suc k) i =
      let rest = first_moves path each k (suc i) in
      record { steps = path (suc i) ∷ rest.steps; as_many = ap suc rest.as_many; each = (each i, rest.each) }

  pub chains_of_any_length : (q : Pos) → GoesOnForEver plane h q → (k : ℕ) → HasChain plane h q k
  chains_of_any_length q g k = subst (λ p. HasChain plane h p k) g.from (first_moves g.path g.each k 0)

  -- ---- a chain of as many moves as there are positions comes back

  module _ (links : plane.links ≡ links_of plane.network) (q : Pos) (there : IsPosition plane.network q) where
    abbrev count : ℕ
    count = length (positions plane.network)

    few : (us : List Pos) → AreMoves plane h q us → IsDistinct same_position (q ∷ us) → length us < count
    few us are once =
        let steps = few_steps plane h q us are once in
        let some = some_router plane.network q there in
        let ids : length (all_ids plane.links) ≡ length (all_ids (links_of plane.network)) = ap (λ l. length (all_ids l)) links in
        omega (arith, steps, some, ids, length-positions plane.network)

    comes_back : (ts us : List Pos) → AreMoves plane h q us → IsDistinct same_position (q ∷ us) → AreMoves plane h (last_position q us) ts → length us + length ts ≡ count → IsLooping plane h q
    comes_back [] us are once rest many = absurd (let low = few us are once in let none : ⊥ = omega arith in none)
    comes_back (t ∷ ts) us are once rest many =
        by (stands_in (q ∷ us) t) refl (λ further. comes_back ts (us ++ t ∷ []) (moves-push us q t are rest.0) further (subst (λ x. AreMoves plane h x ts) (sym (last_behind us q t)) rest.1) (omega (arith, length-append us (t ∷ []))))
      where
        by : (b : Bool) → stands_in (q ∷ us) t ≡ b → (IsDistinct same_position (q ∷ us ++ t ∷ []) → IsLooping plane h q) → IsLooping plane h q
        by true among on = record {
          walk = record { positions = q ∷ us; stop = Loop };
          is_walk = record { steps = us; positions = refl; each = are; once = once; stops = (t, rest.0, among) };
          back = refl;
        }
        by false apart on = on (IsDistinct-push same_position-laws (q ∷ us) t once apart)

    pub chain_loops : HasChain plane h q count → IsLooping plane h q
    chain_loops c = comes_back c.steps [] tt (alone q) c.each (let many : length c.steps ≡ count = c.as_many in omega arith)

    -- a header has a chain of as many moves as there are positions exactly where some walk comes to one of its own positions again
    pub chain_is_loop : HasChain plane h q count ↔ IsLooping plane h q
    chain_is_loop = (chain_loops, λ l. chains_of_any_length q (loops_for_ever q l) count)

    -- and exactly where it goes on for ever
    pub loop_is_for_ever : IsLooping plane h q ↔ GoesOnForEver plane h q
    loop_is_for_ever = (loops_for_ever q, λ g. chain_loops (chains_of_any_length q g count))
