-- A packet arrives exactly where a shortest walk is found.
use Rattle.std.proofs.Common.{◌≡◌, ap, refl, subst, ◌∙◌, ℕ, true, false, List, [], ◌∷◌, Option, Some, None, MatchOption, Contains}
use Rattle.std.specs.Prelude.{is_some}
use Rattle.std.specs.Bool.{Decides}
use Rattle.rc_walk.proofs.SearchState.{get_there}
use Rattle.rc_base.specs.declared.ending.Ends.{Ends}
use Rattle.rc_base.specs.declared.header.Header.{Header}
use Rattle.rc_base.specs.declared.position.Pos.{Pos}
use Rattle.rc_moves.specs.Moves.{DataPlane, moves}
use Rattle.rc_walk.specs.ShortestWalks.{AreChoicesTo, IsShortestWalk, NoWalkEnds}
use Rattle.rc_moves.specs.Walks.{AreMoves, MayStopAt, last_position}
use Rattle.rc_moves.specs.declared.walk.Move.{Move}
use Rattle.rc_moves.specs.declared.walk.Move.TheVariants.{Next, End}
use Rattle.rc_moves.specs.declared.walk.Walk.{Walk}
use Rattle.rc_failures.specs.Failures.{Arrives}

module _ (plane : DataPlane) (place : Pos) (h : Header) (ends : Ends) where
  -- moves one after another, and a last one, are chosen by their places
  choices : (q : Pos) (ts : List Pos) (m : Move) → AreMoves plane h q ts → Contains (moves plane h (last_position q ts)) m → (cs : List ℕ) × AreChoicesTo plane h q ts m cs
  choices q [] m are (c, low, at) = (c ∷ [], (get_there (moves plane h q) c m low ∙ ap Some at, refl))
  choices q (t ∷ ts) m ((c, low, at), rest) last =
      let (cs, chosen) = choices t ts m rest last in
      (c ∷ cs, (get_there (moves plane h q) c (Next t) low ∙ ap Some at, chosen))

  none_arrives : NoWalkEnds plane h ends place → ¬ (Arrives plane place h ends)
  none_arrives none a =
      let w = a.is_walk in
      let last = last_position place w.steps in
      let ending : Contains (moves plane h last) (End a.kind) = subst (MayStopAt plane h a.walk.positions last) a.stops w.stops in
      let (cs, chosen) = choices place w.steps (End a.kind) w.each ending in
      none a.walk cs (record { walk = w; kind = a.kind; stop = a.stops; asked = a.asked; chosen = chosen })

  some_arrives : (w : Walk) → IsShortestWalk plane h ends place w → Arrives plane place h ends
  some_arrives w s = record { walk = w; kind = s.walk.kind; is_walk = s.walk.walk; stops = s.walk.stop; asked = s.walk.asked }

  pub arrives_where_found : (found : Option Walk) → MatchOption found (NoWalkEnds plane h ends place) (IsShortestWalk plane h ends place) → Decides (is_some found) (Arrives plane place h ends)
  arrives_where_found None none = ((λ e. absurd (let no : false ≡ true = e in cc)), (λ a. absurd (none_arrives none a)))
  arrives_where_found (Some w) s = ((λ e. some_arrives w s), (λ a. refl))
