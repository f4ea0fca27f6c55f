-- Choices that lead away and back are those of walks that come back, and the first of them pass no position twice.
use Rattle.std.proofs.Common.{refl, ◌≡◌, ap, sym, ◌∙◌, subst, ℕ, suc, ◌≤◌, Bool, true, false, List, [], ◌∷◌, length, reverse, Some, arith}
use Rattle.std.specs.List.{IsDistinct, slice_get}
use Rattle.std.proofs.lemmas.List.{length-reverse, reverse-reverse}
use Rattle.std.proofs.lemmas.Map.Keys.{IsDistinct-push}
use Rattle.rc_base.specs.declared.header.Header.{Header}
use Rattle.rc_base.specs.declared.position.Pos.{Pos}
use Rattle.rc_base.specs.Positions.{same_position}
use Rattle.rc_moves.specs.declared.walk.Move.TheVariants.{Next}
use Rattle.rc_moves.specs.declared.walk.Stop.TheVariants.{Loop}
use Rattle.rc_moves.specs.declared.walk.Walk.{Walk}
use Rattle.rc_walk.specs.Loops.{IsLoop, IsShortestLoop, NoLoop}
use Rattle.rc_moves.specs.Moves.{DataPlane, moves}
use Rattle.rc_walk.specs.Searching.{position_of}
use Rattle.rc_moves.specs.Walks.{stands_in, last_position}
use Rattle.rc_walk.specs.Ways.{IsLasso, IsRound, IsUpTo}
use Rattle.rc_walk.proofs.ChoiceLaws.{Along, along_to, alone, passed, turned_choices}
use Rattle.rc_walk.proofs.OrderLaws.{no_longer}
use Rattle.rc_moves.proofs.PositionLaws.{same_position-laws}

module _ (plane : DataPlane) (h : Header) (start : Pos) where
  -- a move onto a position on the way makes a lasso
  pub closes : (cs : List ℕ) (ts : List Pos) → Along plane h start cs ts → (c : ℕ) (q : Pos) → slice_get (moves plane h (last_position start ts)) c ≡ Some (Next q) → stands_in (start ∷ ts) q ≡ true → IsLasso plane h start (c ∷ cs)
  closes cs ts along c q on there =
      let w = passed plane h start cs ts along q there in
      record {
        turn = q;
        path = w.path;
        last = c;
        back = w.rest;
        made = ap (λ xs. c ∷ xs) w.made;
        out = w.out;
        home = (last_position start ts, w.on, ap position_of on);
      }

  -- and so do choices that come back to a position that they pass
  pub round_is_lasso : (ts : List Pos) (choices : List ℕ) → IsRound plane h start ts choices → IsLasso plane h start (reverse choices)
  round_is_lasso ts choices r =
      let w = turned_choices plane h start ts (Next r.onto) choices r.chosen in
      subst (IsLasso plane h start) (sym (ap reverse w.whole ∙ reverse-reverse (w.last ∷ w.back))) (closes w.back ts w.along w.last r.onto w.ended r.among)

  -- those of a walk that comes back
  pub loop_is_round : (v : Walk) (choices : List ℕ) (l : IsLoop plane h start v choices) → IsRound plane h start l.steps choices
  loop_is_round v choices l = record { onto = l.back; chosen = l.chosen; among = l.among }

  -- ---- the first that come back pass no position twice

  -- so many
  abbrev ComeBackBy : ℕ → Type 0
  ComeBackBy n = (ts : List Pos) (ds : List ℕ) → IsRound plane h start ts ds → n ≤ length ds

  round_once : (cs : List ℕ) (ts : List Pos) → Along plane h start cs ts → ComeBackBy (suc (length cs)) → IsDistinct same_position (start ∷ ts)
  round_once [] ts e few = subst (λ xs. IsDistinct same_position (start ∷ xs)) (sym e) (alone start)
  round_once (c ∷ cs) ts (p, us, e, along, on) few =
      subst (λ xs. IsDistinct same_position (start ∷ xs)) (sym e) (IsDistinct-push same_position-laws (start ∷ us) p (round_once cs us along fewer) (apart (stands_in (start ∷ us) p) refl))
    where
      fewer : ComeBackBy (suc (length cs))
      fewer xs ds r = let low : suc (suc (length cs)) ≤ length ds = few xs ds r in omega arith

      apart : (b : Bool) → stands_in (start ∷ us) p ≡ b → stands_in (start ∷ us) p ≡ false
      apart true there =
          let low : suc (suc (length cs)) ≤ length (reverse (c ∷ cs)) = few us (reverse (c ∷ cs)) (record { onto = p; chosen = along_to plane h start cs us along c (Next p) on; among = there }) in
          let long : length (reverse (c ∷ cs)) ≡ suc (length cs) = length-reverse (c ∷ cs) in
          absurd (let wrong : ⊥ = omega arith in wrong)
      apart false told = told

  -- so they are those of the shortest walk that comes back
  pub shortest_lasso : (ts : List Pos) (choices : List ℕ) → IsRound plane h start ts choices → ((us : List Pos) (others : List ℕ) → IsRound plane h start us others → IsUpTo choices others) → IsShortestLoop plane h start (record { positions = start ∷ ts; stop = Loop })
  shortest_lasso ts choices r first = record {
    choices = choices;
    loop = record {
      steps = ts;
      back = r.onto;
      positions = refl;
      stop = refl;
      among = r.among;
      chosen = r.chosen;
      once = (let w = turned_choices plane h start ts (Next r.onto) choices r.chosen in
          round_once w.back ts w.along (λ us ds other.
          let mine : length choices ≡ suc (length w.back) = ap length w.whole ∙ length-reverse (w.last ∷ w.back) in
          let low : length choices ≤ length ds = no_longer choices ds (first us ds other) in
          omega arith));
    };
    first = λ v others l. first l.steps others (loop_is_round v others l);
  }

  pub no_loop : ((ts : List Pos) (choices : List ℕ) → ¬ (IsRound plane h start ts choices)) → NoLoop plane h start
  no_loop none v others l = none l.steps others (loop_is_round v others l)

  -- ---- where no lasso comes before

  pub first_of_lassos : (ts : List Pos) (choices : List ℕ) → IsRound plane h start ts choices → ((others : List ℕ) → IsLasso plane h start others → IsUpTo choices (reverse others)) → IsShortestLoop plane h start (record { positions = start ∷ ts; stop = Loop })
  first_of_lassos ts choices r first = shortest_lasso ts choices r (λ us others other. subst (IsUpTo choices) (reverse-reverse others) (first (reverse others) (round_is_lasso us others other)))

  pub no_lasso : ((others : List ℕ) → ¬ (IsLasso plane h start others)) → NoLoop plane h start
  no_lasso none = no_loop (λ ts choices r. none (reverse choices) (round_is_lasso ts choices r))
