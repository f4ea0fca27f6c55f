-- A packet has one shortest walk that comes back, which is a walk, and one exactly where some walk comes back.
use Rattle.std.proofs.Common.{refl, ◌≡◌, ap, sym, ◌∙◌, subst, ℕ, ◌⊎◌, inl, inr, true, false, List, [], ◌∷◌, length, Option, Some, None, MatchOption, Contains}
use Rattle.std.specs.Option.{option_map}
use Rattle.std.specs.Prelude.{◌↔◌}
use Rattle.rc_base.specs.declared.header.Header.{Header}
use Rattle.rc_base.specs.declared.position.Pos.{Pos}
use Rattle.rc_topology.specs.Links.{all_ids}
use Rattle.rc_moves.specs.declared.walk.Move.{Move}
use Rattle.rc_moves.specs.declared.walk.Move.TheVariants.{Next, End}
use Rattle.rc_moves.specs.declared.walk.Stop.TheVariants.{Loop}
use Rattle.rc_moves.specs.declared.walk.Walk.{Walk}
use Rattle.rc_moves.specs.Moves.{DataPlane, moves}
use Rattle.rc_walk.specs.ShortestWalks.{AreChoicesTo, ComeBefore, Rest, fewest_from, stop_by}
use Rattle.rc_moves.specs.Walks.{AreMoves, IsWalk, MayStopAt, last_position, stands_in, IsLooping}
use Rattle.rc_walk.proofs.ChoiceLaws.{before_once, chosen_moves, same_choices}
use Rattle.rc_walk.specs.Loops.{IsLoop, IsShortestLoop, NoLoop, is_back, shortest_loop}
use Rattle.rc_walk.proofs.FewestLaws.{IsFirst, NoneSought, first_sought}
use Rattle.rc_walk.proofs.LassoLaws.{shortest_lasso}
use Rattle.rc_walk.proofs.SearchState.{get_there}

module _ (plane : DataPlane) (h : Header) where
  one_list : (cs ds : List ℕ) → (cs ≡ ds) ⊎ ComeBefore cs ds → (ds ≡ cs) ⊎ ComeBefore ds cs → cs ≡ ds
  one_list cs ds (inl e) b = e
  one_list cs ds (inr a) (inl e) = sym e
  one_list cs ds (inr a) (inr b) = absurd (before_once cs ds a b)

  -- a packet has one shortest walk that comes back
  pub one_shortest_loop : (q : Pos) (w v : Walk) → IsShortestLoop plane h q w → IsShortestLoop plane h q v → w ≡ v
  one_shortest_loop q w v a b =
      let same : a.choices ≡ b.choices = one_list a.choices b.choices (a.first v b.choices b.loop) (b.first w a.choices a.loop) in
      let steps : a.loop.steps ≡ b.loop.steps = (same_choices plane h q a.loop.steps b.loop.steps (Next a.loop.back) (Next b.loop.back) a.choices a.loop.chosen (subst (AreChoicesTo plane h q b.loop.steps (Next b.loop.back)) (sym same) b.loop.chosen)).0 in
      let positions : w.positions ≡ v.positions = a.loop.positions ∙ ap (λ ts. q ∷ ts) steps ∙ sym b.loop.positions in
      let stop : w.stop ≡ v.stop = a.loop.stop ∙ sym b.loop.stop in
      λ i. record { positions = positions i; stop = stop i }

  -- ---- it is a walk

  loop_is_walk : (q : Pos) (w : Walk) (cs : List ℕ) → IsLoop plane h q w cs → IsWalk plane h q w
  loop_is_walk q w cs l =
      let (each, returns, many) = chosen_moves plane h q l.steps (Next l.back) cs l.chosen in
      let there : stands_in w.positions l.back ≡ true = ap (λ ps. stands_in ps l.back) l.positions ∙ l.among in
      record {
        steps = l.steps;
        positions = l.positions;
        each = each;
        once = l.once;
        stops = subst (MayStopAt plane h w.positions (last_position q l.steps)) (sym l.stop) (l.back, returns, there);
      }

  pub shortest_loop_is_a_walk : (q : Pos) (w : Walk) → IsShortestLoop plane h q w → IsWalk plane h q w × (w.stop ≡ Loop)
  shortest_loop_is_a_walk q w s = (loop_is_walk q w s.choices s.loop, s.loop.stop)

  -- ---- each walk that comes back has choices

  choices : (q : Pos) (ts : List Pos) (m : Move) → AreMoves plane h q ts → Contains (moves plane h (last_position q ts)) m → (cs : List ℕ) × AreChoicesTo plane h q ts m cs
  choices q [] m are (c, low, at) = (c ∷ [], (get_there (moves plane h q) c m low ∙ ap Some at, refl))
  choices q (t ∷ ts) m ((c, low, at), rest) last =
      let (cs, chosen) = choices t ts m rest last in
      (c ∷ cs, (get_there (moves plane h q) c (Next t) low ∙ ap Some at, chosen))

  looping_has_choices : (q : Pos) → IsLooping plane h q → (w : Walk) × (cs : List ℕ) × IsLoop plane h q w cs
  looping_has_choices q l =
      let w = l.is_walk in
      let stops : MayStopAt plane h l.walk.positions (last_position q w.steps) Loop = subst (MayStopAt plane h l.walk.positions (last_position q w.steps)) l.back w.stops in
      let (t, returns, there) = stops in
      let (cs, chosen) = choices q w.steps (Next t) w.each returns in
      (l.walk, cs, record { steps = w.steps; back = t; positions = w.positions; stop = l.back; among = subst (λ ps. stands_in ps t ≡ true) w.positions there; chosen = chosen; once = w.once })

  -- ---- it can be computed

  pub there_is_a_shortest_loop : (q : Pos) → MatchOption (shortest_loop plane h q) (NoLoop plane h q) (IsShortestLoop plane h q)
  there_is_a_shortest_loop q = by (fewest_from plane h is_back (length (all_ids plane.links)) 0 q) (first_sought plane h is_back q)
    where
      first : (r : Rest) → IsFirst plane h is_back q r → IsShortestLoop plane h q (record { positions = q ∷ r.0; stop = stop_by r.1 })
      first (ts, End kind) f = absurd (let e : false ≡ true = f.sought in cc)
      first (ts, Next t) f = shortest_lasso plane h q ts f.choices (record { onto = t; chosen = f.chosen; among = f.sought }) (λ us others r. f.first us (Next r.onto) others r.chosen r.among)

      by : (o : Option Rest) → MatchOption o (NoneSought plane h is_back q) (IsFirst plane h is_back q) → MatchOption (option_map (λ (r : Rest). record { positions = q ∷ r.0; stop = stop_by r.1 }) o) (NoLoop plane h q) (IsShortestLoop plane h q)
      by None none = λ v others l. none.none l.steps (Next l.back) others l.chosen l.among l.once
      by (Some r) f = first r f

  -- ---- one exactly where some walk comes back

  pub none_loops : (q : Pos) → NoLoop plane h q ↔ (¬ (IsLooping plane h q))
  none_loops q = (
    (λ none l. let (w, cs, loop) = looping_has_choices q l in none w cs loop),
    (λ none v others l. none (record { walk = v; is_walk = loop_is_walk q v others l; back = l.stop })),
  )
