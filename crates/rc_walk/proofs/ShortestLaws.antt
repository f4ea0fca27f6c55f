-- The shortest walk is what a search finds first, there is one of it, and it can be computed.
use Rattle.std.proofs.Common.{refl, ◌≡◌, ap, sym, ◌∙◌, subst, ℕ, suc, ◌≤◌, ◌⊎◌, inl, inr, true, false, List, ◌∷◌, length, reverse, Option, Some, None, MatchOption, arith}
use Rattle.std.specs.List.{IsDistinct, slice_get}
use Rattle.std.specs.Option.{option_map}
use Rattle.std.proofs.lemmas.List.{length-reverse}
use Rattle.rc_base.specs.declared.ending.Ends.{Ends}
use Rattle.rc_base.specs.declared.ending.Kind.{Kind}
use Rattle.rc_base.specs.declared.header.Header.{Header}
use Rattle.rc_base.specs.declared.position.Pos.{Pos}
use Rattle.rc_base.specs.Positions.{is_among, same_position}
use Rattle.rc_topology.specs.Links.{all_ids}
use Rattle.rc_walk.specs.declared.goal.Goal.TheVariants.{Ending}
use Rattle.rc_moves.specs.declared.walk.Move.{Move}
use Rattle.rc_moves.specs.declared.walk.Move.TheVariants.{Next, End}
use Rattle.rc_moves.specs.declared.walk.Stop.TheVariants.{At}
use Rattle.rc_moves.specs.declared.walk.Walk.{Walk}
use Rattle.rc_walk.specs.Goals.{is_met_by}
use Rattle.rc_moves.specs.Moves.{DataPlane, moves}
use Rattle.rc_walk.specs.Search.{IsEnd, IsFirstEnd, NothingEnds}
use Rattle.rc_walk.specs.Searching.{leads_to, meets_by, IsAllLooked, IsAtEnd, WaysBack}
use Rattle.rc_walk.specs.ShortestWalks.{AreChoices, AreChoicesTo, ComeBefore, IsShortestWalk, IsWalkTo, NoWalkEnds, Rest, fewest_from, is_asked_end, shortest_walk, stop_by}
use Rattle.rc_moves.specs.Walks.{last_position, IsWalk}
use Rattle.rc_walk.proofs.ChoiceLaws.{Along, HasTurned, along_lead, along_to, before_once, chosen_moves, lead_along, passed_once, same_choices, turned_at_most, turned_choices}
use Rattle.rc_walk.proofs.FewestLaws.{IsFirst, NoneSought, first_sought}
use Rattle.rc_walk.proofs.OrderLaws.{no_longer}
use Rattle.rc_walk.proofs.SearchState.{passes_here, found_first, no_more}

module _ (plane : DataPlane) (h : Header) (ends : Ends) where
  -- choices to an ending that is asked for make a walk to it, where no position is passed twice
  walk_by : (q : Pos) (ts : List Pos) (kind : Kind) (cs : List ℕ) → AreChoices plane h q ts kind cs → is_among ends kind ≡ true → IsDistinct same_position (q ∷ ts) → IsWalkTo plane h ends q (record { positions = q ∷ ts; stop = At kind }) cs
  walk_by q ts kind cs chosen asked once =
      let (each, ended, long) = chosen_moves plane h q ts (End kind) cs chosen in
      record {
        walk = record { steps = ts; positions = refl; each = each; once = once; stops = ended };
        kind = kind;
        stop = refl;
        asked = asked;
        chosen = chosen;
      }

module _ (plane : DataPlane) (h : Header) (ends : Ends) (start : Pos) where
  abbrev IsEndBy : List ℕ → Pos → ℕ → Type 0
  IsEndBy cs p c = IsEnd (leads_to plane h) (meets_by plane h (Ending ends)) start cs p c

  -- choices that come to an ending that is asked for, read from the last one on
  record IsTurnedEnd (others : List ℕ) : Type 0 where
    back : List ℕ
    last : ℕ
    at : Pos
    whole : others ≡ reverse (last ∷ back)
    is_end : IsEndBy back at last

  turned_end : (ts : List Pos) (m : Move) (others : List ℕ) → AreChoicesTo plane h start ts m others → is_asked_end ends m ≡ true → IsTurnedEnd others
  turned_end ts m others chosen asked =
      let t : HasTurned plane h start ts m others = turned_choices plane h start ts m others chosen in
      record {
        back = t.back;
        last = t.last;
        at = last_position start ts;
        whole = t.whole;
        is_end = record { lead = along_lead plane h start t.back ts t.along; ends_there = ap (is_met_by (Ending ends)) t.ended ∙ asked };
      }

  -- the first of all choices that come to an ending that is asked for are those of the shortest walk
  shortest_first : (r : Rest) → IsFirst plane h (λ walked. is_asked_end ends) start r → IsShortestWalk plane h ends start (record { positions = start ∷ r.0; stop = stop_by r.1 })
  shortest_first (ts, Next t) f = absurd (let e : false ≡ true = f.sought in cc)
  shortest_first (ts, End kind) f =
      let t : HasTurned plane h start ts (End kind) f.choices = turned_choices plane h start ts (End kind) f.choices f.chosen in
      record {
        choices = f.choices;
        walk = walk_by plane h ends start ts kind f.choices f.chosen f.sought (passed_once plane h start t.back ts t.along (λ ds lead.
            let (us, along, at) = lead_along plane h start ds (last_position start ts) lead in
            let other = reverse (t.last ∷ ds) in
            let low : length f.choices ≤ length other = no_longer f.choices other (f.first us (End kind) other (along_to plane h start ds us along t.last (End kind) (ap (λ x. slice_get (moves plane h x) t.last) at ∙ t.ended)) f.sought) in
            let mine : length f.choices ≡ suc (length t.back) = ap length t.whole ∙ length-reverse (t.last ∷ t.back) in
            let others : length other ≡ suc (length ds) = length-reverse (t.last ∷ ds) in
            omega arith));
        first = λ v others w. f.first w.walk.steps (End w.kind) others w.chosen w.asked;
      }

  -- and so is the first end of a search
  shortest_end : (cs : List ℕ) (ts : List Pos) (last : ℕ) (kind : Kind) → IsFirstEnd (leads_to plane h) (meets_by plane h (Ending ends)) start cs (last_position start ts) last → Along plane h start cs ts → slice_get (moves plane h (last_position start ts)) last ≡ Some (End kind) → is_among ends kind ≡ true → IsShortestWalk plane h ends start (record { positions = start ∷ ts; stop = At kind })
  shortest_end cs ts last kind f along ended asked = shortest_first (ts, End kind) (record {
    choices = reverse (last ∷ cs);
    chosen = along_to plane h start cs ts along last (End kind) ended;
    sought = asked;
    first = λ us m ds chosen sought.
        let t = turned_end us m ds chosen sought in
        subst (λ xs. (reverse (last ∷ cs) ≡ xs) ⊎ ComeBefore (reverse (last ∷ cs)) xs) (sym t.whole) (turned_at_most (last ∷ cs) (t.last ∷ t.back) (f.first t.back t.at t.last t.is_end));
  })

  pub no_walk : NothingEnds (leads_to plane h) (meets_by plane h (Ending ends)) start → NoWalkEnds plane h ends start
  no_walk nothing v others w = let t = turned_end w.walk.steps (End w.kind) others w.chosen w.asked in nothing t.back t.at t.last t.is_end

  -- what a search has found at an end
  pub found_walk : {found : List Pos} {from by : List ℕ} {place choice : ℕ} (kind : Kind) → IsAtEnd plane h (Ending ends) start found from by place choice (End kind) → (back : List Pos) (choices : List ℕ) → WaysBack found from by place back choices → IsShortestWalk plane h ends start (record { positions = reverse back; stop = At kind })
  found_walk {choice = choice} kind e back choices ways =
      let w = passes_here e.way back choices ways in
      let cs = e.way.here.1 in
      let first : IsFirstEnd (leads_to plane h) (meets_by plane h (Ending ends)) start cs e.way.here.0 choice = found_first e.way (ap (is_met_by (Ending ends)) e.ended ∙ e.met) in
      let walk = shortest_end cs w.steps choice kind (subst (λ q. IsFirstEnd (leads_to plane h) (meets_by plane h (Ending ends)) start cs q choice) (sym w.last) first) w.along (ap (λ q. slice_get (moves plane h q) choice) w.last ∙ e.ended) e.met in
      subst (λ ps. IsShortestWalk plane h ends start (record { positions = ps; stop = At kind })) (sym w.positions) walk

  -- where it has looked at everything no walk ends so
  pub none_found : {found : List Pos} {from by : List ℕ} → IsAllLooked plane h (Ending ends) start found from by → NoWalkEnds plane h ends start
  none_found a = no_walk (no_more a.looked.way a.whole a.looked.all)

  -- ---- one walk

  same_walk : (w v : Walk) (cs ds : List ℕ) → IsWalkTo plane h ends start w cs → IsWalkTo plane h ends start v ds → cs ≡ ds → w ≡ v
  same_walk w v cs ds a b e =
      let same = same_choices plane h start a.walk.steps b.walk.steps (End a.kind) (End b.kind) cs a.chosen (subst (λ xs. AreChoices plane h start b.walk.steps b.kind xs) (sym e) b.chosen) in
      let positions : w.positions ≡ v.positions = a.walk.positions ∙ ap (λ ts. start ∷ ts) same.0 ∙ sym b.walk.positions in
      let last : End a.kind ≡ End b.kind = same.1 in
      let kind : a.kind ≡ b.kind = cc in
      let stop : w.stop ≡ v.stop = a.stop ∙ ap At kind ∙ sym b.stop in
      λ i. record { positions = positions i; stop = stop i }

  pub one_shortest_walk : (w v : Walk) → IsShortestWalk plane h ends start w → IsShortestWalk plane h ends start v → w ≡ v
  one_shortest_walk w v a b = by (a.first v b.choices b.walk) (b.first w a.choices a.walk)
    where
      by : (a.choices ≡ b.choices) ⊎ ComeBefore a.choices b.choices → (b.choices ≡ a.choices) ⊎ ComeBefore b.choices a.choices → w ≡ v
      by (inl e) other = same_walk w v a.choices b.choices a.walk b.walk e
      by (inr less) (inl e) = same_walk w v a.choices b.choices a.walk b.walk (sym e)
      by (inr less) (inr more) = absurd (before_once a.choices b.choices less more)

  pub shortest_walk_is_a_walk : (w : Walk) → IsShortestWalk plane h ends start w → IsWalk plane h start w
  shortest_walk_is_a_walk w a = a.walk.walk

  -- ---- the walk, computed

  pub there_is_a_shortest_walk : MatchOption (shortest_walk plane h ends start) (NoWalkEnds plane h ends start) (IsShortestWalk plane h ends start)
  there_is_a_shortest_walk = by (fewest_from plane h (λ walked. is_asked_end ends) (length (all_ids plane.links)) 0 start) (first_sought plane h (λ walked. is_asked_end ends) start)
    where
      by : (o : Option Rest) → MatchOption o (NoneSought plane h (λ walked. is_asked_end ends) start) (IsFirst plane h (λ walked. is_asked_end ends) start) → MatchOption (option_map (λ (r : Rest). record { positions = start ∷ r.0; stop = stop_by r.1 }) o) (NoWalkEnds plane h ends start) (IsShortestWalk plane h ends start)
      by None none = λ v others w. none.none w.walk.steps (End w.kind) others w.chosen w.asked w.walk.once
      by (Some r) f = shortest_first r f
