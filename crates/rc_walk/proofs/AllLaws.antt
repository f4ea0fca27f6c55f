-- A search that has looked at everything: what it found, and by which choices.
use Rattle.std.proofs.Common.{refl, ◌≡◌, ap, sym, ◌∙◌, subst, ℕ, ◌<◌, ◌⊎◌, inl, inr, ⊎_elim, List, [], ◌∷◌, ◌++◌, length, drop, reverse, slice_index_or, Some, Contains, append_assoc, arith}
use Rattle.std.specs.List.{slice_get}
use Rattle.std.proofs.lemmas.List.{reverse-append}
use Rattle.std.proofs.lemmas.List.Elements.{Contains-append_cases, Contains-get_or}
use Rattle.rc_base.specs.declared.header.Header.{Header}
use Rattle.rc_base.specs.declared.position.Pos.{Pos}
use Rattle.rc_moves.specs.declared.walk.Move.{Move}
use Rattle.rc_moves.specs.Moves.{DataPlane}
use Rattle.rc_walk.specs.Search.{AreAtMost, IsSearch, NothingEnds}
use Rattle.rc_walk.specs.Searching.{Entry, leads_to, IsAllLooked, IsAtEnd, WaysBack, meets_by}
use Rattle.rc_walk.proofs.ChoiceLaws.{reverse_more}
use Rattle.rc_walk.proofs.SearchLaws.{all_places, first_or_later, first_there, none_of_none}
use Rattle.rc_walk.specs.Goals.{is_met_by}
use Rattle.rc_walk.specs.Ways.{IsFirstRound, IsOneOfFirst, LeadFrom, itself}
use Rattle.rc_walk.specs.declared.goal.Goal.{Goal}
use Rattle.rc_walk.specs.declared.goal.Goal.TheVariants.{Onto, Nothing}
use Rattle.rc_walk.specs.declared.way.Way.{Way}
use Rattle.rc_walk.proofs.RoundLaws.{first_round}
use Rattle.rc_walk.proofs.SearchState.{at_end, found_first, get_there, got, long, no_entry, no_more, passes_here, passes_to, same_length, spot, spot_of}

at_one : {A : Type 0} (xs : List A) (x d : A) → Contains xs x → (i : ℕ) × (i < length xs) × (slice_index_or xs i d ≡ x)
at_one xs x d (i, low, at) = (i, low, got xs i x d (get_there xs i x low ∙ ap Some at))

none_left : {A : Type 0} (xs : List A) → length xs ≡ 0 → xs ≡ []
none_left [] e = refl
none_left (x ∷ xs) e = absurd (omega arith)

module _ {plane : DataPlane} {h : Header} {goal : Goal} {start : Pos} {found : List Pos} {from by : List ℕ} (a : IsAllLooked plane h goal start found from by) where
  abbrev all : List Entry
  all = a.looked.way.done ++ a.looked.way.here ∷ a.looked.way.rest

  last_one : a.looked.way.rest ≡ []
  last_one =
      let many = long a.looked.way in
      let at = a.looked.way.at_place in
      let whole = a.whole in
      none_left a.looked.way.rest (omega arith)

  -- nothing met the goal
  pub nothing_meets : NothingEnds (leads_to plane h) (meets_by plane h goal) start
  nothing_meets = no_more a.looked.way a.whole a.looked.all

  done_or_here : (e : Entry) → Contains all e → Contains a.looked.way.done e ⊎ (a.looked.way.here ≡ e)
  done_or_here e is = ⊎_elim (λ l. inl l) (λ r. ⊎_elim (λ same. inr same) (λ later. absurd (none_of_none e (subst (λ xs. Contains xs e) last_one later))) (first_or_later a.looked.way.here a.looked.way.rest e r)) (Contains-append_cases a.looked.way.done (a.looked.way.here ∷ a.looked.way.rest) e is)

  -- each position was found by the first choices that lead there
  pub first_choices : (j : ℕ) → j < length found → (ds : List ℕ) → LeadFrom plane h start ds (slice_index_or all j (no_entry start)).0 → AreAtMost (slice_index_or all j (no_entry start)).1 ds
  first_choices j low ds lead =
      let e : Entry = slice_index_or all j (no_entry start) in
      let fits : j < length all = (let same = same_length a.looked.way in omega arith) in
      first_there (leads_to plane h) (meets_by plane h goal) start a.looked.way.done a.looked.way.here a.looked.way.rest a.looked.many a.looked.way.search e (done_or_here e (Contains-get_or all j (no_entry start) fits)) ds lead

  reached : (ds : List ℕ) (p : Pos) → LeadFrom plane h start ds p → (e : Entry) × Contains all e × (e.0 ≡ p)
  reached ds p lead =
      let whole = subst (λ r. IsSearch (leads_to plane h) (meets_by plane h goal) start a.looked.way.done a.looked.way.here r a.looked.many) last_one a.looked.way.search in
      let (e, is, at) = all_places (leads_to plane h) (meets_by plane h goal) start a.looked.way.done a.looked.way.here a.looked.many whole (λ d past. at_end a.looked.way d (let long = a.looked.all in omega arith)) ds p lead in
      (e, subst (λ r. Contains (a.looked.way.done ++ a.looked.way.here ∷ r) e) (sym last_one) is, at)

  -- and each to which choices lead was found
  pub reaches_all : (ds : List ℕ) (p : Pos) → LeadFrom plane h start ds p → IsOneOfFirst found (length found) p
  reaches_all ds p lead =
      let (e, is, at) = reached ds p lead in
      let (j, low, there) = at_one all e (no_entry start) is in
      let fits : j < length found = (let same = same_length a.looked.way in omega arith) in
      record { place = j; low = fits; there = get_there found j start fits ∙ ap Some (spot_of a.looked.way j ∙ ap spot there ∙ at) }

abbrev pub Told : List Pos → List ℕ → List ℕ → ℕ → Way → Type 0
Told found from by place way = (back : List Pos) × (choices : List ℕ) × WaysBack found from by place back choices × (way.positions.items ≡ reverse back) × (way.choices.items ≡ reverse choices)

-- the first way to a position with the first way back
pub round_found : {plane : DataPlane} {h : Header} {q t : Pos} {found others : List Pos} {from by from' by' : List ℕ} (a : IsAllLooked plane h Nothing q found from by) (place : ℕ) → place < length found → slice_get found place ≡ Some t
    → {at choice : ℕ} {last : Move} (e : IsAtEnd plane h (Onto t) t others from' by' at choice last)
    → (out back way : Way) → Told found from by place out → Told others from' by' at back
    → way.positions.items ≡ out.positions.items ++ drop 1 back.positions.items → way.choices.items ≡ out.choices.items ++ back.choices.items ++ choice ∷ [] → IsFirstRound plane h q (itself t) way
round_found {plane} {h} {q} {t} {found} {others} a place low there {at} {choice} {last} e out back way (ps, cs, ways, out_positions, out_choices) (rs, ds, ways_back, back_positions, back_choices) positions choices =
    let entry : Entry = slice_index_or (a.looked.way.done ++ a.looked.way.here ∷ a.looked.way.rest) place (no_entry q) in
    let one = passes_to a.looked.way place ps cs low ways in
    let two = passes_here e.way rs ds ways_back in
    let here : entry.0 ≡ t = sym (spot_of a.looked.way place) ∙ got found place t q there in
    let path = entry.1 in
    let turned = e.way.here.1 in
    let all_positions : way.positions.items ≡ q ∷ one.steps ++ two.steps = positions ∙ (λ i. (out_positions ∙ one.positions) i ++ drop 1 ((back_positions ∙ two.positions) i)) in
    let all_choices : way.choices.items ≡ reverse ((choice ∷ turned) ++ path) =
    choices ∙ (λ i. (out_choices ∙ ap reverse one.chosen) i ++ (back_choices ∙ ap reverse two.chosen) i ++ choice ∷ [])
    ∙ append_assoc (reverse path) (reverse turned) (choice ∷ []) ∙ ap (λ xs. reverse path ++ xs) (sym (reverse_more choice turned)) ∙ sym (reverse-append (choice ∷ turned) path) in
    first_round plane h q t path one.steps one.along (one.last ∙ here) (λ us lead. first_choices a place low us (subst (LeadFrom plane h q us) (sym here) lead))
    turned two.steps choice e.way.here.0 last two.along two.last e.ended e.met (found_first e.way (ap (is_met_by (Onto t)) e.ended ∙ e.met)) way all_positions all_choices
