-- Lists of choices, read from either end, and the positions that they pass.
use Rattle.std.proofs.Common.{refl, ◌≡◌, ap, sym, ◌∙◌, subst, ℕ, zero, suc, ◌+◌, ◌≤◌, ◌<◌, ◌⊎◌, inl, inr, ⊎_elim, Bool, true, false, ◌||◌, List, [], ◌∷◌, ◌++◌, length, reverse, Option, Some, None, Contains, append_assoc, append-nil, arith}
use Rattle.std.specs.List.{IsDistinct, list_any, slice_get}
use Rattle.std.proofs.lemmas.List.{reverse-append, length-append, length-reverse}
use Rattle.std.proofs.lemmas.Map.Keys.{IsDistinct-push}
use Rattle.rc_base.specs.declared.header.Header.{Header}
use Rattle.rc_base.specs.declared.position.Pos.{Pos}
use Rattle.rc_base.specs.Positions.{same_position}
use Rattle.rc_moves.specs.declared.walk.Move.{Move}
use Rattle.rc_moves.specs.declared.walk.Move.TheVariants.{Next, End}
use Rattle.rc_moves.specs.Moves.{DataPlane, moves}
use Rattle.rc_walk.specs.Search.{PrecedeBack, AreAtMost, Lead}
use Rattle.rc_walk.specs.Searching.{position_of, leads_to}
use Rattle.rc_walk.specs.ShortestWalks.{IsLess, ComeBefore, AreChoicesTo}
use Rattle.rc_moves.specs.Walks.{stands_in, last_position, AreMoves}
use Rattle.rc_moves.proofs.PositionLaws.{same_position-Decides, same_position-laws}

pub reverse_more : {A : Type 0} (x : A) (xs : List A) → reverse (x ∷ xs) ≡ reverse xs ++ x ∷ []
reverse_more x xs = reverse-append (x ∷ []) xs

-- ---- the order of choices

less_more : (cs ds xs ys : List ℕ) → IsLess cs ds → IsLess (cs ++ xs) (ds ++ ys)
less_more [] ds xs ys h = absurd h
less_more (c ∷ cs) [] xs ys h = absurd h
less_more (c ∷ cs) (d ∷ ds) xs ys (inl h) = inl h
less_more (c ∷ cs) (d ∷ ds) xs ys (inr h) = inr (h.0, less_more cs ds xs ys h.1)

less_at_last : (cs : List ℕ) (c d : ℕ) → c < d → IsLess (cs ++ c ∷ []) (cs ++ d ∷ [])
less_at_last [] c d h = inl h
less_at_last (x ∷ cs) c d h = inr (refl, less_at_last cs c d h)

as_long : (cs ds : List ℕ) (c d : ℕ) → length cs ≡ length ds → length (cs ++ c ∷ []) ≡ length (ds ++ d ∷ [])
as_long cs ds c d e = omega (arith, length-append cs (c ∷ []), length-append ds (d ∷ []))

before_more : (cs ds : List ℕ) (c d : ℕ) → ComeBefore cs ds → ComeBefore (cs ++ c ∷ []) (ds ++ d ∷ [])
before_more cs ds c d (inl h) = inl (omega (arith, length-append cs (c ∷ []), length-append ds (d ∷ [])))
before_more cs ds c d (inr h) = inr (as_long cs ds c d h.0, less_more cs ds (c ∷ []) (d ∷ []) h.1)

turned : (c : ℕ) (cs : List ℕ) (d : ℕ) (ds : List ℕ) → ComeBefore (reverse cs ++ c ∷ []) (reverse ds ++ d ∷ []) → ComeBefore (reverse (c ∷ cs)) (reverse (d ∷ ds))
turned c cs d ds h =
    subst (λ xs. ComeBefore xs (reverse (d ∷ ds))) (sym (reverse_more c cs)) (subst (λ ys. ComeBefore (reverse cs ++ c ∷ []) ys) (sym (reverse_more d ds)) h)

-- choices that precede others, read from the last one on, come before them
turned_before : (cs ds : List ℕ) → PrecedeBack cs ds → ComeBefore (reverse cs) (reverse ds)
turned_before [] [] h = absurd h
turned_before [] (d ∷ ds) h = inl (let e : length (reverse (d ∷ ds)) ≡ suc (length ds) = length-reverse (d ∷ ds) in omega arith)
turned_before (c ∷ cs) [] h = absurd h
turned_before (c ∷ cs) (d ∷ ds) (inl h) = turned c cs d ds (before_more (reverse cs) (reverse ds) c d (turned_before cs ds h))
turned_before (c ∷ cs) (d ∷ ds) (inr h) =
    turned c cs d ds (inr (as_long (reverse cs) (reverse ds) c d (ap (λ xs. length (reverse xs)) h.0), subst (λ xs. IsLess (reverse cs ++ c ∷ []) (reverse xs ++ d ∷ [])) h.0 (less_at_last (reverse cs) c d h.1)))

pub turned_at_most : (cs ds : List ℕ) → AreAtMost cs ds → (reverse cs ≡ reverse ds) ⊎ ComeBefore (reverse cs) (reverse ds)
turned_at_most cs ds (inl h) = inr (turned_before cs ds h)
turned_at_most cs ds (inr e) = inl (ap reverse e)

preceding : (cs ds : List ℕ) → PrecedeBack cs ds → length cs ≤ length ds
preceding [] [] h = absurd h
preceding [] (d ∷ ds) h = omega arith
preceding (c ∷ cs) [] h = absurd h
preceding (c ∷ cs) (d ∷ ds) (inl h) = let l : length cs ≤ length ds = preceding cs ds h in omega arith
preceding (c ∷ cs) (d ∷ ds) (inr h) = let e : length cs ≡ length ds = ap length h.0 in omega arith

-- choices that are at most others are no more than these
pub not_longer : (cs ds : List ℕ) → AreAtMost cs ds → length cs ≤ length ds
not_longer cs ds (inl h) = preceding cs ds h
not_longer cs ds (inr e) = let l : length cs ≡ length ds = ap length e in omega arith

less_once : (cs ds : List ℕ) → IsLess cs ds → IsLess ds cs → ⊥
less_once [] ds h k = absurd h
less_once (c ∷ cs) [] h k = absurd h
less_once (c ∷ cs) (d ∷ ds) (inl h) (inl k) = absurd (let wrong : ⊥ = omega arith in wrong)
less_once (c ∷ cs) (d ∷ ds) (inl h) (inr k) = absurd (let e : d ≡ c = k.0 in let wrong : ⊥ = omega arith in wrong)
less_once (c ∷ cs) (d ∷ ds) (inr h) (inl k) = absurd (let e : c ≡ d = h.0 in let wrong : ⊥ = omega arith in wrong)
less_once (c ∷ cs) (d ∷ ds) (inr h) (inr k) = less_once cs ds h.1 k.1

-- of two lists of choices one alone comes before the other
pub before_once : (cs ds : List ℕ) → ComeBefore cs ds → ComeBefore ds cs → ⊥
before_once cs ds (inl h) (inl k) = absurd (let wrong : ⊥ = omega arith in wrong)
before_once cs ds (inl h) (inr k) = absurd (let e : length ds ≡ length cs = k.0 in let wrong : ⊥ = omega arith in wrong)
before_once cs ds (inr h) (inl k) = absurd (let e : length cs ≡ length ds = h.0 in let wrong : ⊥ = omega arith in wrong)
before_once cs ds (inr h) (inr k) = less_once cs ds h.1 k.1

-- ---- the positions that choices pass

pub or_none : (b : Bool) → (b || false) ≡ true → b ≡ true
or_none true e = refl
or_none false e = e

any_push : {A : Type 0} (f : A → Bool) (xs : List A) (y : A) → list_any f (xs ++ y ∷ []) ≡ true → (list_any f xs ≡ true) ⊎ (f y ≡ true)
any_push f [] y e = inr (or_none (f y) e)
any_push f (x ∷ xs) y e = by (f x) e (any_push f xs y)
  where
    by : (b : Bool) → (b || list_any f (xs ++ y ∷ [])) ≡ true → (list_any f (xs ++ y ∷ []) ≡ true → (list_any f xs ≡ true) ⊎ (f y ≡ true)) → ((b || list_any f xs) ≡ true) ⊎ (f y ≡ true)
    by true there rest = inl refl
    by false there rest = rest there

pub alone : (q : Pos) → IsDistinct same_position (q ∷ [])
unfolding IsDistinct
alone q = (tt, tt)

pub last_behind : (us : List Pos) (q p : Pos) → last_position q (us ++ p ∷ []) ≡ p
last_behind [] q p = refl
last_behind (u ∷ us) q p = last_behind us u p

next_is : (o : Option Move) (p : Pos) → position_of o ≡ Some p → o ≡ Some (Next p)
next_is None p e = absurd (cc)
next_is (Some (End kind)) p e = absurd (cc)
next_is (Some (Next t)) p e = let same : t ≡ p = cc in ap (λ q. Some (Next q)) same

pub next_at : (plane : DataPlane) (h : Header) (q p : Pos) (c : ℕ) → leads_to plane h q c ≡ Some p → slice_get (moves plane h q) c ≡ Some (Next p)
next_at plane h q p c e = next_is (slice_get (moves plane h q) c) p e

module _ (plane : DataPlane) (h : Header) (start : Pos) where
  -- the positions behind the start that these choices pass, of which the last one stands first
  abbrev pub Along : List ℕ → List Pos → Type 0
  Along [] ts = ts ≡ []
  Along (c ∷ cs) ts = (p : Pos) × (us : List Pos) × (ts ≡ us ++ p ∷ []) × Along cs us × (slice_get (moves plane h (last_position start us)) c ≡ Some (Next p))

  end_of : (ts us : List Pos) (p : Pos) → ts ≡ us ++ p ∷ [] → last_position start ts ≡ p
  end_of ts us p e = ap (last_position start) e ∙ last_behind us start p

  along_choices : (cs : List ℕ) (ts : List Pos) → Along cs ts → (us : List Pos) (m : Move) (ds : List ℕ) → AreChoicesTo plane h (last_position start ts) us m ds → AreChoicesTo plane h start (ts ++ us) m (reverse cs ++ ds)
  along_choices [] ts e us m ds a =
      let P : List Pos → Type 0 = λ xs. AreChoicesTo plane h (last_position start xs) us m ds → AreChoicesTo plane h start (xs ++ us) m ds in
      subst P (sym e) (λ b. b) a
  along_choices (c ∷ cs) ts (p, ps, e, along, on) us m ds a =
      let further : AreChoicesTo plane h (last_position start ps) (p ∷ us) m (c ∷ ds) = (on, subst (λ q. AreChoicesTo plane h q us m ds) (end_of ts ps p e) a) in
      let all : AreChoicesTo plane h start (ps ++ p ∷ us) m (reverse cs ++ c ∷ ds) = along_choices cs ps along (p ∷ us) m (c ∷ ds) further in
      let positions : ps ++ p ∷ us ≡ ts ++ us = sym (append_assoc ps (p ∷ []) us) ∙ ap (λ xs. xs ++ us) (sym e) in
      let choices : reverse cs ++ c ∷ ds ≡ reverse (c ∷ cs) ++ ds = sym (append_assoc (reverse cs) (c ∷ []) ds) ∙ ap (λ xs. xs ++ ds) (sym (reverse_more c cs)) in
      subst (λ xs. AreChoicesTo plane h start xs m (reverse (c ∷ cs) ++ ds)) positions (subst (λ xs. AreChoicesTo plane h start (ps ++ p ∷ us) m xs) choices all)

  -- with the choice of a last move they are the choices of these positions and that move
  pub along_to : (cs : List ℕ) (ts : List Pos) → Along cs ts → (last : ℕ) (m : Move) → slice_get (moves plane h (last_position start ts)) last ≡ Some m → AreChoicesTo plane h start ts m (reverse (last ∷ cs))
  along_to cs ts along last m e =
      subst (λ xs. AreChoicesTo plane h start xs m (reverse (last ∷ cs))) (append-nil ts) (subst (λ xs. AreChoicesTo plane h start (ts ++ []) m xs) (sym (reverse_more last cs)) (along_choices cs ts along [] m (last ∷ []) (e, refl)))

  -- choices read from the last one on
  pub record HasTurned (ts : List Pos) (m : Move) (choices : List ℕ) : Type 0 where
    pub back : List ℕ
    pub last : ℕ
    pub along : Along back ts
    pub whole : choices ≡ reverse (last ∷ back)
    pub ended : slice_get (moves plane h (last_position start ts)) last ≡ Some m

  turn : (cs : List ℕ) (us : List Pos) → Along cs us → (ts : List Pos) (m : Move) (ds : List ℕ) → AreChoicesTo plane h (last_position start us) ts m ds → HasTurned (us ++ ts) m (reverse cs ++ ds)
  turn cs us along [] m [] a = absurd a
  turn cs us along (t ∷ ts) m [] a = absurd a
  turn cs us along [] m (d ∷ ds) a = record {
    back = cs;
    last = d;
    along = subst (Along cs) (sym (append-nil us)) along;
    whole = ap (λ xs. reverse cs ++ d ∷ xs) a.1 ∙ sym (reverse_more d cs);
    ended = subst (λ xs. slice_get (moves plane h (last_position start xs)) d ≡ Some m) (sym (append-nil us)) a.0;
  }
  turn cs us along (t ∷ ts) m (d ∷ ds) a =
      let further : Along (d ∷ cs) (us ++ t ∷ []) = (t, us, refl, along, a.0) in
      let rest : HasTurned ((us ++ t ∷ []) ++ ts) m (reverse (d ∷ cs) ++ ds) = turn (d ∷ cs) (us ++ t ∷ []) further ts m ds (subst (λ q. AreChoicesTo plane h q ts m ds) (sym (last_behind us start t)) a.1) in
      let choices : reverse (d ∷ cs) ++ ds ≡ reverse cs ++ d ∷ ds = ap (λ xs. xs ++ ds) (reverse_more d cs) ∙ append_assoc (reverse cs) (d ∷ []) ds in
      subst (λ xs. HasTurned xs m (reverse cs ++ d ∷ ds)) (append_assoc us (t ∷ []) ts) (subst (λ xs. HasTurned ((us ++ t ∷ []) ++ ts) m xs) choices rest)

  pub turned_choices : (ts : List Pos) (m : Move) (choices : List ℕ) → AreChoicesTo plane h start ts m choices → HasTurned ts m choices
  turned_choices ts m choices a = turn [] [] refl ts m choices a

  -- ---- where they lead

  abbrev LeadTo : List ℕ → Pos → Type 0
  LeadTo cs p = Lead (leads_to plane h) start cs p

  pub along_lead : (cs : List ℕ) (ts : List Pos) → Along cs ts → LeadTo cs (last_position start ts)
  along_lead [] ts e = ap (last_position start) (sym e)
  along_lead (c ∷ cs) ts (p, us, e, along, on) = (last_position start us, along_lead cs us along, ap position_of on ∙ ap Some (sym (end_of ts us p e)))

  -- choices that lead somewhere pass positions
  pub lead_along : (cs : List ℕ) (p : Pos) → LeadTo cs p → (ts : List Pos) × Along cs ts × (last_position start ts ≡ p)
  lead_along [] p at = ([], refl, at)
  lead_along (c ∷ cs) p (q, lead, on) =
      let (us, along, at) = lead_along cs q lead in
      let there : slice_get (moves plane h (last_position start us)) c ≡ Some (Next p) = ap (λ x. slice_get (moves plane h x) c) at ∙ next_at plane h q p c on in
      (us ++ p ∷ [], (p, us, refl, along, there), last_behind us start p)

  -- a position on the way: the choices up to it, and those behind it
  pub record IsPassed (cs : List ℕ) (ts : List Pos) (q : Pos) : Type 0 where
    pub path : List ℕ
    pub rest : List ℕ
    pub made : cs ≡ rest ++ path
    pub out : LeadTo path q
    pub on : Lead (leads_to plane h) q rest (last_position start ts)

  pub passed : (cs : List ℕ) (ts : List Pos) → Along cs ts → (q : Pos) → stands_in (start ∷ ts) q ≡ true → IsPassed cs ts q
  passed [] ts e q there =
      let same : same_position q start ≡ true = or_none (same_position q start) (subst (λ xs. stands_in (start ∷ xs) q ≡ true) e there) in
      let is : q ≡ start = (same_position-Decides q start).0 same in
      record { path = []; rest = []; made = refl; out = sym is; on = is ∙ ap (last_position start) (sym e) }
  passed (c ∷ cs) ts (p, us, e, along, on) q there = ⊎_elim
      (λ old. let w = passed cs us along q old in
      record {
        path = w.path;
        rest = c ∷ w.rest;
        made = ap (λ xs. c ∷ xs) w.made;
        out = w.out;
        on = (last_position start us, w.on, ap position_of on ∙ ap Some (sym (end_of ts us p e)));
      })
      (λ same.
      let is : q ≡ p = (same_position-Decides q p).0 same in
      let here : last_position start ts ≡ q = end_of ts us p e ∙ sym is in
      record {
        path = c ∷ cs;
        rest = [];
        made = refl;
        out = subst (LeadTo (c ∷ cs)) here (along_lead (c ∷ cs) ts (p, us, e, along, on));
        on = sym here;
      }) (any_push (same_position q) (start ∷ us) p (subst (λ xs. stands_in (start ∷ xs) q ≡ true) e there))

  -- where no fewer choices lead to the last position, none is passed twice
  pub passed_once : (cs : List ℕ) (ts : List Pos) → Along cs ts → ((ds : List ℕ) → LeadTo ds (last_position start ts) → length cs ≤ length ds) → IsDistinct same_position (start ∷ ts)
  passed_once [] ts e few = subst (λ xs. IsDistinct same_position (start ∷ xs)) (sym e) (alone start)
  passed_once (c ∷ cs) ts (p, us, e, along, on) few =
      subst (λ xs. IsDistinct same_position (start ∷ xs)) (sym e) (IsDistinct-push same_position-laws (start ∷ us) p (passed_once cs us along shorter) (apart (stands_in (start ∷ us) p) refl))
    where
      here : last_position start ts ≡ p
      here = end_of ts us p e

      shorter : (ds : List ℕ) → LeadTo ds (last_position start us) → length cs ≤ length ds
      shorter ds lead =
          let l : suc (length cs) ≤ suc (length ds) = few (c ∷ ds) (last_position start us, lead, ap position_of on ∙ ap Some (sym here)) in
          omega arith

      apart : (b : Bool) → stands_in (start ∷ us) p ≡ b → stands_in (start ∷ us) p ≡ false
      apart true there =
          let w = passed cs us along p there in
          let many : length cs ≡ length w.rest + length w.path = ap length w.made ∙ length-append w.rest w.path in
          absurd (let l : suc (length cs) ≤ length w.path = few w.path (subst (LeadTo w.path) (sym here) w.out) in let wrong : ⊥ = omega arith in wrong)
      apart false told = told

-- ---- choices are those of one walk

module _ (plane : DataPlane) (h : Header) where
  pub none_chosen : (q : Pos) (ts : List Pos) (m : Move) → AreChoicesTo plane h q ts m [] → ⊥
  none_chosen q [] m a = absurd a
  none_chosen q (t ∷ ts) m a = absurd a

  pub same_choices : (q : Pos) (ts us : List Pos) (m n : Move) (cs : List ℕ) → AreChoicesTo plane h q ts m cs → AreChoicesTo plane h q us n cs → (ts ≡ us) × (m ≡ n)
  same_choices q ts us m n [] a b = absurd (none_chosen q ts m a)
  same_choices q [] [] m n (c ∷ cs) a b = (refl, cc (a.0, b.0))
  same_choices q [] (u ∷ us) m n (c ∷ cs) a b = absurd (none_chosen u us n (subst (AreChoicesTo plane h u us n) a.1 b.1))
  same_choices q (t ∷ ts) [] m n (c ∷ cs) a b = absurd (none_chosen t ts m (subst (AreChoicesTo plane h t ts m) b.1 a.1))
  same_choices q (t ∷ ts) (u ∷ us) m n (c ∷ cs) a b =
      let same : u ≡ t = cc (a.0, b.0) in
      let rest = same_choices t ts us m n cs a.1 (subst (λ x. AreChoicesTo plane h x us n cs) same b.1) in
      (λ i. sym same i ∷ rest.0 i, rest.1)

  pub in_moves : (ms : List Move) (k : ℕ) (m : Move) → slice_get ms k ≡ Some m → Contains ms m
  in_moves [] k m e = absurd (cc)
  in_moves (x ∷ ms) zero m e = let same : x ≡ m = cc in (0, omega arith, same)
  in_moves (x ∷ ms) (suc k) m e = let (j, low, at) = in_moves ms k m e in (suc j, omega arith, at)

  -- each position that is chosen is among the moves of the one before, and there is a choice for each, and one for the last move
  pub chosen_moves : (q : Pos) (ts : List Pos) (m : Move) (cs : List ℕ) → AreChoicesTo plane h q ts m cs → AreMoves plane h q ts × Contains (moves plane h (last_position q ts)) m × (length cs ≡ suc (length ts))
  chosen_moves q ts m [] a = absurd (none_chosen q ts m a)
  chosen_moves q [] m (c ∷ cs) a = (tt, in_moves (moves plane h q) c m a.0, ap (λ xs. suc (length xs)) a.1)
  chosen_moves q (t ∷ ts) m (c ∷ cs) a =
      let rest = chosen_moves t ts m cs a.1 in
      let many : length cs ≡ suc (length ts) = rest.2 in
      ((in_moves (moves plane h q) c (Next t) a.0, rest.0), rest.1, omega arith)
