-- The walk whose last move is sought and whose choices come first, computed by lengths.
use Rattle.std.proofs.Common.{refl, ◌≡◌, ap, sym, ◌∙◌, subst, ℕ, zero, suc, ◌+◌, ◌≤◌, ◌<◌, ◌⊎◌, inl, inr, ⊎_elim, Bool, true, false, List, [], ◌∷◌, ◌++◌, length, Option, Some, None, MatchOption, append_assoc, append-nil, arith}
use Rattle.std.specs.List.{IsDistinct, slice_get}
use Rattle.std.specs.Option.{option_map, option_or}
use Rattle.std.specs.Prelude.{if◌then◌else◌}
use Rattle.std.proofs.lemmas.Bool.{cases_lt}
use Rattle.rc_base.specs.declared.header.Header.{Header}
use Rattle.rc_base.specs.declared.position.Pos.{Pos}
use Rattle.rc_base.specs.Positions.{same_position}
use Rattle.rc_topology.specs.Links.{all_ids}
use Rattle.rc_moves.specs.declared.walk.Move.{Move}
use Rattle.rc_moves.specs.declared.walk.Move.TheVariants.{Next, End}
use Rattle.rc_moves.specs.Moves.{DataPlane, moves}
use Rattle.rc_walk.specs.ShortestWalks.{AreChoicesTo, ComeBefore, IsLess, Rest, fewest_from, first_of, last_by, rest_by, rest_of}
use Rattle.rc_moves.proofs.BoundLaws.{few_steps}
use Rattle.rc_walk.proofs.ChoiceLaws.{chosen_moves, none_chosen}

-- ---- the first of some moves that gives something

module _ {A : Type 0} (f : Move → Option A) where
  abbrev NoneOf : List Move → Type 0
  NoneOf ms = (k : ℕ) (m : Move) → slice_get ms k ≡ Some m → f m ≡ None

  record IsFirstOf (ms : List Move) (a : A) : Type 0 where
    place : ℕ
    move : Move
    there : slice_get ms place ≡ Some move
    gives : f move ≡ Some a
    before : (k : ℕ) (m : Move) → k < place → slice_get ms k ≡ Some m → f m ≡ None

  module _ (x : Move) (ms : List Move) where
    none_more : f x ≡ None → NoneOf ms → NoneOf (x ∷ ms)
    none_more e none zero m at = let same : x ≡ m = cc in ap f (sym same) ∙ e
    none_more e none (suc k) m at = none k m at

    first_more : (a : A) → f x ≡ None → IsFirstOf ms a → IsFirstOf (x ∷ ms) a
    first_more a e r = record {
      place = suc r.place;
      move = r.move;
      there = r.there;
      gives = r.gives;
      before = before;
    }
      where
        before : (k : ℕ) (m : Move) → k < suc r.place → slice_get (x ∷ ms) k ≡ Some m → f m ≡ None
        before zero m low at = let same : x ≡ m = cc in ap f (sym same) ∙ e
        before (suc k) m low at = r.before k m (omega arith) at

  first_is : (ms : List Move) → MatchOption (first_of f ms) (NoneOf ms) (IsFirstOf ms)
  first_is [] = λ k m e. absurd (cc)
  first_is (x ∷ ms) = by (f x) refl (first_is ms)
    where
      rest : (o : Option A) → f x ≡ None → MatchOption o (NoneOf ms) (IsFirstOf ms) → MatchOption o (NoneOf (x ∷ ms)) (IsFirstOf (x ∷ ms))
      rest None e none = none_more x ms e none
      rest (Some a) e r = first_more x ms a e r

      by : (o : Option A) → f x ≡ o → MatchOption (first_of f ms) (NoneOf ms) (IsFirstOf ms) → MatchOption (option_or o (first_of f ms)) (NoneOf (x ∷ ms)) (IsFirstOf (x ∷ ms))
      by (Some a) e others = record { place = 0; move = x; there = refl; gives = e; before = λ k m low at. absurd (let wrong : ⊥ = omega arith in wrong) }
      by None e others = rest (first_of f ms) e others

-- ---- what gives something

-- a last move, if it is sought
abbrev rest_if : Move → Bool → Option Rest
rest_if m b = if b then Some ([], m) else None

-- a next position, with what is further
abbrev onward : Pos → Option Rest → Option Rest
onward t o = option_map (λ (s : Rest). (t ∷ s.0, s.1)) o

module _ (is_sought : Move → Bool) (m : Move) where
  sought_gives : is_sought m ≡ true → last_by is_sought m ≡ Some ([], m)
  sought_gives sought = ap (rest_if m) sought

  gives_sought : (r : Rest) → last_by is_sought m ≡ Some r → (is_sought m ≡ true) × (r ≡ ([], m))
  gives_sought r e = by (is_sought m) refl e
    where
      by : (b : Bool) → is_sought m ≡ b → rest_if m b ≡ Some r → (is_sought m ≡ true) × (r ≡ ([], m))
      by true sought e = (sought, cc)
      by false sought e = absurd (cc)

-- what gives something further is a next position
further_is : (go : Pos → Option Rest) (m : Move) (r : Rest) → rest_by go m ≡ Some r → (t : Pos) × (s : Rest) × (m ≡ Next t) × (go t ≡ Some s) × (r ≡ (t ∷ s.0, s.1))
further_is go (End kind) r e = absurd (cc)
further_is go (Next t) r e = by (go t) refl e
  where
    by : (o : Option Rest) → go t ≡ o → onward t o ≡ Some r → (u : Pos) × (s : Rest) × (Next t ≡ Next u) × (go u ≡ Some s) × (r ≡ (u ∷ s.0, s.1))
    by None g e = absurd (cc)
    by (Some s) g e = (t, s, refl, g, cc)

nothing_further : (go : Pos → Option Rest) (t : Pos) → rest_by go (Next t) ≡ None → go t ≡ None
nothing_further go t e = by (go t) e
  where
    by : (o : Option Rest) → onward t o ≡ None → o ≡ None
    by None e = refl
    by (Some s) e = absurd (cc)

-- of two lists of choices the one whose first choice isn't greater comes first, where the others decide between equal ones
by_first : (c d : ℕ) (cs ds : List ℕ) → (d < c → ⊥) → (c ≡ d → (cs ≡ ds) ⊎ IsLess cs ds) → (c ∷ cs ≡ d ∷ ds) ⊎ IsLess (c ∷ cs) (d ∷ ds)
by_first c d cs ds never same = ⊎_elim (λ less. absurd (never less)) (λ le. ⊎_elim (λ less. inr (inl less)) (λ ge. let e : c ≡ d = omega arith in ⊎_elim (λ f. inl (λ i. e i ∷ f i)) (λ less. inr (inr (e, less))) (same e)) (cases_lt c d)) (cases_lt d c)

module _ (plane : DataPlane) (h : Header) (is_sought : List Pos → Move → Bool) where
  -- no choices, so many and one for the last move, come to one that is sought
  abbrev NoneIn : ℕ → List Pos → Pos → Type 0
  NoneIn n walked q = (ts : List Pos) (m : Move) (cs : List ℕ) → AreChoicesTo plane h q ts m cs → is_sought (walked ++ ts) m ≡ true → length cs ≡ suc n → ⊥

  -- these do, and none as many come before them
  record IsFirstIn (n : ℕ) (walked : List Pos) (q : Pos) (r : Rest) : Type 0 where
    choices : List ℕ
    chosen : AreChoicesTo plane h q r.0 r.1 choices
    sought : is_sought (walked ++ r.0) r.1 ≡ true
    many : length choices ≡ suc n
    first : (ts : List Pos) (m : Move) (cs : List ℕ) → AreChoicesTo plane h q ts m cs → is_sought (walked ++ ts) m ≡ true → length cs ≡ suc n → (choices ≡ cs) ⊎ IsLess choices cs

  -- there is a choice for each position, and one for the last move
  many_choices : (q : Pos) (ts : List Pos) (m : Move) (cs : List ℕ) → AreChoicesTo plane h q ts m cs → length cs ≡ suc (length ts)
  many_choices q ts m cs a = (chosen_moves plane h q ts m cs a).2

  -- ---- at once

  module _ (walked : List Pos) (q : Pos) where
    abbrev here : Move → Option Rest
    here = last_by (is_sought walked)

    gives : (m : Move) → is_sought (walked ++ []) m ≡ true → here m ≡ Some ([], m)
    gives m t = sought_gives (is_sought walked) m (subst (λ w. is_sought w m ≡ true) (append-nil walked) t)

    none_at_once : NoneOf here (moves plane h q) → NoneIn zero walked q
    none_at_once none ts m [] a t l = absurd (none_chosen plane h q ts m a)
    none_at_once none [] m (c ∷ cs) a t l =
        let there : here m ≡ Some ([], m) = gives m t in
        let off : here m ≡ None = none c m a.0 in
        absurd (let wrong : ⊥ = cc (there, off) in wrong)
    none_at_once none (p ∷ ts) m (c ∷ cs) a t l =
        let many : length cs ≡ suc (length ts) = many_choices p ts m cs a.1 in
        absurd (let wrong : ⊥ = omega arith in wrong)

    module _ (r : Rest) (f : IsFirstOf here (moves plane h q) r) where
      end_first : (ts : List Pos) (m : Move) (cs : List ℕ) → AreChoicesTo plane h q ts m cs → is_sought (walked ++ ts) m ≡ true → length cs ≡ suc zero → (f.place ∷ [] ≡ cs) ⊎ IsLess (f.place ∷ []) cs
      end_first ts m [] a t l = absurd (none_chosen plane h q ts m a)
      end_first [] m (c ∷ cs) a t l =
          by_first f.place c [] cs (λ less.
          let there : here m ≡ Some ([], m) = gives m t in
          let off : here m ≡ None = f.before c m less a.0 in
          let wrong : ⊥ = cc (there, off) in
          wrong) (λ e. inl (sym a.1))
      end_first (p ∷ ts) m (c ∷ cs) a t l =
          let many : length cs ≡ suc (length ts) = many_choices p ts m cs a.1 in
          absurd (let wrong : ⊥ = omega arith in wrong)

      at_once : IsFirstIn zero walked q r
      at_once =
          let (sought, made) = gives_sought (is_sought walked) f.move r f.gives in
          record {
            choices = f.place ∷ [];
            chosen = subst (λ (s : Rest). AreChoicesTo plane h q s.0 s.1 (f.place ∷ [])) (sym made) (f.there, refl);
            sought = subst (λ (s : Rest). is_sought (walked ++ s.0) s.1 ≡ true) (sym made) (subst (λ w. is_sought w f.move ≡ true) (sym (append-nil walked)) sought);
            many = refl;
            first = end_first;
          }

  -- ---- further

  module _ (n : ℕ) (walked : List Pos) (known : (t : Pos) → MatchOption (rest_of plane h is_sought n (walked ++ t ∷ []) t) (NoneIn n (walked ++ t ∷ []) t) (IsFirstIn n (walked ++ t ∷ []) t)) (q : Pos) where
    abbrev from_there : Pos → Option Rest
    from_there t = rest_of plane h is_sought n (walked ++ t ∷ []) t

    longer : (t : Pos) (ts : List Pos) (m : Move) → is_sought (walked ++ t ∷ ts) m ≡ true → is_sought ((walked ++ t ∷ []) ++ ts) m ≡ true
    longer t ts m e = subst (λ w. is_sought w m ≡ true) (sym (append_assoc walked (t ∷ []) ts)) e

    none_known : (t : Pos) → from_there t ≡ None → NoneIn n (walked ++ t ∷ []) t
    none_known t e = subst (λ o. MatchOption o (NoneIn n (walked ++ t ∷ []) t) (IsFirstIn n (walked ++ t ∷ []) t)) e (known t)

    first_known : (t : Pos) (s : Rest) → from_there t ≡ Some s → IsFirstIn n (walked ++ t ∷ []) t s
    first_known t s e = subst (λ o. MatchOption o (NoneIn n (walked ++ t ∷ []) t) (IsFirstIn n (walked ++ t ∷ []) t)) e (known t)

    none_further : NoneOf (rest_by from_there) (moves plane h q) → NoneIn (suc n) walked q
    none_further none ts m [] a t l = absurd (none_chosen plane h q ts m a)
    none_further none [] m (c ∷ cs) a t l = let e : length cs ≡ 0 = ap length a.1 in absurd (let wrong : ⊥ = omega arith in wrong)
    none_further none (p ∷ ts) m (c ∷ cs) a t l =
        none_known p (nothing_further from_there p (none c (Next p) a.0)) ts m cs a.1 (longer p ts m t) (omega arith)

    module _ (r : Rest) (f : IsFirstOf (rest_by from_there) (moves plane h q) r) where
      module _ (t : Pos) (s : Rest) (is : f.move ≡ Next t) (w : IsFirstIn n (walked ++ t ∷ []) t s) where
        next_first : (ts : List Pos) (m : Move) (cs : List ℕ) → AreChoicesTo plane h q ts m cs → is_sought (walked ++ ts) m ≡ true → length cs ≡ suc (suc n) → (f.place ∷ w.choices ≡ cs) ⊎ IsLess (f.place ∷ w.choices) cs
        next_first ts m [] a sought l = absurd (none_chosen plane h q ts m a)
        next_first [] m (c ∷ cs) a sought l = let e : length cs ≡ 0 = ap length a.1 in absurd (let wrong : ⊥ = omega arith in wrong)
        next_first (p ∷ ts) m (c ∷ cs) a sought l =
            by_first f.place c w.choices cs
            (λ less. none_known p (nothing_further from_there p (f.before c (Next p) less a.0)) ts m cs a.1 (longer p ts m sought) (omega arith))
            (λ e.
            let here : slice_get (moves plane h q) c ≡ Some (Next t) = ap (λ k. slice_get (moves plane h q) k) (sym e) ∙ f.there ∙ ap Some is in
            let same : p ≡ t = cc (here, a.0) in
            w.first ts m cs (subst (λ x. AreChoicesTo plane h x ts m cs) same a.1) (subst (λ x. is_sought ((walked ++ x ∷ []) ++ ts) m ≡ true) same (longer p ts m sought)) (omega arith))

      further_first : IsFirstIn (suc n) walked q r
      further_first =
          let (t, s, is, gives, made) = further_is from_there f.move r f.gives in
          let w : IsFirstIn n (walked ++ t ∷ []) t s = first_known t s gives in
          let there : slice_get (moves plane h q) f.place ≡ Some (Next t) = f.there ∙ ap Some is in
          record {
            choices = f.place ∷ w.choices;
            chosen = subst (λ (x : Rest). AreChoicesTo plane h q x.0 x.1 (f.place ∷ w.choices)) (sym made) (there, w.chosen);
            sought = subst (λ (x : Rest). is_sought (walked ++ x.0) x.1 ≡ true) (sym made) (subst (λ v. is_sought v s.1 ≡ true) (append_assoc walked (t ∷ []) s.0) w.sought);
            many = ap suc w.many;
            first = next_first t s is w;
          }

  first_rest : (n : ℕ) (walked : List Pos) (q : Pos) → MatchOption (rest_of plane h is_sought n walked q) (NoneIn n walked q) (IsFirstIn n walked q)
  first_rest zero walked q = by (first_of (last_by (is_sought walked)) (moves plane h q)) (first_is (last_by (is_sought walked)) (moves plane h q))
    where
      by : (o : Option Rest) → MatchOption o (NoneOf (last_by (is_sought walked)) (moves plane h q)) (IsFirstOf (last_by (is_sought walked)) (moves plane h q)) → MatchOption o (NoneIn zero walked q) (IsFirstIn zero walked q)
      by None none = none_at_once walked q none
      by (Some r) f = at_once walked q r f
  first_rest (suc n) walked q =
      by (λ t. first_rest n (walked ++ t ∷ []) t) (first_of (rest_by (λ t. rest_of plane h is_sought n (walked ++ t ∷ []) t)) (moves plane h q)) (first_is (rest_by (λ t. rest_of plane h is_sought n (walked ++ t ∷ []) t)) (moves plane h q))
    where
      by : ((t : Pos) → MatchOption (rest_of plane h is_sought n (walked ++ t ∷ []) t) (NoneIn n (walked ++ t ∷ []) t) (IsFirstIn n (walked ++ t ∷ []) t)) → (o : Option Rest) → MatchOption o (NoneOf (rest_by (λ t. rest_of plane h is_sought n (walked ++ t ∷ []) t)) (moves plane h q)) (IsFirstOf (rest_by (λ t. rest_of plane h is_sought n (walked ++ t ∷ []) t)) (moves plane h q)) → MatchOption o (NoneIn (suc n) walked q) (IsFirstIn (suc n) walked q)
      by known None none = none_further n walked known q none
      by known (Some r) f = further_first n walked known q r f

  -- ---- the fewest

  module _ (q : Pos) where
    abbrev NoneOfMany : ℕ → Type 0
    NoneOfMany n = NoneIn n (q ∷ []) q

    record IsFewest (few : ℕ) (r : Rest) : Type 0 where
      many : ℕ
      first : IsFirstIn many (q ∷ []) q r
      fewer : (k : ℕ) → few ≤ k → k < many → NoneOfMany k

    abbrev NoneUpTo : ℕ → ℕ → Type 0
    NoneUpTo more few = (k : ℕ) → few ≤ k → k ≤ few + more → NoneOfMany k

    at_fewest : (few : ℕ) (r : Rest) → IsFirstIn few (q ∷ []) q r → IsFewest few r
    at_fewest few r f = record { many = few; first = f; fewer = λ k low high. absurd (let wrong : ⊥ = omega arith in wrong) }

    module _ (more few : ℕ) (none : NoneOfMany few) where
      at_few : (k : ℕ) → k ≡ few → NoneOfMany k
      at_few k e = subst (λ j. NoneOfMany j) (sym e) none

      one_more_none : NoneUpTo more (suc few) → NoneUpTo (suc more) few
      one_more_none rest k low high = ⊎_elim (λ less. rest k (omega arith) (omega arith)) (λ le. at_few k (omega arith)) (cases_lt few k)

      one_more_fewest : (r : Rest) → IsFewest (suc few) r → IsFewest few r
      one_more_fewest r f = record {
        many = f.many;
        first = f.first;
        fewer = λ k low high. ⊎_elim (λ less. f.fewer k (omega arith) high) (λ le. at_few k (omega arith)) (cases_lt few k);
      }

      one_more : (o : Option Rest) → MatchOption o (NoneUpTo more (suc few)) (IsFewest (suc few)) → MatchOption o (NoneUpTo (suc more) few) (IsFewest few)
      one_more None rest = one_more_none rest
      one_more (Some r) f = one_more_fewest r f

    fewest : (more few : ℕ) → MatchOption (fewest_from plane h is_sought more few q) (NoneUpTo more few) (IsFewest few)
    fewest zero few = by (rest_of plane h is_sought few (q ∷ []) q) (first_rest few (q ∷ []) q)
      where
        by : (o : Option Rest) → MatchOption o (NoneOfMany few) (IsFirstIn few (q ∷ []) q) → MatchOption o (NoneUpTo zero few) (IsFewest few)
        by None none = λ k low high. subst (λ j. NoneOfMany j) (let e : few ≡ k = omega arith in e) none
        by (Some r) f = at_fewest few r f
    fewest (suc more) few = by (rest_of plane h is_sought few (q ∷ []) q) (first_rest few (q ∷ []) q) (fewest more (suc few))
      where
        by : (o : Option Rest) → MatchOption o (NoneOfMany few) (IsFirstIn few (q ∷ []) q) → MatchOption (fewest_from plane h is_sought more (suc few) q) (NoneUpTo more (suc few)) (IsFewest (suc few)) → MatchOption (elim o as (λ _. Option Rest) [ Some rest ↦ Some rest | None ↦ fewest_from plane h is_sought more (suc few) q ]) (NoneUpTo (suc more) few) (IsFewest few)
        by None none rest = one_more more few none (fewest_from plane h is_sought more (suc few) q) rest
        by (Some r) f rest = at_fewest few r f

    -- ---- the first of all

    -- choices that come to a move that is sought
    pub record IsFirst (r : Rest) : Type 0 where
      pub choices : List ℕ
      pub chosen : AreChoicesTo plane h q r.0 r.1 choices
      pub sought : is_sought (q ∷ r.0) r.1 ≡ true
      pub first : (ts : List Pos) (m : Move) (cs : List ℕ) → AreChoicesTo plane h q ts m cs → is_sought (q ∷ ts) m ≡ true → (choices ≡ cs) ⊎ ComeBefore choices cs

    pub record NoneSought : Type 0 where
      pub none : (ts : List Pos) (m : Move) (cs : List ℕ) → AreChoicesTo plane h q ts m cs → is_sought (q ∷ ts) m ≡ true → IsDistinct same_position (q ∷ ts) → ⊥

    none_before : (r : Rest) (f : IsFewest 0 r) (ts : List Pos) (m : Move) (cs : List ℕ) → AreChoicesTo plane h q ts m cs → is_sought (q ∷ ts) m ≡ true → (f.first.choices ≡ cs) ⊎ ComeBefore f.first.choices cs
    none_before r f ts m cs chosen sought =
        let long : length cs ≡ suc (length ts) = many_choices q ts m cs chosen in
        let many : length f.first.choices ≡ suc f.many = f.first.many in
        ⊎_elim (λ less. absurd (f.fewer (length ts) (omega arith) less ts m cs chosen sought long)) (λ le. ⊎_elim
        (λ less. inr (inl (omega arith)))
        (λ ge. ⊎_elim (λ same. inl same) (λ before. inr (inr (let e : length f.first.choices ≡ length cs = omega arith in e, before))) (f.first.first ts m cs chosen sought (omega arith)))
        (cases_lt f.many (length ts))) (cases_lt (length ts) f.many)

    pub first_sought : MatchOption (fewest_from plane h is_sought (length (all_ids plane.links)) 0 q) NoneSought IsFirst
    first_sought = by (fewest_from plane h is_sought (length (all_ids plane.links)) 0 q) (fewest (length (all_ids plane.links)) 0)
      where
        by : (o : Option Rest) → MatchOption o (NoneUpTo (length (all_ids plane.links)) 0) (IsFewest 0) → MatchOption o NoneSought IsFirst
        by None none = record {
          none = λ ts m cs chosen sought once.
              let (each, ended, long) = chosen_moves plane h q ts m cs chosen in
              let few : length ts ≤ length (all_ids plane.links) = few_steps plane h q ts each once in
              none (length ts) (omega arith) (omega arith) ts m cs chosen sought long;
        }
        by (Some r) f = record { choices = f.first.choices; chosen = f.first.chosen; sought = f.first.sought; first = none_before r f }
