-- A breadth-first search finds the end whose choices come first.
use Rattle.std.proofs.Common.{refl, ◌≡◌, ap, sym, ◌∙◌, subst, ℕ, zero, suc, ◌≤◌, ◌<◌, ◌⊎◌, inl, inr, ⊎_elim, Bool, true, false, List, [], ◌∷◌, ◌++◌, length, Option, Some, None, Contains, append_assoc, arith}
use Rattle.std.proofs.lemmas.List.Elements.{Contains-append_left, Contains-append_right, Contains-append_cases, Contains-push, Contains-push_cases}
use Rattle.std.proofs.lemmas.Bool.{cases_lt}
use Rattle.rc_walk.proofs.OrderLaws.{at_most_before, at_most_trans, before_trans, one_more}
use Rattle.rc_walk.specs.Search.{PrecedeBack, AreAtMost, Lead, IsEnd, IsFirstEnd, IsFound, all_found, AreInSearchOrder, IsSearch}

-- ---- the order of choices

at_most_more : (xs ys : List ℕ) (c : ℕ) → AreAtMost xs ys → AreAtMost (c ∷ xs) (c ∷ ys)
at_most_more xs ys c (inl h) = inl (inl h)
at_most_more xs ys c (inr e) = inr (ap (λ x. c ∷ x) e)

-- ---- members

module _ {A : Type 0} where
  pub none_of_none : (x : A) → Contains [] x → ⊥
  none_of_none x (k, less, at) = absurd (omega arith)

  pub as_first : (x : A) (xs : List A) → Contains (x ∷ xs) x
  as_first x xs = (0, (let less : 0 < suc (length xs) = omega arith in less), refl)

  pub as_later : (y : A) (xs : List A) (x : A) → Contains xs x → Contains (y ∷ xs) x
  as_later y xs x is = Contains-append_right (y ∷ []) xs x is

  pub first_or_later : (y : A) (xs : List A) (x : A) → Contains (y ∷ xs) x → (y ≡ x) ⊎ Contains xs x
  first_or_later y xs x (zero, less, at) = inl at
  first_or_later y xs x (suc k, less, at) = inr (k, (let low : k < length xs = omega arith in low), at)

module _ {P : Type 0} (next : P → ℕ → Option P) (ends : P → ℕ → Bool) (start : P) where
  abbrev Entry : Type 0
  Entry = P × List ℕ

  -- the same choices lead to the same position
  one_place : (cs : List ℕ) (p q : P) → Lead next start cs p → Lead next start cs q → p ≡ q
  one_place [] p q h k = sym h ∙ k
  one_place (c ∷ cs) p q (u, hu, hp) (v, kv, kq) =
      let same : u ≡ v = one_place cs u v hu kv in cc

  module _ (done : List Entry) (here : Entry) (rest : List Entry) (c : ℕ) (s : IsSearch next ends start done here rest c) where
    abbrev Found : Entry → Type 0
    Found e = Contains (all_found next ends start done here rest) e

    here_among : (e : Entry) → here ≡ e → Found e
    here_among e same = subst Found same (Contains-append_right done (here ∷ rest) here (as_first here rest))

    -- whatever choices lead to a position, it is done and was found by no later ones, or something no later still waits
    frontier : (ds : List ℕ) (p : P) → Lead next start ds p → ((e : Entry) × Contains done e × (e.0 ≡ p) × AreAtMost e.1 ds) ⊎ ((e : Entry) × Contains (here ∷ rest) e × AreAtMost e.1 ds)
    frontier [] p at = ⊎_elim (λ l. inl ((start, []), l, at, inr refl)) (λ r. inr ((start, []), r, inr refl)) (Contains-append_cases done (here ∷ rest) (start, []) s.begun)
    frontier (d ∷ ds) p (q, lead, on) = ⊎_elim
        (λ h. let (e, is, at, low) = h in
        let (f, found, there, below) = s.closed e is d p (ap (λ x. next x d) at ∙ on) in
        let less : AreAtMost f.1 (d ∷ ds) = at_most_trans f.1 (d ∷ e.1) (d ∷ ds) below (at_most_more e.1 ds d low) in
        ⊎_elim (λ l. inl (f, l, there, less)) (λ r. inr (f, r, less)) (Contains-append_cases done (here ∷ rest) f found))
        (λ h. let (e, is, low) = h in inr (e, is, inl (at_most_before e.1 ds (d ∷ ds) low (one_more ds d)))) (frontier ds q lead)

    at_hand : (e : Entry) → Contains (here ∷ rest) e → AreAtMost here.1 e.1
    at_hand e is = ⊎_elim (λ same. inr (ap (λ (x : Entry). x.1) same)) (λ later. inl (s.in_order.0 e later)) (first_or_later here rest e is)

    -- the position at hand and those that are done were found by the first choices that lead there
    pub first_there : (e : Entry) → Contains done e ⊎ (here ≡ e) → (ds : List ℕ) → Lead next start ds e.0 → AreAtMost e.1 ds
    first_there e is ds lead =
        let found : Found e = ⊎_elim (λ l. Contains-append_left done (here ∷ rest) e l) (λ same. here_among e same) is in
        let low : AreAtMost e.1 here.1 = ⊎_elim (λ l. inl (s.earlier e l)) (λ same. inr (ap (λ (x : Entry). x.1) (sym same))) is in
        ⊎_elim (λ h. let (f, there, at, less) = h in subst (λ (x : Entry). AreAtMost x.1 ds) (s.once f e (Contains-append_left done (here ∷ rest) f there) found at) less) (λ h. let (f, there, less) = h in at_most_trans e.1 here.1 ds low (at_most_trans here.1 f.1 ds (at_hand f there) less)) (frontier ds e.0 lead)

    -- the first choice at hand that ends as asked is the end to find
    pub ends_here : ends here.0 c ≡ true → IsFirstEnd next ends start here.1 here.0 c
    ends_here ended = record {
      is_end = record { lead = s.lead here (here_among here refl); ends_there = ended };
      first = λ others p other other_end. ⊎_elim
          (λ h. let (e, is, at, low) = h in
          let wrong : ends e.0 other ≡ false = s.no_end e is other in
          let also : ends e.0 other ≡ true = ap (λ x. ends x other) at ∙ other_end.ends_there in
          absurd (let none : ⊥ = cc (wrong, also) in none))
          (λ h. let (e, is, low) = h in compare others p other other_end (at_most_trans here.1 e.1 others (at_hand e is) low)) (frontier others p other_end.lead);
    }
      where
        no_later : (d : ℕ) → ends here.0 d ≡ true → (c < d) ⊎ (c ≡ d)
        no_later d end = ⊎_elim (λ less. absurd (let wrong = s.no_end_here d less in let none : ⊥ = cc (wrong, end) in none)) (λ ge. ⊎_elim (λ less. inl less) (λ le. inr (let e : c ≡ d = omega arith in e)) (cases_lt c d)) (cases_lt d c)

        compare : (others : List ℕ) (p : P) (other : ℕ) → IsEnd next ends start others p other → AreAtMost here.1 others → AreAtMost (c ∷ here.1) (other ∷ others)
        compare others p other end (inl before) = inl (inl before)
        compare others p other end (inr same) =
            let at : p ≡ here.0 = one_place others p here.0 end.lead (subst (λ cs. Lead next start cs here.0) same (s.lead here (here_among here refl))) in
            ⊎_elim (λ less. inl (inr (same, less))) (λ e. inr (λ i. e i ∷ same i)) (no_later other (ap (λ x. ends x other) (sym at) ∙ end.ends_there))

    -- ---- one choice more is looked at

    c_more : (d : ℕ) → d < suc c → (d < c) ⊎ (d ≡ c)
    c_more d less = ⊎_elim (λ low. inl low) (λ ge. inr (let e : d ≡ c = omega arith in e)) (cases_lt d c)

    bound_more : (e : Entry) → Found e → PrecedeBack e.1 (suc c ∷ here.1)
    bound_more e is = before_trans e.1 (c ∷ here.1) (suc c ∷ here.1) (s.bound e is) (inr (refl, omega arith))

    -- which leads to a position that was found, or doesn't lead on
    pub goes_on : ends here.0 c ≡ false → ((t : P) → next here.0 c ≡ Some t → (e : Entry) × Found e × (e.0 ≡ t)) → IsSearch next ends start done here rest (suc c)
    goes_on quiet known = record {
      lead = s.lead;
      begun = s.begun;
      no_end = s.no_end;
      closed = s.closed;
      no_end_here = λ d less. ⊎_elim (λ low. s.no_end_here d low) (λ e. ap (λ x. ends here.0 x) e ∙ quiet) (c_more d less);
      closed_here = λ d t less on. ⊎_elim (λ low. s.closed_here d t low on) (λ e.
          let (f, found, at) = known t (ap (λ x. next here.0 x) (sym e) ∙ on) in
          (f, found, at, subst (λ x. AreAtMost f.1 (x ∷ here.1)) (sym e) (inl (s.bound f found)))) (c_more d less);
      earlier = s.earlier;
      in_order = s.in_order;
      bound = bound_more;
      once = s.once;
      parents = s.parents;
    }

  later_order : (es : List Entry) (n : Entry) → AreInSearchOrder next ends start es → ((f : Entry) → Contains es f → PrecedeBack f.1 n.1) → AreInSearchOrder next ends start (es ++ n ∷ [])
  later_order [] n order before = ((λ f h. absurd (none_of_none f h)), tt)
  later_order (e ∷ es) n order before =
      ((λ f h. ⊎_elim (λ l. order.0 f l) (λ is. subst (λ (x : Entry). PrecedeBack e.1 x.1) is (before e (as_first e es))) (Contains-push_cases es n f h)), later_order es n order.1 (λ f h. before f (as_later e es f h)))

  module _ (done : List Entry) (here : Entry) (rest : List Entry) (c : ℕ) (s : IsSearch next ends start done here rest c) where
    -- which leads to a new position: it waits behind the others
    module _ (t : P) (on : next here.0 c ≡ Some t) (quiet : ends here.0 c ≡ false) (apart : (e : Entry) → Contains (all_found next ends start done here rest) e → e.0 ≡ t → ⊥) where
      abbrev new : Entry
      new = (t, c ∷ here.1)

      wider : (e : Entry) → Contains (all_found next ends start done here rest) e → Contains (all_found next ends start done here (rest ++ new ∷ [])) e
      wider e is = ⊎_elim (λ l. Contains-append_left done (here ∷ (rest ++ new ∷ [])) e l) (λ r. Contains-append_right done (here ∷ (rest ++ new ∷ [])) e (Contains-append_left (here ∷ rest) (new ∷ []) e r)) (Contains-append_cases done (here ∷ rest) e is)

      old_or_new : (e : Entry) → Contains (all_found next ends start done here (rest ++ new ∷ [])) e → Contains (all_found next ends start done here rest) e ⊎ (new ≡ e)
      old_or_new e is = ⊎_elim (λ l. inl (Contains-append_left done (here ∷ rest) e l)) (λ r. ⊎_elim (λ old. inl (Contains-append_right done (here ∷ rest) e old)) (λ one. inr one) (Contains-push_cases (here ∷ rest) new e r)) (Contains-append_cases done (here ∷ (rest ++ new ∷ [])) e is)

      widen : (cs : List ℕ) (q : P) → IsFound next ends start (all_found next ends start done here rest) cs q → IsFound next ends start (all_found next ends start done here (rest ++ new ∷ [])) cs q
      widen cs q (e, is, at, low) = (e, wider e is, at, low)

      pub waits : IsSearch next ends start done here (rest ++ new ∷ []) (suc c)
      waits = record {
        lead = λ e is. ⊎_elim (λ old. s.lead e old) (λ same. subst (λ (x : Entry). Lead next start x.1 x.0) same (here.0, s.lead here (here_among done here rest c s here refl), on)) (old_or_new e is);
        begun = wider (start, []) s.begun;
        no_end = s.no_end;
        closed = λ e is d q to. widen (d ∷ e.1) q (s.closed e is d q to);
        no_end_here = λ d less. ⊎_elim (λ low. s.no_end_here d low) (λ e. ap (λ x. ends here.0 x) e ∙ quiet) (c_more done here rest c s d less);
        closed_here = λ d q less to. ⊎_elim (λ low. widen (d ∷ here.1) q (s.closed_here d q low to)) (λ e.
            let same : t ≡ q = (let a : Some t ≡ Some q = sym on ∙ ap (λ x. next here.0 x) (sym e) ∙ to in cc) in
            (new, Contains-append_right done (here ∷ (rest ++ new ∷ [])) new (Contains-push (here ∷ rest) new), same, subst (λ x. AreAtMost (c ∷ here.1) (x ∷ here.1)) (sym e) (inr refl))) (c_more done here rest c s d less);
        earlier = s.earlier;
        in_order = later_order (here ∷ rest) new s.in_order (λ f is. s.bound f (Contains-append_right done (here ∷ rest) f is));
        bound = λ e is. ⊎_elim (λ old. bound_more done here rest c s e old) (λ same. subst (λ (x : Entry). PrecedeBack x.1 (suc c ∷ here.1)) same (inr (refl, omega arith))) (old_or_new e is);
        once = λ e f is too at. ⊎_elim (λ old. ⊎_elim (λ also. s.once e f old also at) (λ same. absurd (apart e old (at ∙ ap (λ (x : Entry). x.0) (sym same)))) (old_or_new f too)) (λ same. ⊎_elim (λ also. absurd (apart f also (sym at ∙ ap (λ (x : Entry). x.0) (sym same)))) (λ equal. sym same ∙ equal) (old_or_new f too)) (old_or_new e is);
        parents = λ e is. ⊎_elim (λ old. s.parents e old) (λ same. (here.1, c, ap (λ (x : Entry). x.1) (sym same), inr refl)) (Contains-push_cases rest new e is);
      }

  -- all choices were looked at, and the next position comes to hand
  module _ (done : List Entry) (here then : Entry) (rest : List Entry) (c : ℕ) (s : IsSearch next ends start done here (then ∷ rest) c) (no_more : (d : ℕ) → c ≤ d → (ends here.0 d ≡ false) × (next here.0 d ≡ None)) where
    moved : (e : Entry) → Contains (all_found next ends start done here (then ∷ rest)) e → Contains (all_found next ends start (done ++ here ∷ []) then rest) e
    moved e is = subst (λ (x : List Entry). Contains x e) (sym (append_assoc done (here ∷ []) (then ∷ rest))) is

    back : (e : Entry) → Contains (all_found next ends start (done ++ here ∷ []) then rest) e → Contains (all_found next ends start done here (then ∷ rest)) e
    back e is = subst (λ (x : List Entry). Contains x e) (append_assoc done (here ∷ []) (then ∷ rest)) is

    move : (cs : List ℕ) (q : P) → IsFound next ends start (all_found next ends start done here (then ∷ rest)) cs q → IsFound next ends start (all_found next ends start (done ++ here ∷ []) then rest) cs q
    move cs q (e, is, at, low) = (e, moved e is, at, low)

    was : (e : Entry) → Contains (done ++ here ∷ []) e → Contains done e ⊎ (here ≡ e)
    was e is = Contains-push_cases done here e is

    nearer : PrecedeBack here.1 then.1
    nearer = s.in_order.0 then (as_first then rest)

    no_end_at_all : (d : ℕ) → ends here.0 d ≡ false
    no_end_at_all d = ⊎_elim (λ low. s.no_end_here d low) (λ ge. (no_more d ge).0) (cases_lt d c)

    closed_at_all : (d : ℕ) (t : P) → next here.0 d ≡ Some t → IsFound next ends start (all_found next ends start done here (then ∷ rest)) (d ∷ here.1) t
    closed_at_all d t on = ⊎_elim (λ low. s.closed_here d t low on) (λ ge. absurd (let none = (no_more d ge).1 in let wrong : ⊥ = cc (none, on) in wrong)) (cases_lt d c)

    earlier_now : (e : Entry) → Contains (done ++ here ∷ []) e → PrecedeBack e.1 then.1
    earlier_now e is = ⊎_elim (λ l. before_trans e.1 here.1 then.1 (s.earlier e l) nearer) (λ same. subst (λ (x : Entry). PrecedeBack x.1 then.1) same nearer) (was e is)

    bound_now : (e : Entry) → Contains rest e → PrecedeBack e.1 (0 ∷ then.1)
    bound_now e is =
        let (w, d, made, low) = s.parents e (as_later then rest e is) in
        subst (λ x. PrecedeBack x (0 ∷ then.1)) (sym made) (inl (at_most_before w here.1 then.1 low nearer))

    pub comes_to_hand : IsSearch next ends start (done ++ here ∷ []) then rest 0
    comes_to_hand = record {
      lead = λ e is. s.lead e (back e is);
      begun = moved (start, []) s.begun;
      no_end = λ e is d. ⊎_elim (λ l. s.no_end e l d) (λ same. subst (λ (x : Entry). ends x.0 d ≡ false) same (no_end_at_all d)) (was e is);
      closed = λ e is d q to. move (d ∷ e.1) q (⊎_elim (λ l. s.closed e l d q to) (λ same. subst (λ (x : Entry). IsFound next ends start (all_found next ends start done here (then ∷ rest)) (d ∷ x.1) q) same (closed_at_all d q (ap (λ (x : Entry). next x.0 d) same ∙ to))) (was e is));
      no_end_here = λ d less. absurd (omega arith);
      closed_here = λ d q less to. absurd (omega arith);
      earlier = earlier_now;
      in_order = s.in_order.1;
      bound = λ e is. ⊎_elim (λ l. before_trans e.1 then.1 (0 ∷ then.1) (earlier_now e l) (one_more then.1 0)) (λ r. ⊎_elim (λ same. subst (λ (x : Entry). PrecedeBack x.1 (0 ∷ then.1)) same (one_more then.1 0)) (λ later. bound_now e later) (first_or_later then rest e r)) (Contains-append_cases (done ++ here ∷ []) (then ∷ rest) e is);
      once = λ e f is too at. s.once e f (back e is) (back f too) at;
      parents = λ e is. let (w, d, made, low) = s.parents e (as_later then rest e is) in (w, d, made, inl (at_most_before w here.1 then.1 low nearer));
    }

  -- ---- nothing waits

  -- all choices of the last position were looked at
  module _ (done : List Entry) (here : Entry) (c : ℕ) (s : IsSearch next ends start done here [] c) (no_more : (d : ℕ) → c ≤ d → (ends here.0 d ≡ false) × (next here.0 d ≡ None)) where
    abbrev all : List Entry
    all = done ++ here ∷ []

    was_found : (e : Entry) → Contains all e → Contains done e ⊎ (here ≡ e)
    was_found e is = Contains-push_cases done here e is

    closed : (e : Entry) → Contains all e → (d : ℕ) (t : P) → next e.0 d ≡ Some t → IsFound next ends start all (d ∷ e.1) t
    closed e is d t on = ⊎_elim (λ l. s.closed e l d t on) (λ same. subst (λ (x : Entry). IsFound next ends start all (d ∷ x.1) t) same (⊎_elim (λ low. s.closed_here d t low (ap (λ (x : Entry). next x.0 d) same ∙ on)) (λ ge. absurd (let none = (no_more d ge).1 in let to : next here.0 d ≡ Some t = ap (λ (x : Entry). next x.0 d) same ∙ on in let wrong : ⊥ = cc (none, to) in wrong)) (cases_lt d c))) (was_found e is)

    none : (e : Entry) → Contains all e → (d : ℕ) → ends e.0 d ≡ false
    none e is d = ⊎_elim (λ l. s.no_end e l d) (λ same. subst (λ (x : Entry). ends x.0 d ≡ false) same (⊎_elim (λ low. s.no_end_here d low) (λ ge. (no_more d ge).0) (cases_lt d c))) (was_found e is)

    -- each position to which choices lead was found
    pub all_places : (ds : List ℕ) (p : P) → Lead next start ds p → (e : Entry) × Contains all e × (e.0 ≡ p)
    all_places [] p at = ((start, []), s.begun, at)
    all_places (d ∷ ds) p (q, lead, on) =
        let (e, is, at) = all_places ds q lead in
        let (f, there, to, low) = closed e is d p (ap (λ x. next x d) at ∙ on) in
        (f, there, to)

    -- no walk ends as asked
    pub nothing_ends : (others : List ℕ) (p : P) (other : ℕ) → ¬ (IsEnd next ends start others p other)
    nothing_ends others p other end =
        let (e, is, at) = all_places others p end.lead in
        let wrong : ends e.0 other ≡ false = none e is other in
        let also : ends e.0 other ≡ true = ap (λ x. ends x other) at ∙ end.ends_there in
        cc (wrong, also)

  -- the start alone is at hand
  pub sets_out : IsSearch next ends start [] (start, []) [] 0
  sets_out = record {
    lead = λ e is. subst (λ (x : Entry). Lead next start x.1 x.0) (alone e is) refl;
    begun = as_first (start, []) [];
    no_end = λ e is. absurd (none_of_none e is);
    closed = λ e is. absurd (none_of_none e is);
    no_end_here = λ d less. absurd (omega arith);
    closed_here = λ d t less on. absurd (omega arith);
    earlier = λ e is. absurd (none_of_none e is);
    in_order = ((λ f is. absurd (none_of_none f is)), tt);
    bound = λ e is. subst (λ (x : Entry). PrecedeBack x.1 (0 ∷ [])) (alone e is) tt;
    once = λ e f is too at. sym (alone e is) ∙ alone f too;
    parents = λ e is. absurd (none_of_none e is);
  }
    where
      alone : (e : Entry) → Contains ((start, []) ∷ []) e → (start, []) ≡ e
      alone e is = ⊎_elim (λ same. same) (λ none. absurd (none_of_none e none)) (first_or_later (start, []) [] e is)
