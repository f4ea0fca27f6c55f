-- The first way to a position with the first way from there back to it.
use Rattle.std.proofs.Common.{refl, ◌≡◌, ap, sym, ◌∙◌, subst, ℕ, zero, suc, ◌+◌, ◌≤◌, ◌<◌, ◌⊎◌, inl, inr, ⊎_elim, Bool, true, false, ◌||◌, ◌-◌, List, [], ◌∷◌, ◌++◌, length, take, drop, reverse, slice_index_or, Option, Some, None, append_assoc, append-nil, arith}
use Rattle.std.specs.List.{slice_get}
use Rattle.std.proofs.lemmas.Bool.{cases_lt}
use Rattle.std.proofs.lemmas.List.{take_all, take_more}
use Rattle.rc_base.specs.declared.header.Header.{Header}
use Rattle.rc_base.specs.declared.position.Pos.{Pos}
use Rattle.rc_base.specs.Positions.{same_position}
use Rattle.rc_moves.specs.declared.walk.Move.{Move}
use Rattle.rc_moves.specs.declared.walk.Move.TheVariants.{Next, End}
use Rattle.rc_moves.specs.Moves.{DataPlane, moves}
use Rattle.rc_walk.specs.Search.{AreAtMost, IsEnd, IsFirstEnd, NothingEnds}
use Rattle.rc_walk.specs.Searching.{leads_to, meets_by}
use Rattle.rc_walk.specs.ShortestWalks.{ComeBefore, IsLess}
use Rattle.rc_moves.specs.Walks.{last_position, stands_in}
use Rattle.rc_walk.proofs.ChoiceLaws.{Along, along_to, next_at, turned_at_most}
use Rattle.rc_moves.proofs.PositionLaws.{same_position-Decides, same_position-own}
use Rattle.rc_walk.specs.Goals.{is_met, is_met_by}
use Rattle.rc_walk.specs.Ways.{IsBest, IsFirstRound, IsLasso, IsOneOfFirst, IsRound, IsUpTo, LeadFrom, NoRound, itself}
use Rattle.rc_walk.specs.declared.goal.Goal.TheVariants.{Onto}
use Rattle.rc_walk.specs.declared.way.Way.{Way}
use Rattle.rc_walk.proofs.OrderLaws.{joined_at_most}

module _ (plane : DataPlane) (h : Header) where
  -- ---- one way behind another

  last_joined : (us vs : List Pos) (p : Pos) → last_position p (us ++ vs) ≡ last_position (last_position p us) vs
  last_joined [] vs p = refl
  last_joined (u ∷ us) vs p = last_joined us vs u

  along_join : (q t : Pos) (path : List ℕ) (us : List Pos) → Along plane h q path us → last_position q us ≡ t → (cs : List ℕ) (vs : List Pos) → Along plane h t cs vs → Along plane h q (cs ++ path) (us ++ vs)
  along_join q t path us along at [] vs e = subst (λ xs. Along plane h q path (us ++ xs)) (sym e) (subst (Along plane h q path) (sym (append-nil us)) along)
  along_join q t path us along at (c ∷ cs) vs (p, ws, e, rest, on) = (
    p,
    us ++ ws,
    ap (λ xs. us ++ xs) e ∙ sym (append_assoc us ws (p ∷ [])),
    along_join q t path us along at cs ws rest,
    ap (λ x. slice_get (moves plane h x) c) (last_joined us ws q ∙ ap (λ x. last_position x ws) at) ∙ on,
  )

  stands_last : (us vs : List Pos) (q t : Pos) → last_position q us ≡ t → stands_in (q ∷ us ++ vs) t ≡ true
  stands_last [] vs q t e = ap (λ b. b || stands_in vs t) ((same_position-Decides t q).1 (sym e))
  stands_last (u ∷ us) vs q t e = second (same_position t q) (stands_in (u ∷ us ++ vs) t) (stands_last us vs u t e)
    where
      second : (b c : Bool) → c ≡ true → (b || c) ≡ true
      second true c e = refl
      second false c e = e

  -- ---- a move onto a position

  onto_is : (t : Pos) (m : Move) → is_met (Onto t) m ≡ true → m ≡ Next t
  onto_is t (Next p) e = ap Next (sym ((same_position-Decides t p).0 e))
  onto_is t (End kind) e = absurd (let x : false ≡ true = e in cc)

  module _ (q t : Pos) (path : List ℕ) (us : List Pos) (along : Along plane h q path us) (at : last_position q us ≡ t) (first_out : (ds : List ℕ) → LeadFrom plane h q ds t → AreAtMost path ds)
      (back : List ℕ) (vs : List Pos) (last : ℕ) (p : Pos) (m : Move) (along_back : Along plane h t back vs) (there : last_position t vs ≡ p) (ended : slice_get (moves plane h p) last ≡ Some m) (met : is_met (Onto t) m ≡ true)
      (first_back : IsFirstEnd (leads_to plane h) (meets_by plane h (Onto t)) t back p last) where
    whole : List ℕ
    whole = (last ∷ back) ++ path

    round : IsRound plane h q (us ++ vs) (reverse ((last ∷ back) ++ path))
    round =
        let here : last_position q (us ++ vs) ≡ p = last_joined us vs q ∙ ap (λ x. last_position x vs) at ∙ there in
        let on : slice_get (moves plane h (last_position q (us ++ vs))) last ≡ Some (Next t) = ap (λ x. slice_get (moves plane h x) last) here ∙ ended ∙ ap Some (onto_is t m met) in
        record {
          onto = t;
          chosen = along_to plane h q (back ++ path) (us ++ vs) (along_join q t path us along at back vs along_back) last (Next t) on;
          among = stands_last us vs q t at;
        }

    first : (others : List ℕ) (l : IsLasso plane h q others) → l.turn ≡ t → IsUpTo (reverse ((last ∷ back) ++ path)) (reverse others)
    first others l turns =
        let low : AreAtMost path l.path = first_out l.path (subst (LeadFrom plane h q l.path) turns l.out) in
        let home : LeadFrom plane h t (l.last ∷ l.back) t = subst (λ x. LeadFrom plane h x (l.last ∷ l.back) x) turns l.home in
        let (r, lead, on) = home in
        let on_move : slice_get (moves plane h r) l.last ≡ Some (Next t) = next_at plane h r t l.last on in
        let end : IsEnd (leads_to plane h) (meets_by plane h (Onto t)) t l.back r l.last = record { lead = lead; ends_there = ap (is_met_by (Onto t)) on_move ∙ same_position-own t } in
        let less : AreAtMost (last ∷ back) (l.last ∷ l.back) = first_back.first l.back r l.last end in
        let all : AreAtMost ((last ∷ back) ++ path) others = subst (AreAtMost ((last ∷ back) ++ path)) (sym l.made) (joined_at_most (last ∷ back) (l.last ∷ l.back) path l.path less low) in
        turned_at_most ((last ∷ back) ++ path) others all

    pub first_round : (way : Way) → way.positions.items ≡ q ∷ us ++ vs → way.choices.items ≡ reverse ((last ∷ back) ++ path) → IsFirstRound plane h q (itself t) way
    first_round way positions choices = record {
      steps = us ++ vs;
      positions = positions;
      round = subst (IsRound plane h q (us ++ vs)) (sym choices) round;
      first = λ others l turns. subst (λ cs. IsUpTo cs (reverse others)) (sym choices) (first others l turns);
    }

  -- nothing leads back
  pub no_round : (q t : Pos) → NothingEnds (leads_to plane h) (meets_by plane h (Onto t)) t → NoRound plane h q (itself t)
  no_round q t none = record {
    none = λ others l turns.
        let home : LeadFrom plane h t (l.last ∷ l.back) t = subst (λ x. LeadFrom plane h x (l.last ∷ l.back) x) turns l.home in
        let (r, lead, on) = home in
        let on_move : slice_get (moves plane h r) l.last ≡ Some (Next t) = next_at plane h r t l.last on in
        none l.back r l.last (record { lead = lead; ends_there = ap (is_met_by (Onto t)) on_move ∙ same_position-own t });
  }

-- ---- the first of two

less_at : (xs ys : List ℕ) (i : ℕ) → i < length xs → i < length ys → ((k : ℕ) → k < i → slice_index_or xs k 0 ≡ slice_index_or ys k 0) → slice_index_or xs i 0 < slice_index_or ys i 0 → IsLess xs ys
less_at [] ys i low high same less = absurd (omega arith)
less_at (x ∷ xs) [] i low high same less = absurd (omega arith)
less_at (x ∷ xs) (y ∷ ys) zero low high same less = inl less
less_at (x ∷ xs) (y ∷ ys) (suc i) low high same less = inr (same 0 (omega arith), less_at xs ys i (omega arith) (omega arith) (λ k small. same (suc k) (omega arith)) less)

pub comes_first : (xs ys : List ℕ) (i : ℕ) → length xs ≡ length ys → i < length xs → ((k : ℕ) → k < i → slice_index_or xs k 0 ≡ slice_index_or ys k 0) → slice_index_or xs i 0 < slice_index_or ys i 0 → ComeBefore xs ys
comes_first xs ys i long low same less = inr (long, less_at xs ys i low (omega arith) same less)

pub all_same : (xs ys : List ℕ) → length xs ≡ length ys → ((k : ℕ) → k < length xs → slice_index_or xs k 0 ≡ slice_index_or ys k 0) → xs ≡ ys
all_same [] [] long same = refl
all_same [] (y ∷ ys) long same = absurd (omega arith)
all_same (x ∷ xs) [] long same = absurd (omega arith)
all_same (x ∷ xs) (y ∷ ys) long same =
    let here : x ≡ y = same 0 (omega arith) in
    let rest : xs ≡ ys = all_same xs ys (omega arith) (λ k low. same (suc k) (omega arith)) in
    λ i. here i ∷ rest i

less_trans : (xs ys zs : List ℕ) → IsLess xs ys → IsLess ys zs → IsLess xs zs
less_trans [] ys zs a b = absurd a
less_trans (x ∷ xs) [] zs a b = absurd a
less_trans (x ∷ xs) (y ∷ ys) [] a b = absurd b
less_trans (x ∷ xs) (y ∷ ys) (z ∷ zs) (inl a) (inl b) = inl (omega arith)
less_trans (x ∷ xs) (y ∷ ys) (z ∷ zs) (inl a) (inr b) = inl (let e : y ≡ z = b.0 in omega arith)
less_trans (x ∷ xs) (y ∷ ys) (z ∷ zs) (inr a) (inl b) = inl (let e : x ≡ y = a.0 in omega arith)
less_trans (x ∷ xs) (y ∷ ys) (z ∷ zs) (inr a) (inr b) = inr (a.0 ∙ b.0, less_trans xs ys zs a.1 b.1)

before_trans : (xs ys zs : List ℕ) → ComeBefore xs ys → ComeBefore ys zs → ComeBefore xs zs
before_trans xs ys zs (inl a) (inl b) = inl (omega arith)
before_trans xs ys zs (inl a) (inr b) = inl (let e : length ys ≡ length zs = b.0 in omega arith)
before_trans xs ys zs (inr a) (inl b) = inl (let e : length xs ≡ length ys = a.0 in omega arith)
before_trans xs ys zs (inr a) (inr b) = inr (a.0 ∙ b.0, less_trans xs ys zs a.1 b.1)

pub up_to_trans : (xs ys zs : List ℕ) → IsUpTo xs ys → IsUpTo ys zs → IsUpTo xs zs
up_to_trans xs ys zs (inl e) b = subst (λ x. IsUpTo x zs) (sym e) b
up_to_trans xs ys zs (inr a) (inl e) = inr (subst (ComeBefore xs) e a)
up_to_trans xs ys zs (inr a) (inr b) = inr (before_trans xs ys zs a b)

-- ---- what stands behind the first element

pub take_behind : {A : Type 0} (xs : List A) (at : ℕ) (x : A) → 1 ≤ at → at < length xs → x ≡ slice_index_or xs at x → take (at + 1 - 1) (drop 1 xs) ≡ take (at - 1) (drop 1 xs) ++ x ∷ []
take_behind [] at x some low is = absurd (omega arith)
take_behind (y ∷ ys) zero x some low is = absurd (omega arith)
take_behind (y ∷ ys) (suc n) x some low is =
    ap (λ k. take k ys) (let e : suc n + 1 - 1 ≡ n + 1 = omega arith in e) ∙ take_more ys n x (omega arith) ∙ ap (λ z. take n ys ++ z ∷ []) (sym is) ∙ ap (λ k. take k ys ++ x ∷ []) (let e : n ≡ suc n - 1 = omega arith in e)

pub all_behind : {A : Type 0} (xs : List A) (at : ℕ) → length xs ≤ at → take (at - 1) (drop 1 xs) ≡ drop 1 xs
all_behind [] at end = none (at - 1)
  where
    none : {A : Type 0} (k : ℕ) → take {A = A} k [] ≡ []
    none zero = refl
    none (suc k) = refl
all_behind (y ∷ ys) at end = take_all (at - 1) ys (omega arith)

-- ---- the best so far, and one position more

module _ (plane : DataPlane) (h : Header) (q t : Pos) (found : List Pos) (place : ℕ) (at : slice_get found place ≡ Some t) where
  last_or_before : (p : Pos) → IsOneOfFirst found (place + 1) p → IsOneOfFirst found place p ⊎ (p ≡ t)
  last_or_before p o = ⊎_elim (λ low. inl (record { place = o.place; low = low; there = o.there })) (λ high.
      let same : o.place ≡ place = (let l = o.low in omega arith) in
      inr (let e : slice_get found place ≡ Some p = subst (λ n. slice_get found n ≡ Some p) same o.there in let f : Some p ≡ Some t = sym e ∙ at in cc)) (cases_lt o.place place)

  pub none_yet : NoRound plane h q (IsOneOfFirst found place) → (other : Option Way) → IsBest plane h q (itself t) other → IsBest plane h q (IsOneOfFirst found (place + 1)) other
  none_yet none None nowhere_here = record { none = λ others l turns. ⊎_elim (λ old. none.none others l old) (λ e. nowhere_here.none others l e) (last_or_before l.turn turns) }
  none_yet none (Some way) r = record { steps = r.steps; positions = r.positions; round = r.round; first = λ others l turns. ⊎_elim (λ old. absurd (none.none others l old)) (λ e. r.first others l e) (last_or_before l.turn turns) }

  pub none_here : (way : Way) → IsFirstRound plane h q (IsOneOfFirst found place) way → NoRound plane h q (itself t) → IsFirstRound plane h q (IsOneOfFirst found (place + 1)) way
  none_here way r nowhere_here = record { steps = r.steps; positions = r.positions; round = r.round; first = λ others l turns. ⊎_elim (λ old. r.first others l old) (λ e. absurd (nowhere_here.none others l e)) (last_or_before l.turn turns) }

  pub better_here : (best other : Way) → IsFirstRound plane h q (IsOneOfFirst found place) best → IsFirstRound plane h q (itself t) other → IsUpTo other.choices.items best.choices.items → IsFirstRound plane h q (IsOneOfFirst found (place + 1)) other
  better_here best other r s up = record { steps = s.steps; positions = s.positions; round = s.round; first = λ others l turns. ⊎_elim (λ old. up_to_trans other.choices.items best.choices.items (reverse others) up (r.first others l old)) (λ e. s.first others l e) (last_or_before l.turn turns) }

  pub better_before : (best other : Way) → IsFirstRound plane h q (IsOneOfFirst found place) best → IsFirstRound plane h q (itself t) other → IsUpTo best.choices.items other.choices.items → IsFirstRound plane h q (IsOneOfFirst found (place + 1)) best
  better_before best other r s up = record { steps = r.steps; positions = r.positions; round = r.round; first = λ others l turns. ⊎_elim (λ old. r.first others l old) (λ e. up_to_trans best.choices.items other.choices.items (reverse others) up (s.first others l e)) (last_or_before l.turn turns) }
