-- Rounds by one alone: lists of positions, and what a round puts in the place of the sets before it.
use Rattle.std.proofs.Common.{refl, ◌≡◌, sym, ◌∙◌, subst, ap, ℕ, zero, suc, ◌+◌, ◌-◌, ◌<◌, ◌≤◌, Bool, true, false, List, [], ◌∷◌, ◌++◌, length, replicate, slice_index_or, slice_set, All, inl, inr, ◌⊎◌, ⊎_elim, arith}
use Rattle.std.specs.List.{Contains}
use Rattle.std.proofs.lemmas.Bool.{cases_eq, cases_lt, false≢true}
use Rattle.std.proofs.lemmas.List.{get_or_append_left, get_or-append_right, get_or_default, get_or-replicate, get_or-set_same, get_or-set_other, length-append, length-replicate, length-set}
use Rattle.std.proofs.lemmas.List.Elements.{All-append, All-cons, All-nil, Contains-append_left, Contains-push}
use Rattle.rc_jobs.specs.Flows.{no_header}
use Rattle.rc_jobs.specs.declared.flow.Flow.{Flow}
use Rattle.rc_nodes.specs.Seats.{TableView, SeatView, IsSeatOf, SeatKnows, Keeps}
use Rattle.rc_nodes.specs.declared.words.Ref.{Ref}
use Rattle.rc_nodes.proofs.KnownLaws.{one_known}
use Rattle.rc_trees.specs.Trees.{Tree}
use Rattle.rc_spread.specs.Alone.{AreKept, AreLedTo, AreListed, ArePut, IsChanged, IsNewAt, IsOldAt, IsPut, IsSame, KnowsThese, LeadsTo, Rest}
use Rattle.rc_spread.specs.Gathered.{before}
use Rattle.rc_spread.specs.Known.{IsAfter, KnowsShare, StaysStill}
use Rattle.rc_spread.proofs.Rounding.{known_at}
use Rattle.rc_spread.proofs.StillLaws.{still_later}

-- ---- lists of positions

-- a number is in a list, or it isn't
contains_or : (xs : List ℕ) (q : ℕ) → Contains xs q ⊎ (Contains xs q → ⊥)
contains_or [] q = inr (λ h. absurd (none h.0 h.1))
  where
    none : (k : ℕ) → k < 0 → ⊥
    none k less = omega arith
contains_or (x ∷ xs) q = by (cases_eq x q) (contains_or xs q)
  where
    no : (x ≡ q → ⊥) → (Contains xs q → ⊥) → (k : ℕ) → k < length (x ∷ xs) → slice_index_or (x ∷ xs) k q ≡ q → ⊥
    no other out zero less e = other e
    no other out (suc k) less e = let fits : k < length xs = omega arith in out (k, fits, e)

    by : (x ≡ q) ⊎ (x ≡ q → ⊥) → Contains xs q ⊎ (Contains xs q → ⊥) → Contains (x ∷ xs) q ⊎ (Contains (x ∷ xs) q → ⊥)
    by (inl e) rest = let first : 0 < length (x ∷ xs) = omega arith in inl (0, first, e)
    by (inr other) (inl h) = let k = h.0 in let low = h.1 in let fits : suc k < length (x ∷ xs) = omega arith in inl (suc k, fits, h.2)
    by (inr other) (inr out) = inr (λ h. no other out h.0 h.1 h.2)

-- before anything is marked
pub none_listed : (marks : List Bool) (listed : List ℕ) (n : ℕ) → marks ≡ replicate n false → listed ≡ [] → AreListed marks listed
none_listed marks listed n e is = subst (AreListed marks) (sym is) (subst (λ ms. AreListed ms []) (sym e) none)
  where
    none : AreListed (replicate n false) []
    none = record {
      within = All-nil (λ q. q < length (replicate n false));
      each = λ q less marked.
          let low : q < n = omega (arith, length-replicate n false) in
          absurd (false≢true (sym (get_or-replicate n q false false low) ∙ marked));
    }

-- one more is marked
pub one_listed : (marks : List Bool) (listed : List ℕ) (q : ℕ) → q < length marks → AreListed marks listed → AreListed (slice_set marks q true) (listed ++ q ∷ [])
one_listed marks listed q fits are = record {
  within = rw (length-set marks q true) (All-append (λ p. p < length marks) listed (q ∷ []) are.within (All-cons (λ p. p < length marks) q [] fits (All-nil (λ p. p < length marks))));
  each = λ p less is.
      let low : p < length marks = omega (arith, length-set marks q true) in
      ⊎_elim (λ e. subst (Contains (listed ++ q ∷ [])) (sym e) (Contains-push listed q))
      (λ other. Contains-append_left listed (q ∷ []) p (are.each p low (sym (get_or-set_other marks q p true false other) ∙ is))) (cases_eq p q);
}

-- those below n that are marked
pub record AreListedTo (marks : List Bool) (n : ℕ) (listed : List ℕ) : Type 0 where
  pub within : All (λ q. q < length marks) listed
  pub each : (q : ℕ) → q < n → slice_index_or marks q false ≡ true → Contains listed q

pub none_to : (marks : List Bool) (listed : List ℕ) → listed ≡ [] → AreListedTo marks 0 listed
none_to marks listed is = subst (AreListedTo marks 0) (sym is) (record { within = All-nil (λ q. q < length marks); each = λ q low marked. absurd (omega arith) })

pub one_to : (marks : List Bool) (n : ℕ) (listed longer : List ℕ) → n < length marks → longer ≡ listed ++ n ∷ [] → AreListedTo marks n listed → AreListedTo marks (n + 1) longer
one_to marks n listed longer fits is are = subst (AreListedTo marks (n + 1)) (sym is) (record {
  within = All-append (λ q. q < length marks) listed (n ∷ []) are.within (All-cons (λ q. q < length marks) n [] fits (All-nil (λ q. q < length marks)));
  each = λ q low marked.
      ⊎_elim (λ less. Contains-append_left listed (n ∷ []) q (are.each q less marked))
      (λ high. (let last : n ≡ q = omega arith in subst (Contains (listed ++ n ∷ [])) last (Contains-push listed n))) (cases_lt q n);
})

pub past_to : (marks : List Bool) (n : ℕ) (listed : List ℕ) → slice_index_or marks n false ≡ false → AreListedTo marks n listed → AreListedTo marks (n + 1) listed
past_to marks n listed unmarked are = record {
  within = are.within;
  each = λ q low marked.
      ⊎_elim (λ less. are.each q less marked)
      (λ high. (let last : q ≡ n = omega arith in absurd (false≢true (sym unmarked ∙ ap (λ k. slice_index_or marks k false) (sym last) ∙ marked)))) (cases_lt q n);
}

pub all_to : (marks : List Bool) (n : ℕ) (listed : List ℕ) → length marks ≤ n → AreListedTo marks n listed → AreListed marks listed
all_to marks n listed end are = record { within = are.within; each = λ q low. are.each q (omega arith) }

-- those to which the flows of the first n of some positions lead
abbrev pub AreLed : List (List Flow) → List ℕ → ℕ → List ℕ → Type 0
AreLed out others n listed = (i : ℕ) → i < n → All (λ (f : Flow). Contains listed f.from) (slice_index_or out (slice_index_or others i 0) [])

pub next_led : (out : List (List Flow)) (others : List ℕ) (n : ℕ) (flows : List Flow) (earlier later : List ℕ) → flows ≡ slice_index_or out (slice_index_or others n 0) [] → AreKept earlier later → All (λ (f : Flow). Contains later f.from) flows → AreLed out others n earlier → AreLed out others (n + 1) later
next_led out others n flows earlier later there kept noted led = λ i low.
    ⊎_elim (λ less. (λ r d fits. kept.each (slice_index_or (slice_index_or out (slice_index_or others i 0) []) r d).from (led i less r d fits)))
    (λ high.
    let last : n ≡ i = omega arith in
    subst (λ k. All (λ (f : Flow). Contains later f.from) (slice_index_or out (slice_index_or others k 0) [])) last (subst (All (λ (f : Flow). Contains later f.from)) there noted)) (cases_lt i n)

pub all_led : (out : List (List Flow)) (others : List ℕ) (n : ℕ) (marks : List Bool) (listed : List ℕ) → length others ≤ n → length marks ≡ length out → AreListed marks listed → AreLed out others n listed → AreLedTo out others listed
all_led out others n marks listed end many are led = record {
  within = subst (λ m. All (λ q. q < m) listed) many are.within;
  each = λ p q from leads. by p q from.0 from.1 from.2 leads.0 leads.1 leads.2;
}
  where
    by : (p q i : ℕ) → i < length others → slice_index_or others i p ≡ p → (r : ℕ) → r < length (slice_index_or out p []) → ((d : Flow) → (slice_index_or (slice_index_or out p []) r d).from ≡ q) → Contains listed q
    by p q i low here r fits onto =
        let at : slice_index_or others i 0 ≡ p = get_or_default others i 0 p low ∙ here in
        let row : All (λ (f : Flow). Contains listed f.from) (slice_index_or out p []) = subst (λ m. All (λ (f : Flow). Contains listed f.from) (slice_index_or out m [])) at (led i (omega arith)) in
        let none : Flow = record { from = 0; set = no_header } in
        subst (Contains listed) (onto none) (row r none fits)

-- ---- sets of some positions

pub none_these : (seat : SeatView) (refs : List Ref) (qs : List ℕ) (sets : ℕ → Tree) → refs ≡ [] → KnowsThese seat refs qs sets
none_these seat refs qs sets is = subst (λ (rs : List Ref). KnowsThese seat rs qs sets) (sym is) (record { at = λ i d less. absurd (omega arith) })

pub these_push : (v w : SeatView) → Keeps v w → (rs : List Ref) (r : Ref) (qs : List ℕ) (sets : ℕ → Tree) → KnowsThese v rs qs sets → SeatKnows w r.index (sets (slice_index_or qs (length rs) 0)) → KnowsThese w (rs ++ r ∷ []) qs sets
these_push v w keeps rs r qs sets known is = record {
  at = λ i d less.
      ⊎_elim (λ low. subst (λ (s : Ref). SeatKnows w s.index (sets (slice_index_or qs i 0))) (sym (get_or_append_left rs (r ∷ []) d i low)) (keeps _ _ (known.at i d low)))
      (λ high.
      let last : i ≡ length rs = omega (arith, length-append rs (r ∷ [])) in
      let at : slice_index_or (rs ++ r ∷ []) i d ≡ r = get_or-append_right rs (r ∷ []) (length rs) i d refl high ∙ first (i - length rs) d (omega arith) in
      subst (λ (s : Ref). SeatKnows w s.index (sets (slice_index_or qs i 0))) (sym at) (subst (λ n. SeatKnows w r.index (sets (slice_index_or qs n 0))) (sym last) is)) (cases_lt i (length rs));
}
  where
    first : (n : ℕ) (d : Ref) → n ≡ 0 → slice_index_or (r ∷ []) n d ≡ r
    first zero d e = refl
    first (suc n) d e = absurd (omega arith)

-- before any is put
pub none_put : (earlier : List Ref) (qs : List ℕ) (made : List Ref) (marks : List Bool) → marks ≡ replicate (length earlier) false → ArePut earlier qs made 0 earlier marks
none_put earlier qs made marks e = record {
  as_many = refl;
  as_many_marks = ap length e ∙ length-replicate (length earlier) false;
  at = λ q less. inr (record {
    same = λ i low here. absurd (omega arith);
    set = refl;
    unmarked = ap (λ ms. slice_index_or ms q false) e ∙ get_or-replicate (length earlier) q false false less;
  });
}

-- one more is put
module _ (earlier : List Ref) (qs : List ℕ) (made : List Ref) (n p : ℕ) (set : Ref) (now next : List Ref) (marks later : List Bool) (listed longer : List ℕ) (there : slice_index_or qs n 0 ≡ p) (it : slice_index_or made n no_header ≡ set) (fits : p < length earlier) (before_it : ArePut earlier qs made n now marks) where
  new_stays : (q : ℕ) (refs : List Ref) (ms : List Bool) → slice_index_or refs q no_header ≡ slice_index_or now q no_header → slice_index_or ms q false ≡ slice_index_or marks q false → IsNewAt qs made n now marks q → IsNewAt qs made (n + 1) refs ms q
  new_stays q refs ms same also new = record {
    index = new.index;
    low = (let low = new.low in omega arith);
    here = new.here;
    set = same ∙ new.set;
    marked = also ∙ new.marked;
  }

  old_stays : (q : ℕ) (refs : List Ref) (ms : List Bool) → slice_index_or refs q no_header ≡ slice_index_or now q no_header → slice_index_or ms q false ≡ slice_index_or marks q false → (p ≡ q → set.index ≡ (slice_index_or earlier q no_header).index) → IsOldAt earlier qs made n now marks q → IsOldAt earlier qs made (n + 1) refs ms q
  old_stays q refs ms same also one old = record {
    same = λ i low here.
        ⊎_elim (λ less. old.same i less here)
        (λ high.
        let last : i ≡ n = omega arith in
        ap (λ (k : ℕ). (slice_index_or made k no_header).index) last ∙ ap (λ (r : Ref). r.index) it ∙ one (sym there ∙ sym (ap (λ k. slice_index_or qs k 0) last) ∙ here)) (cases_lt i n);
    set = same ∙ old.set;
    unmarked = also ∙ old.unmarked;
  }

  changed_put : IsChanged p set now next marks later listed longer → ArePut earlier qs made (n + 1) next later
  changed_put is = record {
    as_many = ap length is.put ∙ length-set now p set ∙ before_it.as_many;
    as_many_marks = ap length is.marks ∙ length-set marks p true ∙ before_it.as_many_marks;
    at = λ q less. ⊎_elim (λ e. inl (here q e)) (λ other. away q other (before_it.at q less)) (cases_eq q p);
  }
    where
      here : (q : ℕ) → q ≡ p → IsNewAt qs made (n + 1) next later q
      here q e =
          let many = before_it.as_many in let many_marks = before_it.as_many_marks in
          subst (IsNewAt qs made (n + 1) next later) (sym e) (record {
            index = n;
            low = omega arith;
            here = there;
            set = ap (λ rs. slice_index_or rs p no_header) is.put ∙ get_or-set_same now p set no_header (omega arith) ∙ sym it;
            marked = ap (λ ms. slice_index_or ms p false) is.marks ∙ get_or-set_same marks p true false (omega arith);
          })

      away : (q : ℕ) → (q ≡ p → ⊥) → IsNewAt qs made n now marks q ⊎ IsOldAt earlier qs made n now marks q → IsNewAt qs made (n + 1) next later q ⊎ IsOldAt earlier qs made (n + 1) next later q
      away q other (inl new) = inl (new_stays q next later (ap (λ rs. slice_index_or rs q no_header) is.put ∙ get_or-set_other now p q set no_header other) (ap (λ ms. slice_index_or ms q false) is.marks ∙ get_or-set_other marks p q true false other) new)
      away q other (inr old) = inr (old_stays q next later (ap (λ rs. slice_index_or rs q no_header) is.put ∙ get_or-set_other now p q set no_header other) (ap (λ ms. slice_index_or ms q false) is.marks ∙ get_or-set_other marks p q true false other) (λ e. absurd (other (sym e))) old)

  same_put : IsSame p set now next marks later listed longer → ArePut earlier qs made (n + 1) next later
  same_put is = record {
    as_many = ap length is.put ∙ before_it.as_many;
    as_many_marks = ap length is.marks ∙ before_it.as_many_marks;
    at = λ q less. by q (before_it.at q less);
  }
    where
      by : (q : ℕ) → IsNewAt qs made n now marks q ⊎ IsOldAt earlier qs made n now marks q → IsNewAt qs made (n + 1) next later q ⊎ IsOldAt earlier qs made (n + 1) next later q
      by q (inl new) = inl (new_stays q next later (ap (λ rs. slice_index_or rs q no_header) is.put) (ap (λ ms. slice_index_or ms q false) is.marks) new)
      by q (inr old) = inr (old_stays q next later (ap (λ rs. slice_index_or rs q no_header) is.put) (ap (λ ms. slice_index_or ms q false) is.marks) (λ e. is.same ∙ ap (λ (k : ℕ). (slice_index_or now k no_header).index) e ∙ ap (λ (r : Ref). r.index) old.set) old)

  pub next_put : IsPut p set now next marks later listed longer → ArePut earlier qs made (n + 1) next later
  next_put (inl is) = changed_put is
  next_put (inr is) = same_put is

  pub next_listed : AreListed marks listed → IsPut p set now next marks later listed longer → AreListed later longer
  next_listed are (inl is) =
      let many = before_it.as_many_marks in
      let low : p < length marks = omega arith in
      subst (λ ms. AreListed ms longer) (sym is.marks) (subst (AreListed (slice_set marks p true)) (sym is.lists) (one_listed marks listed p low are))
  next_listed are (inr is) = subst (λ ms. AreListed ms longer) (sym is.marks) (subst (AreListed marks) (sym is.lists) are)

-- ---- one round more

pub rest_kept : (nodes : TableView) (out : List (List Flow)) (sets : ℕ → ℕ → Tree) (count : ℕ) (v w : SeatView) → Keeps v w → Rest nodes v out sets count → Rest nodes w out sets count
rest_kept nodes out sets count v w keeps rest = λ later refs fresh k q after mine is less none. rest later refs fresh k q (λ r t h. after r t (keeps r t h)) mine is less none

-- where nothing is fresh, the sets are those after as many rounds as there are positions
module _ (out : List (List Flow)) {nodes : TableView} {v : SeatView} {refs : List Ref} {fresh : List Bool} {changed : List ℕ} {sets : ℕ → ℕ → Tree} {count k : ℕ} (mine : IsSeatOf nodes v) (rest : Rest nodes v out sets count) (after : IsAfter v refs fresh sets count k) (listed : AreListed fresh changed) (none : changed ≡ []) where
  none_fresh : (p : ℕ) → p < count → (b : Bool) → slice_index_or fresh p false ≡ b → slice_index_or fresh p false ≡ false
  none_fresh p low true e = let marks = after.marks in absurd (no (subst (λ ps. Contains ps p) none (listed.each p (omega arith) e)))
    where
      no : Contains [] p → ⊥
      no h = let low = h.1 in omega arith
  none_fresh p low false e = e

  still : (q : ℕ) → q < count → sets (suc k) q ≡ sets k q
  still q less =
      let next : suc k ≡ k + 1 = omega arith in
      ap (λ n. sets n q) next ∙ rest v refs fresh k q (λ r t h. h) mine after less (λ p low leads. none_fresh p low (slice_index_or fresh p false) refl)

  pub nothing_fresh : StaysStill sets count → k < count → KnowsShare v refs (sets count) 0 count
  nothing_fresh stays less = record {
    count = (let many = after.as_many in omega arith);
    each = record {
      at = λ i d fits.
          let many = after.as_many in
          let below : 0 + i < count = omega arith in
          let last : count - k + k ≡ count = omega arith in
          let later : sets count (0 + i) ≡ sets k (0 + i) = subst (λ n. sets n (0 + i) ≡ sets k (0 + i)) last (still_later sets count stays k still (count - k) (0 + i) below) in
          subst (SeatKnows v (slice_index_or refs i d).index) (sym later) (after.known.at i d fits);
    };
  }

module _ {nodes : TableView} {v w : SeatView} {out : List (List Flow)} {refs : List Ref} {fresh : List Bool} {changed qs : List ℕ} {sets : ℕ → ℕ → Tree} {count k : ℕ} (earlier : IsSeatOf nodes v) (mine : IsSeatOf nodes w) (keeps : Keeps v w) (many : length out ≡ count) (rest : Rest nodes v out sets count) (after : IsAfter v refs fresh sets count k) (listed : AreListed fresh changed) (led : AreLedTo out changed qs) where
  -- a position to which nothing fresh leads keeps its set
  stays : (q : ℕ) → q < count → (Contains qs q → ⊥) → sets (k + 1) q ≡ sets k q
  stays q less none = rest v refs fresh k q (λ r t h. h) earlier after less (λ p low leads. by p low leads (slice_index_or fresh p false) refl)
    where
      by : (p : ℕ) → p < count → LeadsTo out p q → (b : Bool) → slice_index_or fresh p false ≡ b → slice_index_or fresh p false ≡ false
      by p low leads true e = let marked = after.marks in absurd (none (led.each p q (listed.each p (omega arith) e) leads))
      by p low leads false e = e

  module _ {made now : List Ref} {marks : List Bool} (as_many : length made ≡ length qs) (known : KnowsThese w made qs (sets (k + 1))) (put : ArePut refs qs made (length qs) now marks) where
    unchanged : (q : ℕ) → q < count → IsOldAt refs qs made (length qs) now marks q → sets (k + 1) q ≡ sets k q
    unchanged q less old = ⊎_elim (λ h. by h.0 h.1 h.2) (stays q less) (contains_or qs q)
      where
        by : (i : ℕ) → i < length qs → slice_index_or qs i q ≡ q → sets (k + 1) q ≡ sets k q
        by i low here =
            let long = after.as_many in
            let at : slice_index_or qs i 0 ≡ q = get_or_default qs i 0 q low ∙ here in
            let new : SeatKnows w (slice_index_or made i no_header).index (sets (k + 1) q) = subst (λ n. SeatKnows w (slice_index_or made i no_header).index (sets (k + 1) n)) at (known.at i no_header (omega arith)) in
            let kept : SeatKnows w (slice_index_or refs q no_header).index (sets k q) = keeps _ _ (known_at v refs (sets k) after.known q no_header (omega arith)) in
            one_known w mine.sound (slice_index_or refs q no_header).index (sets (k + 1) q) (sets k q) (subst (λ n. SeatKnows w n (sets (k + 1) q)) (old.same i low at) new) kept

    known_now : (q : ℕ) → q < count → IsNewAt qs made (length qs) now marks q ⊎ IsOldAt refs qs made (length qs) now marks q → SeatKnows w (slice_index_or now q no_header).index (sets (k + 1) q)
    known_now q less (inl new) =
        let low = new.low in
        subst (λ (r : Ref). SeatKnows w r.index (sets (k + 1) q)) (sym new.set) (subst (λ n. SeatKnows w (slice_index_or made new.index no_header).index (sets (k + 1) n)) new.here (known.at new.index no_header (omega arith)))
    known_now q less (inr old) =
        let long = after.as_many in
        subst (λ (r : Ref). SeatKnows w r.index (sets (k + 1) q)) (sym old.set) (subst (SeatKnows w (slice_index_or refs q no_header).index) (sym (unchanged q less old)) (keeps _ _ (known_at v refs (sets k) after.known q no_header (omega arith))))

    stale : (q : ℕ) → q < count → slice_index_or marks q false ≡ false → IsNewAt qs made (length qs) now marks q ⊎ IsOldAt refs qs made (length qs) now marks q → sets (k + 1) q ≡ sets k q
    stale q less is (inl new) = absurd (false≢true (sym is ∙ new.marked))
    stale q less is (inr old) = unchanged q less old

    pub after_put : IsAfter w now marks sets count (k + 1)
    after_put = record {
      as_many = put.as_many ∙ after.as_many;
      known = record {
        at = λ i d less.
            let long = after.as_many in let longer = put.as_many in
            let low : i < count = omega arith in
            let e : i ≡ 0 + i = omega arith in
            subst (λ n. SeatKnows w (slice_index_or now i d).index (sets (k + 1) n)) e (subst (λ (r : Ref). SeatKnows w r.index (sets (k + 1) i)) (get_or_default now i no_header d less) (known_now i low (put.at i (omega arith))));
      };
      marks = put.as_many_marks ∙ after.as_many;
      stale = λ p less is.
          let long = after.as_many in
          let next : suc k ≡ k + 1 = omega arith in
          subst (λ n. sets (k + 1) p ≡ before sets n p) next (stale p less is (put.at p (omega arith)));
    }
