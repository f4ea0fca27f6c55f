-- What a seat knows from round to round.
use Rattle.std.proofs.Common.{refl, ◌≡◌, ap, sym, ◌∙◌, subst, ℕ, zero, suc, ◌+◌, ◌-◌, ◌<◌, Bool, false, not, List, [], ◌∷◌, ◌++◌, length, slice_index_or, ⊎_elim, Result, Ok, Err, IfOk, arith}
use Rattle.std.specs.Prelude.{◌==◌}
use Rattle.std.proofs.lemmas.Bool.{cases_lt}
use Rattle.std.proofs.lemmas.Bool.Decides.{nat_tests}
use Rattle.std.proofs.lemmas.List.{length-append, get_or_append_left, get_or-append_right}
use Rattle.rc_trees.specs.Trees.{Tree}
use Rattle.rc_nodes.specs.Seats.{TableView, SeatView, IsSeatOf, SeatKnows, Keeps}
use Rattle.rc_nodes.specs.declared.words.Ref.{Ref}
use Rattle.rc_nodes.proofs.KnownLaws.{one_known}
use Rattle.rc_spread.specs.Known.{KnowsSets, KnowsShare, IsAfter, StaysStill}
use Rattle.rc_jobs.specs.Flows.{no_header}
use Rattle.rc_spread.specs.Kept.{sets_kept}
use Rattle.rc_spread.specs.Gathered.{before}
use Rattle.rc_spread.proofs.StillLaws.{still_later}

-- ---- lists of sets

-- a share of no positions
pub no_share : (seat : SeatView) (refs : List Ref) (sets : ℕ → Tree) (a : ℕ) → refs ≡ [] → KnowsShare seat refs sets a a
no_share seat refs sets a is =
    let none : KnowsShare seat [] sets a a = record { count = omega arith; each = record { at = λ i d less. absurd (omega arith) } } in
    subst (λ (rs : List Ref). KnowsShare seat rs sets a a) (sym is) none

sets_append : (seat : SeatView) (rs qs : List Ref) (sets : ℕ → Tree) (a b : ℕ) → b ≡ a + length rs → KnowsSets seat rs sets a → KnowsSets seat qs sets b → KnowsSets seat (rs ++ qs) sets a
sets_append seat rs qs sets a b e k l = record {
  at = λ i d less.
      ⊎_elim (λ low. subst (λ (r : Ref). SeatKnows seat r.index (sets (a + i))) (sym (get_or_append_left rs qs d i low)) (k.at i d low))
      (λ high.
      let fits : i - length rs < length qs = omega (arith, length-append rs qs) in
      let at : b + (i - length rs) ≡ a + i = omega arith in
      let there : SeatKnows seat (slice_index_or qs (i - length rs) d).index (sets (a + i)) = subst (λ n. SeatKnows seat (slice_index_or qs (i - length rs) d).index (sets n)) at (l.at (i - length rs) d fits) in
      subst (λ (r : Ref). SeatKnows seat r.index (sets (a + i))) (sym (get_or-append_right rs qs (length rs) i d refl high)) there) (cases_lt i (length rs));
}

-- two shares of sets are one
pub shares_joined : (seat : SeatView) (sets : ℕ → Tree) (a b d : ℕ) (rs qs both : List Ref) → both ≡ rs ++ qs → KnowsShare seat rs sets a b → KnowsShare seat qs sets b d → KnowsShare seat both sets a d
shares_joined seat sets a b d rs qs both is left right =
    let m = left.count in let n = right.count in
    let whole : KnowsShare seat (rs ++ qs) sets a d = record {
      count = omega (arith, length-append rs qs);
      each = sets_append seat rs qs sets a b (sym m) left.each right.each;
    } in
    subst (λ (refs : List Ref). KnowsShare seat refs sets a d) (sym is) whole

only_set : (seat : SeatView) (r : Ref) (sets : ℕ → Tree) (a : ℕ) → SeatKnows seat r.index (sets a) → (i : ℕ) (d : Ref) → i < 1 → SeatKnows seat (slice_index_or (r ∷ []) i d).index (sets (a + i))
only_set seat r sets a k zero d less = let e : a ≡ a + 0 = omega arith in subst (λ n. SeatKnows seat r.index (sets n)) e k
only_set seat r sets a k (suc i) d less = absurd (omega arith)

pub sets_push : (v w : SeatView) → Keeps v w → (rs : List Ref) (r : Ref) (sets : ℕ → Tree) (a b : ℕ) → b ≡ a + length rs → KnowsSets v rs sets a → SeatKnows w r.index (sets b) → KnowsSets w (rs ++ r ∷ []) sets a
sets_push v w keeps rs r sets a b e k l = sets_append w rs (r ∷ []) sets a b e (sets_kept v w keeps k) (record { at = only_set w r sets b l })

pub known_at : (seat : SeatView) (refs : List Ref) (sets : ℕ → Tree) → KnowsSets seat refs sets 0 → (p : ℕ) (d : Ref) → p < length refs → SeatKnows seat (slice_index_or refs p d).index (sets p)
known_at seat refs sets known p d less = let e : 0 + p ≡ p = omega arith in subst (λ n. SeatKnows seat (slice_index_or refs p d).index (sets n)) e (known.at p d less)

-- ---- one round more

module _ {nodes : TableView} {v w : SeatView} {refs made : List Ref} {fresh : List Bool} {sets : ℕ → ℕ → Tree} {count k : ℕ} (marks : List Bool) (mine : IsSeatOf nodes w) (keeps : Keeps v w) (after : IsAfter v refs fresh sets count k) (known : KnowsShare w made (sets (k + 1)) 0 count) (many_marks : length marks ≡ count) (marked : (q : ℕ) → q < count → slice_index_or marks q false ≡ not ((slice_index_or refs q no_header).index == (slice_index_or made q no_header).index)) where
  as_many : length made ≡ count
  as_many = let e = known.count in omega arith

  unchanged : (p : ℕ) → p < count → slice_index_or marks p false ≡ false → sets (k + 1) p ≡ sets k p
  unchanged p less out =
      let same : (slice_index_or refs p no_header).index ≡ (slice_index_or made p no_header).index = equal (slice_index_or refs p no_header).index (slice_index_or made p no_header).index (sym (marked p less) ∙ out) in
      let many = after.as_many in let other = as_many in
      let earlier : SeatKnows w (slice_index_or refs p no_header).index (sets k p) = keeps _ _ (known_at v refs (sets k) after.known p no_header (omega arith)) in
      let later : SeatKnows w (slice_index_or made p no_header).index (sets (k + 1) p) = known_at w made (sets (k + 1)) known.each p no_header (omega arith) in
      sym (one_known w mine.sound (slice_index_or made p no_header).index (sets k p) (sets (k + 1) p) (subst (λ n. SeatKnows w n (sets k p)) same earlier) later)
    where
      equal : (a b : ℕ) → not (a == b) ≡ false → a ≡ b
      equal a b e = grind (arith, nat_tests)

  pub next_after : IsAfter w made marks sets count (k + 1)
  next_after = record {
    as_many = as_many;
    known = known.each;
    marks = many_marks;
    stale = λ p less out.
        let next : suc k ≡ k + 1 = omega arith in
        subst (λ n. sets (k + 1) p ≡ before sets n p) next (unchanged p less out);
  }

  -- where nothing has changed, the sets are those after as many rounds as there are positions
  pub nothing_new : StaysStill sets count → k < count → ((p : ℕ) → p < count → slice_index_or marks p false ≡ false) → KnowsShare w made (sets count) 0 count
  nothing_new stays less out = record {
    count = known.count;
    each = record {
      at = λ i d fits.
          let next : suc k ≡ k + 1 = omega arith in
          let other = as_many in
          let below : 0 + i < count = omega arith in
          let still : (q : ℕ) → q < count → sets (suc k) q ≡ sets k q = λ q low. ap (λ n. sets n q) next ∙ unchanged q low (out q low) in
          let last : count - k + k ≡ count = omega arith in
          let later : sets count (0 + i) ≡ sets k (0 + i) = subst (λ n. sets n (0 + i) ≡ sets k (0 + i)) last (still_later sets count stays k still (count - k) (0 + i) below) in
          subst (SeatKnows w (slice_index_or made i d).index) (unchanged (0 + i) below (out (0 + i) below) ∙ sym later) (known.each.at i d fits);
    };
  }

-- after the last round
pub last_after : (seat : SeatView) (refs : List Ref) (fresh : List Bool) (sets : ℕ → ℕ → Tree) (count k : ℕ) → k ≡ count → IsAfter seat refs fresh sets count k → KnowsShare seat refs (sets count) 0 count
last_after seat refs fresh sets count k e after = record {
  count = (let many = after.as_many in omega arith);
  each = subst (λ n. KnowsSets seat refs (sets n) 0) e after.known;
}

-- ---- what a round made, if it didn't fail

module _ {A : Type 0} (items : A → List Ref) {nodes : TableView} {v w : SeatView} {refs : List Ref} {fresh : List Bool} {sets : ℕ → ℕ → Tree} {count k : ℕ} (marks : List Bool) (mine : IsSeatOf nodes w) (keeps : Keeps v w) (after : IsAfter v refs fresh sets count k) (many_marks : length marks ≡ count) where
  abbrev Knows : A → Type 0
  Knows a = KnowsShare w (items a) (sets (k + 1)) 0 count

  abbrev Marked : A → Type 0
  Marked a = (q : ℕ) → q < count → slice_index_or marks q false ≡ not ((slice_index_or refs q no_header).index == (slice_index_or (items a) q no_header).index)

  pub made_after : {E : Type 0} (made : Result A E) → IfOk made Knows → IfOk made Marked → IfOk made (λ a. IsAfter w (items a) marks sets count (k + 1))
  made_after (Ok a) known marked = next_after marks mine keeps after known many_marks marked
  made_after (Err e) known marked = tt

  pub made_last : {E : Type 0} → StaysStill sets count → k < count → (made : Result A E) → IfOk made Knows → IfOk made Marked → IfOk made (λ a. (q : ℕ) → q < count → slice_index_or marks q false ≡ false) → IfOk made (λ a. KnowsShare w (items a) (sets count) 0 count)
  made_last stays less (Ok a) known marked out = nothing_new marks mine keeps after known many_marks marked stays less out
  made_last stays less (Err e) known marked out = tt
