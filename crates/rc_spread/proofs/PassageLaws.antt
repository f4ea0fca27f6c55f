-- Passages that a seat knows, by their places, and one behind another.
use Rattle.std.proofs.Common.{refl, ◌≡◌, ◌≢◌, ap, sym, ◌∙◌, subst, ℕ, zero, suc, ◌+◌, ◌<◌, ◌≤◌, Bool, true, false, ◌&&◌, cond, List, [], ◌∷◌, ◌++◌, length, map, take, slice_index_or, arith}
use Rattle.std.proofs.lemmas.List.{append-nil, map-append, take_more, take_all}
use Rattle.std.proofs.lemmas.List.Elements.{filter-append}
use Rattle.rc_bdd.specs.Work.{IsFrom, MayCombine}
use Rattle.rc_jobs.proofs.FlowLaws.{never_is_no_header}
use Rattle.rc_jobs.specs.Flows.{is_something}
use Rattle.rc_nodes.proofs.KnownLaws.{known_never, one_known}
use Rattle.rc_nodes.specs.Seats.{TableView, SeatView, IsKnown, IsSeatOf, Keeps, SeatKnows}
use Rattle.rc_nodes.specs.declared.words.Ref.{Ref}
use Rattle.rc_sectors.specs.Sectors.{within, flows_within}
use Rattle.rc_spread.proofs.GatherLaws.{gathered-append, passed}
use Rattle.rc_spread.specs.Gathered.{gathered, MayGather}
use Rattle.rc_spread.specs.United.{passing, KnowsPassages, TestsFrom, sided, flow_sided}
use Rattle.rc_spread.specs.declared.united.Passage.{Passage}
use Rattle.rc_trees.specs.Combine.{and, or}
use Rattle.rc_trees.specs.Trees.{Tree, never, always, node, top, HasNodesOf}

abbrev pub no_passage : Passage
no_passage = record { set = record { index = 0 }; through = record { index = 0 } }

-- both sets of what a position sends hold something
abbrev pub holds_both : (ℕ → Tree) → ℕ × Tree → Bool
holds_both sets f = is_something (sets f.0) && is_something f.1

-- ---- one by one

module _ (seat : SeatView) (sets : ℕ → Tree) where
  pub as_many_passages : (ps : List Passage) (fs : List (ℕ × Tree)) → KnowsPassages seat sets ps fs → length ps ≡ length fs
  as_many_passages [] [] known = refl
  as_many_passages [] (f ∷ fs) known = absurd known
  as_many_passages (p ∷ ps) [] known = absurd known
  as_many_passages (p ∷ ps) (f ∷ fs) known = ap suc (as_many_passages ps fs known.2)

  pub knows_set : (ps : List Passage) (fs : List (ℕ × Tree)) → KnowsPassages seat sets ps fs → (i : ℕ) (d : Passage) (e : ℕ × Tree) → i < length ps → SeatKnows seat (slice_index_or ps i d).set.index (sets (slice_index_or fs i e).0)
  knows_set [] fs known i d e less = absurd (omega arith)
  knows_set (p ∷ ps) [] known i d e less = absurd known
  knows_set (p ∷ ps) (f ∷ fs) known zero d e less = known.0
  knows_set (p ∷ ps) (f ∷ fs) known (suc i) d e less = knows_set ps fs known.2 i d e (omega arith)

  pub knows_through : (ps : List Passage) (fs : List (ℕ × Tree)) → KnowsPassages seat sets ps fs → (i : ℕ) (d : Passage) (e : ℕ × Tree) → i < length ps → SeatKnows seat (slice_index_or ps i d).through.index (slice_index_or fs i e).1
  knows_through [] fs known i d e less = absurd (omega arith)
  knows_through (p ∷ ps) [] known i d e less = absurd known
  knows_through (p ∷ ps) (f ∷ fs) known zero d e less = known.1
  knows_through (p ∷ ps) (f ∷ fs) known (suc i) d e less = knows_through ps fs known.2 i d e (omega arith)

  pub knows_append : (ps qs : List Passage) (fs gs : List (ℕ × Tree)) → KnowsPassages seat sets ps fs → KnowsPassages seat sets qs gs → KnowsPassages seat sets (ps ++ qs) (fs ++ gs)
  knows_append [] qs [] gs known more = more
  knows_append [] qs (f ∷ fs) gs known more = absurd known
  knows_append (p ∷ ps) qs [] gs known more = absurd known
  knows_append (p ∷ ps) qs (f ∷ fs) gs known more = (known.0, known.1, knows_append ps qs fs gs known.2 more)

  pub passages_kept : (later : SeatView) → Keeps seat later → (ps : List Passage) (fs : List (ℕ × Tree)) → KnowsPassages seat sets ps fs → KnowsPassages later sets ps fs
  passages_kept later keeps [] [] known = tt
  passages_kept later keeps [] (f ∷ fs) known = absurd known
  passages_kept later keeps (p ∷ ps) [] known = absurd known
  passages_kept later keeps (p ∷ ps) (f ∷ fs) known = (keeps p.set.index (sets f.0) known.0, keeps p.through.index f.1 known.1, passages_kept later keeps ps fs known.2)

-- ---- what comes behind others

pub second_none : (b : Bool) → (b && false) ≡ false
second_none true = refl
second_none false = refl

known_something : (seat : SeatView) (r : ℕ) (t : Tree) → SeatKnows seat r t → r ≢ 0 → is_something t ≡ true
known_something seat r never known some = absurd (some (never_is_no_header seat r known))
known_something seat r always known some = refl
known_something seat r (node v l h) known some = refl

known_nothing : (seat : SeatView) (r : ℕ) (t : Tree) → SeatKnows seat r t → r ≡ 0 → is_something t ≡ false
known_nothing seat r t known none = ap is_something (known_never seat t (subst (λ n. SeatKnows seat n t) none known))

pub takes_none : (seat : SeatView) (sets : ℕ → Tree) (ps : List Passage) (fs : List (ℕ × Tree)) (f : ℕ × Tree) → holds_both sets f ≡ false → KnowsPassages seat sets ps fs → KnowsPassages seat sets ps (fs ++ passing sets (f ∷ []))
takes_none seat sets ps fs f none known = subst (KnowsPassages seat sets ps) (sym (ap (λ b. fs ++ cond b (f ∷ []) []) none ∙ append-nil fs)) known

pub no_set : (seat : SeatView) (sets : ℕ → Tree) (r : ℕ) (f : ℕ × Tree) → r ≡ 0 → SeatKnows seat r (sets f.0) → holds_both sets f ≡ false
no_set seat sets r f none known = ap (λ b. b && is_something f.1) (known_nothing seat r (sets f.0) known none)

pub no_through : (seat : SeatView) (sets : ℕ → Tree) (r : ℕ) (f : ℕ × Tree) → r ≡ 0 → SeatKnows seat r f.1 → holds_both sets f ≡ false
no_through seat sets r f none known = ap (λ b. is_something (sets f.0) && b) (known_nothing seat r f.1 known none) ∙ second_none (is_something (sets f.0))

pub takes_one : (seat : SeatView) (sets : ℕ → Tree) (ps : List Passage) (fs : List (ℕ × Tree)) (f : ℕ × Tree) (s t : Ref) → s.index ≢ 0 → t.index ≢ 0
    → KnowsPassages seat sets ps fs → SeatKnows seat s.index (sets f.0) → SeatKnows seat t.index f.1 → KnowsPassages seat sets (ps ++ record { set = s; through = t } ∷ []) (fs ++ passing sets (f ∷ []))
takes_one seat sets ps fs f s t some_set some_through known known_set known_through =
    let both : holds_both sets f ≡ true = (λ i. known_something seat s.index (sets f.0) known_set some_set i && known_something seat t.index f.1 known_through some_through i) in
    subst (λ (b : Bool). KnowsPassages seat sets (ps ++ record { set = s; through = t } ∷ []) (fs ++ cond b (f ∷ []) [])) (sym both)
    (knows_append seat sets ps (record { set = s; through = t } ∷ []) fs (f ∷ []) known (known_set, known_through, tt))

-- ---- what a seat knows later on

pub tests_kept : (nodes : TableView) (seat later : SeatView) → IsSeatOf nodes later → Keeps seat later → (bit : ℕ) (p : Passage) → TestsFrom seat bit p → TestsFrom later bit p
tests_kept nodes seat later mine keeps bit p tests = record {
  set_known = (tests.set_known.0, keeps p.set.index tests.set_known.0 tests.set_known.1);
  set_from = from p.set.index tests.set_known tests.set_from;
  through_known = (tests.through_known.0, keeps p.through.index tests.through_known.0 tests.through_known.1);
  through_from = from p.through.index tests.through_known tests.through_from;
}
  where
    from : (r : ℕ) → IsKnown seat r → IsFrom seat bit r → IsFrom later bit r
    from r known tops t there = subst (λ u. bit ≤ top u) (one_known later mine.sound r known.0 t (keeps r known.0 known.1) there) (tops known.0 known.1)

-- ---- lists of sides, and of what comes in a sector

module _ (high : Bool) (bit : ℕ) (sets : ℕ → Tree) where
  pub one_side_more : (fs : List (ℕ × Tree)) (i : ℕ) (d : ℕ × Tree) → i < length fs
      → passing (sided high bit sets) (map (flow_sided high bit) (take i fs)) ++ passing (sided high bit sets) (flow_sided high bit (slice_index_or fs i d) ∷ []) ≡ passing (sided high bit sets) (map (flow_sided high bit) (take (i + 1) fs))
  one_side_more fs i d less =
      sym (filter-append (holds_both (sided high bit sets)) (map (flow_sided high bit) (take i fs)) (flow_sided high bit (slice_index_or fs i d) ∷ []))
      ∙ ap (passing (sided high bit sets)) (sym (map-append (flow_sided high bit) (take i fs) (slice_index_or fs i d ∷ [])))
      ∙ ap (λ gs. passing (sided high bit sets) (map (flow_sided high bit) gs)) (sym (take_more fs i d less))

pub one_there_more : (sector : List Bool) (sets : ℕ → Tree) (fs : List (ℕ × Tree)) (i : ℕ) (d : ℕ × Tree) → i < length fs
    → passing sets (flows_within sector (take i fs)) ++ passing sets (((slice_index_or fs i d).0, within sector (slice_index_or fs i d).1) ∷ []) ≡ passing sets (flows_within sector (take (i + 1) fs))
one_there_more sector sets fs i d less =
    sym (filter-append (holds_both sets) (flows_within sector (take i fs)) (((slice_index_or fs i d).0, within sector (slice_index_or fs i d).1) ∷ []))
    ∙ ap (passing sets) (sym (map-append (λ (f : ℕ × Tree). (f.0, within sector f.1)) (take i fs) (slice_index_or fs i d ∷ [])))
    ∙ ap (λ gs. passing sets (flows_within sector gs)) (sym (take_more fs i d less))

-- ---- one after another

may_at : (may : List Tree) (sets : ℕ → Tree) (start : Tree) (fs : List (ℕ × Tree)) (i : ℕ) (d : ℕ × Tree) → i < length fs → MayGather may sets start fs → HasNodesOf may (passed sets (slice_index_or fs i d)) × HasNodesOf may (or (gathered sets start (take i fs)) (passed sets (slice_index_or fs i d)))
unfolding MayGather
may_at may sets start [] i d less m = absurd (omega arith)
may_at may sets start (f ∷ fs) zero d less m = (m.0, m.1)
may_at may sets start (f ∷ fs) (suc i) d less m = may_at may sets (or start (passed sets f)) fs i d (omega arith) m.2

gathered_more : (sets : ℕ → Tree) (start : Tree) (fs : List (ℕ × Tree)) (i : ℕ) (d : ℕ × Tree) → i < length fs → gathered sets start (take (i + 1) fs) ≡ or (gathered sets start (take i fs)) (passed sets (slice_index_or fs i d))
gathered_more sets start fs i d less = ap (gathered sets start) (take_more fs i d less) ∙ gathered-append sets (take i fs) (slice_index_or fs i d ∷ []) start

module _ (seat : SeatView) (sets : ℕ → Tree) (ps : List Passage) (fs : List (ℕ × Tree)) (known : KnowsPassages seat sets ps fs) (i : ℕ) (less : i < length ps) where
  abbrev pub here : ℕ × Tree
  here = slice_index_or fs i (0, never)

  pub fits : i < length fs
  fits = let count = as_many_passages seat sets ps fs known in omega arith

  module _ (now : SeatView) (keeps : Keeps seat now) where
    pub set_now : (d : Passage) → SeatKnows now (slice_index_or ps i d).set.index (sets here.0)
    set_now d = keeps (slice_index_or ps i d).set.index (sets here.0) (knows_set seat sets ps fs known i d (0, never) less)

    pub through_now : (d : Passage) → SeatKnows now (slice_index_or ps i d).through.index here.1
    through_now d = keeps (slice_index_or ps i d).through.index here.1 (knows_through seat sets ps fs known i d (0, never) less)

    module _ (nodes : TableView) (allowed : MayGather nodes.may sets never fs) where
      pub may_pass : (d : Passage) → MayCombine nodes now and (slice_index_or ps i d).set.index (slice_index_or ps i d).through.index
      may_pass d = record {
        left = sets here.0;
        right = here.1;
        knows_left = set_now d;
        knows_right = through_now d;
        allowed = (may_at nodes.may sets never fs i (0, never) fits allowed).0;
      }

      pub may_add : (set got : ℕ) → SeatKnows now set (gathered sets never (take i fs)) → SeatKnows now got (passed sets here) → MayCombine nodes now or set got
      may_add set got so_far passes = record {
        left = gathered sets never (take i fs);
        right = passed sets here;
        knows_left = so_far;
        knows_right = passes;
        allowed = (may_at nodes.may sets never fs i (0, never) fits allowed).1;
      }

  pub added : (later : SeatView) (r : ℕ) → SeatKnows later r (or (gathered sets never (take i fs)) (passed sets here)) → SeatKnows later r (gathered sets never (take (i + 1) fs))
  added later r there = subst (SeatKnows later r) (sym (gathered_more sets never fs i (0, never) fits)) there

pub all_passages : (seat : SeatView) (sets : ℕ → Tree) (ps : List Passage) (fs : List (ℕ × Tree)) → KnowsPassages seat sets ps fs → (n : ℕ) → length ps ≤ n → take n fs ≡ fs
all_passages seat sets ps fs known n all = take_all n fs (let count = as_many_passages seat sets ps fs known in omega arith)
