-- What one position sends to the others, set by set, and how it comes among the flows.
use Rattle.std.proofs.Common.{refl, ◌≡◌, ◌≢◌, ap, sym, ◌∙◌, subst, ℕ, zero, suc, ◌+◌, ◌<◌, ◌≤◌, ◌==◌, Bool, true, false, cond, ◌||◌, List, [], ◌∷◌, ◌++◌, append-nil, length, take, get_or, set, get_or-set_same, get_or-set_other, length-set, Option, Some, None, inl, inr, ◌⊎◌, All, replicate, arith}
use Rattle.std.specs.Prelude.{slice_get, slice_index_or, slice_set, unwrap_or}
use Rattle.std.specs.List.{fold, list_any}
use Rattle.std.proofs.lemmas.Bool.{cases_eq, eq-eqb, ne_eqb}
use Rattle.std.proofs.lemmas.List.{length-replicate}
use Rattle.std.proofs.lemmas.List.Elements.{All-nil, All-push}
use Rattle.rc_jobs.proofs.FlowLaws.{edges-more, flow-more}
use Rattle.rc_router_sets.proofs.JoinLaws.{may_like, may_or, one_more, take-whole, taken_at}
use Rattle.rc_router_sets.proofs.MadeLaws.{get-set}
use Rattle.rc_router_sets.specs.Edges.{union}
use Rattle.rc_edges.specs.Given.{AreFlushed, Gives, IsRow, MayGive, flows_with, joined, nothing, or_none, set_at, those, touch_of, touched_with, with_sets}
use Rattle.rc_edges.specs.declared.outgoing.Row.{Row}
use Rattle.rc_jobs.specs.Flows.{KnowsFlows, edges_to, real}
use Rattle.rc_jobs.specs.declared.flow.Flow.{Flow}
use Rattle.rc_bdd.specs.Work.{MayCombine}
use Rattle.rc_nodes.proofs.KnownLaws.{knows_never}
use Rattle.rc_nodes.specs.Seats.{TableView, SeatView, Keeps, SeatKnows}
use Rattle.rc_nodes.specs.declared.words.Ref.{Ref}
use Rattle.rc_trees.specs.Combine as trees
use Rattle.rc_trees.specs.Recipes.{Recipe, given, or, tree}
use Rattle.rc_trees.specs.Trees.{Tree, never}
use Rattle.rc_jobs.specs.Collecting.{AreRows, numbers, with_flow}

-- ---- sets by number

get-here : {A : Type 0} (xs : List A) (k : ℕ) (y : A) → k < length xs → slice_get (slice_set xs k y) k ≡ Some y
get-here [] k y less = absurd (omega arith)
get-here (x ∷ xs) zero y less = refl
get-here (x ∷ xs) (suc k) y less = get-here xs k y (omega arith)

set-here : (sets : List (Option Ref)) (k : ℕ) (o : Option Ref) → k < length sets → set_at (slice_set sets k o) k ≡ o
set-here sets k o less = ap (λ x. unwrap_or x None) (get-here sets k o less)

set-there : (sets : List (Option Ref)) (k t : ℕ) (o : Option Ref) → t ≢ k → set_at (slice_set sets k o) t ≡ set_at sets t
set-there sets k t o other = by (get-set sets t k o)
  where
    by : (slice_get (slice_set sets k o) t ≡ slice_get sets t) ⊎ ((t ≡ k) × (slice_get (slice_set sets k o) t ≡ Some o)) → set_at (slice_set sets k o) t ≡ set_at sets t
    by (inl same) = ap (λ x. unwrap_or x None) same
    by (inr there) = absurd (other there.0)

-- ---- one number among others

those-more : (t : ℕ) (us : List ℕ) (u : ℕ) → those t (us ++ u ∷ []) ≡ those t us ++ those t (u ∷ [])
those-more t [] u = refl
those-more t (x ∷ us) u = at (t == x) (those-more t us u)
  where
    at : (b : Bool) → those t (us ++ u ∷ []) ≡ those t us ++ those t (u ∷ []) → cond b (x ∷ those t (us ++ u ∷ [])) (those t (us ++ u ∷ [])) ≡ cond b (x ∷ those t us) (those t us) ++ those t (u ∷ [])
    at true later = ap (λ xs. x ∷ xs) later
    at false later = later

those-one : (t u : ℕ) → t ≡ u → those t (u ∷ []) ≡ u ∷ []
those-one t u e = ap (λ b. cond b (u ∷ []) []) (eq-eqb t u e)

those-other : (t u : ℕ) → t ≢ u → those t (u ∷ []) ≡ []
those-other t u other = ap (λ b. cond b (u ∷ []) []) (ne_eqb t u other)

-- ---- rows

none_of : (n k : ℕ) → set_at (replicate n None) k ≡ None
none_of zero k = refl
none_of (suc n) zero = refl
none_of (suc n) (suc k) = none_of n k

module _ (seat : SeatView) (row : Row) (count : ℕ) (many : length row.sets.items ≡ count) (none : (t : ℕ) → t < count → set_at row.sets.items t ≡ None) (touched : row.touched.items ≡ []) where
  pub emptied : IsRow seat row count (joined nothing)
  emptied = record {
    as_many = many;
    sets = λ t less. subst (λ o. SeatKnows seat (or_none o).index never) (sym (none t less)) (knows_never seat);
    within = subst (All (λ t. t < count)) (sym touched) (All-nil (λ t. t < count));
    once = λ t less. ap (those t) touched ∙ sym (ap (λ o. touch_of o t) (none t less));
  }

pub nothing_sent : (seat : SeatView) (row : Row) (count : ℕ) → row.sets.items ≡ replicate count None → row.touched.items ≡ [] → IsRow seat row count (joined nothing)
nothing_sent seat row count sets touched = emptied seat row count (ap length sets ∙ length-replicate count no) (λ t less. ap (λ xs. set_at xs t) sets ∙ none_of count t) touched
  where
    no : Option Ref
    no = None

pub row_kept : (v w : SeatView) → Keeps v w → (row : Row) (count : ℕ) (sent : ℕ → Tree) → IsRow v row count sent → IsRow w row count sent
row_kept v w keeps row count sent is = record { as_many = is.as_many; sets = λ t less. keeps _ _ (is.sets t less); within = is.within; once = is.once }

pub row_like : (v : SeatView) (row : Row) (count : ℕ) (sent other : ℕ → Tree) → ((t : ℕ) → t < count → sent t ≡ other t) → IsRow v row count sent → IsRow v row count other
row_like v row count sent other same is = record { as_many = is.as_many; sets = λ t less. subst (SeatKnows v (or_none (set_at row.sets.items t)).index) (same t less) (is.sets t less); within = is.within; once = is.once }

-- a set may be joined to what is there
pub may_add : (nodes : TableView) (seat : SeatView) (row : Row) (onto set : ℕ) (o : Option Ref) (here : Ref) → onto < length row.sets.items → o ≡ set_at row.sets.items onto → here ≡ or_none o → MayGive nodes seat row onto set → MayCombine nodes seat trees.or here.index set
may_add nodes seat row onto set o here less is here-is m =
    let g = m.may.given in
    may_or nodes seat here.index set (union (g onto)) m.more
    (subst (λ (r : Ref). SeatKnows seat r.index (tree (union (g onto)))) (sym (here-is ∙ ap or_none is)) (m.may.is_row.sets onto less))
    m.knows
    (may_like nodes.may (union (g onto ++ m.more ∷ [])) (or (union (g onto)) m.more) (one_more (λ s. s) (given never) (g onto) m.more) m.may.allowed)

module _ (v w : SeatView) (row next : Row) (onto : ℕ) (new : Ref) (g : ℕ → List Recipe) (more : Recipe)
    (is : IsRow v row (length row.sets.items) (joined g)) (keeps : Keeps v w) (less : onto < length row.sets.items)
    (sets : next.sets.items ≡ slice_set row.sets.items onto (Some new)) (touched : next.touched.items ≡ touched_with row.touched.items (set_at row.sets.items onto) onto)
    (known : SeatKnows w new.index (trees.or (tree (union (g onto))) (tree more))) where
  abbrev after : ℕ → List Recipe
  after = with_sets g onto (more ∷ [])

  here-is : (t : ℕ) → t ≡ onto → joined after t ≡ trees.or (tree (union (g onto))) (tree more)
  here-is t e =
      ap (λ b. tree (union (cond b (g t ++ more ∷ []) (g t)))) (eq-eqb t onto e)
      ∙ ap tree (one_more (λ s. s) (given never) (g t) more)
      ∙ ap (λ n. trees.or (tree (union (g n))) (tree more)) e

  there-is : (t : ℕ) → t ≢ onto → joined g t ≡ joined after t
  there-is t other = ap (λ b. tree (union (cond b (g t ++ more ∷ []) (g t)))) (sym (ne_eqb t onto other))

  at-here : set_at next.sets.items onto ≡ Some new
  at-here = ap (λ xs. set_at xs onto) sets ∙ set-here row.sets.items onto (Some new) less

  at-there : (t : ℕ) → t ≢ onto → set_at next.sets.items t ≡ set_at row.sets.items t
  at-there t other = ap (λ xs. set_at xs t) sets ∙ set-there row.sets.items onto t (Some new) other

  set-of : (t : ℕ) → t < length row.sets.items → (t ≡ onto) ⊎ (t ≢ onto) → SeatKnows w (or_none (set_at next.sets.items t)).index (joined after t)
  set-of t there (inl e) = subst (λ o. SeatKnows w (or_none o).index (joined after t)) (sym (ap (set_at next.sets.items) e ∙ at-here)) (subst (SeatKnows w new.index) (sym (here-is t e)) known)
  set-of t there (inr other) = subst (λ o. SeatKnows w (or_none o).index (joined after t)) (sym (at-there t other)) (subst (SeatKnows w (or_none (set_at row.sets.items t)).index) (there-is t other) (keeps _ _ (is.sets t there)))

  once-here : (o : Option Ref) → set_at row.sets.items onto ≡ o → those onto (touched_with row.touched.items o onto) ≡ onto ∷ []
  once-here None e = those-more onto row.touched.items onto ∙ ap (λ xs. xs ++ those onto (onto ∷ [])) (is.once onto less ∙ ap (λ p. touch_of p onto) e) ∙ those-one onto onto refl
  once-here (Some r) e = is.once onto less ∙ ap (λ p. touch_of p onto) e

  once-there : (t : ℕ) → t ≢ onto → (o : Option Ref) → those t (touched_with row.touched.items o onto) ≡ those t row.touched.items
  once-there t other None = those-more t row.touched.items onto ∙ ap (λ xs. those t row.touched.items ++ xs) (those-other t onto other) ∙ append-nil (those t row.touched.items)
  once-there t other (Some r) = refl

  once-of : (t : ℕ) → t < length row.sets.items → (t ≡ onto) ⊎ (t ≢ onto) → those t next.touched.items ≡ touch_of (set_at next.sets.items t) t
  once-of t there (inl e) =
      subst (λ n. those n next.touched.items ≡ touch_of (set_at next.sets.items n) n) (sym e)
      (ap (those onto) touched ∙ once-here (set_at row.sets.items onto) refl ∙ sym (ap (λ o. touch_of o onto) at-here))
  once-of t there (inr other) = ap (those t) touched ∙ once-there t other (set_at row.sets.items onto) ∙ is.once t there ∙ sym (ap (λ o. touch_of o t) (at-there t other))

  within-of : (o : Option Ref) → All (λ t. t < length row.sets.items) (touched_with row.touched.items o onto)
  within-of None = All-push (λ t. t < length row.sets.items) row.touched.items onto is.within less
  within-of (Some r) = is.within

  pub added : IsRow w next (length row.sets.items) (joined after)
  added = record {
    as_many = ap length sets ∙ length-set row.sets.items onto (Some new);
    sets = λ t there. set-of t there (cases_eq t onto);
    within = subst (All (λ t. t < length row.sets.items)) (sym touched) (within-of (set_at row.sets.items onto));
    once = λ t there. once-of t there (cases_eq t onto);
  }

pub gives_one : (v w : SeatView) (row next : Row) (onto : ℕ) (o : Option Ref) (here new : Ref) (set : ℕ) (more : Recipe) → Keeps v w → onto < length row.sets.items → o ≡ set_at row.sets.items onto → here ≡ or_none o
    → next.sets.items ≡ slice_set row.sets.items onto (Some new) → next.touched.items ≡ touched_with row.touched.items o onto → SeatKnows v set (tree more)
    → ((s t : Tree) → SeatKnows v here.index s → SeatKnows v set t → SeatKnows w new.index (trees.or s t)) → Gives v w row next onto (more ∷ [])
gives_one v w row next onto o here new set more keeps less is here-is sets touched known or_is = record {
  as_many = ap length sets ∙ length-set row.sets.items onto (Some new);
  gives = λ g row_is. added v w row next onto new g more row_is keeps less sets (touched ∙ ap (λ p. touched_with row.touched.items p onto) is)
      (or_is (tree (union (g onto))) (tree more) (subst (λ (r : Ref). SeatKnows v r.index (tree (union (g onto)))) (sym (here-is ∙ ap or_none is)) (row_is.sets onto less)) known);
}

-- ---- what is sent comes among the flows

fold-append : {A B : Type 0} (f : B → A → B) (b : B) (xs ys : List A) → fold f b (xs ++ ys) ≡ fold f (fold f b xs) ys
fold-append f b [] ys = refl
fold-append f b (x ∷ xs) ys = fold-append f (f b x) xs ys

-- so far those of the first touched positions
pub record AreFlushedTo (into now : List (List Flow)) (sets : List (Option Ref)) (from : ℕ) (us : List ℕ) : Type 0 where
  pub as_many : length now ≡ length into
  pub each : (t : ℕ) (d : List Flow) → t < length into → slice_index_or now t d ≡ flows_with sets from (slice_index_or into t []) (those t us)

index-or : {A : Type 0} (xs : List A) (t : ℕ) (d e : A) → t < length xs → slice_index_or xs t d ≡ slice_index_or xs t e
index-or [] t d e less = absurd (omega arith)
index-or (x ∷ xs) zero d e less = refl
index-or (x ∷ xs) (suc t) d e less = index-or xs t d e (omega arith)

pub none_flushed : (into : List (List Flow)) (sets : List (Option Ref)) (from : ℕ) → AreFlushedTo into into sets from []
none_flushed into sets from = record { as_many = refl; each = λ t d less. index-or into t d [] less }

module _ (into now after : List (List Flow)) (sets : List (Option Ref)) (from : ℕ) (us : List ℕ) (u : ℕ) (a : AreFlushedTo into now sets from us) (less : u < length now)
    (put : after ≡ slice_set now u (with_flow (slice_index_or now u []) from (or_none (set_at sets u)))) where
  abbrev flows : List Flow
  flows = with_flow (slice_index_or now u []) from (or_none (set_at sets u))

  more : (t : ℕ) → flows_with sets from (slice_index_or into t []) (those t (us ++ u ∷ [])) ≡ flows_with sets from (flows_with sets from (slice_index_or into t []) (those t us)) (those t (u ∷ []))
  more t = ap (flows_with sets from (slice_index_or into t [])) (those-more t us u) ∙ fold-append (λ fs n. with_flow fs from (or_none (set_at sets n))) (slice_index_or into t []) (those t us) (those t (u ∷ []))

  each-of : (t : ℕ) (d : List Flow) → t < length into → (t ≡ u) ⊎ (t ≢ u) → slice_index_or after t d ≡ flows_with sets from (slice_index_or into t []) (those t (us ++ u ∷ []))
  each-of t d there (inl e) =
      ap (λ xs. slice_index_or xs t d) put ∙ ap (λ n. slice_index_or (slice_set now u flows) n d) e ∙ get_or-set_same now u flows d less
      ∙ ap (λ fs. with_flow fs from (or_none (set_at sets u))) (ap (λ n. slice_index_or now n []) (sym e) ∙ a.each t [] there)
      ∙ ap (flows_with sets from (flows_with sets from (slice_index_or into t []) (those t us))) (sym (those-one t u e)) ∙ sym (more t)
  each-of t d there (inr other) =
      ap (λ xs. slice_index_or xs t d) put ∙ get_or-set_other now u t flows d other ∙ a.each t d there
      ∙ ap (flows_with sets from (flows_with sets from (slice_index_or into t []) (those t us))) (sym (those-other t u other)) ∙ sym (more t)

  pub one_flushed : AreFlushedTo into after sets from (us ++ u ∷ [])
  one_flushed = record { as_many = ap length put ∙ length-set now u flows ∙ a.as_many; each = λ t d there. each-of t d there (cases_eq t u) }

pub next_flushed : (into now after : List (List Flow)) (sets : List (Option Ref)) (from : ℕ) (touched : List ℕ) (at u : ℕ) → u ≡ get_or touched at u → at < length touched → AreFlushedTo into now sets from (take at touched) → u < length now
    → after ≡ slice_set now u (with_flow (slice_index_or now u []) from (or_none (set_at sets u))) → AreFlushedTo into after sets from (take (at + 1) touched)
next_flushed into now after sets from touched at u is below a less put = subst (AreFlushedTo into after sets from) (sym (taken_at touched at u is below)) (one_flushed into now after sets from (take at touched) u a less put)

pub all_flushed : (into now : List (List Flow)) (row : Row) (from at : ℕ) → length row.touched.items ≤ at → AreFlushedTo into now row.sets.items from (take at row.touched.items) → AreFlushed into row from now
all_flushed into now row from at end a = record { as_many = a.as_many; each = λ t d less. a.each t d less ∙ ap (λ us. flows_with row.sets.items from (slice_index_or into t []) (those t us)) (take-whole at row.touched.items end) }

-- the row of a position is among the flows of the positions before it
pub flushed_rows : (seat : SeatView) (edge : ℕ → ℕ → Tree) (start from : ℕ) → start ≤ from → (into after : List (List Flow)) (row : Row) → AreFlushed into row from after → AreRows seat into edge start from → IsRow seat row (length into) (edge from) → AreRows seat after edge start (from + 1)
flushed_rows seat edge start from le into after row f rows is = record {
  each = λ t d less.
      let many = f.as_many in
      let there : t < length into = omega arith in
      subst (λ fs. KnowsFlows seat fs (real (edges_to edge (numbers start (from + 1)) t))) (sym (f.each t d there ∙ ap (flows_with row.sets.items from (slice_index_or into t [])) (is.once t there) ∙ one t (set_at row.sets.items t) refl))
      (subst (λ ps. KnowsFlows seat (with_flow (slice_index_or into t []) from (or_none (set_at row.sets.items t))) (real ps)) (sym (edges-more edge start from t le))
      (flow-more seat (slice_index_or into t []) (edges_to edge (numbers start from) t) from (or_none (set_at row.sets.items t)) (rows.each t [] there) (edge from t) (is.sets t there)));
}
  where
    one : (t : ℕ) (o : Option Ref) → set_at row.sets.items t ≡ o → flows_with row.sets.items from (slice_index_or into t []) (touch_of o t) ≡ with_flow (slice_index_or into t []) from (or_none o)
    one t None e = refl
    one t (Some r) e = ap (λ p. with_flow (slice_index_or into t []) from (or_none p)) e

-- ---- what is sent is taken back

any-those : (t : ℕ) (us : List ℕ) → list_any (λ u. t == u) us ≡ false → those t us ≡ []
any-those t [] none = refl
any-those t (u ∷ us) none = by (t == u) none (any-those t us)
  where
    by : (b : Bool) → (b || list_any (λ x. t == x) us) ≡ false → (list_any (λ x. t == x) us ≡ false → those t us ≡ []) → cond b (u ∷ those t us) (those t us) ≡ []
    by true e later = absurd (let f : true ≡ false = e in cc)
    by false e later = later e

-- so far those of the first touched positions are
pub record AreTakenBack (sets now : List (Option Ref)) (us : List ℕ) : Type 0 where
  pub as_many : length now ≡ length sets
  pub each : (t : ℕ) → t < length sets → set_at now t ≡ cond (list_any (λ u. t == u) us) None (set_at sets t)

pub none_taken : (sets : List (Option Ref)) → AreTakenBack sets sets []
none_taken sets = record { as_many = refl; each = λ t less. refl }

any-more : (t : ℕ) (us : List ℕ) (u : ℕ) → list_any (λ x. t == x) (us ++ u ∷ []) ≡ (list_any (λ x. t == x) us || (t == u))
any-more t [] u = at (t == u)
  where
    at : (b : Bool) → (b || false) ≡ b
    at true = refl
    at false = refl
any-more t (x ∷ xs) u = ap (λ b. (t == x) || b) (any-more t xs u) ∙ assoc (t == x) (list_any (λ x. t == x) xs) (t == u)
  where
    assoc : (a b c : Bool) → (a || (b || c)) ≡ ((a || b) || c)
    assoc true b c = refl
    assoc false b c = refl

either : (a : Bool) (o : Option Ref) → None ≡ cond (a || true) None o
either true o = refl
either false o = refl

same : (a : Bool) (o : Option Ref) → cond a None o ≡ cond (a || false) None o
same true o = refl
same false o = refl

pub next_taken : (sets now after : List (Option Ref)) (touched : List ℕ) (at u : ℕ) → u ≡ get_or touched at u → at < length touched → AreTakenBack sets now (take at touched) → after ≡ slice_set now u None → AreTakenBack sets after (take (at + 1) touched)
next_taken sets now after touched at u is below a put = subst (AreTakenBack sets after) (sym (taken_at touched at u is below)) (record {
  as_many = ap length put ∙ length-set now u None ∙ a.as_many;
  each = λ t less. each-of t less (cases_eq t u);
})
  where
    us : List ℕ
    us = take at touched

    any-of : (t : ℕ) (b : Bool) → (t == u) ≡ b → list_any (λ x. t == x) (us ++ u ∷ []) ≡ (list_any (λ x. t == x) us || b)
    any-of t b e = any-more t us u ∙ ap (λ c. list_any (λ x. t == x) us || c) e

    each-of : (t : ℕ) → t < length sets → (t ≡ u) ⊎ (t ≢ u) → set_at after t ≡ cond (list_any (λ x. t == x) (us ++ u ∷ [])) None (set_at sets t)
    each-of t less (inl e) =
        ap (λ xs. set_at xs t) put ∙ ap (set_at (slice_set now u None)) e ∙ set-here now u None (let many = a.as_many in omega arith)
        ∙ either (list_any (λ x. t == x) us) (set_at sets t) ∙ ap (λ b. cond b None (set_at sets t)) (sym (any-of t true (eq-eqb t u e)))
    each-of t less (inr other) =
        ap (λ xs. set_at xs t) put ∙ set-there now u t None other ∙ a.each t less
        ∙ same (list_any (λ x. t == x) us) (set_at sets t) ∙ ap (λ b. cond b None (set_at sets t)) (sym (any-of t false (ne_eqb t u other)))

pub all_taken : (seat : SeatView) (row next : Row) (count : ℕ) (sent : ℕ → Tree) (at : ℕ) → length row.touched.items ≤ at → AreTakenBack row.sets.items next.sets.items (take at row.touched.items) → next.touched.items ≡ [] → IsRow seat row count sent → IsRow seat next count (joined nothing)
all_taken seat row next count sent at end a touched is = emptied seat next count (a.as_many ∙ is.as_many) (λ t less. gone t less) touched
  where
    left : (t : ℕ) (b : Bool) → list_any (λ u. t == u) row.touched.items ≡ b → (o : Option Ref) → those t row.touched.items ≡ touch_of o t → cond b None o ≡ None
    left t true e o once = refl
    left t false e None once = refl
    left t false e (Some r) once = absurd (let f : [] ≡ t ∷ [] = sym (any-those t row.touched.items e) ∙ once in cc)

    gone : (t : ℕ) → t < count → set_at next.sets.items t ≡ None
    gone t less =
        let many = is.as_many in
        a.each t (omega arith) ∙ ap (λ us. cond (list_any (λ u. t == u) us) None (set_at row.sets.items t)) (take-whole at row.touched.items end)
        ∙ left t (list_any (λ u. t == u) row.touched.items) refl (set_at row.sets.items t) (is.once t less)
