-- What was collected joined, and what was collected from all positions.
use Rattle.std.proofs.Common.{refl, ◌≡◌, ◌≢◌, ap, sym, ◌∙◌, subst, ℕ, zero, suc, ◌+◌, ◌-◌, ◌<◌, ◌≤◌, Bool, List, [], ◌∷◌, ◌++◌, append_assoc, length, map, get_or-set_same, get_or-set_other, length-set, inl, inr, ◌⊎◌, arith}
use Rattle.std.specs.Prelude.{slice_index_or, slice_set, flat_map}
use Rattle.std.specs.List.{range_with_len}
use Rattle.std.proofs.lemmas.Bool.{cases_eq}
use Rattle.std.proofs.lemmas.List.{map-append}
use Rattle.rc_base.specs.declared.ending.Kind.{Kind}
use Rattle.rc_jobs.proofs.FlowLaws.{flows-append, flows_of-append, real-append}
use Rattle.rc_jobs.specs.Collecting.{AreAppended, IsCollected, numbers}
use Rattle.rc_jobs.specs.Flows.{IsPrepared, KnowsFlows, edges_to, endings_of, flows_of, real, real_edges_to, real_endings}
use Rattle.rc_jobs.specs.declared.collected.Collected.{Collected}
use Rattle.rc_jobs.specs.declared.flow.Flow.{Flow}
use Rattle.rc_jobs.specs.declared.flow.Prepared.{Prepared}
use Rattle.rc_nodes.specs.Seats.{SeatView}
use Rattle.rc_trees.specs.Trees.{Tree}

-- ---- numbers

range-append : (n m a k : ℕ) → k ≡ n + m → range_with_len a k ≡ range_with_len a n ++ range_with_len (a + n) m
range-append zero m a k e = λ i. range_with_len ((let z : a ≡ a + 0 = omega arith in z) i) ((let y : k ≡ m = omega arith in y) i)
range-append (suc n) m a k e =
    let next : k ≡ suc (n + m) = omega arith in
    ap (range_with_len a) next ∙ ap (λ xs. a ∷ xs) (range-append n m (a + 1) (n + m) refl ∙ ap (λ b. range_with_len (a + 1) n ++ range_with_len b m) (let z : a + 1 + n ≡ a + suc n = omega arith in z))

numbers-append : (a b c : ℕ) → a ≤ b → b ≤ c → numbers a c ≡ numbers a b ++ numbers b c
numbers-append a b c low high =
    range-append (b - a) (c - b) a (c - a) (omega arith) ∙ ap (λ k. numbers a b ++ range_with_len k (c - b)) (let z : a + (b - a) ≡ b = omega arith in z)

pub flat-append : {A B : Type 0} (f : A → List B) (xs ys : List A) → flat_map f (xs ++ ys) ≡ flat_map f xs ++ flat_map f ys
flat-append f [] ys = refl
flat-append f (x ∷ xs) ys = ap (λ zs. f x ++ zs) (flat-append f xs ys) ∙ sym (append_assoc (f x) (flat_map f xs) (flat_map f ys))

-- ---- lists appended

-- those below an index are
pub record AreAppendedTo (into more now : List (List Flow)) (at : ℕ) : Type 0 where
  pub as_many : length now ≡ length into
  pub done : (t : ℕ) (d : List Flow) → t < at → t < length into → slice_index_or now t d ≡ slice_index_or into t [] ++ slice_index_or more t []
  pub left : (t : ℕ) (d : List Flow) → at ≤ t → slice_index_or now t d ≡ slice_index_or into t d

pub none_appended : (into more : List (List Flow)) → AreAppendedTo into more into 0
none_appended into more = record { as_many = refl; done = λ t d low less. absurd (omega arith); left = λ t d low. refl }

pub one_appended : (into more now after : List (List Flow)) (at : ℕ) → at < length now → after ≡ slice_set now at (slice_index_or now at [] ++ slice_index_or more at []) → AreAppendedTo into more now at → AreAppendedTo into more after (at + 1)
one_appended into more now after at less is a = record {
  as_many = ap length is ∙ length-set now at new ∙ a.as_many;
  done = λ t d low inside. done_at t d low inside (cases_eq t at);
  left = λ t d low. ap (λ xs. slice_index_or xs t d) is ∙ get_or-set_other now at t new d (λ e. absurd (omega arith)) ∙ a.left t d (omega arith);
}
  where
    new : List Flow
    new = slice_index_or now at [] ++ slice_index_or more at []

    done_at : (t : ℕ) (d : List Flow) → t < at + 1 → t < length into → (t ≡ at) ⊎ (t ≢ at) → slice_index_or after t d ≡ slice_index_or into t [] ++ slice_index_or more t []
    done_at t d low inside (inl e) =
        ap (λ xs. slice_index_or xs t d) is ∙ ap (λ k. slice_index_or (slice_set now at new) k d) e ∙ get_or-set_same now at new d less
        ∙ ap (λ xs. xs ++ slice_index_or more at []) (a.left at [] (omega arith)) ∙ ap (λ k. slice_index_or into k [] ++ slice_index_or more k []) (sym e)
    done_at t d low inside (inr other) = ap (λ xs. slice_index_or xs t d) is ∙ get_or-set_other now at t new d other ∙ a.done t d (omega arith) inside

pub all_appended : (into more now : List (List Flow)) (at : ℕ) → length now ≤ at → AreAppendedTo into more now at → AreAppended into more now
all_appended into more now at end a = record { as_many = a.as_many; each = λ t d less. a.done t d (let many = a.as_many in omega arith) less }

-- ---- what was collected joined

module _ (seat : SeatView) (edge : ℕ → ℕ → Tree) (ends : (Kind → Bool) → ℕ → List Tree) (count a b c : ℕ) (left right whole : Collected) where
  pub collected_joined : AreAppended left.into.items right.into.items whole.into.items → whole.ends ≡ left.ends ++ right.ends → IsCollected seat edge ends count a b left → IsCollected seat edge ends count b c right → IsCollected seat edge ends count a c whole
  collected_joined rows more l r =
      let low = l.order in let high = r.order in
      let split = numbers-append a b c low high in
      record {
        order = omega arith;
        as_many = rows.as_many ∙ l.as_many;
        rows = record {
          each = λ t d less.
              let many = rows.as_many in let first = l.as_many in let second = r.as_many in
              let in_left : t < length left.into.items = omega arith in
              let in_right : t < length right.into.items = omega arith in
              let sent : edges_to edge (numbers a c) t ≡ edges_to edge (numbers a b) t ++ edges_to edge (numbers b c) t = ap (λ ps. edges_to edge ps t) split ∙ map-append (λ p. (p, edge p t)) (numbers a b) (numbers b c) in
              let real_sent = ap real sent ∙ real-append (edges_to edge (numbers a b) t) (edges_to edge (numbers b c) t) in
              subst (λ fs. KnowsFlows seat fs (real (edges_to edge (numbers a c) t))) (sym (rows.each t d in_left))
              (subst (KnowsFlows seat (slice_index_or left.into.items t [] ++ slice_index_or right.into.items t [])) (sym real_sent)
              (flows-append seat (slice_index_or left.into.items t []) (slice_index_or right.into.items t []) (real (edges_to edge (numbers a b) t)) (real (edges_to edge (numbers b c) t)) (l.rows.each t [] in_left) (r.rows.each t [] in_right)));
        };
        endings = λ these.
            let asked : ℕ → List Tree = ends these in
            let sent : endings_of asked (numbers a c) ≡ endings_of asked (numbers a b) ++ endings_of asked (numbers b c) = ap (endings_of asked) split ∙ flat-append (λ q. map (λ e. (q, e)) (asked q)) (numbers a b) (numbers b c) in
            let real_sent = ap real sent ∙ real-append (endings_of asked (numbers a b)) (endings_of asked (numbers b c)) in
            let flows : flows_of these whole.ends ≡ flows_of these left.ends ++ flows_of these right.ends = ap (flows_of these) more ∙ flows_of-append these left.ends right.ends in
            subst (λ fs. KnowsFlows seat fs (real (endings_of asked (numbers a c)))) (sym flows)
            (subst (KnowsFlows seat (flows_of these left.ends ++ flows_of these right.ends)) (sym real_sent)
            (flows-append seat (flows_of these left.ends) (flows_of these right.ends) (real (endings_of asked (numbers a b))) (real (endings_of asked (numbers b c))) (l.endings these) (r.endings these)));
      }

-- ---- from all positions

module _ (seat : SeatView) (edge : ℕ → ℕ → Tree) (ends : (Kind → Bool) → ℕ → List Tree) (count : ℕ) (flows : Collected) (prepared : Prepared) (into : prepared.into ≡ flows.into.items) (last : prepared.ends ≡ flows.ends) where
  pub all_prepared : IsCollected seat edge ends count 0 count flows → IsPrepared seat edge ends count prepared
  all_prepared s =
      let whole : count - 0 ≡ count = omega arith in
      let many : length prepared.into ≡ count = ap length into ∙ s.as_many in
      record {
        as_many = many;
        edges = record {
          each = λ q d less.
              let fits : q < length flows.into.items = (let e = ap length into in omega arith) in
              let n : count - 0 ≡ length prepared.into = omega arith in
              subst (λ xs. KnowsFlows seat (slice_index_or xs q d) (real_edges_to edge (length prepared.into) q)) (sym into)
              (subst (λ k. KnowsFlows seat (slice_index_or flows.into.items q d) (real (edges_to edge (range_with_len 0 k) q))) n (s.rows.each q d fits));
        };
        endings = λ these.
            subst (λ es. KnowsFlows seat (flows_of these es) (real_endings (ends these) count)) (sym last)
            (subst (λ k. KnowsFlows seat (flows_of these flows.ends) (real (endings_of (ends these) (range_with_len 0 k)))) whole (s.endings these));
      }
