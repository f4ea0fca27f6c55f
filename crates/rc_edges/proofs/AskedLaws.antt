-- The endings asked for, one after another, are those of a position.
use Rattle.std.proofs.Common.{refl, ◌≡◌, ap, sym, ◌∙◌, subst, ℕ, zero, suc, ◌+◌, ◌<◌, Bool, true, false, cond, List, [], ◌∷◌, ◌++◌, append-nil, append_assoc, length, map, filter, take, get_or, Some, None, arith}
use Rattle.std.specs.Prelude.{slice_get}
use Rattle.std.specs.List.{fold}
use Rattle.std.proofs.lemmas.List.{map-append}
use Rattle.std.proofs.lemmas.List.Elements.{filter-append}
use Rattle.rc_base.specs.Positions.{is_among}
use Rattle.rc_base.specs.declared.ending.Ends.{Ends}
use Rattle.rc_base.specs.declared.ending.Kind.{Kind}
use Rattle.rc_base.specs.declared.position.Pos.{Pos}
use Rattle.rc_jobs.proofs.FlowLaws.{ending_among, ending_apart, flow-more}
use Rattle.rc_router_sets.proofs.JoinLaws.{taken}
use Rattle.rc_router_sets.specs.Endings.{end}
use Rattle.rc_edges.specs.Prepare.{end_trees, stops_at}
use Rattle.rc_edges.specs.Stops.{AreKnown, sets_of}
use Rattle.rc_edges.specs.declared.asked_endings.Stop.{Stop}
use Rattle.rc_jobs.specs.Flows.{KnowsFlows, endings_of, flows_of, real}
use Rattle.rc_jobs.specs.declared.flow.Ending.{Ending}
use Rattle.rc_nodes.specs.Seats.{SeatView, Keeps, SeatKnows}
use Rattle.rc_nodes.specs.declared.words.Ref.{Ref}
use Rattle.rc_trees.specs.Recipes.{tree}
use Rattle.rc_trees.specs.Trees.{Tree}
use Rattle.rc_moves.specs.Moves.{DataPlane}
use Rattle.rc_jobs.specs.Collecting.{with_ending}

found : {A : Type 0} (xs : List A) (k : ℕ) (x d : A) → slice_get xs k ≡ Some x → get_or xs k d ≡ x
found [] k x d e = absurd (let none : None ≡ Some x = e in cc)
found (y ∷ ys) zero x d e = (let same : Some y ≡ Some x = e in cc)
found (y ∷ ys) (suc k) x d e = found ys k x d e

within : {A : Type 0} (xs : List A) (k : ℕ) (x : A) → slice_get xs k ≡ Some x → k < length xs
within [] k x e = absurd (let none : None ≡ Some x = e in cc)
within (y ∷ ys) zero x e = omega arith
within (y ∷ ys) (suc k) x e = let less = within ys k x e in omega arith

-- ---- sets that are known

known-append : (seat : SeatView) (rs ss : List Ref) (ts us : List Tree) → AreKnown seat rs ts → AreKnown seat ss us → AreKnown seat (rs ++ ss) (ts ++ us)
known-append seat [] ss [] us one two = two
known-append seat [] ss (t ∷ ts) us one two = absurd one
known-append seat (r ∷ rs) ss [] us one two = absurd one
known-append seat (r ∷ rs) ss (t ∷ ts) us one two = (one.0, known-append seat rs ss ts us one.1 two)

pub known-kept : (v w : SeatView) → Keeps v w → (rs : List Ref) (ts : List Tree) → AreKnown v rs ts → AreKnown w rs ts
known-kept v w keeps [] [] are = tt
known-kept v w keeps [] (t ∷ ts) are = absurd are
known-kept v w keeps (r ∷ rs) [] are = absurd are
known-kept v w keeps (r ∷ rs) (t ∷ ts) are = (keeps r.index t are.0, known-kept v w keeps rs ts are.1)

-- the sets of one ending more
sets_of-append : (these : Kind → Bool) (ss us : List Stop) → sets_of these (ss ++ us) ≡ sets_of these ss ++ sets_of these us
sets_of-append these ss us =
    ap (map (λ (s : Stop). s.set)) (filter-append (λ (s : Stop). these s.kind) ss us)
    ∙ map-append (λ (s : Stop). s.set) (filter (λ (s : Stop). these s.kind) ss) (filter (λ (s : Stop). these s.kind) us)

-- those of some kinds come among the endings
module _ (seat : SeatView) (these : Kind → Bool) (n : ℕ) where
  abbrev with_stops : List Ending → List Stop → List Ending
  with_stops es ss = fold (λ es s. with_ending es n s.kind s.set) es ss

  pub stops_put : (ss : List Stop) (ts : List Tree) → AreKnown seat (sets_of these ss) ts → (es : List Ending) (done : List (ℕ × Tree)) → KnowsFlows seat (flows_of these es) (real done) → KnowsFlows seat (flows_of these (with_stops es ss)) (real (done ++ map (λ e. (n, e)) ts))
  stops_put [] [] known es done are = subst (λ ps. KnowsFlows seat (flows_of these es) (real ps)) (sym (append-nil done)) are
  stops_put [] (t ∷ ts) known es done are = absurd known
  stops_put (s ∷ ss) ts known es done are = by (these s.kind) refl (stops_put ss) ts known
    where
      by : (b : Bool) → these s.kind ≡ b → ((ts : List Tree) → AreKnown seat (sets_of these ss) ts → (es : List Ending) (done : List (ℕ × Tree)) → KnowsFlows seat (flows_of these es) (real done) → KnowsFlows seat (flows_of these (with_stops es ss)) (real (done ++ map (λ e. (n, e)) ts)))
          → (us : List Tree) → AreKnown seat (map (λ (x : Stop). x.set) (cond b (s ∷ filter (λ (x : Stop). these x.kind) ss) (filter (λ (x : Stop). these x.kind) ss))) us → KnowsFlows seat (flows_of these (with_stops (with_ending es n s.kind s.set) ss)) (real (done ++ map (λ e. (n, e)) us))
      by true is later [] known = absurd known
      by true is later (t ∷ us) known =
          subst (λ ps. KnowsFlows seat (flows_of these (with_stops (with_ending es n s.kind s.set) ss)) (real ps)) (append_assoc done ((n, t) ∷ []) (map (λ e. (n, e)) us))
          (later us known.1 (with_ending es n s.kind s.set) (done ++ (n, t) ∷ []) (subst (λ fs. KnowsFlows seat fs (real (done ++ (n, t) ∷ []))) (sym (ending_among these es n s.kind s.set is)) (flow-more seat (flows_of these es) done n s.set are t known.0)))
      by false is later us known = later us known (with_ending es n s.kind s.set) done (subst (λ fs. KnowsFlows seat fs (real done)) (sym (ending_apart these es n s.kind s.set is)) are)

module _ (plane : DataPlane) (q : Pos) (ends : Ends) (these : Kind → Bool) where
  -- the trees of these of the kinds that are asked for
  abbrev asked_trees : List Kind → List Tree
  asked_trees ks = end_trees plane q (filter these (filter (is_among ends) ks))

  -- one more
  pub asked-more : (ks : List Kind) (i : ℕ) (k : Kind) → slice_get ks i ≡ Some k → asked_trees (take (i + 1) ks) ≡ asked_trees (take i ks) ++ asked_trees (k ∷ [])
  asked-more ks i k at =
      ap asked_trees (taken ks i k (within ks i k at) ∙ ap (λ l. take i ks ++ l ∷ []) (found ks i k k at))
      ∙ ap (λ ls. end_trees plane q (filter these ls)) (filter-append (is_among ends) (take i ks) (k ∷ []))
      ∙ ap (end_trees plane q) (filter-append these (filter (is_among ends) (take i ks)) (filter (is_among ends) (k ∷ [])))
      ∙ map-append (λ l. tree (end plane q l)) (filter these (filter (is_among ends) (take i ks))) (filter these (filter (is_among ends) (k ∷ [])))

  module _ (v w : SeatView) (stops : List Stop) (kind : Kind) (done : List Tree) (are : AreKnown v (sets_of these stops) done) where
    -- an ending that is asked for
    pub is_asked : is_among ends kind ≡ true → Keeps v w → (set : Ref) → SeatKnows w set.index (tree (end plane q kind)) → AreKnown w (sets_of these (stops ++ record { kind = kind; set = set } ∷ [])) (done ++ asked_trees (kind ∷ []))
    is_asked is keeps set known =
        subst (λ rs. AreKnown w rs (done ++ asked_trees (kind ∷ []))) (sym (sets_of-append these stops (record { kind = kind; set = set } ∷ [])))
        (subst (λ b. AreKnown w (sets_of these stops ++ sets_of these (record { kind = kind; set = set } ∷ [])) (done ++ end_trees plane q (filter these (cond b (kind ∷ []) [])))) (sym is) (by (these kind)))
      where
        before : AreKnown w (sets_of these stops) done
        before = known-kept v w keeps (sets_of these stops) done are

        by : (b : Bool) → AreKnown w (sets_of these stops ++ map (λ (s : Stop). s.set) (cond b (record { kind = kind; set = set } ∷ []) [])) (done ++ end_trees plane q (cond b (kind ∷ []) []))
        by true = known-append w (sets_of these stops) (set ∷ []) done (tree (end plane q kind) ∷ []) before (known, tt)
        by false = known-append w (sets_of these stops) [] done [] before tt

-- those at the place of a position
pub asked_there : (plane : DataPlane) (ends : Ends) (these : Kind → Bool) (n : ℕ) → map (λ e. (n, e)) (stops_at plane ends these n) ≡ endings_of (stops_at plane ends these) (n ∷ [])
asked_there plane ends these n = sym (append-nil (map (λ e. (n, e)) (stops_at plane ends these n)))
