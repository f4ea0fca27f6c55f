-- What goes on from positions, one position after another.
use Rattle.std.proofs.Common.{refl, ◌≡◌, ap, sym, ◌∙◌, subst, ℕ, zero, suc, ◌+◌, ◌-◌, ◌<◌, ◌≤◌, Bool, List, [], ◌∷◌, ◌++◌, filter, length, map, All, None, Result, Ok, Err, IfOk, OnOk, replicate, arith}
use Rattle.std.specs.Prelude.{slice_get, slice_index_or, unwrap_or}
use Rattle.std.specs.List.{fold, range_with_len}
use Rattle.std.proofs.lemmas.List.{get_or-replicate, length-replicate}
use Rattle.rc_base.specs.declared.ending.Ends.{Ends}
use Rattle.rc_base.specs.declared.ending.Kind.{Kind}
use Rattle.rc_base.specs.declared.position.Pos.{Pos}
use Rattle.rc_config.specs.Members.{positions}
use Rattle.rc_config.specs.declared.network.Network.{Network}
use Rattle.rc_edges.proofs.AskedLaws.{asked_there, known-kept, stops_put}
use Rattle.rc_jobs.proofs.FlowLaws.{numbers-more}
use Rattle.rc_edges.proofs.LikeLaws.{edge_like, end_like, forwarded_like, hops_like}
use Rattle.rc_router_sets.proofs.MadeLaws.{made_kept}
use Rattle.rc_edges.proofs.RowLaws.{flushed_rows, row_kept, row_like}
use Rattle.rc_jobs.proofs.CollectLaws.{flat-append}
use Rattle.rc_router_sets.specs.Edges.{edge}
use Rattle.rc_edges.specs.Given.{AreFlushed, IsRow}
use Rattle.rc_router_sets.specs.HopParts.{no_parts, part_in, parts_of}
use Rattle.rc_edges.specs.Likes.{IsLike}
use Rattle.rc_router_sets.specs.Made.{IsKnownIfMade, IsMade}
use Rattle.rc_edges.specs.Prepare.{edge_at, end_trees, stops_at}
use Rattle.rc_router_sets.specs.Query.{kinds_of}
use Rattle.rc_edges.specs.Sendings.{IsSending}
use Rattle.rc_router_sets.specs.Sent.{forwarded, hops_at, to_router}
use Rattle.rc_edges.specs.Shares.{IsShare}
use Rattle.rc_router_sets.specs.Steps.{fixed}
use Rattle.rc_edges.specs.Stops.{AreKnown, sets_of}
use Rattle.rc_edges.specs.declared.asked_endings.Stop.{Stop}
use Rattle.rc_router_sets.specs.declared.hop_steps.Part.{Part}
use Rattle.rc_router_sets.specs.declared.hop_steps.Part.TheVariants.{Over, LetOut, Taken, Subnets}
use Rattle.rc_router_sets.specs.declared.router_sets.RouterSets.{RouterSets}
use Rattle.rc_edges.specs.declared.position_sets.Sending.{Sending}
use Rattle.rc_jobs.specs.declared.collected.Collected.{Collected}
use Rattle.rc_bdd.specs.declared.work.SetError.{SetError}
use Rattle.rc_fib.specs.Entry.{Entry}
use Rattle.rc_jobs.specs.Flows.{KnowsFlows, edges_to, endings_of, flows_of, real}
use Rattle.rc_nodes.specs.Seats.{TableView, SeatView, IsSeatOf, Keeps}
use Rattle.rc_places.specs.Places.{position_at}
use Rattle.rc_sets.specs.Regions.{hops_in}
use Rattle.rc_trees.specs.Recipes.{tree}
use Rattle.rc_trees.specs.Trees.{Tree}
use Rattle.rc_moves.specs.Moves.{DataPlane, fib_of, router_of}
use Rattle.rc_jobs.specs.Collecting.{numbers, with_ending}

-- whatever follows where a step is done
pub on_ok : {A E : Type 0} (result : Result A E) (P Q : Type 0) → (P → Q) → OnOk result P → IfOk result (λ _. Q)
on_ok (Ok x) P Q next done = next done
on_ok (Err e) P Q next done = tt

pub on_done : {A E : Type 0} (result : Result A E) (P Q : Type 0) → (P → Q) → OnOk result P → OnOk result Q
on_done (Ok x) P Q next done = next done
on_done (Err e) P Q next done = tt

-- ---- nothing is made yet

unmade : (n k : ℕ) → unwrap_or (slice_get (replicate n no_parts) k) no_parts ≡ no_parts
unmade zero k = refl
unmade (suc n) zero = refl
unmade (suc n) (suc k) = unmade n k

no_part : (p : Part) → part_in no_parts p ≡ None
no_part Over = refl
no_part LetOut = refl
no_part Taken = refl
no_part Subnets = refl

pub nothing_made : (nodes : TableView) (seat : SeatView) (plane : DataPlane) (q : Pos) (made : RouterSets) → IsSeatOf nodes seat → made.hops ≡ hops_at plane q → made.parts.items ≡ replicate (length made.hops) no_parts → made.owned ≡ None → made.forwarded ≡ None → IsMade nodes seat plane q made
nothing_made nodes seat plane q made table hops parts owned none = record {
  table = table;
  hops = hops;
  parts = λ k x p at. subst (λ o. IsKnownIfMade seat o (fixed plane (router_of q) p x)) (sym (ap (λ xs. part_in (parts_of xs k) p) parts ∙ ap (λ s. part_in s p) (unmade (length made.hops) k) ∙ no_part p)) tt;
  owned = subst (λ o. IsKnownIfMade seat o (to_router plane (router_of q))) (sym owned) tt;
  forwarded = subst (λ o. IsKnownIfMade seat o (forwarded plane q)) (sym none) tt;
}

-- and of a router without a table
pub without_table : (nodes : TableView) (seat : SeatView) (plane : DataPlane) (q : Pos) (made : RouterSets) → fib_of plane (router_of q) ≡ [] → IsSeatOf nodes seat → made.hops ≡ [] → made.parts.items ≡ [] → made.owned ≡ None → made.forwarded ≡ None → IsMade nodes seat plane q made
without_table nodes seat plane q made no_fib table hops parts owned none = nothing_made nodes seat plane q made table (hops ∙ ap hops_in (sym no_fib)) (parts ∙ ap (λ hs. replicate (length hs) no_parts) (sym hops)) owned none

pub made_for : (result : Result RouterSets SetError) (plane : DataPlane) (q : Pos) (entries : List Entry) → fib_of plane (router_of q) ≡ entries
    → IfOk result (λ (made : RouterSets). (nodes : TableView) (seat : SeatView) (plane : DataPlane) (q : Pos) → fib_of plane (router_of q) ≡ entries → IsSeatOf nodes seat → IsMade nodes seat plane q made)
    → IfOk result (λ (made : RouterSets). (nodes : TableView) (seat : SeatView) → IsSeatOf nodes seat → IsMade nodes seat plane q made)
made_for (Ok made) plane q entries is all = λ nodes seat table. all nodes seat plane q is table
made_for (Err e) plane q entries is all = tt

-- what is made of a router stays where only the position changes
pub made_again : (nodes : TableView) (seat : SeatView) (plane : DataPlane) (q t : Pos) (made next : RouterSets) → router_of q ≡ router_of t → IsMade nodes seat plane q made → next.hops ≡ made.hops → next.parts.items ≡ made.parts.items → next.owned ≡ made.owned → next.forwarded ≡ None → IsMade nodes seat plane t next
made_again nodes seat plane q t made next same m hops parts owned none = record {
  table = m.table;
  hops = hops ∙ m.hops ∙ ap (λ r. hops_in (fib_of plane r)) same;
  parts = λ k x p at.
      subst (λ r. IsKnownIfMade seat (part_in (parts_of next.parts.items k) p) (fixed plane r p x)) same
      (subst (λ all. IsKnownIfMade seat (part_in (parts_of all k) p) (fixed plane (router_of q) p x)) (sym parts) (m.parts k x p (ap (λ hs. slice_get hs k) (sym hops) ∙ at)));
  owned = subst (λ r. IsKnownIfMade seat next.owned (to_router plane r)) same (subst (λ o. IsKnownIfMade seat o (to_router plane (router_of q))) (sym owned) m.owned);
  forwarded = subst (λ o. IsKnownIfMade seat o (forwarded plane t)) (sym none) tt;
}

pub nothing_shared : (seat : SeatView) (plane : DataPlane) (ends : Ends) (a : ℕ) (share : Collected) → share.into.items ≡ replicate (length (positions plane.network)) [] → share.ends ≡ [] → IsShare seat plane ends a a share
nothing_shared seat plane ends a share into last = record {
  order = omega arith;
  as_many = ap length into ∙ length-replicate (length (positions plane.network)) [];
  rows = record { each = λ t d less. subst (λ fs. KnowsFlows seat fs (real (edges_to (edge_at plane) (numbers a a) t))) (sym (ap (λ xs. slice_index_or xs t d) into ∙ get_or-replicate (length (positions plane.network)) t [] d (let e = ap length into ∙ length-replicate (length (positions plane.network)) [] in omega arith))) (none t) };
  endings = λ these. subst (λ es. KnowsFlows seat (flows_of these es) (real (endings_of (stops_at plane ends these) (numbers a a)))) (sym last) (no_ends these);
}
  where
    empty : numbers a a ≡ []
    empty = ap (range_with_len a) (let e : a - a ≡ 0 = omega arith in e)

    none : (t : ℕ) → KnowsFlows seat [] (real (edges_to (edge_at plane) (numbers a a) t))
    none t = subst (λ ns. KnowsFlows seat [] (real (edges_to (edge_at plane) ns t))) (sym empty) tt

    no_ends : (these : Kind → Bool) → KnowsFlows seat [] (real (endings_of (stops_at plane ends these) (numbers a a)))
    no_ends these = subst (λ ns. KnowsFlows seat [] (real (endings_of (stops_at plane ends these) ns))) (sym empty) tt

-- ---- what goes on from positions that are like each other

module _ (nodes : TableView) (seat : SeatView) (plane : DataPlane) (ends : Ends) (q t : Pos) (like : IsLike plane.network q t) (s : Sending) (is : IsSending nodes seat plane ends q s) where
  asked_like : (ks : List Kind) → end_trees plane q ks ≡ end_trees plane t ks
  asked_like ks = λ n. map (λ k. tree (end_like plane q t like k n)) ks

  pub sending_like : IsSending nodes seat plane ends t s
  sending_like = record {
    made = record {
      table = is.made.table;
      hops = is.made.hops ∙ hops_like plane q t like;
      parts = λ k x p at. subst (λ r. IsKnownIfMade seat (part_in (parts_of s.made.parts.items k) p) (fixed plane r p x)) like.router (is.made.parts k x p at);
      owned = subst (λ r. IsKnownIfMade seat s.made.owned (to_router plane r)) like.router is.made.owned;
      forwarded = subst (IsKnownIfMade seat s.made.forwarded) (forwarded_like plane q t like) is.made.forwarded;
    };
    row = row_like seat s.row (length (positions plane.network)) (λ n. tree (edge plane q (position_at plane.network n))) (λ n. tree (edge plane t (position_at plane.network n))) (λ n less. ap tree (edge_like plane q t like (position_at plane.network n))) is.row;
    stops = λ these. subst (AreKnown seat (sets_of these s.stops.items)) (asked_like (filter these (kinds_of ends))) (is.stops these);
  }

-- what a position sends and the endings at it, made one after the other
module _ (nodes : TableView) (v w : SeatView) (plane : DataPlane) (ends : Ends) (q : Pos) (places : Network) (same : places ≡ plane.network) (old : List Stop) (none : old ≡ []) where
  pub filled : (s : Sending) (result : Result (Unit {0}) SetError) → IsRow v s.row (length (positions places)) (λ t. tree (edge plane q (position_at places t))) → Keeps v w → IfOk result (λ _. IsMade nodes w plane q s.made)
      → OnOk result ((these : Kind → Bool) (done : List Tree) → AreKnown v (sets_of these old) done → AreKnown w (sets_of these s.stops.items) (done ++ end_trees plane q (filter these (kinds_of ends)))) → IfOk result (λ _. IsSending nodes w plane ends q s)
  filled s (Err e) row keeps made stops = tt
  filled s (Ok x) row keeps made stops = record {
    made = made;
    row = row_kept v w keeps s.row (length (positions plane.network)) (λ t. tree (edge plane q (position_at plane.network t))) (subst (λ net. IsRow v s.row (length (positions net)) (λ t. tree (edge plane q (position_at net t)))) same row);
    stops = λ these. stops these [] (subst (λ ss. AreKnown v (sets_of these ss) []) (sym none) tt);
  }

pub sending_kept : (nodes : TableView) (v w : SeatView) (plane : DataPlane) (ends : Ends) (q : Pos) (s : Sending) → IsSending nodes v plane ends q s → IsSeatOf nodes w → Keeps v w → IsSending nodes w plane ends q s
sending_kept nodes v w plane ends q s is table keeps = record {
  made = made_kept nodes plane q s.made v w is.made table keeps;
  row = row_kept v w keeps s.row (length (positions plane.network)) (λ t. tree (edge plane q (position_at plane.network t))) is.row;
  stops = λ these. known-kept v w keeps (sets_of these s.stops.items) (end_trees plane q (filter these (kinds_of ends))) (is.stops these);
}

-- ---- one position more

pub endings-more : (ends : ℕ → List Tree) (a n : ℕ) → a ≤ n → endings_of ends (numbers a (n + 1)) ≡ endings_of ends (numbers a n) ++ endings_of ends (n ∷ [])
endings-more ends a n le = ap (endings_of ends) (numbers-more a n le) ∙ flat-append (λ q. map (λ e. (q, e)) (ends q)) (numbers a n) (n ∷ [])

module _ (nodes : TableView) (seat : SeatView) (plane : DataPlane) (ends : Ends) (from n : ℕ) (before after : Collected) (s : Sending) (share : IsShare seat plane ends from n before) (is : IsSending nodes seat plane ends (position_at plane.network n) s) where
  pub share_more : AreFlushed before.into.items s.row n after.into.items → after.ends ≡ fold (λ es s. with_ending es n s.kind s.set) before.ends s.stops.items → IsShare seat plane ends from (n + 1) after
  share_more flushed put = record {
    order = let le = share.order in omega arith;
    as_many = flushed.as_many ∙ share.as_many;
    rows = flushed_rows seat (edge_at plane) from n share.order before.into.items after.into.items s.row flushed share.rows (subst (λ k. IsRow seat s.row k (edge_at plane n)) (sym share.as_many) is.row);
    endings = λ these.
        let asked : ℕ → List Tree = stops_at plane ends these in
        subst (λ es. KnowsFlows seat (flows_of these es) (real (endings_of asked (numbers from (n + 1))))) (sym put)
        (subst (λ ps. KnowsFlows seat (flows_of these (fold (λ es s. with_ending es n s.kind s.set) before.ends s.stops.items)) (real ps))
        (ap (λ ps. endings_of asked (numbers from n) ++ ps) (asked_there plane ends these n) ∙ sym (endings-more asked from n share.order))
        (stops_put seat these n s.stops.items (asked n) (is.stops these) before.ends (endings_of asked (numbers from n)) (share.endings these)));
  }

  -- each number that a flow is put to has its list
  pub within_share : All (λ t. t < length before.into.items) s.row.touched.items
  within_share = subst (λ k. All (λ t. t < k) s.row.touched.items) (sym share.as_many) is.row.within
