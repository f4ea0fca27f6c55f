-- What a seat knew of rounds it knows for good.
use Rattle.std.specs.Prelude.{ℕ, Bool, List}
use Rattle.rc_nodes.specs.Seats.{TableView, SeatView, Keeps}
use Rattle.rc_nodes.specs.declared.words.Ref.{Ref}
use Rattle.rc_trees.specs.Trees.{Tree}
use Rattle.rc_jobs.specs.Kept.{edges_kept}
use Rattle.rc_jobs.specs.declared.flow.Flow.{Flow}
use Rattle.rc_spread.specs.Known.{KnowsSets, KnowsShare, IsAfter, IsAtHand, MayOnward}

module _ (v w : SeatView) (keeps : Keeps v w) where
  pub sets_kept : {refs : List Ref} {sets : ℕ → Tree} {a : ℕ} → KnowsSets v refs sets a → KnowsSets w refs sets a
  sets_kept k = record { at = λ i d less. keeps _ _ (k.at i d less) }

  pub share_kept : {refs : List Ref} {sets : ℕ → Tree} {a b : ℕ} → KnowsShare v refs sets a b → KnowsShare w refs sets a b
  share_kept k = record { count = k.count; each = sets_kept k.each }

  pub after_kept : {refs : List Ref} {fresh : List Bool} {sets : ℕ → ℕ → Tree} {count k : ℕ} → IsAfter v refs fresh sets count k → IsAfter w refs fresh sets count k
  after_kept a = record { as_many = a.as_many; known = sets_kept a.known; marks = a.marks; stale = a.stale }

  pub at_hand_kept : {earlier later : Type 0} {refs : List Ref} {fresh : List Bool} {sets : ℕ → ℕ → Tree} {count k : ℕ} → (earlier → later) → IsAtHand earlier v refs fresh sets count k → IsAtHand later w refs fresh sets count k
  at_hand_kept stays a = record { ready = stays a.ready; after = after_kept a.after; further = a.further }

  pub onward_kept : {nodes : TableView} {edge : ℕ → ℕ → Tree} {out : List (List Flow)} {everywhere : List Bool} → MayOnward nodes v edge out everywhere → MayOnward nodes w edge out everywhere
  onward_kept m = record { edges = edges_kept v w keeps m.edges; may = m.may; all = m.all }
