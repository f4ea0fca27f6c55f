-- What stands at first, what is known for good, and what the result says.
use Rattle.std.proofs.Common.{◌≡◌, ap, ◌∙◌, ℕ, ◌<◌, Bool, cond, List, length, Result, Ok, Err, IfErr, arith}
use Rattle.std.specs.Prelude.{◌==◌}
use Rattle.std.specs.Set.{distinct_count}
use Rattle.rc_base.specs.declared.ending.Ends.{Ends}
use Rattle.rc_base.specs.declared.ending.Kind.{Kind}
use Rattle.rc_base.specs.declared.position.Pos.{Pos}
use Rattle.rc_bdd.specs.Work.{IsCause}
use Rattle.rc_bdd.specs.declared.work.SetError.{SetError}
use Rattle.rc_bdd.specs.declared.work.SetError.TheVariants.{Full}
use Rattle.rc_config.specs.Lawful.{IsPosition}
use Rattle.rc_config.specs.Members.{positions}
use Rattle.rc_router_sets.proofs.ResultLaws.{result_is_reaching}
use Rattle.rc_router_sets.specs.Planes.{IsPlane}
use Rattle.rc_router_sets.specs.Query.{reaching}
use Rattle.rc_jobs.specs.Flows.{IsPrepared}
use Rattle.rc_jobs.specs.declared.flow.Prepared.{Prepared}
use Rattle.rc_nodes.proofs.CountLaws.{more_than_slots}
use Rattle.rc_nodes.specs.Seats.{TableView, SeatView, IsSeatOf, SeatKnows, Keeps}
use Rattle.rc_places.proofs.PlaceLaws.{number_there}
use Rattle.rc_places.specs.Places.{number_of, position_at}
use Rattle.rc_reach.proofs.JoinLaws.{reached-first}
use Rattle.rc_reach.proofs.ReachingLaws.{known_exact}
use Rattle.rc_jobs.specs.Kept.{edges_kept, flows_kept}
use Rattle.rc_reach.specs.Reaching.{IsReachingSet}
use Rattle.rc_reach.specs.Rounds.{reached_at}
use Rattle.rc_trees.specs.Recipes.{tree}
use Rattle.rc_trees.specs.Trees.{Tree, always, never, same_tree}
use Rattle.rc_moves.specs.Moves.{DataPlane}

-- before the first round all headers are at the place of the number
pub place_first : (plane : DataPlane) (place : Pos) → IsPosition plane.network place → (n m : ℕ) → n ≡ number_of plane.network place → m ≡ length (positions plane.network) → (q : ℕ) → q < m → reached_at plane place 0 q ≡ cond (n == q) always never
place_first plane place there n m is many q less =
    let below = (number_there plane.network place there).0 in
    reached-first plane place n (omega arith) (ap (position_at plane.network) is ∙ (number_there plane.network place there).1) q (omega arith)

-- what was known of the sets of a query is so for good
pub prepared_kept : (v w : SeatView) → Keeps v w → {edge : ℕ → ℕ → Tree} {ends : (Kind → Bool) → ℕ → List Tree} {count : ℕ} {prepared : Prepared} → IsPrepared v edge ends count prepared → IsPrepared w edge ends count prepared
prepared_kept v w keeps p = record { as_many = p.as_many; edges = edges_kept v w keeps p.edges; endings = λ these. flows_kept v w keeps _ _ (p.endings these) }

-- a known result says what reaches
pub known_reaches : (plane : DataPlane) → IsPlane plane → (place : Pos) → IsPosition plane.network place → (ends : Ends) (nodes : TableView) (seat : SeatView) → IsSeatOf nodes seat → (r : ℕ) → SeatKnows seat r (tree (reaching plane place ends)) → (t : Tree) → SeatKnows seat r t → IsReachingSet plane place ends t
known_reaches plane ok place there ends nodes seat mine r known = known_exact nodes seat mine r (tree (reaching plane place ends)) known (λ h header. result_is_reaching plane ok h header place there ends)

-- where the table is full, more trees may be made than it has slots
pub full_means_more : {A : Type 0} (r : Result A SetError) (nodes : TableView) (seat : SeatView) → IfErr r (IsCause nodes seat) → IfErr r (λ e. e ≡ Full → nodes.capacity < distinct_count same_tree nodes.may)
full_means_more (Ok a) nodes seat cause = tt
full_means_more (Err e) nodes seat cause = λ is. let full = cause is in more_than_slots nodes seat full.0 full.1
