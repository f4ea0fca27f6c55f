-- What a seat knew of flows it knows for good.
use Rattle.std.specs.Prelude.{ℕ, Bool, List, [], ◌∷◌}
use Rattle.rc_base.specs.declared.ending.Kind.{Kind}
use Rattle.rc_jobs.specs.Collecting.{IsCollected}
use Rattle.rc_jobs.specs.Flows.{KnowsFlows, KnowsEdges}
use Rattle.rc_jobs.specs.declared.collected.Collected.{Collected}
use Rattle.rc_jobs.specs.declared.flow.Flow.{Flow}
use Rattle.rc_nodes.specs.Seats.{SeatView, Keeps}
use Rattle.rc_trees.specs.Trees.{Tree}

module _ (v w : SeatView) (keeps : Keeps v w) where
  pub flows_kept : (flows : List Flow) (through : List (ℕ × Tree)) → KnowsFlows v flows through → KnowsFlows w flows through
  flows_kept [] [] known = tt
  flows_kept [] (p ∷ ps) known = absurd known
  flows_kept (f ∷ fs) [] known = absurd known
  flows_kept (f ∷ fs) (p ∷ ps) known = (known.0, keeps f.set.index p.1 known.1, flows_kept fs ps known.2)

  pub edges_kept : {into : List (List Flow)} {edge : ℕ → ℕ → Tree} → KnowsEdges v into edge → KnowsEdges w into edge
  edges_kept k = record { each = λ q d less. flows_kept _ _ (k.each q d less) }

  pub collected_kept : {edge : ℕ → ℕ → Tree} {ends : (Kind → Bool) → ℕ → List Tree} {count a b : ℕ} {flows : Collected} → IsCollected v edge ends count a b flows → IsCollected w edge ends count a b flows
  collected_kept s = record {
    order = s.order;
    as_many = s.as_many;
    rows = record { each = λ t d less. flows_kept _ _ (s.rows.each t d less) };
    endings = λ these. flows_kept _ _ (s.endings these);
  }
