-- The graph of an area turned round, over which it is found what is left on the way to each router.
use Rattle.std.specs.Prelude.{◌≡◌, ℕ, ◌<◌, ◌≤◌, ◌⊎◌, true, false, List, [], Option, None, All, Contains, length, take, drop}
use Rattle.std.specs.List.{slice_index_or}
use Rattle.rc_spf.specs.declared.graph.Edge.{Edge}
use Rattle.rc_spf.specs.Steps.{AreDearest, AreGroups}
use Rattle.rc_spf.specs.Weights.{first_cost}
use Rattle.rc_link_state.specs.declared.columns.Column.{Column}
use Rattle.rc_link_state.specs.declared.columns.Inward.{Inward}
use Rattle.rc_link_state.specs.Columns.{AreSmall}
use Rattle.rc_link_state.specs.Laws.{IsCostOver}

-- edges between nodes, of which none costs more than 65,535 and those into networks cost nothing
pub record IsReady (g : Inward) : Type 0 where
  pub few : g.routers ≤ 512
  pub routers : g.routers ≤ g.graph.nodes
  pub ends : All (λ (e : Edge). (e.from < g.graph.nodes) × (e.to < g.graph.nodes)) g.graph.edges.items
  pub dearest : AreDearest g.graph.edges.items (first_cost g.routers 65535)
  pub groups : AreGroups g.graph g.groups
  pub wanted : length g.wanted.items ≡ g.routers

-- no edge leads on from s
pub record IsLeftByNone (edges : List Edge) (s : ℕ) : Type 0 where
  pub none : (e : Edge) → Contains edges e → ¬ (e.from ≡ s)

-- the least costs from s, of the first n nodes and of those behind them
pub record AreParted (n : ℕ) (edges : List Edge) (s : ℕ) (c : Column) : Type 0 where
  pub costs : List (Option ℕ)
  pub least : (k : ℕ) → IsCostOver edges s k (slice_index_or costs k None)
  pub routers : c.costs ≡ take n costs
  pub networks : c.left ≡ drop n costs

-- what is left on the way to s: nothing is told where no edge leads there
abbrev pub IsColumn : ℕ → List Edge → ℕ → Column → Type 0
IsColumn n edges s c = (IsLeftByNone edges s × (c.costs ≡ [])) ⊎ AreParted n edges s c

abbrev pub IsWanted : Inward → ℕ → Type 0
IsWanted g s = slice_index_or g.wanted.items s false ≡ true

-- where it is wanted no edge leads there
pub record IsOut (g : Inward) (s : ℕ) : Type 0 where
  pub none : IsWanted g s → IsLeftByNone g.graph.edges.items s

-- it is what is left to s, where that is wanted
pub record IsMade (g : Inward) (s : ℕ) (c : Column) : Type 0 where
  pub small : AreSmall c.costs
  pub is : IsWanted g s → IsColumn g.routers g.graph.edges.items s c

-- they are so of each router
pub record AreColumns (g : Inward) (columns : List Column) : Type 0 where
  pub len : length columns ≡ g.routers
  pub each : (s : ℕ) (d : Column) → s < g.routers → IsMade g s (slice_index_or columns s d)
