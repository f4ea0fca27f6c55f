-- Where the trees of a query may be made, so may all edges of its plane and the endings asked for.
use Rattle.std.proofs.Common.{refl, ◌≡◌, ℕ, ◌<◌, true, zero, suc, List, [], ◌∷◌, length, inl, inr, get_or, arith}
use Rattle.rc_base.proofs.KeepLaws.{In}
use Rattle.rc_base.specs.Positions.{is_among}
use Rattle.rc_base.specs.declared.ending.Ends.{Ends}
use Rattle.rc_base.specs.declared.ending.Kind.{Kind}
use Rattle.rc_base.specs.declared.position.Pos.{Pos}
use Rattle.rc_base.specs.declared.position.Pos.TheVariants.{Own}
use Rattle.rc_config.specs.Members.{positions}
use Rattle.rc_router_sets.specs.Edges.{edge}
use Rattle.rc_router_sets.specs.Endings.{end}
use Rattle.rc_edges.specs.Prepare.{MayPrepare}
use Rattle.rc_base.specs.Endings.{all_kinds}
use Rattle.rc_router_sets.specs.Query.{kinds_of, query_nodes}
use Rattle.rc_router_sets.proofs.QueryLaws.{may_be_made, result-edge, result-end}
use Rattle.rc_router_sets.proofs.ResultLaws.{every_kind}
use Rattle.rc_places.specs.Places.{position_at}
use Rattle.rc_sets.proofs.LongestLaws.{filter-in}
use Rattle.rc_trees.specs.Trees.{Tree, HasNodes}
use Rattle.rc_moves.specs.Moves.{DataPlane}

pub in-place : {A : Type 0} (xs : List A) (k : ℕ) (d : A) → k < length xs → In (get_or xs k d) xs
in-place [] k d less = absurd (omega arith)
in-place (x ∷ xs) zero d less = inl refl
in-place (x ∷ xs) (suc k) d less = inr (in-place xs k d (omega arith))

module _ (plane : DataPlane) (place : Pos) (ends : Ends) (may : List Tree) (has : HasNodes may (query_nodes plane place ends)) (some : Kind) (asked : is_among ends some ≡ true) where
  among : (k : Kind) → is_among ends k ≡ true → In k (kinds_of ends)
  among k is = filter-in (is_among ends) k all_kinds (every_kind k) is

  there : (p : ℕ) → p < length (positions plane.network) → In (position_at plane.network p) (positions plane.network)
  there p less = in-place (positions plane.network) p (Own 0) less

  pub may_prepare : MayPrepare may plane ends
  may_prepare = record {
    edges = λ p here. record { each = λ t to x one is. has x (may_be_made plane place ends (edge plane (position_at plane.network p) (position_at plane.network t)) (result-edge plane place ends some (among some asked) (position_at plane.network p) (position_at plane.network t) (there p here) (there t to)) x one is) is };
    endings = λ p here. record { each = λ k is x one node. has x (may_be_made plane place ends (end plane (position_at plane.network p) k) (result-end plane place ends (position_at plane.network p) k (there p here) (among k is)) x one node) node };
  }
