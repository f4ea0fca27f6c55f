-- What arrives by some walk and fails by another, as a set.
use Rattle.std.proofs.Common.{refl, ◌≡◌, sym, ◌∙◌, subst, ℕ, ◌<◌, true, List, length}
use Rattle.std.specs.Prelude.{◌↔◌}
use Rattle.std.proofs.lemmas.Bool.{and_from, and_parts}
use Rattle.rc_base.specs.Header.{IsHeader}
use Rattle.rc_base.specs.declared.ending.Ends.{Ends}
use Rattle.rc_base.specs.declared.ending.Kind.{Kind}
use Rattle.rc_base.specs.declared.ending.Kind.TheVariants.{DeniedIn, Accepted, NoRoute, NullRouted, DeniedOut, Unreachable, Exits, Delivered}
use Rattle.rc_base.specs.Positions.{is_among}
use Rattle.rc_base.specs.declared.header.Header.{Header}
use Rattle.rc_base.specs.declared.position.Pos.{Pos}
use Rattle.rc_reach.proofs.UseLaws.{edge_may, has-different}
use Rattle.rc_reach.specs.Loops.{loop_nodes, looping}
use Rattle.rc_moves.specs.Walks.{IsLooping}
use Rattle.rc_reach.proofs.LoopLaws.{looping_is_loop}
use Rattle.rc_reach.proofs.ReachingLaws.{known_exact}
use Rattle.rc_reach.specs.Reaching.{IsSetOf}
use Rattle.rc_config.specs.Lawful.{IsPosition}
use Rattle.rc_config.specs.Members.{positions}
use Rattle.rc_edges.proofs.PrepareLaws.{in-place, may_prepare}
use Rattle.rc_router_sets.specs.Endings.{end}
use Rattle.rc_router_sets.proofs.ResultLaws.{result_is_reaching}
use Rattle.rc_router_sets.specs.Planes.{IsPlane}
use Rattle.rc_edges.specs.Prepare.{MayPrepare, edge_at, ends_at, stops_at}
use Rattle.rc_jobs.specs.Flows.{IsPrepared, KnowsFlows, flows_of, real_endings}
use Rattle.rc_jobs.specs.Kept.{flows_kept}
use Rattle.rc_jobs.specs.declared.flow.Prepared.{Prepared}
use Rattle.rc_reach.proofs.AskedLaws.{all_among, asked_among}
use Rattle.rc_router_sets.specs.Query.{query_nodes, reaching}
use Rattle.rc_nodes.specs.Seats.{TableView, SeatView, IsSeatOf, Keeps, SeatKnows}
use Rattle.rc_places.specs.Places.{position_at}
use Rattle.rc_trees.proofs.NodeLaws.{has_recipe}
use Rattle.rc_trees.proofs.PartLaws.{and-first, and-second, nodes_of_parts}
use Rattle.rc_trees.proofs.RecipeLaws.{has-and}
use Rattle.rc_trees.specs.Combine as trees
use Rattle.rc_trees.specs.Recipes.{Uses, has, nodes, parts, tree}
use Rattle.rc_trees.specs.Trees.{Tree, HasNodes, HasNodesOf}
use Rattle.rc_moves.specs.Moves.{DataPlane}
use Rattle.rc_base.specs.declared.position.Pos.TheVariants.{Own}
use Rattle.rc_reach.specs.Uneven.{IsUneven, all_ends, arrivals, failures, no_ends, uneven, uneven_nodes}

-- ---- what may be made for both

module _ (plane : DataPlane) (place : Pos) (may : List Tree) (has_all : HasNodes may (uneven_nodes plane place)) where
  all_parts : HasNodes may (parts (uneven plane place))
  unfolding uneven_nodes
  all_parts x there is = has_all x (nodes_of_parts (uneven plane place) x there is) is

  used : (ends : Ends) → Uses (uneven plane place) (reaching plane place ends) → HasNodes may (query_nodes plane place ends)
  unfolding query_nodes nodes
  used ends uses x there is = all_parts x (uses x (has-different (parts (reaching plane place ends)) x there)) is

  pub arrivals_may : HasNodes may (query_nodes plane place arrivals)
  unfolding uneven
  arrivals_may = used arrivals (and-first (reaching plane place arrivals) (reaching plane place failures))

  pub failures_may : HasNodes may (query_nodes plane place failures)
  unfolding uneven
  failures_may = used failures (and-second (reaching plane place arrivals) (reaching plane place failures))

  pub both_may : HasNodesOf may (trees.and (tree (reaching plane place arrivals)) (tree (reaching plane place failures)))
  unfolding uneven
  both_may = has_recipe may (uneven plane place) all_parts

-- the tree of both
pub uneven-tree : (plane : DataPlane) (place : Pos) → tree (uneven plane place) ≡ trees.and (tree (reaching plane place arrivals)) (tree (reaching plane place failures))
unfolding uneven
uneven-tree plane place = λ i. trees.and (tree (reaching plane place arrivals)) (tree (reaching plane place failures))

-- ---- what the results say

module _ (plane : DataPlane) (ok : IsPlane plane) (h : Header) (header : IsHeader h) (place : Pos) (there : IsPosition plane.network place) where
  pub uneven_is : (has (uneven plane place) h ≡ true) ↔ IsUneven plane h place
  unfolding uneven
  uneven_is = (
    (λ is.
        let both = and_parts (has (reaching plane place arrivals) h) (has (reaching plane place failures) h) (sym (has-and h (reaching plane place arrivals) (reaching plane place failures)) ∙ is) in
        record { arrives = (result_is_reaching plane ok h header place there arrivals).0 both.0; fails = (result_is_reaching plane ok h header place there failures).0 both.1 }),
    (λ u.
        has-and h (reaching plane place arrivals) (reaching plane place failures)
        ∙ and_from _ _ ((result_is_reaching plane ok h header place there arrivals).1 u.arrives) ((result_is_reaching plane ok h header place there failures).1 u.fails)),
  )

module _ (plane : DataPlane) (ok : IsPlane plane) (place : Pos) (there : IsPosition plane.network place) (nodes : TableView) (seat : SeatView) (mine : IsSeatOf nodes seat) (r : ℕ) where
  pub known_uneven : SeatKnows seat r (tree (uneven plane place)) → (t : Tree) → SeatKnows seat r t → IsSetOf (λ h. IsUneven plane h place) t
  known_uneven known = known_exact nodes seat mine r (tree (uneven plane place)) known (λ h header. uneven_is plane ok h header place there)

  pub known_loops : SeatKnows seat r (tree (looping plane place)) → (t : Tree) → SeatKnows seat r t → IsSetOf (λ h. IsLooping plane h place) t
  known_loops known = known_exact nodes seat mine r (tree (looping plane place)) known (λ h header. looping_is_loop plane ok h header place there)

-- ---- every ending may be prepared, and then those of some kinds are known

module _ (plane : DataPlane) (place : Pos) (may : List Tree) (has_all : HasNodes may (uneven_nodes plane place)) where
  arrive : MayPrepare may plane arrivals
  arrive = may_prepare plane place arrivals may (arrivals_may plane place may has_all) Accepted refl

  fail : MayPrepare may plane failures
  fail = may_prepare plane place failures may (failures_may plane place may has_all) DeniedIn refl

  any_end : (p : ℕ) → p < length (positions plane.network) → (k : Kind) → HasNodes may (parts (end plane (position_at plane.network p) k))
  any_end p here DeniedIn = (fail.endings p here).each DeniedIn refl
  any_end p here Accepted = (arrive.endings p here).each Accepted refl
  any_end p here NoRoute = (fail.endings p here).each NoRoute refl
  any_end p here NullRouted = (fail.endings p here).each NullRouted refl
  any_end p here DeniedOut = (fail.endings p here).each DeniedOut refl
  any_end p here Unreachable = (fail.endings p here).each Unreachable refl
  any_end p here Exits = (fail.endings p here).each Exits refl
  any_end p here Delivered = (arrive.endings p here).each Delivered refl

  pub may_prepare_all : MayPrepare may plane all_ends
  may_prepare_all = record { edges = arrive.edges; endings = λ p here. record { each = λ k is. any_end p here k } }

pub ended_so : (plane : DataPlane) (v w : SeatView) → Keeps v w → (all : Ends) → all ≡ all_ends → (count : ℕ) (prepared : Prepared) → IsPrepared v (edge_at plane) (stops_at plane all) count prepared → (few : Ends) → KnowsFlows w (flows_of (is_among few) prepared.ends) (real_endings (ends_at plane few) count)
ended_so plane v w keeps all every count prepared p few =
    let known : KnowsFlows v (flows_of (is_among few) prepared.ends) (real_endings (stops_at plane all_ends (is_among few)) count) = subst (λ e. KnowsFlows v (flows_of (is_among few) prepared.ends) (real_endings (stops_at plane e (is_among few)) count)) every (p.endings (is_among few)) in
    flows_kept v w keeps _ _ (subst (λ (ends : ℕ → List Tree). KnowsFlows v (flows_of (is_among few) prepared.ends) (real_endings ends count)) (asked_among plane few all_ends (all_among few)) known)

-- ---- where what loops may be made, so may all edges of the plane, and no ending is asked for

none_asked : (k : Kind) → is_among no_ends k ≡ true → ⊥
none_asked DeniedIn e = absurd (cc)
none_asked Accepted e = absurd (cc)
none_asked NoRoute e = absurd (cc)
none_asked NullRouted e = absurd (cc)
none_asked DeniedOut e = absurd (cc)
none_asked Unreachable e = absurd (cc)
none_asked Exits e = absurd (cc)
none_asked Delivered e = absurd (cc)

pub may_prepare_loops : (plane : DataPlane) (may : List Tree) → HasNodes may (loop_nodes plane) → MayPrepare may plane no_ends
may_prepare_loops plane may has_all = record {
  edges = λ p here. record { each = λ t to. edge_may plane may has_all (position_at plane.network p) (position_at plane.network t) (in-place (positions plane.network) p (Own 0) here) (in-place (positions plane.network) t (Own 0) to) };
  endings = λ p here. record { each = λ k is. absurd (none_asked k is) };
}
