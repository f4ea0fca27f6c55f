-- A tree over turned edges gives the costs to its root.
use Rattle.std.proofs.Common.{refl, ◌≡◌, ap, sym, ◌∙◌, subst, ℕ, ◌+◌, ◌<◌, ◌≤◌, inl, inr, Bool, true, false, cond, nat_lt, List, [], ◌∷◌, ◌++◌, map, Option, Some, None, Contains, arith}
use Rattle.std.proofs.lemmas.Bool.Decides.{nat_tests}
use Rattle.std.specs.List.{slice_index_or}
use Rattle.rc_spf.specs.declared.graph.Edge.{Edge}
use Rattle.rc_spf.specs.Walks as W
use Rattle.rc_link_state.specs.Towards.{IsCostFrom}
use Rattle.rc_link_state.specs.Walks.{IsWalk}
use Rattle.rc_link_state.specs.declared.step.Step.{Step}
use Rattle.rc_link_state.specs.Columns.{router_cost, ColumnsAreThose}
use Rattle.rc_link_state.specs.Graph.{AreOf, edges_by, turned}
use Rattle.rc_link_state.specs.Laws.{IsCostOver}
use Rattle.rc_link_state.specs.Transits.{AreStepsBy}
use Rattle.rc_link_state.specs.declared.transit.Transit.{Transit}
use Rattle.rc_link_state.proofs.AreaLaws.{least_costs, costs_behind}
use Rattle.rc_link_state.proofs.Members.{In, contains_in, in_contains, in_map}

-- ---- an edge turned round twice is the edge

turned_in : (es : List Edge) (e : Edge) → In e (map turned es) → In (turned e) es
turned_in [] e there = absurd there
turned_in (x ∷ es) e (inl same) = inl (ap turned same)
turned_in (x ∷ es) e (inr there) = inr (turned_in es e there)

pub turned_there : (es : List Edge) (e : Edge) → Contains es e → Contains (map turned es) (turned e)
turned_there es e has = in_contains (map turned es) (turned e) (in_map turned es e (contains_in es e has))

pub turned_back : (es : List Edge) (e : Edge) → Contains (map turned es) e → Contains es (turned e)
turned_back es e has = in_contains es (turned e) (turned_in es e (contains_in (map turned es) e has))

-- ---- a walk the other way

back : List Edge → List Edge
back [] = []
back (e ∷ walk) = back walk ++ turned e ∷ []

with_edge : (es : List Edge) (a b : ℕ) (walk : List Edge) (e : Edge) → W.IsWalk es a walk b → Contains es e → e.from ≡ b → W.IsWalk es a (walk ++ e ∷ []) e.to
with_edge es a b [] e is has from = (has, from ∙ sym is, refl)
with_edge es a b (f ∷ walk) e is has from = (is.0, is.1, with_edge es f.to b walk e is.2 has from)

edge_cost : (walk : List Edge) (e : Edge) → W.walk_cost (walk ++ e ∷ []) ≡ W.walk_cost walk + e.cost
edge_cost [] e = omega arith
edge_cost (f ∷ walk) e = omega (arith, edge_cost walk e)

back_cost : (walk : List Edge) → W.walk_cost (back walk) ≡ W.walk_cost walk
unfolding back
back_cost [] = refl
back_cost (e ∷ walk) = omega (arith, edge_cost (back walk) (turned e), back_cost walk)

back_walk : (es fs : List Edge) → ((e : Edge) → Contains es e → Contains fs (turned e)) → (a b : ℕ) (walk : List Edge) → W.IsWalk es a walk b → W.IsWalk fs b (back walk) a
unfolding back
back_walk es fs there a b [] is = sym is
back_walk es fs there a b (e ∷ walk) is = subst (W.IsWalk fs b (back walk ++ turned e ∷ [])) is.1 (with_edge fs b e.to (back walk) (turned e) (back_walk es fs there e.to b walk is.2) (there e is.0) refl)

cost_back : (es : List Edge) (a b : ℕ) (cost : Option ℕ) → IsCostOver (map turned es) a b cost → IsCostOver es b a cost
cost_back es a b None none = λ walk is. none (back walk) (back_walk es (map turned es) (turned_there es) b a walk is)
cost_back es a b (Some c) (walk, least, total) = (
  back walk,
  record {
    is_walk = back_walk (map turned es) es (turned_back es) a b walk least.is_walk;
    least = λ other is.
        (let le : W.walk_cost walk ≤ W.walk_cost (back other) = least.least (back other) (back_walk es (map turned es) (turned_there es) b a other is) in
        omega (arith, le, back_cost walk, back_cost other));
  },
  back_cost walk ∙ total,
)

-- ---- no walk leads from what is no router

leaves_some : (n area : ℕ) (steps listed : List Step) (transits : List Transit) → AreOf n listed transits → AreStepsBy listed transits steps → (x : Step) → Contains steps x → x.out.router < n
leaves_some n area steps listed transits fit by x has = elim ((by x).0 has) [
  | inl there ↦ fit.leave x there
  | inr (t, there, a) ↦ subst (λ r. r < n) (ap (λ (y : Step). y.out.router) a.step) (fit.attach t a.source there a.has_source)
]

nowhere_from : (n area : ℕ) (steps : List Step) (s : ℕ) → s < n → ((x : Step) → Contains steps x → x.out.router < n) → (r : ℕ) → n ≤ r → (walk : List Step) → IsWalk steps area r walk s → ⊥
nowhere_from n area steps s lt leaves r beyond [] is = absurd (omega (arith, lt, beyond, is))
nowhere_from n area steps s lt leaves r beyond (x ∷ walk) is = absurd (let first : x.out.router < n = leaves x is.0 in let from : x.out.router ≡ r = is.2 in omega (arith, first, from, beyond))

pub columns_are : ColumnsAreThose
columns_are n area steps listed transits fit by s lt costs over = (
  λ r. from r (nat_lt r n) refl,
  λ k t at. costs_behind n area steps listed transits fit by s (router_cost n costs) lt (λ r in_range. from r (nat_lt r n) refl) k t at (slice_index_or costs (n + k) None)
      (cost_back (edges_by n area listed transits) s (n + k) (slice_index_or costs (n + k) None) (over (n + k))),
)
  where
    from : (r : ℕ) (b : Bool) → nat_lt r n ≡ b → IsCostFrom steps area s r (cond b (slice_index_or costs r None) None)
    from r true is = least_costs n area steps listed transits fit by r s (grind (arith, nat_tests)) lt (slice_index_or costs r None)
        (cost_back (edges_by n area listed transits) s r (slice_index_or costs r None) (over r))
    from r false is = nowhere_from n area steps s lt (leaves_some n area steps listed transits fit by) r (grind (arith, nat_tests))
