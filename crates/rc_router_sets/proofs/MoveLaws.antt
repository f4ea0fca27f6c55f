-- The sets of a position and its list of moves.
use Rattle.std.proofs.Common.{refl, ◌≡◌, ap, sym, ◌∙◌, Bool, true, List, Contains}
use Rattle.std.specs.Prelude.{◌↔◌}
use Rattle.std.specs.Bool.{Decides, one_answer}
use Rattle.std.specs.Cmp.{IsEquivalence}
use Rattle.std.specs.List.{list_any}
use Rattle.std.proofs.lemmas.Map.Views.{Contains-from_any, list_any-from_Contains}
use Rattle.rc_base.specs.declared.ending.Kind.{Kind}
use Rattle.rc_base.specs.declared.ending.Kind.TheVariants.{DeniedIn, Accepted, NoRoute, NullRouted, DeniedOut, Unreachable, Exits, Delivered}
use Rattle.rc_base.specs.declared.header.Header.{Header}
use Rattle.rc_base.specs.declared.position.Pos.{Pos}
use Rattle.rc_trees.specs.Recipes.{has}
use Rattle.rc_base.specs.Header.{IsHeader}
use Rattle.rc_moves.proofs.PositionLaws.{same_position-Decides}
use Rattle.rc_moves.specs.Moves.{DataPlane, moves}
use Rattle.rc_moves.specs.declared.walk.Move.{Move}
use Rattle.rc_moves.specs.declared.walk.Move.TheVariants.{Next, End}
use Rattle.rc_router_sets.specs.Edges.{edge}
use Rattle.rc_router_sets.specs.Endings.{end}
use Rattle.rc_router_sets.specs.MoveTests.{same_kind, same_move}
use Rattle.rc_router_sets.specs.Planes.{IsPlane}
use Rattle.rc_router_sets.proofs.EdgeLaws.{has-edge}
use Rattle.rc_router_sets.proofs.EndingLaws.{has-end}

same_kind-Decides : (j k : Kind) → Decides (same_kind j k) (j ≡ k)
same_kind-Decides DeniedIn DeniedIn = (λ _. refl, λ _. refl)
same_kind-Decides Accepted Accepted = (λ _. refl, λ _. refl)
same_kind-Decides NoRoute NoRoute = (λ _. refl, λ _. refl)
same_kind-Decides NullRouted NullRouted = (λ _. refl, λ _. refl)
same_kind-Decides DeniedOut DeniedOut = (λ _. refl, λ _. refl)
same_kind-Decides Unreachable Unreachable = (λ _. refl, λ _. refl)
same_kind-Decides Exits Exits = (λ _. refl, λ _. refl)
same_kind-Decides Delivered Delivered = (λ _. refl, λ _. refl)
same_kind-Decides j k = (λ e. absurd (cc), λ e. absurd (cc))

same_move-Decides : (m n : Move) → Decides (same_move m n) (m ≡ n)
same_move-Decides (Next p) (Next q) = let d = same_position-Decides p q in (λ e. ap Next (d.0 e), λ e. d.1 (let x : p ≡ q = cc in x))
same_move-Decides (Next p) (End k) = (λ e. absurd (cc), λ e. absurd (cc))
same_move-Decides (End j) (Next q) = (λ e. absurd (cc), λ e. absurd (cc))
same_move-Decides (End j) (End k) = let d = same_kind-Decides j k in (λ e. ap End (d.0 e), λ e. d.1 (let x : j ≡ k = cc in x))

itself : (b : Bool) → Decides b (b ≡ true)
itself b = (λ e. e, λ e. e)

pub same_move-laws : IsEquivalence same_move
same_move-laws = record {
  refl = λ m. (same_move-Decides m m).1 refl;
  symm = λ m n. one_answer _ _ (λ e. (same_move-Decides n m).1 (sym ((same_move-Decides m n).0 e)), λ e. (same_move-Decides m n).1 (sym ((same_move-Decides n m).0 e))) (itself (same_move n m));
  congr = λ m n o e. ap (λ x. same_move x o) ((same_move-Decides m n).0 e);
}

among : (m : Move) (b : Bool) (ms : List Move) → b ≡ list_any (same_move m) ms → (b ≡ true) ↔ Contains ms m
among m b ms e =
    (λ yes_b. Contains-from_any (λ x y. (same_move-Decides x y).0) m ms (sym e ∙ yes_b), λ there. e ∙ list_any-from_Contains same_move-laws m ms there)

-- an edge holds the headers that have such a move
pub edge_is_move : (plane : DataPlane) (h : Header) (q t : Pos) → IsPlane plane → IsHeader h → (has (edge plane q t) h ≡ true) ↔ Contains (moves plane h q) (Next t)
edge_is_move plane h q t ok header = among (Next t) (has (edge plane q t) h) (moves plane h q) (has-edge plane ok h header q t)

-- and an ending's set those that may end so
pub end_is_move : (plane : DataPlane) (h : Header) (q : Pos) (k : Kind) → IsPlane plane → IsHeader h → (has (end plane q k) h ≡ true) ↔ Contains (moves plane h q) (End k)
end_is_move plane h q k ok header = among (End k) (has (end plane q k) h) (moves plane h q) (has-end plane ok h header q k)
