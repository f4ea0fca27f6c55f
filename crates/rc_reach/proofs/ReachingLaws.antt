-- There is one set of the headers that do something, and a seat that knows their tree knows it.
use Rattle.std.proofs.Common.{refl, ◌≡◌, sym, subst, ℕ, Bool, true, false}
use Rattle.std.specs.Prelude.{◌↔◌}
use Rattle.rc_base.specs.Header.{IsHeader}
use Rattle.rc_base.specs.declared.header.Header.{Header}
use Rattle.rc_nodes.proofs.KnownLaws.{known_reduced, one_known}
use Rattle.rc_nodes.specs.Seats.{TableView, SeatView, IsSeatOf, SeatKnows}
use Rattle.rc_reach.specs.Reaching.{IsSetOf}
use Rattle.rc_trees.proofs.HeaderLaws.{one_tree_per_set}
use Rattle.rc_trees.specs.Trees.{Tree, holds}

-- two tests of one fact say the same
same_test : {Fact : Type 0} (a b : Bool) → (a ≡ true) ↔ Fact → (b ≡ true) ↔ Fact → a ≡ b
same_test true b h g = sym (g.1 (h.0 refl))
same_test false true h g = h.1 (g.0 refl)
same_test false false h g = refl

module _ {Does : Header → Type 0} where
  pub one_set : (these those : Tree) → IsSetOf Does these → IsSetOf Does those → these ≡ those
  one_set these those h g = one_tree_per_set these those h.reduced g.reduced (λ header is. same_test (holds these header) (holds those header) (h.exact header is) (g.exact header is))

  pub known_exact : (nodes : TableView) (seat : SeatView) → IsSeatOf nodes seat → (r : ℕ) (set : Tree) → SeatKnows seat r set → ((h : Header) → IsHeader h → (holds set h ≡ true) ↔ Does h) → (t : Tree) → SeatKnows seat r t → IsSetOf Does t
  known_exact nodes seat mine r set known exact t other = record {
    reduced = known_reduced seat mine.sound r t other;
    exact = λ h header. subst (λ u. (holds u h ≡ true) ↔ Does h) (one_known seat mine.sound r set t known other) (exact h header);
  }
