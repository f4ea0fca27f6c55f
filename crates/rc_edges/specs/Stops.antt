-- Sets that are known, one after another, and how what is in them may end.
use Rattle.std.specs.Prelude.{Bool, List, [], ◌∷◌, filter, map}
use Rattle.rc_base.specs.declared.ending.Kind.{Kind}
use Rattle.rc_edges.specs.declared.asked_endings.Stop.{Stop}
use Rattle.rc_nodes.specs.Seats.{SeatView, SeatKnows}
use Rattle.rc_nodes.specs.declared.words.Ref.{Ref}
use Rattle.rc_trees.specs.Trees.{Tree}

-- the sets of the endings of some kinds
abbrev pub sets_of : (Kind → Bool) → List Stop → List Ref
sets_of these stops = map (λ (s : Stop). s.set) (filter (λ (s : Stop). these s.kind) stops)

-- each of some sets is known, in order
abbrev pub AreKnown : SeatView → List Ref → List Tree → Type 0
AreKnown seat [] [] = Unit {0}
AreKnown seat [] (t ∷ ts) = ⊥
AreKnown seat (r ∷ rs) [] = ⊥
AreKnown seat (r ∷ rs) (t ∷ ts) = SeatKnows seat r.index t × AreKnown seat rs ts
