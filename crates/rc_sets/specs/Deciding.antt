-- What is known of the lines of an access list that were looked at.
use Rattle.std.specs.Prelude.{◌≡◌, ℕ, ◌++◌, Bool, true, ◌&&◌, List, [], ◌∷◌}
use Rattle.rc_base.specs.declared.header.Header.{Header}
use Rattle.rc_config.specs.declared.access_list.AccessListLine.{AccessListLine}
use Rattle.rc_filter.specs.Verdict.{matches_address, matches_protocol}
use Rattle.rc_nodes.specs.Seats.{IsKnown, SeatView, SeatKnows}
use Rattle.rc_trees.specs.Recipes.{tree}
use Rattle.rc_sets.specs.AccessLists.{line_set}
use Rattle.rc_sets.specs.IdleLines.{decided, seen}
use Rattle.rc_sets.specs.declared.deciding.Decided.{Decided}

-- this stands for a line, and the seat knows what it matches, and what it decides with these lines before it
pub record IsDecided (seat : SeatView) (before : List AccessListLine) (l : AccessListLine) (one : Decided) : Type 0 where
  pub sequence : one.sequence ≡ l.sequence
  pub protocol : one.protocol ≡ l.protocol
  pub source : one.source ≡ l.source
  pub destination : one.destination ≡ l.destination
  pub matched : SeatKnows seat one.matched.index (tree (line_set l))
  pub own : SeatKnows seat one.own.index (tree (decided before l))

-- each stands for the line at its place, with others before them
abbrev pub AreDecided : SeatView → List AccessListLine → List AccessListLine → List Decided → Type 0
AreDecided seat before [] [] = Unit {0}
AreDecided seat before [] (d ∷ ds) = ⊥
AreDecided seat before (l ∷ ls) [] = ⊥
AreDecided seat before (l ∷ ls) (d ∷ ds) = IsDecided seat before l d × AreDecided seat (before ++ l ∷ []) ls ds

-- a header passes a line's tests of protocol and addresses
abbrev pub passes_addresses : Decided → Header → Bool
passes_addresses one h = matches_protocol one.protocol h.proto && matches_address one.source h.src && matches_address one.destination h.dst

-- no header passes those of both
abbrev pub AreApart : Decided → Decided → Type 0
AreApart one other = (h : Header) → passes_addresses one h ≡ true → passes_addresses other h ≡ true → ⊥

-- the seat knows both sets
abbrev pub KnowsDecided : SeatView → Decided → Type 0
KnowsDecided seat one = IsKnown seat one.matched.index × IsKnown seat one.own.index

-- the lines so far: the set of all but the last one, and that of the last; both are empty where there is none yet
pub data IsSeen (seat : SeatView) : List AccessListLine → ℕ → ℕ → Type 0 where
  none_yet : {r last : ℕ} → r ≡ 0 → last ≡ 0 → IsSeen seat [] r last
  all_but_last : {r last : ℕ} (lines : List AccessListLine) (l : AccessListLine) → SeatKnows seat r (tree (seen lines)) → SeatKnows seat last (tree (line_set l)) → IsSeen seat (lines ++ l ∷ []) r last
