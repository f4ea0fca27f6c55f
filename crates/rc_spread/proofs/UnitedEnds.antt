-- What comes to endings, as passages: those that let nothing pass may be left out.
use Rattle.std.proofs.Common.{◌≡◌, sym, subst, ℕ, ◌<◌, Bool, List, length, slice_index_or, All, arith}
use Rattle.std.proofs.lemmas.List.Elements.{All-filter}
use Rattle.rc_jobs.specs.Flows.{KnowsFlows, endings_of, positions, real_endings}
use Rattle.rc_jobs.specs.declared.flow.Flow.{Flow}
use Rattle.rc_nodes.specs.Seats.{TableView, SeatView, IsSeatOf}
use Rattle.rc_nodes.specs.declared.words.Ref.{Ref}
use Rattle.rc_sectors.specs.Sectors.{within}
use Rattle.rc_spread.proofs.GatherLaws.{AreReduced, gathered_without, may_without}
use Rattle.rc_spread.proofs.PositionLaws.{endings_all}
use Rattle.rc_spread.proofs.RealLaws.{all_reduced, all_spared, is_real}
use Rattle.rc_spread.specs.Gathered.{gathered, MayGather}
use Rattle.rc_spread.specs.Known.{KnowsShare}
use Rattle.rc_spread.specs.United.{AreThere, ArePassages, MayUnite}
use Rattle.rc_spread.specs.declared.united.Passage.{Passage}
use Rattle.rc_trees.specs.Trees.{Tree, never, IsReduced}

module _ (nodes : TableView) (seat : SeatView) (refs : List Ref) (flows : List Flow) (ends : ℕ → List Tree) (count : ℕ) (last : ℕ → Tree) (last_reduced : (q : ℕ) → IsReduced (last q)) (mine : IsSeatOf nodes seat) (known : KnowsFlows seat flows (real_endings ends count)) where
  abbrev endings : List (ℕ × Tree)
  endings = endings_of ends (positions count)

  abbrev real_ones : List (ℕ × Tree)
  real_ones = real_endings ends count

  endings_reduced : All (AreReduced last) endings
  endings_reduced = λ i d fits. (last_reduced (slice_index_or endings i d).0, all_reduced nodes seat mine flows endings known i d fits)

  pub real_gathered : gathered last never real_ones ≡ gathered last never endings
  real_gathered = gathered_without last is_real endings never tt endings_reduced (all_spared last never endings)

  module _ (sector : List Bool) where
    pub ends_there : KnowsShare seat refs (λ q. within sector (last q)) 0 count → AreThere seat refs flows sector last real_ones
    ends_there sets = record {
      knows_sets = sets.each;
      knows_flows = known;
      from = (let e = sets.count in All-filter is_real (λ (f : ℕ × Tree). f.0 < length refs) endings (endings_all (λ p. p < length refs) ends count (λ p low. omega arith)));
      reduced = last_reduced;
    }

    pub may_unite_ends : MayGather nodes.may last never endings → (now : SeatView) (passages : List Passage) → ArePassages now passages (length sector) sector last real_ones → (bits : ℕ) → bits ≡ length sector → MayUnite nodes now passages bits
    may_unite_ends may now passages are bits long = subst (MayUnite nodes now passages) (sym long) (record {
      sector = sector;
      sets = last;
      flows = real_ones;
      are = are;
      allowed = may_without last is_real nodes.may endings never tt endings_reduced (all_spared last never endings) may;
    })
