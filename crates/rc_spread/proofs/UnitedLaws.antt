-- What comes through passages goes by sides: those of a sector's halves are the sides of the sector's, and all trees are among those of
-- gathering all of it.
use Rattle.std.proofs.Common.{refl, ◌≡◌, ap, sym, ◌∙◌, subst, ℕ, ◌+◌, ◌<◌, ◌≤◌, Bool, true, false, ◌&&◌, cond, List, [], ◌∷◌, ◌++◌, length, map, slice_index_or, All, arith}
use Rattle.std.proofs.lemmas.List.Elements.{All-filter, All-map}
use Rattle.rc_base.specs.Header.{bit_count}
use Rattle.rc_bdd.specs.Work.{MayBranch, side}
use Rattle.rc_jobs.specs.Flows.{is_something}
use Rattle.rc_nodes.proofs.KnownLaws.{one_known}
use Rattle.rc_nodes.specs.Seats.{TableView, SeatView, IsSeatOf, Keeps, SeatKnows}
use Rattle.rc_sectors.proofs.CutLaws.{one_longer}
use Rattle.rc_sectors.proofs.SectorLaws.{within_from-more, within_from-never, within_from-reduced, within_from-top}
use Rattle.rc_sectors.proofs.TogetherLaws.{known_joined, may_join}
use Rattle.rc_sectors.specs.Sectors.{within, flows_within}
use Rattle.rc_spread.proofs.GatherLaws.{AreReduced, IsSpared, gathered_reduced, gathered_without, may_without, nothing_passes, nothing_sent, passed}
use Rattle.rc_spread.proofs.PassageLaws.{as_many_passages, holds_both, knows_set, knows_through, passages_kept, second_none}
use Rattle.rc_spread.proofs.RealLaws.{nothing_is}
use Rattle.rc_spread.proofs.SectorGather.{in_sector, may_within, within-gathered}
use Rattle.rc_spread.specs.Gathered.{gathered, IsInside, MayGather}
use Rattle.rc_spread.specs.United.{passing, ArePassages, AreSidesOf, KnowsPassages, MayUnite, MayUniteInTurn, TestsFrom, sided, flow_sided}
use Rattle.rc_spread.specs.declared.united.Passage.{Passage}
use Rattle.rc_trees.specs.Combine.{and, joined, or}
use Rattle.rc_trees.specs.Trees.{Tree, never, always, node, top, HasNodesOf, IsReduced}

-- ---- what may come through, at the sides

-- nothing has nothing at its sides
side_something : (high : Bool) (bit : ℕ) (t : Tree) → is_something t ≡ false → is_something (side high bit t) ≡ false
side_something high bit never e = by high
  where
    by : (b : Bool) → is_something (side b bit never) ≡ false
    by true = refl
    by false = refl
side_something high bit always e = absurd (cc)
side_something high bit (node v l h) e = absurd (cc)

module _ (high : Bool) (bit : ℕ) (sets : ℕ → Tree) where
  left_out : (a b : Bool) (f : ℕ × Tree) → is_something (sets f.0) ≡ a → is_something f.1 ≡ b → (a && b) ≡ false → holds_both (sided high bit sets) (flow_sided high bit f) ≡ false
  left_out false b f es et none = ap (λ x. x && is_something (side high bit f.1)) (side_something high bit (sets f.0) es)
  left_out true false f es et none = ap (λ x. is_something (side high bit (sets f.0)) && x) (side_something high bit f.1 et) ∙ second_none (is_something (side high bit (sets f.0)))
  left_out true true f es et none = absurd (cc)

  -- what was left out before is left out at the sides
  pub passing_again : (fs : List (ℕ × Tree)) → passing (sided high bit sets) (map (flow_sided high bit) (passing sets fs)) ≡ passing (sided high bit sets) (map (flow_sided high bit) fs)
  passing_again [] = refl
  passing_again (f ∷ fs) = by (holds_both sets f) refl (passing_again fs)
    where
      by : (b : Bool) → holds_both sets f ≡ b → passing (sided high bit sets) (map (flow_sided high bit) (passing sets fs)) ≡ passing (sided high bit sets) (map (flow_sided high bit) fs)
          → passing (sided high bit sets) (map (flow_sided high bit) (cond b (f ∷ passing sets fs) (passing sets fs))) ≡ passing (sided high bit sets) (flow_sided high bit f ∷ map (flow_sided high bit) fs)
      by true e rest = ap (λ gs. cond (holds_both (sided high bit sets) (flow_sided high bit f)) (flow_sided high bit f ∷ gs) gs) rest
      by false e rest =
          rest
          ∙ ap (λ b. cond b (flow_sided high bit f ∷ passing (sided high bit sets) (map (flow_sided high bit) fs)) (passing (sided high bit sets) (map (flow_sided high bit) fs)))
          (sym (left_out (is_something (sets f.0)) (is_something f.1) f refl refl e))

-- the sides of what is in a sector are what is in its halves
module _ (sector : List Bool) (bit : ℕ) (long : length sector ≡ bit) (high : Bool) where
  half : (t : Tree) → side high bit (within sector t) ≡ within (sector ++ high ∷ []) t
  half t = ap (λ n. side high n (within sector t)) (let e : bit ≡ 0 + length sector = omega arith in e) ∙ sym (within_from-more sector high 0 t)

  half_flows : (fs : List (ℕ × Tree)) → map (flow_sided high bit) (flows_within sector fs) ≡ flows_within (sector ++ high ∷ []) fs
  half_flows [] = refl
  half_flows (f ∷ fs) = λ i. (f.0, half f.1 i) ∷ half_flows fs i

  half_sets : (sets : ℕ → Tree) → sided high bit (λ q. within sector (sets q)) ≡ (λ q. within (sector ++ high ∷ []) (sets q))
  half_sets sets = λ i q. half (sets q) i

  module _ (sets : ℕ → Tree) (flows : List (ℕ × Tree)) where
    abbrev there : ℕ → Tree
    there q = within sector (sets q)

    known_half : (seat : SeatView) (ps : List Passage) → KnowsPassages seat (sided high bit there) ps (passing (sided high bit there) (map (flow_sided high bit) (passing there (flows_within sector flows))))
        → KnowsPassages seat (λ q. within (sector ++ high ∷ []) (sets q)) ps (passing (λ q. within (sector ++ high ∷ []) (sets q)) (flows_within (sector ++ high ∷ []) flows))
    known_half seat ps known =
        subst (λ (of : ℕ → Tree). KnowsPassages seat of ps (passing of (flows_within (sector ++ high ∷ []) flows))) (half_sets sets)
        (subst (KnowsPassages seat (sided high bit there) ps) (passing_again high bit there (flows_within sector flows) ∙ ap (passing (sided high bit there)) (half_flows flows)) known)

    pub half_passages : (before seat : SeatView) (passages sides : List Passage) → ArePassages before passages bit sector sets flows → AreSidesOf before seat passages sides bit high → ArePassages seat sides (bit + 1) (sector ++ high ∷ []) sets flows
    half_passages before seat passages sides are made = record {
      long = one_longer sector high ∙ ap (λ n. n + 1) long;
      reduced = are.reduced;
      known = known_half seat sides (made there (passing there (flows_within sector flows)) are.known);
    }

pub are_kept : (before seat : SeatView) → Keeps before seat → (passages : List Passage) (bit : ℕ) (sector : List Bool) (sets : ℕ → Tree) (flows : List (ℕ × Tree)) → ArePassages before passages bit sector sets flows → ArePassages seat passages bit sector sets flows
are_kept before seat keeps passages bit sector sets flows are = record {
  long = are.long;
  reduced = are.reduced;
  known = passages_kept before (λ q. within sector (sets q)) seat keeps passages (passing (λ q. within sector (sets q)) (flows_within sector flows)) are.known;
}

-- passages in a half, at a later seat
module _ (before seat later : SeatView) (passages sides slice : List Passage) (bit : ℕ) (high : Bool) (made : AreSidesOf before seat passages sides bit high) (keeps : Keeps seat later) (is : slice ≡ sides) where
  pub are_half : (sector : List Bool) (sets : ℕ → Tree) (flows : List (ℕ × Tree)) → ArePassages before passages bit sector sets flows → ArePassages later slice (bit + 1) (sector ++ high ∷ []) sets flows
  are_half sector sets flows are =
      subst (λ ps. ArePassages later ps (bit + 1) (sector ++ high ∷ []) sets flows) (sym is)
      (are_kept seat later keeps sides (bit + 1) (sector ++ high ∷ []) sets flows (half_passages sector bit are.long high sets flows before seat passages sides are made))

  pub may_half : (nodes : TableView) (sector : List Bool) (sets : ℕ → Tree) (flows : List (ℕ × Tree)) → ArePassages before passages bit sector sets flows → MayGather nodes.may sets never flows → MayUnite nodes later slice (bit + 1)
  may_half nodes sector sets flows are allowed = record {
    sector = sector ++ high ∷ [];
    sets = sets;
    flows = flows;
    are = are_half sector sets flows are;
    allowed = allowed;
  }

-- ---- what may be left out

none_comes : (s t u : Tree) → (is_something s && is_something t) ≡ false → IsInside (and s t) u
none_comes never t u none = nothing_sent t u
none_comes always t u none = subst (λ x. IsInside (and always x) u) (sym (nothing_is t none)) (nothing_passes always u)
none_comes (node v l h) t u none = subst (λ x. IsInside (and (node v l h) x) u) (sym (nothing_is t none)) (nothing_passes (node v l h) u)

-- where a sum of operations may be made its result may
gathered_allowed : (may : List Tree) (sets : ℕ → Tree) (fs : List (ℕ × Tree)) (s : Tree) → HasNodesOf may s → MayGather may sets s fs → HasNodesOf may (gathered sets s fs)
unfolding MayGather
gathered_allowed may sets [] s has m = has
gathered_allowed may sets (f ∷ fs) s has m = gathered_allowed may sets fs (or s (passed sets f)) m.1 m.2

module _ (seat : SeatView) (passages : List Passage) (bit : ℕ) (short : bit ≤ bit_count) (sector : List Bool) (sets : ℕ → Tree) (flows : List (ℕ × Tree)) (are : ArePassages seat passages bit sector sets flows) where
  abbrev sets_there : ℕ → Tree
  sets_there q = within sector (sets q)

  abbrev flows_there : List (ℕ × Tree)
  flows_there = flows_within sector flows

  abbrev whole : Tree
  whole = gathered sets never flows

  fits : length sector ≤ bit_count
  fits = let e = are.long in omega arith

  reduced_there : All (AreReduced sets_there) flows_there
  reduced_there = All-map (AreReduced sets_there) (in_sector sector) flows (λ i d less. let both = are.reduced i d less in (within_from-reduced sector 0 (sets (slice_index_or flows i d).0) both.0, within_from-reduced sector 0 (slice_index_or flows i d).1 both.1))

  spared : All (IsSpared sets_there (holds_both sets_there) never) flows_there
  spared = λ i d less. λ out. none_comes (sets_there (slice_index_or flows_there i d).0) (slice_index_or flows_there i d).1 never out

  pub whole_reduced : IsReduced whole
  whole_reduced = gathered_reduced sets flows never tt are.reduced

  -- what comes through the passages is what all of it is in the sector
  pub passages_gathered : gathered sets_there never (passing sets_there flows_there) ≡ within sector whole
  passages_gathered =
      gathered_without sets_there (holds_both sets_there) flows_there never tt reduced_there spared
      ∙ ap (λ t. gathered sets_there t flows_there) (sym (within_from-never sector 0))
      ∙ sym (within-gathered sector fits sets flows never tt are.reduced)

  pub may_in_turn : (nodes : TableView) → MayGather nodes.may sets never flows → MayUniteInTurn nodes seat passages
  may_in_turn nodes allowed = record {
    sets = sets_there;
    flows = passing sets_there flows_there;
    known = are.known;
    allowed = may_without sets_there (holds_both sets_there) nodes.may flows_there never tt reduced_there spared
        (subst (λ t. MayGather nodes.may sets_there t flows_there) (within_from-never sector 0) (may_within sector fits sets nodes.may flows never tt are.reduced allowed));
  }

  -- ---- no bit of the sector is tested

  abbrev TestNone : ℕ × Tree → Type 0
  TestNone f = (bit ≤ top (sets_there f.0)) × (bit ≤ top f.1)

  behind : (t : Tree) → IsReduced t → bit ≤ top (within sector t)
  behind t reduced = let e = are.long in let tops = within_from-top sector 0 t reduced (omega arith) (omega arith) in omega arith

  test_none : All TestNone (passing sets_there flows_there)
  test_none = All-filter (holds_both sets_there) TestNone flows_there
      (All-map TestNone (in_sector sector) flows (λ i d less. let both = are.reduced i d less in (behind (sets (slice_index_or flows i d).0) both.0, behind (slice_index_or flows i d).1 both.1)))

  pub tests_from : (nodes : TableView) → IsSeatOf nodes seat → All (TestsFrom seat bit) passages
  tests_from nodes mine i d less =
      let ps = passages in
      let fs = passing sets_there flows_there in
      let f : ℕ × Tree = slice_index_or fs i (0, never) in
      let count = as_many_passages seat sets_there ps fs are.known in
      let none = test_none i (0, never) (omega arith) in
      let set : SeatKnows seat (slice_index_or ps i d).set.index (sets_there f.0) = knows_set seat sets_there ps fs are.known i d (0, never) less in
      let through : SeatKnows seat (slice_index_or ps i d).through.index f.1 = knows_through seat sets_there ps fs are.known i d (0, never) less in
      record {
        set_known = (sets_there f.0, set);
        set_from = λ t known. subst (λ u. bit ≤ top u) (one_known seat mine.sound (slice_index_or ps i d).set.index (sets_there f.0) t set known) none.0;
        through_known = (f.1, through);
        through_from = λ t known. subst (λ u. bit ≤ top u) (one_known seat mine.sound (slice_index_or ps i d).through.index f.1 t through known) none.1;
      }

  -- ---- what was made of both halves

  module _ (less : bit < 32) (later : SeatView) (low high : ℕ) (low_known : SeatKnows later low (within (sector ++ false ∷ []) whole)) (high_known : SeatKnows later high (within (sector ++ true ∷ []) whole)) where
    pub may_be_joined : (nodes : TableView) → MayGather nodes.may sets never flows → MayBranch nodes later bit low high
    may_be_joined nodes allowed = may_join sector bit are.long less whole whole_reduced nodes later low high (gathered_allowed nodes.may sets flows never tt allowed) low_known high_known

    pub both_joined : (last : SeatView) (r : ℕ) → ((l h : Tree) → SeatKnows later low l → SeatKnows later high h → SeatKnows last r (joined bit l h)) → SeatKnows last r (within sector whole)
    both_joined last r joins = known_joined sector bit are.long less whole whole_reduced last r (joins (within (sector ++ false ∷ []) whole) (within (sector ++ true ∷ []) whole) low_known high_known)
