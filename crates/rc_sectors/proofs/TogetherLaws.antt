-- A set put together of what it is in the two halves of a sector.
use Rattle.std.proofs.Common.{refl, sym, ap, ◌∙◌, subst, ◌≡◌, ◌≢◌, ℕ, ◌+◌, ◌<◌, ◌≤◌, Bool, true, false, List, [], ◌∷◌, ◌++◌, length, slice_index_or, arith}
use Rattle.std.proofs.lemmas.List.Elements.{All-get_or}
use Rattle.std.proofs.lemmas.List.{append-nil}
use Rattle.rc_bdd.specs.Work.{MayBranch, side}
use Rattle.rc_nodes.specs.Seats.{TableView, SeatView, SeatKnows, Keeps}
use Rattle.rc_nodes.specs.declared.words.Ref.{Ref}
use Rattle.rc_sectors.specs.Cuts.{Halves, halved, sectors_of, sectors_below, AreCut, AreFrom, AreWithin, IsMade, MayPutTogether, StandFrom}
use Rattle.rc_sectors.specs.Sectors.{within}
use Rattle.rc_sectors.proofs.CutLaws.{below_none, is_there, is_uncut, is_cut, low_from, high_from, one_longer, both_long}
use Rattle.rc_sectors.proofs.SectorLaws.{within_from-more, within_from-reduced, within_from-top, within_from-nodes, side_top}
use Rattle.rc_trees.proofs.SideLaws.{rejoined}
use Rattle.rc_trees.specs.Combine.{joined}
use Rattle.rc_trees.specs.Trees.{Tree, IsReduced, HasNodesOf, top}

-- ---- what a seat goes on to know

pub within_kept : (before after : SeatView) (sectors : List (List Bool)) (sets : List Ref) (t : Tree) → Keeps before after → AreWithin before sectors sets t → AreWithin after sectors sets t
within_kept before after sectors sets t keeps are = record {
  as_many = are.as_many;
  each = λ i d e less. keeps (slice_index_or sets i d).index (within (slice_index_or sectors i e) t) (are.each i d e less);
}

pub may_kept : (nodes : TableView) (before after : SeatView) (sectors : List (List Bool)) (sets : List Ref) → Keeps before after → MayPutTogether nodes before sectors sets → MayPutTogether nodes after sectors sets
may_kept nodes before after sectors sets keeps may = record {
  cut = may.cut;
  whole = may.whole;
  reduced = may.reduced;
  allowed = may.allowed;
  are = within_kept before after sectors sets may.whole keeps may.are;
}

-- ---- a sector and its halves

within_more : (sector : List Bool) (bits : ℕ) (b : Bool) (t : Tree) → length sector ≡ bits → within (sector ++ b ∷ []) t ≡ side b bits (within sector t)
within_more sector bits b t long = within_from-more sector b 0 t ∙ ap (λ n. side b n (within sector t)) (let e : 0 + length sector ≡ bits = omega arith in e)

module _ (sector : List Bool) (bits : ℕ) (long : length sector ≡ bits) (short : bits < 32) (t : Tree) (reduced : IsReduced t) where
  top_behind : bits ≤ top (within sector t)
  top_behind = let le = within_from-top sector 0 t reduced (omega arith) (omega arith) in omega arith

  pub halves_joined : joined bits (within (sector ++ false ∷ []) t) (within (sector ++ true ∷ []) t) ≡ within sector t
  halves_joined =
      (λ i. joined bits (within_more sector bits false t long i) (within_more sector bits true t long i))
      ∙ rejoined bits (within sector t) (within_from-reduced sector 0 t reduced) (omega arith) top_behind

  half_top : (b : Bool) → bits < top (within (sector ++ b ∷ []) t)
  half_top b = subst (λ s. bits < top s) (sym (within_more sector bits b t long)) (side_top b bits (within sector t) (within_from-reduced sector 0 t reduced) (omega arith) top_behind)

  pub may_join : (nodes : TableView) (seat : SeatView) (lo hi : ℕ) → HasNodesOf nodes.may t → SeatKnows seat lo (within (sector ++ false ∷ []) t) → SeatKnows seat hi (within (sector ++ true ∷ []) t) → MayBranch nodes seat bits lo hi
  may_join nodes seat lo hi allowed low high = record {
    bit = omega arith;
    low = within (sector ++ false ∷ []) t;
    high = within (sector ++ true ∷ []) t;
    knows_low = low;
    knows_high = high;
    rises_low = half_top false;
    rises_high = half_top true;
    allowed = subst (HasNodesOf nodes.may) (sym halves_joined) (within_from-nodes nodes.may sector 0 t allowed);
  }

  pub known_joined : (seat : SeatView) (r : ℕ) → SeatKnows seat r (joined bits (within (sector ++ false ∷ []) t) (within (sector ++ true ∷ []) t)) → SeatKnows seat r (within sector t)
  known_joined seat r k = subst (SeatKnows seat r) halves_joined k

-- ---- one sector

module _ (sectors : List (List Bool)) (at bits : ℕ) (d : List Bool) (same : length (slice_index_or sectors at d) ≡ bits) where
  pub one_made : (seat : SeatView) (sets : List Ref) (r : Ref) → StandFrom sectors at bits → IsMade seat seat sectors sets at bits (slice_index_or sets at r).index (at + 1)
  one_made seat sets r stand = record {
    behind = λ sector halves long there. let one = is_uncut sectors at sector halves d there (omega arith) in ap (λ h. at + length (sectors_of h)) (sym one.0);
    knows = λ sector halves t long there reduced are.
        let one = is_uncut sectors at sector halves d there (omega arith) in
        let less : at < length sectors = is_there sectors at sector halves there in
        subst (λ s. SeatKnows seat (slice_index_or sets at r).index (within s t)) one.1 (are.each at r d (let many = are.as_many in omega arith));
  }

-- ---- a sector that is cut

module _ (sectors : List (List Bool)) (at bits : ℕ) (d : List Bool) (differ : length (slice_index_or sectors at d) ≢ bits) where
  cut_here : (sector : List Bool) (halves : Halves) → length sector ≡ bits → AreFrom sectors at sector halves → (l h : Halves) × (halves ≡ halved l h) × (length sector < length (slice_index_or sectors at d))
  cut_here sector halves long there = is_cut sectors at sector halves d there (λ e. differ (e ∙ long))

  pub is_short : AreCut sectors → StandFrom sectors at bits → bits < 32
  is_short cut stand =
      let less : at < length sectors = is_there sectors at stand.sector stand.halves stand.stand in
      let most : length (slice_index_or sectors at d) ≤ 32 = All-get_or (λ s. length s ≤ 32) sectors at d less cut.short in
      let long = stand.as_long in
      let (l, h, e, more) = cut_here stand.sector stand.halves stand.as_long stand.stand in
      omega arith

  pub stand_low : StandFrom sectors at bits → StandFrom sectors at (bits + 1)
  stand_low stand =
      let (l, h, e, more) = cut_here stand.sector stand.halves stand.as_long stand.stand in
      record {
        sector = stand.sector ++ false ∷ [];
        halves = l;
        as_long = one_longer stand.sector false ∙ ap (λ n. n + 1) stand.as_long;
        stand = low_from sectors at stand.sector l h (subst (AreFrom sectors at stand.sector) e stand.stand);
      }

  module _ (before low_known : SeatView) (sets : List Ref) (low middle : ℕ) (low_made : IsMade before low_known sectors sets at (bits + 1) low middle) where
    high_there : (sector : List Bool) (l h : Halves) → length sector ≡ bits → AreFrom sectors at sector (halved l h) → (middle ≡ at + length (sectors_of l)) × AreFrom sectors middle (sector ++ true ∷ []) h
    high_there sector l h long there =
        let place : middle ≡ at + length (sectors_of l) = low_made.behind (sector ++ false ∷ []) l (one_longer sector false ∙ ap (λ n. n + 1) long) (low_from sectors at sector l h there) in
        (place, subst (λ n. AreFrom sectors n (sector ++ true ∷ []) h) (sym place) (high_from sectors at sector l h there))

    pub stand_high : StandFrom sectors at bits → StandFrom sectors middle (bits + 1)
    stand_high stand =
        let (l, h, e, more) = cut_here stand.sector stand.halves stand.as_long stand.stand in
        record {
          sector = stand.sector ++ true ∷ [];
          halves = h;
          as_long = one_longer stand.sector true ∙ ap (λ n. n + 1) stand.as_long;
          stand = (high_there stand.sector l h stand.as_long (subst (AreFrom sectors at stand.sector) e stand.stand)).1;
        }

    module _ (high_known : SeatView) (high end : ℕ) (low_keeps : Keeps before low_known) (high_keeps : Keeps low_known high_known) (high_made : IsMade low_known high_known sectors sets middle (bits + 1) high end) where
      both_known : (sector : List Bool) (halves : Halves) (t : Tree) → length sector ≡ bits → AreFrom sectors at sector halves → IsReduced t → AreWithin before sectors sets t
          → SeatKnows high_known low (within (sector ++ false ∷ []) t) × SeatKnows high_known high (within (sector ++ true ∷ []) t)
      both_known sector halves t long stand reduced are =
          let (l, h, e, more) = cut_here sector halves long stand in
          let there = subst (AreFrom sectors at sector) e stand in (
            high_keeps low (within (sector ++ false ∷ []) t) (low_made.knows (sector ++ false ∷ []) l t (one_longer sector false ∙ ap (λ n. n + 1) long) (low_from sectors at sector l h there) reduced are),
            high_made.knows (sector ++ true ∷ []) h t (one_longer sector true ∙ ap (λ n. n + 1) long) (high_there sector l h long there).1 reduced (within_kept before low_known sectors sets t low_keeps are),
          )

      pub may_branch : (nodes : TableView) → MayPutTogether nodes before sectors sets → StandFrom sectors at bits → MayBranch nodes high_known bits low high
      may_branch nodes may stand =
          let both = both_known stand.sector stand.halves may.whole stand.as_long stand.stand may.reduced may.are in
          may_join stand.sector bits stand.as_long (is_short may.cut stand) may.whole may.reduced nodes high_known low high may.allowed both.0 both.1

      pub both_made : (after : SeatView) (set : ℕ) → AreCut sectors → ((l h : Tree) → SeatKnows high_known low l → SeatKnows high_known high h → SeatKnows after set (joined bits l h)) → IsMade before after sectors sets at bits set end
      both_made after set cut joins = record {
        behind = λ sector halves long stand.
            let (l, h, e, more) = cut_here sector halves long stand in
            let (place, there) = high_there sector l h long (subst (AreFrom sectors at sector) e stand) in
            let last : end ≡ middle + length (sectors_of h) = high_made.behind (sector ++ true ∷ []) h (one_longer sector true ∙ ap (λ n. n + 1) long) there in
            let many : length (sectors_of halves) ≡ length (sectors_of l) + length (sectors_of h) = ap (λ x. length (sectors_of x)) e ∙ both_long l h in
            omega arith;
        knows = λ sector halves t long stand reduced are.
            let both = both_known sector halves t long stand reduced are in
            let short : bits < 32 = is_short cut (record { sector = sector; halves = halves; as_long = long; stand = stand }) in
            known_joined sector bits long short t reduced after set (joins (within (sector ++ false ∷ []) t) (within (sector ++ true ∷ []) t) both.0 both.1);
      }

-- ---- all headers

pub whole_stands : (sectors : List (List Bool)) → AreCut sectors → (halves : Halves) × AreFrom sectors 0 [] halves
whole_stands sectors cut = (
  cut.halves,
  record {
    front = [];
    back = [];
    are = cut.are ∙ sym (append-nil (sectors_below [] cut.halves) ∙ below_none (sectors_of cut.halves));
    place = refl;
  },
)
