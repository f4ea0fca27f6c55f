-- What is told of the walks inside an area.
use Rattle.std.proofs.Common.{◌≡◌, ap, sym, ◌∙◌, ℕ, List, [], ◌++◌, Option, Some, None, Result, Ok, Err, OnOk}
use Rattle.std.specs.Prelude.{slice_get}
use Rattle.std.specs.Option.{option_map_or}
use Rattle.std.specs.declared.alloc.AllocError.{AllocError}
use Rattle.std.proofs.lemmas.List.{append-nil}
use Rattle.rc_route.specs.declared.route.Hop.{Hop}
use Rattle.rc_link_state.specs.declared.columns.Column.{Column}
use Rattle.rc_link_state.specs.declared.table.AreaWalks.{AreaWalks}
use Rattle.rc_link_state.specs.declared.transit.Transit.{Transit}
use Rattle.rc_link_state.specs.Columns.{cost_at}
use Rattle.rc_link_state.specs.Tables.{hops_left, hops_over_place}

module _ (w : AreaWalks) (r : ℕ) (c : Column) (cost k : ℕ) (hops : List Hop) where
  unfoldable over : Option Transit → List Hop
  over o = option_map_or (λ (t : Transit). hops_left r (cost_at c.costs) cost t (cost_at c.left k)) o []

  pub over_none : slice_get w.networks k ≡ None → hops ≡ hops ++ hops_over_place w r c cost k
  unfolding over
  over_none is = sym (append-nil hops) ∙ sym (ap (λ o. hops ++ over o) is)

  pub over_some : (t : Transit) (left : Option ℕ) (new : List Hop) (done : Result (Unit {0}) AllocError) → slice_get w.networks k ≡ Some t → left ≡ cost_at c.left k →
      OnOk done (new ≡ hops ++ hops_left r (cost_at c.costs) cost t left) → OnOk done (new ≡ hops ++ hops_over_place w r c cost k)
  unfolding over
  over_some t left new (Err e) is same put = tt
  over_some t left new (Ok u) is same put = put ∙ ap (λ o. hops ++ hops_left r (cost_at c.costs) cost t o) same ∙ sym (ap (λ o. hops ++ over o) is)
