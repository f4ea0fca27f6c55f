-- What changed in what internal peers may be told is among what changed.
use Rattle.std.proofs.Common.{refl, ◌≡◌, ap, sym, ◌∙◌, subst, ℕ, ◌+◌, ◌<◌, Bool, true, false, not, cond, List, [], Option, Some, None, length, arith, unwrap_or}
use Rattle.std.specs.List.{filter, list_any, range_with_len, slice_get}
use Rattle.std.specs.Option.{option_map, option_map_or}
use Rattle.std.proofs.Math.Decide.{dec_lt}
use Rattle.std.proofs.lemmas.Bool.{or_parts}
use Rattle.std.proofs.lemmas.List.FromFn.{length-range_with_len, get_or-range_with_len, length-map-range_with_len}
use Rattle.std.proofs.lemmas.Option.{slice_get-map, slice_get-get_or, slice_get_past}
use Rattle.rc_base.specs.Prefix.{Cidr, same_prefix}
use Rattle.rc_bgp_decide.specs.Decision.{is_internal}
use Rattle.rc_route.specs.Tables.{best_for}
use Rattle.rc_route.specs.declared.best.Best.{Best}
use Rattle.rc_route.specs.declared.state.RouterState.{RouterState}
use Rattle.rc_bgp.specs.Changes.{AreChanges, AreChangesInside, CoversChange, CoversInside, changed_inside, changed_inside_at, changes_of, is_told, is_told_by_either, told_of}
use Rattle.rc_bgp.specs.RouterStates.{paths_of}
use Rattle.rc_bgp.specs.Telling.{has_internal}
use Rattle.rc_bgp_session.specs.declared.session.Session.{Session}
use Rattle.rc_bgp.proofs.PrefixLaws.{left_out}

-- where internal peers are told nothing for a prefix
none_told : (paths : List Best) (p : Cidr) → is_told paths p ≡ false → told_of (best_for paths p) ≡ None
none_told paths p none = by (best_for paths p) none
  where
    by : (o : Option Best) → option_map_or (λ (b : Best). not (is_internal b.path.source)) o false ≡ false → told_of o ≡ None
    by None none = refl
    by (Some b) none = inner (is_internal b.path.source) none
      where
        inner : (c : Bool) → not c ≡ false → cond c None (Some b) ≡ None
        inner true none = refl
        inner false none = absurd (let clash : true ≡ false = none in cc)

module _ (old new : List Best) (p : Cidr) where
  abbrev Alike : Type 0
  Alike = told_of (best_for old p) ≡ told_of (best_for new p)

  untold : is_told_by_either old new p ≡ false → Alike
  untold none =
      let parts = or_parts (is_told old p) (is_told new p) none in
      none_told old p parts.0 ∙ sym (none_told new p parts.1)

same_told : (old new : List Best) (p : Cidr) → best_for old p ≡ best_for new p → told_of (best_for old p) ≡ told_of (best_for new p)
same_told old new p same = ap told_of same

told_covered : (changed : List Cidr) (old new : List Best) → CoversChange changed old new → CoversInside (filter (is_told_by_either old new) changed) old new
told_covered changed old new covers = record { elsewhere = λ p none. by p (list_any (same_prefix p) changed) refl none }
  where
    by : (p : Cidr) (b : Bool) → list_any (same_prefix p) changed ≡ b → list_any (same_prefix p) (filter (is_told_by_either old new) changed) ≡ false → told_of (best_for old p) ≡ told_of (best_for new p)
    by p true e none = untold old new p (left_out (is_told_by_either old new) p changed e none)
    by p false e none = same_told old new p (covers.elsewhere p e)

all_covered : (changed : List Cidr) (old new : List Best) → CoversChange changed old new → CoversInside changed old new
all_covered changed old new covers = record { elsewhere = λ p none. same_told old new p (covers.elsewhere p none) }

module _ (sessions : List (List Session)) (changes : List (List Cidr)) (old new : List RouterState) (are : AreChanges changes old new) where
  covered_at : (r : ℕ) → CoversInside (changed_inside_at sessions changes old new r) (paths_of old r) (paths_of new r)
  covered_at r = by (has_internal sessions r)
    where
      by : (b : Bool) → CoversInside (cond b (filter (is_told_by_either (paths_of old r) (paths_of new r)) (changes_of changes r)) (changes_of changes r)) (paths_of old r) (paths_of new r)
      by true = told_covered (changes_of changes r) (paths_of old r) (paths_of new r) (are.each r)
      by false = all_covered (changes_of changes r) (paths_of old r) (paths_of new r) (are.each r)

  numbered : (n r : ℕ) → r < n → slice_get (range_with_len 0 n) r ≡ Some r
  numbered n r less =
      slice_get-get_or (range_with_len 0 n) r 0 (omega (arith, less, length-range_with_len 0 n)) ∙ ap Some (get_or-range_with_len 0 n r 0 less ∙ (let e : 0 + r ≡ r = omega arith in e))

  within : (r : ℕ) → r < length changes → changes_of (changed_inside sessions changes old new) r ≡ changed_inside_at sessions changes old new r
  within r less =
      ap (λ o. unwrap_or o []) (slice_get-map (changed_inside_at sessions changes old new) (range_with_len 0 (length changes)) r ∙ ap (option_map (changed_inside_at sessions changes old new)) (numbered (length changes) r less))

  abbrev IsCovered : ℕ → List Cidr → Type 0
  IsCovered r changed = CoversInside changed (paths_of old r) (paths_of new r)

  all_inside : AreChangesInside (changed_inside sessions changes old new) old new
  all_inside = record { each = λ r. by r (dec_lt r (length changes)) }
    where
      by : (r : ℕ) → Dec (r < length changes) → IsCovered r (changes_of (changed_inside sessions changes old new) r)
      by r (yes less) = subst (IsCovered r) (sym (within r less)) (covered_at r)
      by r (no past) =
          let as_many = length-map-range_with_len (changed_inside_at sessions changes old new) 0 (length changes) in
          let none : changes_of changes r ≡ [] = ap (λ o. unwrap_or o []) (slice_get_past changes r (omega (arith, past))) in
          subst (IsCovered r) (sym (ap (λ o. unwrap_or o []) (slice_get_past (changed_inside sessions changes old new) r (omega (arith, past, as_many)))))
          (subst (IsCovered r) none (all_covered (changes_of changes r) (paths_of old r) (paths_of new r) (are.each r)))

pub are_changes_inside : (sessions : List (List Session)) (changes inside : List (List Cidr)) (old new : List RouterState) → inside ≡ changed_inside sessions changes old new → AreChanges changes old new → AreChangesInside inside old new
are_changes_inside sessions changes inside old new is are = subst (λ l. AreChangesInside l old new) (sym is) (all_inside sessions changes old new are)
