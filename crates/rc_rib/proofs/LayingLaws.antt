-- One table laid over or under another one is both as one.
use Rattle.std.proofs.Common.{refl, ◌≡◌, ap, sym, ◌∙◌, subst, Bool, true, false, cond, List, [], ◌∷◌, map, All, Option, Some, None, IfSome}
use Rattle.std.specs.List.Sorted.{IsStrictlySortedBy}
use Rattle.std.specs.Option.{option_map_or}
use Rattle.std.proofs.lemmas.List.Elements.{All-cons, All-nil}
use Rattle.rc_base.specs.Prefix.{Cidr, prefix_cmp, same_prefix}
use Rattle.rc_bgp.specs.RouterStates.{route_at}
use Rattle.rc_bgp.proofs.ListedLaws.{same_lists}
use Rattle.rc_bgp.proofs.PrefixLaws.{same_is}
use Rattle.rc_pieces.specs.Editing.{AreEdits, SaysAsEdited, said}
use Rattle.rc_pieces.specs.declared.edit.Edit.{Edit}
use Rattle.rc_route.specs.Tables.{IsTable}
use Rattle.rc_route.specs.declared.route.Route.{Route}
use Rattle.rc_rib.specs.Laying.{edit_over, edit_under}
use Rattle.rc_rib.specs.Merging.{merged, of_both}
use Rattle.rc_rib.specs.Offers.{prefix_of}
use Rattle.rc_rib.proofs.MendingLaws.{at_merged, both_have, has_prefix, merged_in_order}

-- ---- edits made of routes one by one

module _ (f : Route → Option Route) where
  abbrev edit_by : Route → Edit Route
  edit_by x = record { prefix = x.prefix; value = f x }

  prefixes : (xs : List Route) → map (λ (e : Edit Route). e.prefix) (map edit_by xs) ≡ map prefix_of xs
  prefixes [] = refl
  prefixes (x ∷ xs) = ap (λ ps. x.prefix ∷ ps) (prefixes xs)

  own : ((x : Route) → IfSome (f x) (λ y. y.prefix ≡ x.prefix)) → (xs : List Route) → All (λ (e : Edit Route). IfSome e.value (λ y. prefix_of y ≡ e.prefix)) (map edit_by xs)
  own keeps [] = All-nil (λ (e : Edit Route). IfSome e.value (λ y. prefix_of y ≡ e.prefix))
  own keeps (x ∷ xs) = All-cons (λ (e : Edit Route). IfSome e.value (λ y. prefix_of y ≡ e.prefix)) (edit_by x) (map edit_by xs) (keeps x) (own keeps xs)

  are_edits : ((x : Route) → IfSome (f x) (λ y. y.prefix ≡ x.prefix)) → (xs : List Route) → IsTable xs → AreEdits prefix_of (map edit_by xs)
  are_edits keeps xs up = record { in_order = subst (IsStrictlySortedBy prefix_cmp) (sym (prefixes xs)) up; own = own keeps xs }

if_some : (P : Route → Type 0) (o : Option Route) → ((x : Route) → o ≡ Some x → P x) → IfSome o P
if_some P None f = tt
if_some P (Some x) f = f x refl

its_own : (x y : Route) → Some x ≡ Some y → y.prefix ≡ x.prefix
its_own x y e = ap (λ o. option_map_or (λ (z : Route). z.prefix) o x.prefix) (sym e)

with_nothing : (o : Option Route) → o ≡ of_both o None
with_nothing None = refl
with_nothing (Some x) = refl

-- ---- over a table

module _ (below : List Route) where
  over_keeps : (x : Route) → IfSome (of_both (Some x) (route_at below x.prefix)) (λ y. y.prefix ≡ x.prefix)
  over_keeps x =
      if_some (λ y. y.prefix ≡ x.prefix) (of_both (Some x) (route_at below x.prefix))
      (both_have (λ y. y.prefix ≡ x.prefix) (Some x) (route_at below x.prefix) (its_own x) (has_prefix below x.prefix))

  pub over_are_edits : (xs : List Route) (es : List (Edit Route)) → es ≡ map (edit_over below) xs → IsTable xs → AreEdits prefix_of es
  over_are_edits xs es are up = subst (AreEdits prefix_of) (sym are) (are_edits (λ x. of_both (Some x) (route_at below x.prefix)) over_keeps xs up)

  over_said : (xs : List Route) (p : Cidr) → said (map (edit_over below) xs) p (route_at below p) ≡ of_both (route_at xs p) (route_at below p)
  over_said [] p = refl
  over_said (x ∷ xs) p = by (same_prefix p x.prefix) refl (over_said xs p)
    where
      by : (b : Bool) → same_prefix p x.prefix ≡ b → said (map (edit_over below) xs) p (route_at below p) ≡ of_both (route_at xs p) (route_at below p)
          → cond b (of_both (Some x) (route_at below x.prefix)) (said (map (edit_over below) xs) p (route_at below p)) ≡ of_both (cond b (Some x) (route_at xs p)) (route_at below p)
      by true is rest = ap (λ q. of_both (Some x) (route_at below q)) (sym (same_is p x.prefix is))
      by false is rest = rest

  pub over_is : (xs : List Route) (es : List (Edit Route)) (made : List Route) → es ≡ map (edit_over below) xs → IsTable xs → IsTable below → SaysAsEdited prefix_of below es made → made ≡ merged xs below
  over_is xs es made are up up-below says =
      same_lists prefix_of made (merged xs below) says.in_order (merged_in_order xs below up up-below)
      (λ p. says.at p ∙ ap (λ fs. said fs p (route_at below p)) are ∙ over_said xs p ∙ sym (at_merged xs below up up-below p))

-- ---- under a table

module _ (above : List Route) where
  under_keeps : (x : Route) → IfSome (of_both (route_at above x.prefix) (Some x)) (λ y. y.prefix ≡ x.prefix)
  under_keeps x =
      if_some (λ y. y.prefix ≡ x.prefix) (of_both (route_at above x.prefix) (Some x))
      (both_have (λ y. y.prefix ≡ x.prefix) (route_at above x.prefix) (Some x) (has_prefix above x.prefix) (its_own x))

  pub under_are_edits : (xs : List Route) (es : List (Edit Route)) → es ≡ map (edit_under above) xs → IsTable xs → AreEdits prefix_of es
  under_are_edits xs es are up = subst (AreEdits prefix_of) (sym are) (are_edits (λ x. of_both (route_at above x.prefix) (Some x)) under_keeps xs up)

  under_said : (xs : List Route) (p : Cidr) → said (map (edit_under above) xs) p (route_at above p) ≡ of_both (route_at above p) (route_at xs p)
  under_said [] p = with_nothing (route_at above p)
  under_said (x ∷ xs) p = by (same_prefix p x.prefix) refl (under_said xs p)
    where
      by : (b : Bool) → same_prefix p x.prefix ≡ b → said (map (edit_under above) xs) p (route_at above p) ≡ of_both (route_at above p) (route_at xs p)
          → cond b (of_both (route_at above x.prefix) (Some x)) (said (map (edit_under above) xs) p (route_at above p)) ≡ of_both (route_at above p) (cond b (Some x) (route_at xs p))
      by true is rest = ap (λ q. of_both (route_at above q) (Some x)) (sym (same_is p x.prefix is))
      by false is rest = rest

  pub under_is : (xs : List Route) (es : List (Edit Route)) (made : List Route) → es ≡ map (edit_under above) xs → IsTable xs → IsTable above → SaysAsEdited prefix_of above es made → made ≡ merged above xs
  under_is xs es made are up up-above says =
      same_lists prefix_of made (merged above xs) says.in_order (merged_in_order above xs up-above up)
      (λ p. says.at p ∙ ap (λ fs. said fs p (route_at above p)) are ∙ under_said xs p ∙ sym (at_merged above xs up-above up p))
