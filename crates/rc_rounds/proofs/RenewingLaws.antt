-- Who isn't made anew knows the same again.
use Rattle.std.proofs.Common.{refl, ◌≡◌, ap, sym, ◌∙◌, subst, ℕ, zero, suc, ◌+◌, Bool, true, List, [], ◌∷◌, ◌++◌, add-one, append-nil, append_assoc, length-append, map, All, Option, Some, None, drop, length, arith}
use Rattle.std.specs.Prelude.{slice_get, unwrap_or}
use Rattle.std.specs.Option.{option_map_or}
use Rattle.std.proofs.lemmas.Option.{same_Some}
use Rattle.rc_config.specs.declared.network.Network.{Network}
use Rattle.rc_ospf.specs.declared.model.Internal.{Internal}
use Rattle.rc_reads.specs.Stayed.{IsMade, IsMadeAnew}
use Rattle.rc_reads.proofs.StayedLaws.{in_state, nothing_moved}
use Rattle.rc_rib.specs.Next.{next_router}
use Rattle.rc_rib.specs.declared.made.Made.{Made}
use Rattle.rc_route.specs.Tables.{IsRouterState}
use Rattle.rc_route.specs.declared.state.RouterState.{RouterState}
use Rattle.rc_rounds.specs.Renewing.{AreMadeAnew, all_renewed, first_known, nothing_known, renewed}
use Rattle.rc_shares.specs.Stretches.{IsStretch}

first_is : (known : List RouterState) (s : RouterState) → slice_get known 0 ≡ Some s → first_known known ≡ s
first_is [] s is = absurd (cc)
first_is (k ∷ ks) s is = same_Some k s is

later : (known : List RouterState) (k : ℕ) → slice_get (drop 1 known) k ≡ slice_get known (suc k)
later [] zero = refl
later [] (suc k) = refl
later (x ∷ xs) k = refl

-- what the first of those behind a place knows is what the router there knows
pub first_behind : (known : List RouterState) (i : ℕ) → unwrap_or (slice_get known i) nothing_known ≡ first_known (drop i known)
first_behind [] zero = refl
first_behind [] (suc i) = refl
first_behind (k ∷ ks) zero = refl
first_behind (k ∷ ks) (suc i) = first_behind ks i

one_less : (known : List RouterState) (i : ℕ) → drop (suc i) known ≡ drop 1 (drop i known)
one_less [] zero = refl
one_less [] (suc i) = refl
one_less (k ∷ ks) zero = refl
one_less (k ∷ ks) (suc i) = one_less ks i

pub behind_next : (known : List RouterState) (i : ℕ) → drop (i + 1) known ≡ drop 1 (drop i known)
behind_next known i = ap (λ n. drop n known) (add-one i) ∙ one_less known i

pub one_longer : {X : Type 0} (xs ys : List X) (x : X) → ys ≡ xs ++ x ∷ [] → length ys ≡ length xs + 1
one_longer xs ys x is = ap length is ∙ length-append xs (x ∷ [])

drained : {X : Type 0} (left now : List X) → left ≡ now → now ≡ drop 1 left → left ≡ []
drained [] now same rest = refl
drained (x ∷ xs) now same rest = absurd (let longer : length (x ∷ xs) ≡ length xs = ap length (same ∙ rest) in omega arith)

-- what is put together, and then what is left, is all
module _ {X : Type 0} (f : Made → X) where
  pub none_yet : {S : Type 0} (so_far : List X) (states : List S) (left all : List (Option Made)) (known : List RouterState) → so_far ≡ [] → states ≡ [] → left ≡ all → so_far ++ map f (all_renewed left (drop (length states) known)) ≡ map f (all_renewed all known)
  none_yet so_far states left all known is none same = (λ i. is i ++ map f (all_renewed (same i) (drop (length (none i)) known)))

  pub all_done : (so_far all : List X) (left now : List (Option Made)) (known : List RouterState) → left ≡ now → now ≡ drop 1 left → so_far ++ map f (all_renewed left known) ≡ all → so_far ≡ all
  all_done so_far all left now known same rest before =
      sym (append-nil so_far) ∙ ap (λ l. so_far ++ map f (all_renewed l known)) (sym (drained left now same rest)) ∙ before

  pub one_more : (so_far now all : List X) (made : Option Made) (m : Made) (left others : List (Option Made)) (known rest : List RouterState) → left ≡ made ∷ others → m ≡ renewed made (first_known known) → rest ≡ drop 1 known
      → now ≡ so_far ++ f m ∷ [] → so_far ++ map f (all_renewed left known) ≡ all → now ++ map f (all_renewed others rest) ≡ all
  one_more so_far now all made m left others known rest is_left is_made is_rest is_now before =
      (λ i. is_now i ++ map f (all_renewed others (is_rest i)))
      ∙ append_assoc so_far (f m ∷ []) (map f (all_renewed others (drop 1 known)))
      ∙ ap (λ (x : Made). so_far ++ f x ∷ map f (all_renewed others (drop 1 known))) is_made
      ∙ ap (λ l. so_far ++ map f (all_renewed l known)) (sym is_left)
      ∙ before

module _ (net : Network) (internal : Internal) (old : List RouterState) (ordered : All IsRouterState old) (flags : List Bool) where
  one_renewed : (r : ℕ) (made : Option Made) (known : List RouterState) → IsMadeAnew net internal flags old r made → (slice_get flags r ≡ Some true → slice_get known 0 ≡ slice_get old r) → IsMade net internal old r (renewed made (first_known known))
  one_renewed r (Some m) known is same = is
  one_renewed r None known is same =
      let first : first_known known ≡ next_router net internal old r = first_is known (next_router net internal old r) (same is.flag ∙ is.same) in
      record {
        state = first;
        in_order = subst IsRouterState (sym first) (in_state old r (next_router net internal old r) ordered is.same);
        same_table = λ set. ap (λ (s : RouterState). s.table) first ∙ sym (ap (λ o. option_map_or (λ (s : RouterState). s.table) o []) is.same);
        changed = nothing_moved old r (next_router net internal old r) (first_known known).paths [] is.same (ap (λ (s : RouterState). s.paths) first);
      }

  from_here : (a b : ℕ) (all : List (Option Made)) (known : List RouterState) → IsStretch (IsMadeAnew net internal flags old) a b all → ((k : ℕ) → slice_get flags (a + k) ≡ Some true → slice_get known k ≡ slice_get old (a + k)) → IsStretch (IsMade net internal old) a b (all_renewed all known)
  unfolding IsStretch
  from_here a b [] known is same = is
  from_here a b (made ∷ more) known is same = (one_renewed a made known is.0 here, from_here (a + 1) b more (drop 1 known) is.1 there)
    where
      here : slice_get flags a ≡ Some true → slice_get known 0 ≡ slice_get old a
      here = let e : a + 0 ≡ a = omega arith in subst (λ r. slice_get flags r ≡ Some true → slice_get known 0 ≡ slice_get old r) e (same 0)

      there : (k : ℕ) → slice_get flags (a + 1 + k) ≡ Some true → slice_get (drop 1 known) k ≡ slice_get old (a + 1 + k)
      there k = let e : a + suc k ≡ a + 1 + k = omega arith in subst (λ r. slice_get flags r ≡ Some true → slice_get (drop 1 known) k ≡ slice_get old r) e (λ set. later known k ∙ same (suc k) set)

-- all that is put together is made as it has to be
pub all_as_made : (net : Network) (internal : Internal) (old : List RouterState) (all : List (Option Made)) → All IsRouterState old → AreMadeAnew net internal old all → IsStretch (IsMade net internal old) 0 (length net.routers) (all_renewed all old)
all_as_made net internal old all ordered are =
    from_here net internal old ordered are.flags 0 (length net.routers) all old are.made (λ k set. (let e : k ≡ 0 + k = omega arith in ap (slice_get old) e))
