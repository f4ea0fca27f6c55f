-- What is listed of the senders inside tells all that they tell.
use Rattle.std.proofs.Common.{refl, ◌≡◌, ap, sym, ◌∙◌, subst, ℕ, zero, suc, ◌+◌, Bool, true, false, not, cond, ◌&&◌, ◌||◌, List, [], ◌∷◌, length, Option, Some, None, IfSome, arith, unwrap_or}
use Rattle.std.specs.List.{cons_option, filter_map, range_with_len, slice_get}
use Rattle.std.specs.Option.{option_map}
use Rattle.std.proofs.lemmas.Option.{slice_get-map}
use Rattle.rc_bgp_decide.specs.Decision.{is_internal}
use Rattle.rc_base.specs.Prefix.{Cidr, is_default}
use Rattle.rc_config.specs.declared.network.Network.{Network}
use Rattle.rc_route.specs.declared.best.Best.{Best}
use Rattle.rc_route.specs.declared.path.BgpPath.{BgpPath}
use Rattle.rc_route.specs.declared.route.Route.{Route}
use Rattle.rc_route.specs.declared.state.RouterState.{RouterState}
use Rattle.rc_bgp.specs.Gathering.{heard_of, told_of, with_paths}
use Rattle.rc_bgp.specs.RouterStates.{paths_of}
use Rattle.rc_bgp.specs.Telling.{AreListed, has_internal, listed_of, may_tell, offered, told_inside}
use Rattle.rc_bgp_session.specs.declared.session.Session.{Session}

ranged : (n i r : ℕ) → IfSome (slice_get (range_with_len i n) r) (λ k. k ≡ i + r)
ranged zero i r = tt
ranged (suc n) i zero = (let e : i ≡ i + 0 = omega arith in e)
ranged (suc n) i (suc r) = subst (λ m. IfSome (slice_get (range_with_len (i + 1) n) r) (λ k. k ≡ m)) (let e : (i + 1) + r ≡ i + suc r = omega arith in e) (ranged n (i + 1) r)

-- what is listed of a router is what it may tell
pub told_is_listed : (sessions : List (List Session)) (old : List RouterState) (all : List (Option (List Best))) → all ≡ told_inside sessions old → AreListed all old
told_is_listed sessions old all is = record { each = λ r. subst (λ l. IfSome (slice_get l r) (λ listed. IfSome listed (λ paths. paths ≡ may_tell (paths_of old r)))) (sym is) (here r) }
  where
    here : (r : ℕ) → IfSome (slice_get (told_inside sessions old) r) (λ listed. IfSome listed (λ paths. paths ≡ may_tell (paths_of old r)))
    here r =
        subst (λ o. IfSome o (λ listed. IfSome listed (λ paths. paths ≡ may_tell (paths_of old r)))) (sym (slice_get-map (listed_of sessions old) (range_with_len 0 (length sessions)) r))
        (at (slice_get (range_with_len 0 (length sessions)) r) (ranged (length sessions) 0 r))
      where
        by : (k : ℕ) → k ≡ r → (b : Bool) → IfSome (cond b (Some (may_tell (paths_of old k))) None) (λ paths. paths ≡ may_tell (paths_of old r))
        by k is true = ap (λ n. may_tell (paths_of old n)) is
        by k is false = tt

        at : (o : Option ℕ) → IfSome o (λ k. k ≡ 0 + r) → IfSome (option_map (listed_of sessions old) o) (λ listed. IfSome listed (λ paths. paths ≡ may_tell (paths_of old r)))
        at None is = tt
        at (Some k) is = by k (is ∙ (let e : 0 + r ≡ r = omega arith in e)) (has_internal sessions k)

module _ (net : Network) (table : List Route) (s : Session) where
  -- over an internal session nothing is told of what may not be
  told_kept : (b : Best) → s.is_external ≡ false → is_internal b.path.source ≡ true → told_of net table s b ≡ None
  told_kept b inside is = λ i. cond ((inside i || not (is i)) && not (is_default b.path.prefix)) (heard_of net table s b) None

  told_listed : s.is_external ≡ false → (xs : List Best) → filter_map (told_of net table s) (may_tell xs) ≡ filter_map (told_of net table s) xs
  told_listed inside [] = refl
  told_listed inside (b ∷ bs) = by (is_internal b.path.source) refl (told_listed inside bs)
    where
      by : (c : Bool) → is_internal b.path.source ≡ c → filter_map (told_of net table s) (may_tell bs) ≡ filter_map (told_of net table s) bs
          → filter_map (told_of net table s) (cond (not c) (b ∷ may_tell bs) (may_tell bs)) ≡ cons_option (told_of net table s b) (filter_map (told_of net table s) bs)
      by false is rest = ap (cons_option (told_of net table s b)) rest
      by true is rest = rest ∙ ap (λ o. cons_option o (filter_map (told_of net table s) bs)) (sym (told_kept b inside is))

  -- so the paths that are gone through tell what all paths of the sender tell
  pub all_offered : (all : List (Option (List Best))) (old : List RouterState) → AreListed all old → (paths : List Best) → paths ≡ offered all old s → filter_map (told_of net table s) paths ≡ filter_map (told_of net table s) (paths_of old s.sender)
  all_offered all old listed paths is = ap (filter_map (told_of net table s)) is ∙ by s.is_external refl
    where
      one : s.is_external ≡ false → (o : Option (List Best)) → IfSome o (λ xs. xs ≡ may_tell (paths_of old s.sender)) → filter_map (told_of net table s) (unwrap_or o (paths_of old s.sender)) ≡ filter_map (told_of net table s) (paths_of old s.sender)
      one inside None is = refl
      one inside (Some xs) is = ap (filter_map (told_of net table s)) is ∙ told_listed inside (paths_of old s.sender)

      at : s.is_external ≡ false → (o : Option (Option (List Best))) → IfSome o (λ l. IfSome l (λ xs. xs ≡ may_tell (paths_of old s.sender)))
          → filter_map (told_of net table s) (unwrap_or (unwrap_or o None) (paths_of old s.sender)) ≡ filter_map (told_of net table s) (paths_of old s.sender)
      at inside None is = refl
      at inside (Some l) is = one inside l is

      by : (c : Bool) → s.is_external ≡ c
          → filter_map (told_of net table s) (unwrap_or (cond c None (unwrap_or (slice_get all s.sender) None)) (paths_of old s.sender)) ≡ filter_map (told_of net table s) (paths_of old s.sender)
      by true is = refl
      by false is = at is (slice_get all s.sender) (listed.each s.sender)

pub told_all : (net : Network) (table : List Route) (old : List RouterState) (s : Session) (all : List (Option (List Best))) (paths : List Best) (rows more : List (Cidr × List BgpPath)) → AreListed all old → paths ≡ offered all old s
    → more ≡ with_paths rows (filter_map (told_of net table s) paths) → more ≡ with_paths rows (filter_map (told_of net table s) (paths_of old s.sender))
told_all net table old s all paths rows more listed is put = put ∙ ap (with_paths rows) (all_offered net table s all old listed paths is)
