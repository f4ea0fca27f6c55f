-- The best of the ways to offers, taken one after another.
use Rattle.std.proofs.Common.{refl, ◌≡◌, ap, sym, ◌∙◌, subst, ℕ, ◌+◌, ◌<◌, ◌≤◌, min, ◌==◌, Bool, true, false, ◌&&◌, cond, List, [], ◌∷◌, ◌++◌, length, get_or, Option, Some, None, MatchOption, nat_lt, arith, append_assoc}
use Rattle.std.specs.Prelude.{IfSome, IfOk, Result, Ok, Err}
use Rattle.std.specs.declared.alloc.AllocError.{AllocError}
use Rattle.std.specs.List.{cons_option}
use Rattle.std.specs.List.Sorted.{IsStrictlySortedBy}
use Rattle.std.specs.Option.{option_map}
use Rattle.std.specs.Ordering.{nat_cmp}
use Rattle.std.proofs.lemmas.Bool.Decides.{nat_tests}
use Rattle.std.proofs.lemmas.Grind.{common_steps}
use Rattle.std.proofs.lemmas.List.{append-nil, length-append, get_or_at}
use Rattle.rc_base.specs.Lists.{in_order}
use Rattle.rc_base.proofs.OrderedLaws.{in_order-sorted}
use Rattle.rc_route.specs.Hops.{hop_cmp}
use Rattle.rc_route.specs.Ways.{Way, lower, least_cost, hops_at, best_of}
use Rattle.rc_route.specs.declared.route.Hop.{Hop}
use Rattle.rc_route.proofs.OrderLaws.{hop_cmp_total, same_by_hop_cmp}
use Rattle.rc_route.proofs.WayLaws as way_laws
use Rattle.rc_ospf.specs.Areas.{is_offered_by}
use Rattle.rc_ospf.specs.BestOffers.{better_of, cheaper, best_from, hops_to, HasBest}
use Rattle.rc_ospf.specs.ByPrefix.{path_to_offer, way_to_offer, ways_of, cost_to}
use Rattle.rc_ospf.specs.Offered.{Offered}
use Rattle.rc_link_state.specs.Tables.{hops_of}
use Rattle.rc_link_state.specs.Walks.{LeastWalks, Reach}
use Rattle.rc_ospf.specs.Ways.{way_over, cost_of}
use Rattle.rc_ospf.specs.declared.best.Best.{Best}
use Rattle.rc_link_state.proofs.Members.{in_order_in, same_by_members}
use Rattle.rc_ospf.proofs.WayLaws.{best_by_cost}

-- ---- one way more

cost_more : (k : ℕ) (ws : List (Way ℕ)) (w : Way ℕ) → cost_of (best_of nat_cmp ws) ≡ Some k → cost_of (best_of nat_cmp (ws ++ w ∷ [])) ≡ Some (min k w.cost)
cost_more k [] w is = absurd (cc)
cost_more k (v ∷ ws) w is =
    let least : least_cost nat_cmp v ws ≡ k = cc in
    ap Some (way_laws.least_more nat_cmp v ws w ∙ ap (λ n. lower nat_cmp n w.cost) least ∙ way_laws.lower_number k w.cost)

hops_more : (k : ℕ) (ws : List (Way ℕ)) (w : Way ℕ) → hops_at nat_cmp k (ws ++ w ∷ []) ≡ hops_at nat_cmp k ws ++ cond (w.cost == k) w.hops []
hops_more k ws w =
    way_laws.hops_more nat_cmp k ws (w ∷ [])
    ∙ ap (λ hs. hops_at nat_cmp k ws ++ hs) (way_laws.hops_of_one nat_cmp k w ∙ ap (λ b. cond b w.hops []) (way_laws.same_number k w.cost))

-- at another cost it adds nothing
hops_stay : (k : ℕ) (ws : List (Way ℕ)) (w : Way ℕ) → (w.cost == k) ≡ false → hops_at nat_cmp k (ws ++ w ∷ []) ≡ hops_at nat_cmp k ws
hops_stay k ws w other = hops_more k ws w ∙ ap (λ b. hops_at nat_cmp k ws ++ cond b w.hops []) other ∙ append-nil (hops_at nat_cmp k ws)

above : (m n : ℕ) → n < m → (m == n) ≡ false
above m n less = grind (arith, common_steps, nat_tests, less)

less_if : (m n : ℕ) → nat_lt m n ≡ true → m < n
less_if m n is = grind (arith, common_steps, nat_tests, is)

not_less_if : (m n : ℕ) → nat_lt m n ≡ false → n ≤ m
not_less_if m n is = grind (arith, common_steps, nat_tests, is)

same_yes : (n : ℕ) → (n == n) ≡ true
same_yes n = grind (arith, common_steps, nat_tests)

same_if : (m n : ℕ) → (m == n) ≡ true → m ≡ n
same_if m n is = grind (arith, common_steps, nat_tests, is)

more_if : (m n : ℕ) → n ≤ m → (m == n) ≡ false → n < m
more_if m n le other = grind (arith, common_steps, nat_tests, le, other)

-- ---- what is known of the ways to some first offers

-- the least of their costs, that no way costs less, and the hops where one way is alone at it
record IsSoFar (reach : Reach) (others : Bool) (r : ℕ) (all : List Offered) (ws : List (Way ℕ)) (b : Best) : Type 0 where
  cost : cost_of (best_of nat_cmp ws) ≡ Some b.cost
  none_less : (k : ℕ) → k < b.cost → hops_at nat_cmp k ws ≡ []
  within : b.at < length all
  alone : b.is_alone ≡ true → (d : Offered) → hops_at nat_cmp b.cost ws ≡ hops_to reach (get_or all b.at d)

abbrev Known : Reach → Bool → ℕ → List Offered → List (Way ℕ) → Option Best → Type 0
Known reach others r all ws best = MatchOption best (ws ≡ []) (IsSoFar reach others r all ws)

module _ (reach : Reach) (others : Bool) (r : ℕ) (all : List Offered) where
  -- one more, to the offer at a place
  module _ (ws : List (Way ℕ)) (o : Offered) (e : LeastWalks) (i : ℕ) (lt : i < length all) (here : (d : Offered) → get_or all i d ≡ o) (found : path_to_offer reach others r o ≡ Some e) where
    reached : reach o.area o.router ≡ Some e
    reached = by (others && is_offered_by r o) found
      where
        by : (b : Bool) → cond b None (reach o.area o.router) ≡ Some e → reach o.area o.router ≡ Some e
        by true is = absurd (cc is)
        by false is = is

    hops_here : (d : Offered) → hops_to reach (get_or all i d) ≡ e.hops
    hops_here d = ap (hops_to reach) (here d) ∙ ap hops_of reached

    -- it costs less than all before
    least : cost_of (best_of nat_cmp (ws ++ way_over (e.cost + o.cost) e ∷ [])) ≡ Some (e.cost + o.cost) → ((k : ℕ) → k ≤ e.cost + o.cost → hops_at nat_cmp k ws ≡ [])
        → IsSoFar reach others r all (ws ++ way_over (e.cost + o.cost) e ∷ []) (record { cost = e.cost + o.cost; at = i; is_alone = true })
    least cost none = record {
      cost = cost;
      none_less = λ k less. hops_stay k ws (way_over (e.cost + o.cost) e) (above (e.cost + o.cost) k less) ∙ none k (omega (arith, less));
      within = lt;
      alone = λ _ d. hops_more (e.cost + o.cost) ws (way_over (e.cost + o.cost) e)
          ∙ ap (λ hs. hs ++ cond (e.cost + o.cost == e.cost + o.cost) e.hops []) (none (e.cost + o.cost) (omega arith))
          ∙ ap (λ b. cond b e.hops []) (same_yes (e.cost + o.cost)) ∙ sym (hops_here d);
    }

    after_none : ws ≡ [] → IsSoFar reach others r all (ws ++ way_over (e.cost + o.cost) e ∷ []) (record { cost = e.cost + o.cost; at = i; is_alone = true })
    after_none is = least (ap (λ vs. cost_of (best_of nat_cmp (vs ++ way_over (e.cost + o.cost) e ∷ []))) is) (λ k le. ap (hops_at nat_cmp k) is)

    module _ (b : Best) (known : IsSoFar reach others r all ws b) where
      cost_is : (k : ℕ) → min b.cost (e.cost + o.cost) ≡ k → cost_of (best_of nat_cmp (ws ++ way_over (e.cost + o.cost) e ∷ [])) ≡ Some k
      cost_is k is = cost_more b.cost ws (way_over (e.cost + o.cost) e) known.cost ∙ ap Some is

      after_more : e.cost + o.cost < b.cost → IsSoFar reach others r all (ws ++ way_over (e.cost + o.cost) e ∷ []) (record { cost = e.cost + o.cost; at = i; is_alone = true })
      after_more less = least (cost_is (e.cost + o.cost) (omega (arith, less))) (λ k le. known.none_less k (omega (arith, le, less)))

      after_same : e.cost + o.cost ≡ b.cost → IsSoFar reach others r all (ws ++ way_over (e.cost + o.cost) e ∷ []) (record { cost = e.cost + o.cost; at = b.at; is_alone = false })
      after_same same = record {
        cost = cost_is (e.cost + o.cost) (omega (arith, same));
        none_less = λ k less. hops_stay k ws (way_over (e.cost + o.cost) e) (above (e.cost + o.cost) k less) ∙ known.none_less k (omega (arith, less, same));
        within = known.within;
        alone = λ yes. absurd (cc yes);
      }

      after_less : b.cost < e.cost + o.cost → IsSoFar reach others r all (ws ++ way_over (e.cost + o.cost) e ∷ []) b
      after_less more = record {
        cost = cost_is b.cost (omega (arith, more));
        none_less = λ k less. hops_stay k ws (way_over (e.cost + o.cost) e) (above (e.cost + o.cost) k (omega (arith, less, more))) ∙ known.none_less k less;
        within = known.within;
        alone = λ yes d. hops_stay b.cost ws (way_over (e.cost + o.cost) e) (above (e.cost + o.cost) b.cost more) ∙ known.alone yes d;
      }

      after_some : IsSoFar reach others r all (ws ++ way_over (e.cost + o.cost) e ∷ []) (better_of b (e.cost + o.cost) i)
      after_some = by (nat_lt (e.cost + o.cost) b.cost) refl
        where
          by_same : (t : Bool) → (e.cost + o.cost == b.cost) ≡ t → b.cost ≤ e.cost + o.cost
              → IsSoFar reach others r all (ws ++ way_over (e.cost + o.cost) e ∷ []) (cond t (record { cost = e.cost + o.cost; at = b.at; is_alone = false }) b)
          by_same true is le = after_same (same_if (e.cost + o.cost) b.cost is)
          by_same false is le = after_less (more_if (e.cost + o.cost) b.cost le is)

          by : (t : Bool) → nat_lt (e.cost + o.cost) b.cost ≡ t
              → IsSoFar reach others r all (ws ++ way_over (e.cost + o.cost) e ∷ [])
              (cond t (record { cost = e.cost + o.cost; at = i; is_alone = true }) (cond (e.cost + o.cost == b.cost) (record { cost = e.cost + o.cost; at = b.at; is_alone = false }) b))
          by true is = after_more (less_if (e.cost + o.cost) b.cost is)
          by false is = by_same (e.cost + o.cost == b.cost) refl (not_less_if (e.cost + o.cost) b.cost is)

    way_taken : (best : Option Best) → Known reach others r all ws best → Known reach others r all (ws ++ way_over (e.cost + o.cost) e ∷ []) (cheaper (Some (e.cost + o.cost)) best i)
    way_taken None known = after_none known
    way_taken (Some b) known = after_some b known

  ways_more : (front : List Offered) (o : Offered) → ways_of reach others r (front ++ o ∷ []) ≡ ways_of reach others r front ++ cons_option (way_to_offer reach others r o) []
  ways_more [] o = refl
  ways_more (x ∷ front) o = by (way_to_offer reach others r x) (ways_more front o)
    where
      by : (w : Option (Way ℕ)) → ways_of reach others r (front ++ o ∷ []) ≡ ways_of reach others r front ++ cons_option (way_to_offer reach others r o) []
          → cons_option w (ways_of reach others r (front ++ o ∷ [])) ≡ cons_option w (ways_of reach others r front) ++ cons_option (way_to_offer reach others r o) []
      by None rest = rest
      by (Some w) rest = ap (λ ws. w ∷ ws) rest

  offer_taken : (front : List Offered) (o : Offered) (best : Option Best) (i : ℕ) → i < length all → ((d : Offered) → get_or all i d ≡ o)
      → Known reach others r all (ways_of reach others r front) best → Known reach others r all (ways_of reach others r (front ++ o ∷ [])) (cheaper (cost_to reach others r o) best i)
  offer_taken front o best i lt here known = subst (λ ws. Known reach others r all ws (cheaper (cost_to reach others r o) best i)) (sym (ways_more front o)) (by (path_to_offer reach others r o) refl)
    where
      by : (p : Option LeastWalks) → path_to_offer reach others r o ≡ p → Known reach others r all (ways_of reach others r front ++ cons_option (option_map (λ (e : LeastWalks). way_over (e.cost + o.cost) e) p) [])
          (cheaper (option_map (λ (e : LeastWalks). e.cost + o.cost) p) best i)
      by None found = subst (λ ws. Known reach others r all ws best) (sym (append-nil (ways_of reach others r front))) known
      by (Some e) found = way_taken (ways_of reach others r front) o e i lt here found best known

  rest_taken : (os front : List Offered) (i : ℕ) (best : Option Best) → all ≡ front ++ os → i ≡ length front
      → Known reach others r all (ways_of reach others r front) best → Known reach others r all (ways_of reach others r all) (best_from reach others r best i os)
  rest_taken [] front i best is at known = subst (λ xs. Known reach others r all (ways_of reach others r xs) best) (sym (is ∙ append-nil front)) known
  rest_taken (o ∷ os) front i best is at known =
      let long : length all ≡ length front + length (o ∷ os) = ap length is ∙ length-append front (o ∷ os) in
      let lt : i < length all = omega (arith, long, at) in
      let here : (d : Offered) → get_or all i d ≡ o = λ d. ap (λ xs. get_or xs i d) is ∙ get_or_at front o os d i (sym at) in
      rest_taken os (front ++ o ∷ []) (i + 1) (cheaper (cost_to reach others r o) best i) (is ∙ sym (append_assoc front (o ∷ []) os))
      (ap (λ n. n + 1) at ∙ sym (length-append front (o ∷ []))) (offer_taken front o best i lt here known)

  all_taken : Known reach others r all (ways_of reach others r all) (best_from reach others r None 0 all)
  all_taken = rest_taken all [] 0 None refl refl refl

  -- the best of all
  pub is_best : (best : Option Best) → best ≡ best_from reach others r None 0 all
      → MatchOption best (best_of nat_cmp (ways_of reach others r all) ≡ None) (λ b. best_of nat_cmp (ways_of reach others r all) ≡ Some (record { cost = b.cost; hops = hops_at nat_cmp b.cost (ways_of reach others r all) }))
  is_best best is = by best (subst (Known reach others r all (ways_of reach others r all)) (sym is) all_taken)
    where
      by : (o : Option Best) → Known reach others r all (ways_of reach others r all) o
          → MatchOption o (best_of nat_cmp (ways_of reach others r all) ≡ None) (λ b. best_of nat_cmp (ways_of reach others r all) ≡ Some (record { cost = b.cost; hops = hops_at nat_cmp b.cost (ways_of reach others r all) }))
      by None known = ap (best_of nat_cmp) known
      by (Some b) known = best_by_cost (ways_of reach others r all) (Some b.cost) (sym known.cost)

  pub has_best : (best : Option Best) → best ≡ best_from reach others r None 0 all → IfSome best (HasBest reach others r all)
  has_best best is = by best (subst (Known reach others r all (ways_of reach others r all)) (sym is) all_taken)
    where
      by : (o : Option Best) → Known reach others r all (ways_of reach others r all) o → IfSome o (HasBest reach others r all)
      by None known = tt
      by (Some b) known = record { within = known.within; alone = known.alone }

-- hops in order stay as they are
hops_stand : (hops : List Hop) → IsStrictlySortedBy hop_cmp hops → hops ≡ in_order hop_cmp hops
hops_stand hops rise = same_by_members hop_cmp hop_cmp_total hops (in_order hop_cmp hops) rise (in_order-sorted hop_cmp hop_cmp_total hops)
    (λ h. (let both = in_order_in hop_cmp same_by_hop_cmp hops h in (both.1, both.0)))

pub none_rise : IsStrictlySortedBy hop_cmp []
unfolding IsStrictlySortedBy
none_rise = tt

-- those of the one way that is best
pub hops_alone : (r : Result (List Hop) AllocError) (here all : List Hop) → IfOk r (λ hops. hops ≡ here) → IfOk r (IsStrictlySortedBy hop_cmp) → here ≡ all → IfOk r (λ hops. hops ≡ in_order hop_cmp all)
hops_alone (Ok hops) here all are rise same = hops_stand hops rise ∙ ap (in_order hop_cmp) (are ∙ same)
hops_alone (Err e) here all are rise same = tt

-- the same where they are kept
pub kept_alone : {A : Type 0} (now : A → List Hop) (o : Option A) (here all : List Hop) → IfSome o (λ h. (now h ≡ here) × IsStrictlySortedBy hop_cmp (now h)) → here ≡ all → IfSome o (λ h. now h ≡ in_order hop_cmp all)
kept_alone now None here all are same = tt
kept_alone now (Some h) here all are same = hops_stand (now h) are.1 ∙ ap (in_order hop_cmp) (are.0 ∙ same)
