-- Of a router's own route of a prefix, the one that its best path gives and the one by OSPF the preferred one, where another best path comes.
use Rattle.std.proofs.Common.{refl, ◌≡◌, ap, sym, ◌∙◌, ◌⊎◌, inl, inr, ℕ, ◌==◌, Bool, true, false, not, ◌&&◌, ◌||◌, cond, List, Option, Some, None, IfSome, arith}
use Rattle.std.specs.Prelude.{nat_lt}
use Rattle.std.proofs.lemmas.Bool.Decides.{nat_tests}
use Rattle.std.proofs.lemmas.Grind.{common_steps}
use Rattle.std.proofs.lemmas.Option.{none-some, same_Some}
use Rattle.rc_base.specs.Prefix.{Cidr}
use Rattle.rc_bgp.specs.RouterStates.{route_at}
use Rattle.rc_route.specs.Hops.{source_rank}
use Rattle.rc_route.specs.declared.route.Route.{Route}
use Rattle.rc_route.specs.declared.route.Source.{Source}
use Rattle.rc_route.specs.declared.route.Source.TheVariants.{Connected, Static, Ebgp, Ospf, OspfIa, OspfE1, OspfE2, Ibgp}
use Rattle.rc_rib.specs.Best.{better, is_preferred}
use Rattle.rc_rib.specs.Mending.{is_learned, of_all, route_after}
use Rattle.rc_rib.specs.Merging.{of_both}

-- ---- by distance, then by source

-- who isn't before one isn't before who is before that one
numbers_behind : (d r e s f t : ℕ) → (nat_lt d e || ((d == e) && nat_lt r s)) ≡ false → (nat_lt f e || ((f == e) && nat_lt t s)) ≡ true → (nat_lt d f || ((d == f) && nat_lt r t)) ≡ false
numbers_behind d r e s f t isnt is = grind (arith, common_steps, nat_tests)

numbers_through : (d r e s f t : ℕ) → (nat_lt d e || ((d == e) && nat_lt r s)) ≡ true → (nat_lt e f || ((e == f) && nat_lt s t)) ≡ true → (nat_lt d f || ((d == f) && nat_lt r t)) ≡ true
numbers_through d r e s f t one other = grind (arith, common_steps, nat_tests)

numbers_apart : (d r e s : ℕ) → (r ≡ s → ⊥) → (nat_lt d e || ((d == e) && nat_lt r s)) ≡ not (nat_lt e d || ((e == d) && nat_lt s r))
numbers_apart d r e s apart = grind (arith, common_steps, nat_tests)

-- ---- sources of which best paths give routes stand apart from the others

learned_rank : (s : Source) → is_learned s ≡ true → (source_rank s ≡ 2) ⊎ (source_rank s ≡ 7)
learned_rank Ebgp is = inl refl
learned_rank Ibgp is = inr refl
learned_rank Connected is = absurd (cc)
learned_rank Static is = absurd (cc)
learned_rank Ospf is = absurd (cc)
learned_rank OspfIa is = absurd (cc)
learned_rank OspfE1 is = absurd (cc)
learned_rank OspfE2 is = absurd (cc)

other_rank : (s : Source) → is_learned s ≡ false → (source_rank s ≡ 2 → ⊥) × (source_rank s ≡ 7 → ⊥)
other_rank Ebgp is = absurd (cc)
other_rank Ibgp is = absurd (cc)
other_rank Connected is = (λ e. (let none : ⊥ = omega arith in none), λ e. (let none : ⊥ = omega arith in none))
other_rank Static is = (λ e. (let none : ⊥ = omega arith in none), λ e. (let none : ⊥ = omega arith in none))
other_rank Ospf is = (λ e. (let none : ⊥ = omega arith in none), λ e. (let none : ⊥ = omega arith in none))
other_rank OspfIa is = (λ e. (let none : ⊥ = omega arith in none), λ e. (let none : ⊥ = omega arith in none))
other_rank OspfE1 is = (λ e. (let none : ⊥ = omega arith in none), λ e. (let none : ⊥ = omega arith in none))
other_rank OspfE2 is = (λ e. (let none : ⊥ = omega arith in none), λ e. (let none : ⊥ = omega arith in none))

ranks_apart : (s t : Source) → is_learned s ≡ false → is_learned t ≡ true → source_rank s ≡ source_rank t → ⊥
ranks_apart s t other by_path e = by (learned_rank t by_path)
  where
    by : (source_rank t ≡ 2) ⊎ (source_rank t ≡ 7) → ⊥
    by (inl two) = (other_rank s other).0 (e ∙ two)
    by (inr seven) = (other_rank s other).1 (e ∙ seven)

-- ---- routes

behind_preferred : (x y z : Route) → is_preferred x y ≡ false → is_preferred z y ≡ true → is_preferred x z ≡ false
behind_preferred x y z isnt is = numbers_behind x.distance (source_rank x.source) y.distance (source_rank y.source) z.distance (source_rank z.source) isnt is

through_preferred : (x y z : Route) → is_preferred x y ≡ true → is_preferred y z ≡ true → is_preferred x z ≡ true
through_preferred x y z one other = numbers_through x.distance (source_rank x.source) y.distance (source_rank y.source) z.distance (source_rank z.source) one other

-- of two whose sources stand apart the preferred one is the same, whichever comes first
turned_better : (x m : Route) → is_learned x.source ≡ false → is_learned m.source ≡ true → better x m ≡ better m x
turned_better x m other by_path = by (is_preferred x m) refl
  where
    is : is_preferred m x ≡ not (is_preferred x m)
    is = numbers_apart m.distance (source_rank m.source) x.distance (source_rank x.source) (λ e. ranks_apart x.source m.source other by_path (sym e))

    by : (b : Bool) → is_preferred x m ≡ b → cond (is_preferred m x) m x ≡ cond (is_preferred x m) x m
    by true e = ap (λ c. cond c m x) (is ∙ ap not e) ∙ sym (ap (λ c. cond c x m) e)
    by false e = ap (λ c. cond c m x) (is ∙ ap not e) ∙ sym (ap (λ c. cond c x m) e)

clash : {X : Type 0} (x y : Route) → x ≡ y → is_learned x.source ≡ true → is_learned y.source ≡ false → X
clash x y e by_path other = absurd (let both : true ≡ false = sym by_path ∙ ap (λ (r : Route). is_learned r.source) e ∙ other in cc)

-- ---- a route that no best path gave is the preferred of all others

without_learned : (a l i : Option Route) (x : Route) → of_both (of_both a l) i ≡ Some x → is_learned x.source ≡ false → IfSome l (λ y. is_learned y.source ≡ true) → of_both a i ≡ Some x
without_learned None None i x e other by_path = e
without_learned (Some a) None i x e other by_path = e
without_learned None (Some l) None x e other by_path = clash l x (same_Some l x e) by_path other
without_learned None (Some l) (Some i) x e other by_path = by (is_preferred i l) e
  where
    by : (b : Bool) → Some (cond b i l) ≡ Some x → Some i ≡ Some x
    by true e = e
    by false e = clash l x (same_Some l x e) by_path other
without_learned (Some a) (Some l) None x e other by_path = by (is_preferred l a) e
  where
    by : (b : Bool) → Some (cond b l a) ≡ Some x → Some a ≡ Some x
    by true e = clash l x (same_Some l x e) by_path other
    by false e = e
without_learned (Some a) (Some l) (Some i) x e other by_path = by (is_preferred l a) refl e
  where
    second : is_preferred l a ≡ true → (b : Bool) → is_preferred i l ≡ b → Some (cond b i l) ≡ Some x → Some (better a i) ≡ Some x
    second first true is e = ap (λ c. Some (cond c i a)) (through_preferred i l a is first) ∙ e
    second first false is e = clash l x (same_Some l x e) by_path other

    by : (b : Bool) → is_preferred l a ≡ b → of_both (Some (cond b l a)) (Some i) ≡ Some x → Some (better a i) ≡ Some x
    by true is e = second is (is_preferred i l) refl e
    by false is e = e

-- beside another best path it is as if all others were asked
with_learned : (a i m : Option Route) (x : Route) → of_both a i ≡ Some x → is_learned x.source ≡ false → IfSome m (λ y. is_learned y.source ≡ true) → of_both (Some x) m ≡ of_both (of_both a m) i
with_learned None i None x e other by_path = sym e
with_learned (Some a) i None x e other by_path = sym e
with_learned None None (Some m) x e other by_path = absurd (none-some x e)
with_learned None (Some i) (Some m) x e other by_path =
    ap (λ (y : Route). Some (better y m)) (sym (same_Some i x e)) ∙ ap (λ y. Some y) (turned_better i m (ap (λ (y : Route). is_learned y.source) (same_Some i x e) ∙ other) by_path)
with_learned (Some a) None (Some m) x e other by_path = ap (λ (y : Route). Some (better y m)) (sym (same_Some a x e))
with_learned (Some a) (Some i) (Some m) x e other by_path = by (is_preferred i a) refl e
  where
    of_i : is_preferred i a ≡ true → i ≡ x → (b : Bool) → is_preferred m a ≡ b → better i m ≡ better (cond b m a) i
    of_i first same true is = turned_better i m (ap (λ (y : Route). is_learned y.source) same ∙ other) by_path
    of_i first same false is = ap (λ c. cond c m i) (behind_preferred m a i is first) ∙ sym (ap (λ c. cond c i a) first)

    of_a : is_preferred i a ≡ false → (b : Bool) → is_preferred m a ≡ b → cond b m a ≡ better (cond b m a) i
    of_a first true is = sym (ap (λ c. cond c i m) (behind_preferred i a m first is))
    of_a first false is = sym (ap (λ c. cond c i a) first)

    by : (b : Bool) → is_preferred i a ≡ b → Some (cond b i a) ≡ Some x → Some (better x m) ≡ Some (better (better a m) i)
    by true is e = ap (λ (y : Route). Some (better y m)) (sym (same_Some i x e)) ∙ ap (λ y. Some y) (of_i is (same_Some i x e) (is_preferred m a) refl)
    by false is e = ap (λ (y : Route). Some (better y m)) (sym (same_Some a x e)) ∙ ap (λ y. Some y) (of_a is (is_preferred m a) refl)

none_of_all : (a l i m : Option Route) → of_both (of_both a l) i ≡ None → m ≡ of_both (of_both a m) i
none_of_all None None None None e = refl
none_of_all None None None (Some m) e = refl
none_of_all None None (Some i) m e = absurd (cc)
none_of_all None (Some l) None m e = absurd (cc)
none_of_all None (Some l) (Some i) m e = absurd (cc)
none_of_all (Some a) None None m e = absurd (cc)
none_of_all (Some a) None (Some i) m e = absurd (cc)
none_of_all (Some a) (Some l) None m e = absurd (cc)
none_of_all (Some a) (Some l) (Some i) m e = absurd (cc)

-- what comes of what the earlier table has there, and of another best path, is what comes of all
pub known_stays : (own inside : List Route) (p : Cidr) (a l i m : Option Route) → a ≡ route_at own p → i ≡ route_at inside p → IfSome l (λ y. is_learned y.source ≡ true) → IfSome m (λ y. is_learned y.source ≡ true)
    → route_after own inside (of_both (of_both a l) i) m p ≡ of_all own m inside p
known_stays own inside p a l i m is_own is_inside by_path by_next = by (of_both (of_both a l) i) refl
  where
    whole : of_both (of_both a m) i ≡ of_all own m inside p
    whole = λ k. of_both (of_both (is_own k) m) (is_inside k)

    one : (x : Route) → of_both (of_both a l) i ≡ Some x → (b : Bool) → is_learned x.source ≡ b → cond b (of_all own m inside p) (of_both (Some x) m) ≡ of_all own m inside p
    one x e true is = refl
    one x e false is = with_learned a i m x (without_learned a l i x e is by_path) is by_next ∙ whole

    by : (o : Option Route) → of_both (of_both a l) i ≡ o → route_after own inside o m p ≡ of_all own m inside p
    by None e = none_of_all a l i m e ∙ whole
    by (Some x) e = one x e (is_learned x.source) refl
