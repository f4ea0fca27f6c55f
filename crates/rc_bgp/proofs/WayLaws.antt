-- What is noted of an address is found again.
use Rattle.std.proofs.Common.{refl, ◌≡◌, ap, ◌∙◌, ℕ, ◌==◌, nat_lt, arith, Bool, true, false, cond, List, [], ◌∷◌, Option, Some}
use Rattle.std.specs.Option.{option_map}
use Rattle.std.proofs.lemmas.Bool.Decides.{nat_tests}
use Rattle.rc_config.specs.ByNumber.{placed, with_number}
use Rattle.rc_route.specs.declared.route.Route.{Route}
use Rattle.rc_bgp.specs.Reaching.{metric_to}
use Rattle.rc_bgp.specs.Ways.{AreWays, way_addr}
use Rattle.rc_bgp.specs.declared.resolver.Way.{Way}

same_number : (m n : ℕ) → (m == n) ≡ true → m ≡ n
same_number m n e = grind (arith, nat_tests)

some_same : (x y : Option ℕ) → Some x ≡ Some y → x ≡ y
some_same x y e = cc

pub found_way : (table : List Route) (ways : List Way) (a : ℕ) (metric : Option ℕ) → AreWays table ways → Some metric ≡ option_map (λ (w : Way). w.metric) (with_number way_addr a ways) → metric ≡ metric_to table a
found_way table [] a metric are found = absurd (cc)
found_way table (w ∷ ws) a metric are found = by (w.addr == a) refl found (found_way table ws a metric are.1)
  where
    by : (b : Bool) → (w.addr == a) ≡ b → Some metric ≡ option_map (λ (v : Way). v.metric) (cond b (Some w) (with_number way_addr a ws))
        → (Some metric ≡ option_map (λ (v : Way). v.metric) (with_number way_addr a ws) → metric ≡ metric_to table a) → metric ≡ metric_to table a
    by true is here later = some_same metric w.metric here ∙ are.0 ∙ ap (metric_to table) (same_number w.addr a is)
    by false is there later = later there

pub noted_ways : (table : List Route) (w : Way) (ways : List Way) → AreWays table ways → w.metric ≡ metric_to table w.addr → AreWays table (placed way_addr w ways)
noted_ways table w [] are is = (is, tt)
noted_ways table w (v ∷ vs) are is = by (nat_lt w.addr v.addr) (w.addr == v.addr) (noted_ways table w vs are.1 is)
  where
    by : (b c : Bool) → AreWays table (placed way_addr w vs) → AreWays table (cond b (w ∷ v ∷ vs) (cond c (w ∷ vs) (v ∷ placed way_addr w vs)))
    by true c rest = (is, are)
    by false true rest = (is, are.1)
    by false false rest = (are.0, rest)
