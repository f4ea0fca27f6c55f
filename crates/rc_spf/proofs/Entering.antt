-- Where the first nodes alone cost something to enter, to enter each node once costs no more than to enter those.
use Rattle.std.proofs.Common.{◌≡◌, ℕ, zero, suc, ◌+◌, ◌*◌, ◌<◌, ◌≤◌, Bool, true, false, cond, nat_lt, refl, arith}
use Rattle.std.proofs.lemmas.Bool.Decides.{nat_tests}
use Rattle.rc_spf.specs.Steps.{cost_to_enter}
use Rattle.rc_spf.specs.Weights.{first_cost, FirstNodesCost}

module _ (n most : ℕ) where
  behind : (k m : ℕ) → n ≤ k → cost_to_enter (first_cost n most) k m ≡ 0
  behind k zero past = refl
  behind k (suc m) past = by (nat_lt k n) refl (behind (suc k) m (omega (arith, past)))
    where
      by : (b : Bool) → nat_lt k n ≡ b → cost_to_enter (first_cost n most) (suc k) m ≡ 0 → cond b most 0 + cost_to_enter (first_cost n most) (suc k) m ≡ 0
      by true is rest = absurd (let lt : k < n = grind (arith, nat_tests) in omega (arith, lt, past))
      by false is rest = omega (arith, rest)

  before : (j k m : ℕ) → k + j ≡ n → cost_to_enter (first_cost n most) k m ≤ j * most
  before zero k m sum = let none : cost_to_enter (first_cost n most) k m ≡ 0 = behind k m (omega (arith, sum)) in omega (arith, none)
  before (suc j) k zero sum = omega arith
  before (suc j) k (suc m) sum = by (nat_lt k n) (before j (suc k) m (omega (arith, sum)))
    where
      by : (b : Bool) → cost_to_enter (first_cost n most) (suc k) m ≤ j * most → cond b most 0 + cost_to_enter (first_cost n most) (suc k) m ≤ suc j * most
      by true rest = let more : suc j * most ≡ most + j * most = omega arith in omega (arith, rest, more)
      by false rest = let more : suc j * most ≡ most + j * most = omega arith in omega (arith, rest, more)

pub first_nodes : FirstNodesCost
first_nodes n most m = before n most n 0 m (omega arith)
