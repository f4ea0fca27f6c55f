-- The trees of numbers are reduced.
use Rattle.std.proofs.Common.{sym, ℕ, zero, suc, ◌+◌, ◌-◌, ◌^◌, ◌<◌, ◌≤◌, Bool, true, false, cond, nat_lt, arith}
use Rattle.std.specs.Prelude.{◌≢◌}
use Rattle.rc_base.specs.Header.{bit_count}
use Rattle.rc_base.specs.Addr.{leading_bits}
use Rattle.rc_base.specs.Prefix.{Cidr, prefix_at}
use Rattle.rc_base.specs.Fields.{is_set}
use Rattle.rc_trees.specs.Trees.{Tree, never, always, top, IsReduced}
use Rattle.rc_trees.specs.Combine.{joined}
use Rattle.rc_trees.specs.Recipes.{IsOfReduced}
use Rattle.rc_trees.specs.Fields.{with_bit, masked, exact, under_bit, under, below, at_most, chain, host}
use Rattle.rc_trees.proofs.ReducedLaws.{Starts, starts-joined, sooner}

-- ---- numbers

module _ (last : ℕ) (bit : last < bit_count) where
  not_never : (v : ℕ) (one : Bool) (t : Tree) → t ≢ never → with_bit false one v t ≢ never
  not_never v true t other = λ e. absurd (cc)
  not_never v false t other = λ e. absurd (cc)

  -- a tree of k bits tests none before the first of them
  abbrev pub IsOfBits : ℕ → Tree → Type 0
  IsOfBits k t = Starts (last + 1 - k) t × (t ≢ never)

  step : (k : ℕ) (skip one : Bool) (t : Tree) → k < last + 1 → IsOfBits k t → IsOfBits (suc k) (with_bit skip one (last - k) t)
  step k true one t less ok = (sooner (last + 1 - suc k) (last + 1 - k) t (omega arith) ok.0, ok.1)
  step k false true t less ok =
      let start = ok.0.1 in
      ((((let x : last - k < top never = omega arith in x), (let x : last - k < top t = omega arith in x), (λ e. ok.1 (sym e)), tt, ok.0.0), (let x : last + 1 - suc k ≤ last - k = omega arith in x)), λ e. absurd (cc))
  step k false false t less ok =
      let start = ok.0.1 in
      ((((let x : last - k < top t = omega arith in x), (let x : last - k < top never = omega arith in x), ok.1, ok.0.0, tt), (let x : last + 1 - suc k ≤ last - k = omega arith in x)), λ e. absurd (cc))

  pub masked-bits : (count w n : ℕ) → count ≤ last + 1 → IsOfBits count (masked last count w n)
  unfolding masked
  masked-bits zero w n le = ((tt, (let x : last + 1 - zero ≤ top always = omega arith in x)), λ e. absurd (cc))
  masked-bits (suc k) w n le = step k (is_set w k) (is_set n k) (masked last k w n) (omega arith) (masked-bits k w n (omega arith))

  pub reduced-masked : (count w n : ℕ) → count ≤ last + 1 → IsReduced (masked last count w n)
  reduced-masked count w n le = (masked-bits count w n le).0.0

  under-step : (k : ℕ) (one : Bool) (t : Tree) → k < last + 1 → Starts (last + 1 - k) t → Starts (last + 1 - suc k) (under_bit one (last - k) t)
  under-step k true t less ok =
      let rest : Starts (suc (last - k)) t = (ok.0, (let a = ok.1 in omega arith)) in
      let front : Starts (suc (last - k)) always = (tt, (let x : suc (last - k) ≤ top always = omega arith in x)) in
      sooner (last + 1 - suc k) (last - k) (joined (last - k) always t) (omega arith) (starts-joined (last - k) always t front rest)
  under-step k false t less ok =
      let rest : Starts (suc (last - k)) t = (ok.0, (let a = ok.1 in omega arith)) in
      let back : Starts (suc (last - k)) never = (tt, (let x : suc (last - k) ≤ top never = omega arith in x)) in
      sooner (last + 1 - suc k) (last - k) (joined (last - k) t never) (omega arith) (starts-joined (last - k) t never rest back)

  starts-under : (count n : ℕ) (equal : Tree) → count ≤ last + 1 → Starts (last + 1) equal → Starts (last + 1 - count) (under last count n equal)
  unfolding under
  starts-under zero n equal le ok = (ok.0, (let a = ok.1 in omega arith))
  starts-under (suc k) n equal le ok = under-step k (is_set n k) (under last k n equal) (omega arith) (starts-under k n equal (omega arith) ok)

  either : (b : Bool) (s t : Tree) → IsReduced s → IsReduced t → IsReduced (cond b s t)
  either true s t one two = one
  either false s t one two = two

  pub reduced-exact : (count n : ℕ) → count ≤ last + 1 → IsReduced (exact last count n)
  reduced-exact count n le = either (nat_lt n (2 ^ count)) (masked last count 0 n) never (reduced-masked count 0 n le) tt

  pub reduced-below : (count n : ℕ) → count ≤ last + 1 → IsReduced (below last count n)
  reduced-below count n le = either (nat_lt n (2 ^ count)) (under last count n never) always (starts-under count n never le (tt, (let x : last + 1 ≤ top never = omega arith in x))).0 tt

  pub reduced-at_most : (count n : ℕ) → count ≤ last + 1 → IsReduced (at_most last count n)
  reduced-at_most count n le = either (nat_lt n (2 ^ count)) (under last count n always) always (starts-under count n always le (tt, (let x : last + 1 ≤ top always = omega arith in x))).0 tt

-- ---- prefixes

pub of_reduced-chain : (p : Cidr) → p.len ≤ 32 → IsOfReduced (chain p)
of_reduced-chain p short = reduced-exact (p.len - 1) (omega arith) p.len (leading_bits p.len p.network) (omega arith)

pub of_reduced-host : (a : ℕ) → IsOfReduced (host a)
of_reduced-host a = of_reduced-chain (prefix_at a 32) (let x : 32 ≤ 32 = omega arith in x)
