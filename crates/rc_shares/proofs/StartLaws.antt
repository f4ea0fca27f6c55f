-- Where the shares of workers begin.
use Rattle.std.proofs.Common.{◌≡◌, ℕ, ◌+◌, ◌*◌, ◌/◌, ◌%◌, ◌<◌, ◌≤◌, ap, sym, ◌∙◌, arith}
use Rattle.std.proofs.Math.Nat.{mul-div_cancel, zero-div, div-mul-le_self, mul-le-mul_left, mul-add-div_right, add-mul, mul_right_comm}
use Rattle.std.proofs.lemmas.Nat.{le-div, div-add-mod'}
use Rattle.rc_outside.specs.Shares.{share_start}

pub start-first : (count workers : ℕ) → share_start count workers 0 ≡ 0
start-first count workers = let e : count * 0 ≡ 0 = omega arith in rw e (zero-div workers)

pub start-last : (count workers : ℕ) → 0 < workers → share_start count workers workers ≡ count
start-last count workers some = mul-div_cancel count some

pub start-rises : (count workers a b : ℕ) → 0 < workers → a ≤ b → share_start count workers a ≤ share_start count workers b
start-rises count workers a b some rises =
    let front : count * a / workers * workers ≤ count * a = div-mul-le_self (count * a) workers in
    let more : count * a ≤ count * b = mul-le-mul_left count rises in
    le-div (count * a / workers) (count * b) workers some (omega (arith, front, more))

pub start-within : (count workers a : ℕ) → 0 < workers → a ≤ workers → share_start count workers a ≤ count
start-within count workers a some le = let up = start-rises count workers a workers some le in let end = start-last count workers some in omega (arith, up, end)

-- the same by numbers that are not greater than the number of items, and the product of two numbers of workers
pub start-by_parts : (count workers worker : ℕ) → 0 < workers → count / workers * worker + count % workers * worker / workers ≡ share_start count workers worker
start-by_parts count workers worker some =
    let whole : count / workers * workers + count % workers ≡ count = div-add-mod' count workers in
    let apart : (count / workers * workers + count % workers) * worker ≡ count / workers * worker * workers + count % workers * worker =
    add-mul (count / workers * workers) (count % workers) worker ∙ ap (λ k. k + count % workers * worker) (mul_right_comm (count / workers) workers worker) in
    sym (mul-add-div_right some (count / workers * worker) (count % workers * worker)) ∙ ap (λ k. k / workers) (sym apart ∙ ap (λ k. k * worker) whole)
