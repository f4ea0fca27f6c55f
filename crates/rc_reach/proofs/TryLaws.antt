-- What the last of two tries gave.
use Rattle.std.proofs.Common.{◌≡◌, true, false, Option, Some, None, is_some, unwrap_or, Result, Ok, Err, IfOk, IfErr, IfSome}
use Rattle.rc_bdd.specs.declared.work.SetError.{SetError}
use Rattle.rc_bdd.specs.declared.work.SetError.TheVariants.{Full, Memory}
use Rattle.rc_reach.specs.FirstTry.{is_full}

module _ {A : Type 0} where
  pub last_ok : (P : A → Type 0) (first : Result A SetError) (second : Option (Result A SetError)) → IfOk first P → IfSome second (λ again. IfOk again P) → IfOk (unwrap_or second first) P
  last_ok P first (Some again) one two = two
  last_ok P first None one two = one

  -- the first try is the last one only where its table was not full
  pub last_full : (Q : Type 0) (first : Result A SetError) (second : Option (Result A SetError)) → is_some second ≡ is_full first → IfSome second (λ again. IfErr again (λ e. e ≡ Full → Q))
      → IfErr (unwrap_or second first) (λ e. e ≡ Full → Q)
  last_full Q first (Some again) is full = full
  last_full Q (Ok made) None is full = tt
  last_full Q (Err Full) None is full = λ e. absurd (let bad : false ≡ true = is in cc)
  last_full Q (Err Memory) None is full = λ e. absurd (let bad : Memory ≡ Full = e in cc)
