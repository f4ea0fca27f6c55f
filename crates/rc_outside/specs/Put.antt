-- What a call that puts text does to a sink.
use Rattle.std.specs.Prelude.{◌≡◌, ◌≤◌, ℕ, List, ◌++◌, Option, Result, OnOk, OnErr}
use Rattle.rc_outside.specs.Causes.{Rose}
use Rattle.rc_outside.specs.Sink.{appended, AppendsFront}
use Rattle.rc_outside.specs.declared.sink.Sink.{Ghosts}

-- the count of faults rose where the call errs, and stands as before where it doesn't
pub record CountsFault {E : Type 0} (before now : ℕ) (result : Result (Unit {0}) E) : Type 0 where
  pub left : OnOk result (now ≡ before)
  pub later : before ≤ now
  pub cause : OnErr result (Rose before now)

-- What every call that puts a text does: the text is put whole, or, where the call errs, a front of it is, and the count of faults rose.
pub record IsPut {S : Type 0} (sink : Ghosts S) {E : Type 0} (old new : S) (result : Result (Unit {0}) E) (text : List ℕ) : Type 0 where
  pub ok : OnOk result (sink.told new ≡ appended (sink.told old) text)
  pub err : OnErr result (AppendsFront (sink.told old) (sink.told new) text)
  pub faults : CountsFault (sink.faults old) (sink.faults new) result

-- of all these bytes a front is appended, and the others are in hand
pub record HasPut (before now : Option (List ℕ)) (all hand : List ℕ) : Type 0 where
  pub front : List ℕ
  pub whole : all ≡ front ++ hand
  pub told : now ≡ appended before front

-- Of all these bytes a front is put and the others are in hand, or, where the call errs, a front of all is put.
pub record IsPutByHand {S : Type 0} (sink : Ghosts S) {E : Type 0} (old new : S) (result : Result (Unit {0}) E) (all hand : List ℕ) : Type 0 where
  pub ok : OnOk result (HasPut (sink.told old) (sink.told new) all hand)
  pub err : OnErr result (AppendsFront (sink.told old) (sink.told new) all)
  pub faults : CountsFault (sink.faults old) (sink.faults new) result
