-- Values under names and their indexes.
use Rattle.std.proofs.Common.{◌≡◌, ◌∙◌, ℕ, suc, ◌+◌, Bool, true, false, not, cond, nat_lt, List, [], ◌∷◌, length, Option, Some, None, refl, sym, ap, arith}
use Rattle.std.specs.Prelude.{slice_get}
use Rattle.std.specs.List.{position_or_len}
use Rattle.std.specs.Map.{keys_of, values_of}
use Rattle.std.specs.Option.{unwrap_or}
use Rattle.rc_config.specs.Lent.{set_value_at}
use Rattle.std.proofs.lemmas.Option.{cond_some, none-some}
use Rattle.std.proofs.lemmas.Bool.Decides.{nat_tests}
use Rattle.rc_base.specs.Name.{same_name}
use Rattle.rc_config.specs.Named.{named, index_of, with_value}
use Rattle.rc_commands.proofs.NamedLaws.{same_name-self}

one_more : (n : ℕ) → 1 + n ≡ suc n
one_more n = omega arith

-- the index of a name, or the length
abbrev at : {V : Type 0} → List (List ℕ × V) → List ℕ → ℕ
at es name = position_or_len (same_name name) (keys_of es)

at-is : {V : Type 0} (es : List (List ℕ × V)) (name : List ℕ) (i : ℕ) → index_of es name ≡ Some i → (nat_lt (at es name) (length (keys_of es)) ≡ true) × (at es name ≡ i)
at-is es name i e = cond_some (nat_lt (at es name) (length (keys_of es))) (at es name) i e

-- a value that is written where one was put
set_put : {V : Type 0} (es : List (List ℕ × V)) (name : List ℕ) (v w : V) → set_value_at (with_value es name v) (at (with_value es name v) name) w ≡ with_value es name w
set_put [] name v w = rw (same_name-self name) refl
set_put (e ∷ es) name v w = by (same_name name e.0) refl (set_put es name v w)
  where
    by : (b : Bool) → same_name name e.0 ≡ b → set_value_at (with_value es name v) (at (with_value es name v) name) w ≡ with_value es name w
        → set_value_at (with_value (e ∷ es) name v) (at (with_value (e ∷ es) name v) name) w ≡ with_value (e ∷ es) name w
    by true p rest = rw p (rw p refl)
    by false p rest = rw p (rw p (ap (λ n. set_value_at (e ∷ with_value es name v) n w) (one_more (at (with_value es name v) name)) ∙ ap (λ t. e ∷ t) rest))

get_put : {V : Type 0} (es : List (List ℕ × V)) (name : List ℕ) (v : V) → slice_get (values_of (with_value es name v)) (at (with_value es name v) name) ≡ Some v
get_put [] name v = rw (same_name-self name) refl
get_put (e ∷ es) name v = by (same_name name e.0) refl (get_put es name v)
  where
    by : (b : Bool) → same_name name e.0 ≡ b → slice_get (values_of (with_value es name v)) (at (with_value es name v) name) ≡ Some v
        → slice_get (values_of (with_value (e ∷ es) name v)) (at (with_value (e ∷ es) name v) name) ≡ Some v
    by true p rest = rw p (rw p refl)
    by false p rest = rw p (rw p (ap (slice_get (e.1 ∷ values_of (with_value es name v))) (one_more (at (with_value es name v) name)) ∙ rest))

pub written : {V : Type 0} (es made : List (List ℕ × V)) (name : List ℕ) (v w : V) (i : ℕ) → made ≡ with_value es name v → index_of made name ≡ Some i → set_value_at made i w ≡ with_value es name w
written es made name v w i is found =
    ap (λ n. set_value_at made n w) (sym (at-is made name i found).1)
    ∙ ap (λ m. set_value_at m (at m name) w) is ∙ set_put es name v w

pub held : {V : Type 0} (es made : List (List ℕ × V)) (name : List ℕ) (v : V) (i : ℕ) → made ≡ with_value es name v → index_of made name ≡ Some i → slice_get (values_of made) i ≡ Some v
held es made name v i is found =
    ap (slice_get (values_of made)) (sym (at-is made name i found).1)
    ∙ ap (λ m. slice_get (values_of m) (at m name)) is ∙ get_put es name v

-- a known value that is put again changes nothing
known : {V : Type 0} (es : List (List ℕ × V)) (name : List ℕ) (d : V) → nat_lt (at es name) (length (keys_of es)) ≡ true → with_value es name (unwrap_or (named es name) d) ≡ es
known [] name d less = absurd (cc)
known (e ∷ es) name d less = by (same_name name e.0) refl (known es name d) less
  where
    by : (b : Bool) → same_name name e.0 ≡ b → (nat_lt (at es name) (length (keys_of es)) ≡ true → with_value es name (unwrap_or (named es name) d) ≡ es)
        → nat_lt (cond (not b) (1 + at es name) 0) (length (keys_of (e ∷ es))) ≡ true
        → cond b ((e.0, unwrap_or (cond b (Some e.1) (named es name)) d) ∷ es) (e ∷ with_value es name (unwrap_or (cond b (Some e.1) (named es name)) d)) ≡ e ∷ es
    by true p rest less = refl
    by false p rest less = ap (λ t. e ∷ t) (rest (grind (arith, nat_tests)))

pub known_again : {V : Type 0} (es : List (List ℕ × V)) (name : List ℕ) (d : V) (i : ℕ) → index_of es name ≡ Some i → es ≡ with_value es name (unwrap_or (named es name) d)
known_again es name d i found = sym (known es name d (at-is es name i found).0)

-- a name that isn't there
no_index : {V : Type 0} (es : List (List ℕ × V)) (name : List ℕ) → nat_lt (at es name) (length (keys_of es)) ≡ false → named es name ≡ None
no_index [] name more = refl
no_index (e ∷ es) name more = by (same_name name e.0) (no_index es name) more
  where
    by : (b : Bool) → (nat_lt (at es name) (length (keys_of es)) ≡ false → named es name ≡ None) → nat_lt (cond (not b) (1 + at es name) 0) (length (keys_of (e ∷ es))) ≡ false
        → cond b (Some e.1) (named es name) ≡ None
    by true rest more = absurd (grind (arith, nat_tests))
    by false rest more = rest (grind (arith, nat_tests))

none_cond : (b : Bool) (n : ℕ) → cond b (Some n) None ≡ None → b ≡ false
none_cond true n e = absurd (none-some n (sym e))
none_cond false n e = refl

pub not_there : {V : Type 0} (es : List (List ℕ × V)) (name : List ℕ) → index_of es name ≡ None → named es name ≡ None
not_there es name none = no_index es name (none_cond _ _ none)

behind : (a n m : ℕ) → nat_lt a n ≡ true → a ≡ m → cond (nat_lt (1 + a) (suc n)) (Some (1 + a)) None ≡ Some (suc m)
behind a n m less is =
    let up : nat_lt (suc m) (suc n) ≡ true = grind (arith, nat_tests) in
    ap (λ k. cond (nat_lt k (suc n)) (Some k) None) (one_more a ∙ ap suc is) ∙ ap (λ b. cond b (Some (suc m)) None) up

-- and goes last
last_put : {V : Type 0} (es : List (List ℕ × V)) (name : List ℕ) (v : V) → named es name ≡ None → index_of (with_value es name v) name ≡ Some (length es)
last_put [] name v none = rw (same_name-self name) refl
last_put (e ∷ es) name v none = by (same_name name e.0) refl (last_put es name v) none
  where
    by : (b : Bool) → same_name name e.0 ≡ b → (named es name ≡ None → index_of (with_value es name v) name ≡ Some (length es)) → cond b (Some e.1) (named es name) ≡ None
        → index_of (with_value (e ∷ es) name v) name ≡ Some (suc (length es))
    by true p rest none = absurd (none-some e.1 (sym none))
    by false p rest none =
        let there = at-is (with_value es name v) name (length es) (rest none) in
        rw p (rw p (behind (at (with_value es name v) name) (length (keys_of (with_value es name v))) (length es) there.0 there.1))

pub put_last : {V : Type 0} (es made : List (List ℕ × V)) (name : List ℕ) (d : V) → index_of es name ≡ None → made ≡ with_value es name d
    → (made ≡ with_value es name (unwrap_or (named es name) d)) × (index_of made name ≡ Some (length es))
put_last {V} es made name d none is =
    let new = not_there es name none in
    (is ∙ ap (λ (o : Option V). with_value es name (unwrap_or o d)) (sym new), ap (λ m. index_of m name) is ∙ last_put es name d new)
