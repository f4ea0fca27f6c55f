-- What texts have in common at their fronts, byte by byte.
use Rattle.std.proofs.Common.{◌≡◌, ℕ, zero, suc, ◌<◌, ◌≤◌, arith, Bool, true, false, cond, List, [], ◌∷◌, ap, length, drop, get_or, Some, None, refl, ◌∙◌}
use Rattle.std.specs.Prelude.{nat_eq}
use Rattle.std.proofs.lemmas.Bool.Decides.{nat_tests}
use Rattle.rc_openings.specs.Opening.{byte_before, common, told_by, left_behind}
use Rattle.rc_openings.specs.declared.opening.Glance.TheVariants.{Unclear}
use Rattle.rc_openings.proofs.PartLemmas.{compared}

-- so many bytes are equal, and the next ones differ where both texts go on
pub common_is : (o l : List ℕ) (n : ℕ) → n ≤ length o → n ≤ length l → ((k : ℕ) → k < n → get_or o k 0 ≡ get_or l k 0)
    → (n < length o → n < length l → nat_eq (get_or o n 0) (get_or l n 0) ≡ false) → common o l ≡ n
common_is [] l zero ho hl same other = refl
common_is [] l (suc n) ho hl same other = absurd (omega arith)
common_is (a ∷ o) [] zero ho hl same other = refl
common_is (a ∷ o) [] (suc n) ho hl same other = absurd (omega arith)
common_is (a ∷ o) (b ∷ l) zero ho hl same other = rw (other (omega arith) (omega arith)) refl
common_is (a ∷ o) (b ∷ l) (suc n) ho hl same other =
    let first : a ≡ b = same 0 (omega arith) in
    let e : nat_eq a b ≡ true = grind (arith, nat_tests) in
    rw e (ap suc (common_is o l n (omega arith) (omega arith) (λ k h. same (suc k) (omega arith)) (λ x y. other (omega arith) (omega arith))))

pub within_first : (o l : List ℕ) → common o l ≤ length o
within_first [] l = omega arith
within_first (a ∷ o) [] = omega arith
within_first (a ∷ o) (b ∷ l) = by (nat_eq a b) (within_first o l)
  where
    by : (v : Bool) → common o l ≤ length o → cond v (suc (common o l)) 0 ≤ suc (length o)
    by true h = omega arith
    by false h = omega arith

pub within_second : (o l : List ℕ) → common o l ≤ length l
within_second [] l = omega arith
within_second (a ∷ o) [] = omega arith
within_second (a ∷ o) (b ∷ l) = by (nat_eq a b) (within_second o l)
  where
    by : (v : Bool) → common o l ≤ length l → cond v (suc (common o l)) 0 ≤ suc (length l)
    by true h = omega arith
    by false h = omega arith

-- the text of the opening ends there
pub compared_end : (p q : ℕ) (o l : List ℕ) → common o l ≡ length o → compared p o l ≡ compared q [] (drop (length o) l)
compared_end p q [] l h = same (drop 0 l)
  where
    same : (s : List ℕ) → compared p [] s ≡ compared q [] s
    same [] = refl
    same (b ∷ s) = refl
compared_end p q (a ∷ o) [] h = absurd (omega arith)
compared_end p q (a ∷ o) (b ∷ l) h = by (nat_eq a b) (compared_end a q o l) h
  where
    by : (v : Bool) → (common o l ≡ length o → compared a o l ≡ compared q [] (drop (length o) l)) → cond v (suc (common o l)) 0 ≡ suc (length o)
        → cond v (compared a o l) (told_by (Some (p, a, b))) ≡ compared q [] (drop (length o) l)
    by true rest h = rest (omega arith)
    by false rest h = absurd (omega arith)

-- that of the line does
pub compared_short : (p : ℕ) (o l : List ℕ) → common o l < length o → common o l ≡ length l → compared p o l ≡ Unclear
compared_short p [] l less h = absurd (omega arith)
compared_short p (a ∷ o) [] less h = refl
compared_short p (a ∷ o) (b ∷ l) less h = by (nat_eq a b) (compared_short a o l) less h
  where
    by : (v : Bool) → (common o l < length o → common o l ≡ length l → compared a o l ≡ Unclear) → cond v (suc (common o l)) 0 < suc (length o) → cond v (suc (common o l)) 0 ≡ suc (length l)
        → cond v (compared a o l) (told_by (Some (p, a, b))) ≡ Unclear
    by true rest less h = rest (omega arith) (omega arith)
    by false rest less h = absurd (omega arith)

before_there : (a : ℕ) (o : List ℕ) (n : ℕ) → byte_before a o n ≡ get_or (a ∷ o) n 0
before_there a o zero = refl
before_there a o (suc n) = refl

-- both go on
pub compared_other : (p : ℕ) (o l : List ℕ) → common o l < length o → common o l < length l
    → compared p o l ≡ told_by (Some (byte_before p o (common o l), get_or o (common o l) 0, get_or l (common o l) 0))
compared_other p [] l less short = absurd (omega arith)
compared_other p (a ∷ o) [] less short = absurd (omega arith)
compared_other p (a ∷ o) (b ∷ l) less short = by (nat_eq a b) (compared_other a o l) less short
  where
    by : (v : Bool) → (common o l < length o → common o l < length l → compared a o l ≡ told_by (Some (byte_before a o (common o l), get_or o (common o l) 0, get_or l (common o l) 0)))
        → cond v (suc (common o l)) 0 < suc (length o) → cond v (suc (common o l)) 0 < suc (length l)
        → cond v (compared a o l) (told_by (Some (p, a, b)))
        ≡ told_by (Some (byte_before p (a ∷ o) (cond v (suc (common o l)) 0), get_or (a ∷ o) (cond v (suc (common o l)) 0) 0, get_or (b ∷ l) (cond v (suc (common o l)) 0) 0))
    by true rest less short = rest (omega arith) (omega arith) ∙ ap (λ x. told_by (Some (x, get_or o (common o l) 0, get_or l (common o l) 0))) (before_there a o (common o l))
    by false rest less short = refl

-- what is left behind a front
pub left_all : (front text : List ℕ) → common front text ≡ length front → left_behind front text ≡ Some (drop (length front) text)
left_all [] text h = refl
left_all (a ∷ as') [] h = absurd (omega arith)
left_all (a ∷ as') (b ∷ bs) h = by (nat_eq a b) (left_all as' bs) h
  where
    by : (v : Bool) → (common as' bs ≡ length as' → left_behind as' bs ≡ Some (drop (length as') bs)) → cond v (suc (common as' bs)) 0 ≡ suc (length as')
        → cond v (left_behind as' bs) None ≡ Some (drop (length as') bs)
    by true rest h = rest (omega arith)
    by false rest h = absurd (omega arith)

pub left_none : (front text : List ℕ) → common front text < length front → left_behind front text ≡ None
left_none [] text h = absurd (omega arith)
left_none (a ∷ as') [] h = refl
left_none (a ∷ as') (b ∷ bs) h = by (nat_eq a b) (left_none as' bs) h
  where
    by : (v : Bool) → (common as' bs < length as' → left_behind as' bs ≡ None) → cond v (suc (common as' bs)) 0 < suc (length as') → cond v (left_behind as' bs) None ≡ None
    by true rest h = rest (omega arith)
    by false rest h = refl
