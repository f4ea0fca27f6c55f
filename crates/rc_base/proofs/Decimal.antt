-- The digits of a number, written one by one into a field.
use Rattle.std.proofs.Common.{◌≡◌, ℕ, ◌+◌, ◌-◌, ◌/◌, ◌%◌, ◌^◌, ◌<◌, ◌≤◌, true, List, [], ◌∷◌, ◌++◌, length, take, drop, set, length-set, length-drop, Some, refl, ap, arith, append_assoc, length-append}
use Rattle.std.specs.Fmt.{decimal}
use Rattle.std.specs.List.{list_all}
use Rattle.std.proofs.lemmas.Fmt.{decimal_digit, decimal_step, decimal_by_steps, decimal_nonempty, length-decimal-le}
use Rattle.std.proofs.lemmas.Grind.{common_steps}
use Rattle.std.proofs.lemmas.List.{drop-set, take_all}
use Rattle.std.proofs.lemmas.List.Folds.{list_all-append}
use Rattle.rc_base.specs.Name.{is_name, is_name_byte, name_of}

-- one digit more is written in front of the others
pub digit_in_front : (n start : ℕ) (text whole : List ℕ) → 10 ≤ n → n < 2 ^ 64 → 1 ≤ start → start ≤ length text → decimal n ++ drop start text ≡ whole
    → decimal (n / 10) ++ drop (start - 1) (set text (start - 1) (48 + n % 10)) ≡ whole
digit_in_front n start text whole ten fits one within same =
    let e : (start - 1) + 1 ≡ start = omega arith in
    let lt : start - 1 < length text = omega arith in
    rw (drop-set, e) (rw (decimal_step n ten fits, append_assoc) at same)

-- the last digit is written
pub digit_at_front : (n start : ℕ) (text whole : List ℕ) → n < 10 → 1 ≤ start → start ≤ length text → decimal n ++ drop start text ≡ whole
    → drop (start - 1) (set text (start - 1) (48 + n)) ≡ whole
digit_at_front n start text whole ten one within same =
    let e : (start - 1) + 1 ≡ start = omega arith in
    let lt : start - 1 < length text = omega arith in
    rw (drop-set, e) (rw (decimal_digit n ten) at same)

-- there is room for the digits that are left
pub room_left : (n start : ℕ) → 10 ≤ n → n < 2 ^ 64 → length (decimal n) ≤ start → length (decimal (n / 10)) ≤ start - 1
room_left n start ten fits room =
    omega (arith, ap length (decimal_step n ten fits), length-append (decimal (n / 10)) ((48 + n % 10) ∷ []))

digit_is_printable : (n : ℕ) → n < 10 → is_name_byte (48 + n) ≡ true
digit_is_printable n h = grind arith

one_printable : (n : ℕ) → n < 10 → list_all is_name_byte ((48 + n) ∷ []) ≡ true
one_printable n h = rw (digit_is_printable n h) refl

more_printable : (n : ℕ) (ds : List ℕ) → 10 ≤ n → list_all is_name_byte ds ≡ true → list_all is_name_byte (ds ++ ((48 + n % 10) ∷ [])) ≡ true
more_printable n ds h all = rw (list_all-append, all) (one_printable (n % 10) (omega arith))

all_printable : (n : ℕ) → n < 2 ^ 64 → list_all is_name_byte (decimal n) ≡ true
all_printable = decimal_by_steps (λ n ds. list_all is_name_byte ds ≡ true) one_printable more_printable

short_name : (text : List ℕ) → 0 < length text → length text ≤ 10 → list_all is_name_byte text ≡ true → is_name text ≡ true
short_name text some few all = grind (arith, common_steps)

-- the digits of a number are a name
decimal_is_name : (n : ℕ) → n < 2 ^ 32 → is_name (decimal n) ≡ true
decimal_is_name n h =
    let fits : n < 2 ^ 64 = omega arith in
    short_name (decimal n) (decimal_nonempty n fits) (length-decimal-le 10 n (omega arith) (omega arith) fits) (all_printable n fits)

name_of_name : (text : List ℕ) → is_name text ≡ true → name_of text ≡ Some text
name_of_name text h = rw h refl

-- the field from its first digit on, where the last one is written, is the name that the digits are
pub name_from : (n start number : ℕ) (text : List ℕ) → number < 2 ^ 32 → n < 10 → 1 ≤ start → start ≤ 10 → length text ≡ 10 → decimal n ++ drop start text ≡ decimal number
    → name_of (take (10 - (start - 1)) (drop (start - 1) (set text (start - 1) (48 + n)))) ≡ Some (decimal number)
name_from n start number text small ten one within long same =
    let front : drop (start - 1) (set text (start - 1) (48 + n)) ≡ decimal number = digit_at_front n start text (decimal number) ten one (omega arith) same in
    let few : length (decimal number) ≤ 10 - (start - 1) = omega (arith, ap length front, length-drop (start - 1) (set text (start - 1) (48 + n)), length-set text (start - 1) (48 + n)) in
    rw (front, take_all (10 - (start - 1)) (decimal number) few) (name_of_name (decimal number) (decimal_is_name number small))
