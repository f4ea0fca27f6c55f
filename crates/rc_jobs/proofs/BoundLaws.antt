-- Bounds of shares, with one share more, and what was made of shares.
use Rattle.std.proofs.Common.{refl, sym, ap, subst, ◌∙◌, ◌≡◌, ℕ, zero, suc, ◌+◌, ◌-◌, ◌<◌, ◌≤◌, List, [], ◌∷◌, ◌++◌, All, IsPermutation, length, slice_index_or, arith}
use Rattle.std.proofs.Math.Decide.{ℕ_discrete, dec_lt}
use Rattle.std.proofs.lemmas.List.{length-append, get_or-append-add, get_or_append_left, get_or_past}
use Rattle.std.proofs.lemmas.List.Sorted.{All-permutation}
use Rattle.std.proofs.lemmas.List.Elements.{All-append, All-push, All-tail, All-weaker}
use Rattle.rc_jobs.specs.Bounds.{AreBounds, AreMadeOf, Shares, begin_of}
use Rattle.rc_nodes.specs.Seats.{Keeps, SeatView}

module _ (s : Shares) (at : ℕ) (are : AreBounds s) (low : begin_of s (length s.begins - 1) ≤ at) (high : at ≤ s.items) where
  abbrev after : Shares
  after = record { begins = s.begins ++ at ∷ []; items = s.items }

  before : (n : ℕ) → n < length s.begins → begin_of after n ≡ begin_of s n
  before n less = get_or_append_left s.begins (at ∷ []) s.items n less

  here : (n : ℕ) → n ≡ length s.begins → begin_of after n ≡ at
  here n e = ap (begin_of after) (e ∙ (let q : length s.begins ≡ length s.begins + 0 = omega arith in q)) ∙ get_or-append-add s.begins (at ∷ []) 0 s.items

  many : length after.begins ≡ length s.begins + 1
  many = length-append s.begins (at ∷ [])

  behind : (n : ℕ) → length s.begins < n → begin_of after n ≡ s.items
  behind n less = get_or_past after.begins n s.items (let m = many in omega arith)

  data Place (n : ℕ) : Type 0 where
    below : n < length s.begins → Place n
    at_end : n ≡ length s.begins → Place n
    past : length s.begins < n → Place n

  place : (n : ℕ) → Place n
  place n = elim (dec_lt n (length s.begins)) [
    | yes less ↦ below less
    | no other ↦ elim (ℕ_discrete n (length s.begins)) [
      | yes same ↦ at_end same
      | no differ ↦ past (omega arith)
    ]
  ]

  rising : (n : ℕ) → Place n → Place (n + 1) → begin_of after n ≤ begin_of after (n + 1)
  rising n (below l) (below m) = let a = before n l in let b = before (n + 1) m in let r = are.rise n in omega arith
  rising n (below l) (at_end e) =
      let a = before n l in
      let b = here (n + 1) e in
      let q : begin_of s n ≡ begin_of s (length s.begins - 1) = ap (begin_of s) (let k : n ≡ length s.begins - 1 = omega arith in k) in
      omega arith
  rising n (below l) (past m) = absurd (omega arith)
  rising n (at_end e) (below m) = absurd (omega arith)
  rising n (at_end e) (at_end m) = absurd (omega arith)
  rising n (at_end e) (past m) = let a = here n e in let b = behind (n + 1) m in omega arith
  rising n (past l) (below m) = absurd (omega arith)
  rising n (past l) (at_end m) = absurd (omega arith)
  rising n (past l) (past m) = let a = behind n l in let b = behind (n + 1) m in omega arith

  within_all : (n : ℕ) → Place n → begin_of after n ≤ s.items
  within_all n (below l) = let a = before n l in let w = are.within n in omega arith
  within_all n (at_end e) = let a = here n e in omega arith
  within_all n (past l) = let a = behind n l in omega arith

  pub one_bound : AreBounds after
  one_bound = record {
    some = (let m = many in omega arith);
    first = before 0 are.some ∙ are.first;
    rise = λ n. rising n (place n) (place (n + 1));
    within = λ n. within_all n (place n);
  }

pub one_share : (items : ℕ) → AreBounds (record { begins = 0 ∷ []; items = items })
one_share items = record { some = omega arith; first = refl; rise = rising; within = most }
  where
    all : Shares
    all = record { begins = 0 ∷ []; items = items }

    past : (n : ℕ) → 0 < n → begin_of all n ≡ items
    past n less = get_or_past (0 ∷ []) n items (omega arith)

    rising : (n : ℕ) → begin_of all n ≤ begin_of all (n + 1)
    rising zero = let here : begin_of all 0 ≡ 0 = refl in omega arith
    rising (suc n) = let here = past (suc n) (omega arith) in let next = past (suc n + 1) (omega arith) in omega arith

    most : (n : ℕ) → begin_of all n ≤ items
    most zero = let here : begin_of all 0 ≡ 0 = refl in omega arith
    most (suc n) = let here = past (suc n) (omega arith) in omega arith

-- ---- what was made of shares

module _ {X : Type 0} (P : X → Type 0) where
  all_behind : (xs ys : List X) → All P (xs ++ ys) → All P ys
  all_behind [] ys all = all
  all_behind (x ∷ xs) ys all = all_behind xs ys (All-tail P x (xs ++ ys) all)

-- what is behind some of it
pub parts_left : {X : Type 0} (knows : ℕ → ℕ → X → Type 0) (s : Shares) (whole front left : List (ℕ × X)) → whole ≡ front ++ left → AreMadeOf knows s whole → AreMadeOf knows s left
parts_left {X = X} knows s whole front left is made =
    let P : ℕ × X → Type 0 = λ e. knows (begin_of s e.0) (begin_of s (e.0 + 1)) e.1 in
    all_behind P front left (subst (All P) is made)

module _ {X : Type 0} (knows : SeatView → ℕ → ℕ → X → Type 0) (stays : (v w : SeatView) (a b : ℕ) (x : X) → Keeps v w → knows v a b x → knows w a b x) where
  -- a seat that knows more knows it as well
  pub parts_kept : (s : Shares) (v w : SeatView) → Keeps v w → (parts : List (ℕ × X)) → AreMadeOf (knows v) s parts → AreMadeOf (knows w) s parts
  parts_kept s v w keeps parts made =
      All-weaker (λ e. knows v (begin_of s e.0) (begin_of s (e.0 + 1)) e.1) (λ e. knows w (begin_of s e.0) (begin_of s (e.0 + 1)) e.1) (λ e is. stays v w (begin_of s e.0) (begin_of s (e.0 + 1)) e.1 keeps is) parts made

  -- and one share more
  pub parts_with : (s : Shares) (v w : SeatView) → Keeps v w → (parts all : List (ℕ × X)) (n : ℕ) (made : X) → all ≡ parts ++ (n, made) ∷ [] → AreMadeOf (knows v) s parts → knows w (begin_of s n) (begin_of s (n + 1)) made → AreMadeOf (knows w) s all
  parts_with s v w keeps parts all n made is before here =
      let P : ℕ × X → Type 0 = λ e. knows w (begin_of s e.0) (begin_of s (e.0 + 1)) e.1 in
      subst (All P) (sym is) (All-push P parts (n, made) (parts_kept s v w keeps parts before) here)

-- the same in another order
pub parts_sorted : {X : Type 0} (knows : ℕ → ℕ → X → Type 0) (s : Shares) (parts sorted all : List (ℕ × X)) → IsPermutation parts sorted → all ≡ sorted → AreMadeOf knows s parts → AreMadeOf knows s all
parts_sorted {X = X} knows s parts sorted all same is made =
    let P : ℕ × X → Type 0 = λ e. knows (begin_of s e.0) (begin_of s (e.0 + 1)) e.1 in
    subst (All P) (sym is) (All-permutation P parts sorted same made)

-- and what is behind it
pub parts_and : {X : Type 0} (knows : ℕ → ℕ → X → Type 0) (s : Shares) (parts others all : List (ℕ × X)) → all ≡ parts ++ others → AreMadeOf knows s parts → AreMadeOf knows s others → AreMadeOf knows s all
parts_and {X = X} knows s parts others all is made more =
    let P : ℕ × X → Type 0 = λ e. knows (begin_of s e.0) (begin_of s (e.0 + 1)) e.1 in
    subst (All P) (sym is) (All-append P parts others made more)
