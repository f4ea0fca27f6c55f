-- What a fold over lines leaves of a value, by what one line does to it.
use Rattle.std.proofs.Common.{◌≡◌, ◌∙◌, ap, refl, sym, subst, ℕ, ◌==◌, Bool, true, false, cond, List, [], ◌∷◌, ◌++◌, append-nil, append_assoc, nat_lt, Option, Some, None, arith}
use Rattle.std.specs.Prelude.{IfSome, is_some, unwrap_or}
use Rattle.std.specs.List.{cons_option, filter_map, flat_map, fold, last_or}
use Rattle.std.specs.Option.{option_map, option_map_or, option_or}
use Rattle.std.specs.Cmp.Lexicographic.{bytes_decides}
use Rattle.std.proofs.lemmas.Bool.{eqb-true}
use Rattle.std.proofs.lemmas.Bool.Decides.{nat_tests}
use Rattle.rc_base.specs.Name.{same_name}
use Rattle.rc_config.specs.ByNumber.{placed, with_number}
use Rattle.rc_commands.specs.Said.{first_said, from_first, last_said}
use Rattle.rc_config.specs.Named.{named, with_value}

same_some : {V : Type 0} (v d e : V) (vs : List V) → unwrap_or (last_or (Some v) vs) d ≡ unwrap_or (last_or (Some v) vs) e
same_some v d e [] = refl
same_some v d e (w ∷ vs) = same_some w d e vs

last-over : {V : Type 0} (v d : V) (vs : List V) → unwrap_or (last_or None vs) v ≡ unwrap_or (last_or (Some v) vs) d
last-over v d [] = refl
last-over v d (w ∷ vs) = same_some w v d vs

last-default : {V : Type 0} (o : Option V) (d : V) (vs : List V) → unwrap_or (last_or None vs) (unwrap_or o d) ≡ unwrap_or (last_or None (cons_option o vs)) d
last-default None d vs = refl
last-default (Some v) d vs = last-over v d vs

last-option : {V : Type 0} (o g : Option V) (vs : List V) → last_or (option_or o g) vs ≡ last_or g (cons_option o vs)
last-option None g vs = refl
last-option (Some v) g vs = refl

one-behind : {V : Type 0} (o : Option V) (vs : List V) → cons_option o [] ++ vs ≡ cons_option o vs
one-behind None vs = refl
one-behind (Some v) vs = refl

or-none : {V : Type 0} (o : Option V) → option_or o None ≡ o
or-none None = refl
or-none (Some v) = refl

or-again : {V : Type 0} (o p q : Option V) → option_or (option_or o p) q ≡ option_or o (option_or p q)
or-again None p q = refl
or-again (Some v) p q = refl

-- what is said where a test passes
pub or-if : {V : Type 0} (b : Bool) (v : V) (o : Option V) → cond b (Some v) o ≡ option_or (cond b (Some v) None) o
or-if true v o = refl
or-if false v o = refl

pub nothing-more : {V : Type 0} (vs : List V) → vs ≡ vs ++ []
nothing-more vs = sym (append-nil vs)

module _ {R L : Type 0} (step : R → L → R) where
  -- where each line that says a value sets it, and no other line changes it, the last one counts
  pub last-counts : {V : Type 0} (get : R → Option V) (says : L → Option V) → ((r : R) (l : L) → get (step r l) ≡ option_or (says l) (get r))
      → (lines : List L) (r : R) → get (fold step r lines) ≡ last_or (get r) (filter_map says lines)
  last-counts get says h [] r = refl
  last-counts get says h (l ∷ lines) r =
      last-counts get says h lines (step r l) ∙ ap (λ o. last_or o (filter_map says lines)) (h r l) ∙ last-option (says l) (get r) (filter_map says lines)

  pub last-or-default : {V : Type 0} (get : R → V) (says : L → Option V) → ((r : R) (l : L) → get (step r l) ≡ unwrap_or (says l) (get r))
      → (lines : List L) (r : R) → get (fold step r lines) ≡ unwrap_or (last_said says lines) (get r)
  last-or-default get says h [] r = refl
  last-or-default get says h (l ∷ lines) r =
      last-or-default get says h lines (step r l) ∙ ap (unwrap_or (last_said says lines)) (h r l) ∙ last-default (says l) (get r) (filter_map says lines)

  -- where a line sets a value that isn't there yet alone, the first one counts
  pub first-counts : {V : Type 0} (get : R → Option V) (says : L → Option V) → ((r : R) (l : L) → get (step r l) ≡ option_or (get r) (says l))
      → (lines : List L) (r : R) → get (fold step r lines) ≡ option_or (get r) (first_said says lines)
  first-counts get says h [] r = sym (or-none (get r))
  first-counts get says h (l ∷ lines) r =
      first-counts get says h lines (step r l) ∙ ap (λ o. option_or o (first_said says lines)) (h r l) ∙ or-again (get r) (says l) (first_said says lines)

  -- where each line puts what it says behind the others, all stand in the order of their lines
  pub all-in-order : {V : Type 0} (get : R → List V) (says : L → Option V) → ((r : R) (l : L) → get (step r l) ≡ get r ++ cons_option (says l) [])
      → (lines : List L) (r : R) → get (fold step r lines) ≡ get r ++ filter_map says lines
  all-in-order get says h [] r = sym (append-nil (get r))
  all-in-order get says h (l ∷ lines) r =
      all-in-order get says h lines (step r l) ∙ ap (λ vs. vs ++ filter_map says lines) (h r l)
      ∙ append_assoc (get r) (cons_option (says l) []) (filter_map says lines) ∙ ap (λ vs. get r ++ vs) (one-behind (says l) (filter_map says lines))

  pub several-in-order : {V : Type 0} (get : R → List V) (says : L → List V) → ((r : R) (l : L) → get (step r l) ≡ get r ++ says l)
      → (lines : List L) (r : R) → get (fold step r lines) ≡ get r ++ flat_map says lines
  several-in-order get says h [] r = sym (append-nil (get r))
  several-in-order get says h (l ∷ lines) r =
      several-in-order get says h lines (step r l) ∙ ap (λ vs. vs ++ flat_map says lines) (h r l) ∙ append_assoc (get r) (says l) (flat_map says lines)

  -- where each line that says a value adds it to a part, and no other line changes it, the part is what these make of it in turn
  add-step : {P V : Type 0} (add : P → V → P) (o : Option V) (p : P) (vs : List V) → fold add (option_map_or (add p) o p) vs ≡ fold add p (cons_option o vs)
  add-step add None p vs = refl
  add-step add (Some v) p vs = refl

  pub all-in-turn : {P V : Type 0} (part : R → P) (says : L → Option V) (add : P → V → P) → ((r : R) (l : L) → part (step r l) ≡ option_map_or (add (part r)) (says l) (part r))
      → (lines : List L) (r : R) → part (fold step r lines) ≡ fold add (part r) (filter_map says lines)
  all-in-turn part says add h [] r = refl
  all-in-turn part says add h (l ∷ lines) r =
      all-in-turn part says add h lines (step r l) ∙ ap (λ p. fold add p (filter_map says lines)) (h r l) ∙ add-step add (says l) (part r) (filter_map says lines)

  -- where a value stands alone, in place of any other, the last one is all that there is
  one-alone : {V : Type 0} (o : Option V) (vs : List V) → fold (λ (p : List V) v. v ∷ []) (cons_option o []) vs ≡ cons_option (last_or o vs) []
  one-alone o [] = refl
  one-alone o (v ∷ vs) = one-alone (Some v) vs

  pub last-alone : {V : Type 0} (get : R → List V) (says : L → Option V) → ((r : R) (l : L) → get (step r l) ≡ option_map_or (λ v. v ∷ []) (says l) (get r))
      → (lines : List L) (r : R) → get r ≡ [] → get (fold step r lines) ≡ cons_option (last_said says lines) []
  last-alone {V} get says h lines r none =
      all-in-turn get says (λ p v. v ∷ []) h lines r ∙ ap (λ vs. fold (λ (p : List V) v. v ∷ []) vs (filter_map says lines)) none ∙ one-alone None (filter_map says lines)

-- what is added where a test passes
pub add-if : {P V : Type 0} (add : P → V → P) (b : Bool) (v : V) (p : P) → cond b (add p v) p ≡ option_map_or (add p) (cond b (Some v) None) p
add-if add true v p = refl
add-if add false v p = refl

pub either-way : {P : Type 0} (b : Bool) (p : P) → cond b p p ≡ p
either-way true p = refl
either-way false p = refl

-- a block that is opened: one that is there stays
abbrev pub opened : {O P : Type 0} → (O → P) → Option P → Option O → Option P
opened make (Some p) o = Some p
opened make None o = option_map make o

pub kept : {O P : Type 0} (make : O → P) (g : Option P) → g ≡ option_map (λ p. p) (opened make g None)
kept make None = refl
kept make (Some p) = refl

module _ {R L O P : Type 0} (step : R → L → R) (get : R → Option P) (says : L → Option O) (make : O → P) (add : P → L → P)
    (each : (r : R) (l : L) → get (step r l) ≡ option_map (λ p. add p l) (opened make (get r) (says l))) where
  once-open : (lines : List L) (r : R) (p : P) → get r ≡ Some p → get (fold step r lines) ≡ Some (fold add p lines)
  once-open [] r p is = is
  once-open (l ∷ lines) r p is = once-open lines (step r l) (add p l) (each r l ∙ ap (λ g. option_map (λ q. add q l) (opened make g (says l))) is)

  -- a block that a line opens has the lines from there on
  pub from-opening : (Q : P → List L → Type 0) → ((o : O) (lines : List L) → Q (fold add (make o) lines) lines)
      → (lines : List L) (r : R) → get r ≡ None → IfSome (get (fold step r lines)) (λ p. Q p (from_first says lines))
  from-opening Q holds [] r none = subst (λ g. IfSome g (λ p. Q p [])) (sym none) tt
  from-opening Q holds (l ∷ lines) r none =
      by (says l) (each r l ∙ ap (λ g. option_map (λ q. add q l) (opened make g (says l))) none) (from-opening Q holds lines (step r l)) (once-open lines (step r l))
    where
      by : (o : Option O) → get (step r l) ≡ option_map (λ q. add q l) (opened make None o)
          → (get (step r l) ≡ None → IfSome (get (fold step (step r l) lines)) (λ p. Q p (from_first says lines)))
          → ((p : P) → get (step r l) ≡ Some p → get (fold step (step r l) lines) ≡ Some (fold add p lines))
          → IfSome (get (fold step (step r l) lines)) (λ p. Q p (cond (is_some o) (l ∷ lines) (from_first says lines)))
      by None is rest open_now = rest is
      by (Some o) is rest open_now = subst (λ g. IfSome g (λ p. Q p (l ∷ lines))) (sym (open_now (add (make o) l) is)) (holds o (l ∷ lines))

-- ---- values under names
both : {V : Type 0} (b : Bool) (v w : V) (rest : Option V) → cond b (Some v) rest ≡ cond b (Some v) (cond b (Some w) rest)
both true v w rest = refl
both false v w rest = refl

two-names : {V : Type 0} (a b : Bool) (v w : V) (rest : Option V) → (a ≡ true → b ≡ true → false ≡ true) → cond a (Some w) (cond b (Some v) rest) ≡ cond b (Some v) (cond a (Some w) rest)
two-names true true v w rest never = absurd (let e = never refl refl in cc)
two-names true false v w rest never = refl
two-names false b v w rest never = refl

-- what stands under a name, once a value is put under one
named-put : {V : Type 0} (es : List (List ℕ × V)) (n m : List ℕ) (v : V) → named (with_value es n v) m ≡ cond (same_name m n) (Some v) (named es m)
named-put [] n m v = refl
named-put {V} (e ∷ es) n m v = by (same_name n e.0) refl (named-put es n m v)
  where
    by : (b : Bool) → same_name n e.0 ≡ b → named (with_value es n v) m ≡ cond (same_name m n) (Some v) (named es m)
        → named (cond b ((e.0, v) ∷ es) (e ∷ with_value es n v)) m ≡ cond (same_name m n) (Some v) (cond (same_name m e.0) (Some e.1) (named es m))
    by true is rest =
        both (same_name m e.0) v e.1 (named es m) ∙ ap (λ k. cond (same_name m k) (Some v) (cond (same_name m e.0) (Some e.1) (named es m))) (sym ((bytes_decides n e.0).0 is))
    by false other rest =
        ap (λ o. cond (same_name m e.0) (Some e.1) o) rest
        ∙ two-names (same_name m e.0) (same_name m n) v e.1 (named es m)
        (λ here there. sym other ∙ (bytes_decides n e.0).1 (sym ((bytes_decides m n).0 there) ∙ (bytes_decides m e.0).0 here))

-- and once what stands under one is changed
pub named-change : {V : Type 0} (es : List (List ℕ × V)) (n m : List ℕ) (f : Option V → V)
    → named (with_value es n (f (named es n))) m ≡ cond (same_name m n) (Some (f (named es m))) (named es m)
named-change es n m f = named-put es n m (f (named es n)) ∙ by (same_name m n) refl
  where
    by : (b : Bool) → same_name m n ≡ b → cond b (Some (f (named es n))) (named es m) ≡ cond b (Some (f (named es m))) (named es m)
    by true is = ap (λ k. Some (f (named es k))) (sym ((bytes_decides m n).0 is))
    by false other = refl

pub named-said : {V : Type 0} (es : List (List ℕ × V)) (n m : List ℕ) (v : V) → named (with_value es n v) m ≡ option_or (cond (same_name m n) (Some v) None) (named es m)
named-said es n m v = named-put es n m v ∙ or-if (same_name m n) v (named es m)

-- ---- things by number
other_number : (a b k : ℕ) → (a == b) ≡ false → (b == k) ≡ true → (a == k) ≡ true → false ≡ true
other_number a b k other there here = grind (arith, nat_tests)

-- the thing of a number, once one is put where its number stands
pub found-placed : {A : Type 0} (number : A → ℕ) (k : ℕ) (x : A) (xs : List A) → with_number number k (placed number x xs) ≡ cond (number x == k) (Some x) (with_number number k xs)
found-placed number k x [] = refl
found-placed {A} number k x (y ∷ ys) = by (nat_lt (number x) (number y)) (number x == number y) refl (found-placed number k x ys)
  where
    by : (less same : Bool) → (number x == number y) ≡ same → with_number number k (placed number x ys) ≡ cond (number x == k) (Some x) (with_number number k ys)
        → with_number number k (cond less (x ∷ y ∷ ys) (cond same (x ∷ ys) (y ∷ placed number x ys))) ≡ cond (number x == k) (Some x) (cond (number y == k) (Some y) (with_number number k ys))
    by true same is rest = refl
    by false true is rest =
        both (number x == k) x y (with_number number k ys) ∙ ap (λ n. cond (number x == k) (Some x) (cond (n == k) (Some y) (with_number number k ys))) (eqb-true _ _ is)
    by false false other rest =
        ap (λ o. cond (number y == k) (Some y) o) rest ∙ two-names (number y == k) (number x == k) x y (with_number number k ys) (other_number (number x) (number y) k other)

pub number-said : {A : Type 0} (number : A → ℕ) (k : ℕ) (x : A) (xs : List A) → with_number number k (placed number x xs) ≡ option_or (cond (number x == k) (Some x) None) (with_number number k xs)
number-said number k x xs = found-placed number k x xs ∙ or-if (number x == k) x (with_number number k xs)
