-- The host name that is refused is the first that is named twice.
use Rattle.std.proofs.Common.{◌≡◌, ◌∙◌, ℕ, Bool, true, false, cond, ◌||◌, List, [], ◌∷◌, ◌++◌, map, Option, Some, None, is_some, refl, sym, ap, subst, append_assoc, append-nil}
use Rattle.std.specs.List.{AllByRecursion, IsDistinct, list_any}
use Rattle.std.specs.Cmp.Lexicographic.{bytes_decides}
use Rattle.std.proofs.lemmas.List.{map-append}
use Rattle.rc_base.specs.Name.{same_name}
use Rattle.rc_config.specs.Named.{named}
use Rattle.rc_config.specs.Update.{settled_router}
use Rattle.rc_network.specs.Build.{Model, first_twice, host_of, under_host}
use Rattle.rc_network.specs.Twice.{IsFirstTwice, NamesTheFirstTwice, hosts}

abbrev Names : Type 0
Names = List (List ℕ)

abbrev host : Model → List ℕ
host m = host_of m.1

-- ---- names that differ
differ-turned : (x y : List ℕ) → same_name x y ≡ false → same_name y x ≡ false
differ-turned x y e = by (same_name y x) refl
  where
    by : (b : Bool) → same_name y x ≡ b → same_name y x ≡ false
    by false is = is
    by true is =
        let same : same_name x y ≡ true = (bytes_decides x y).1 (sym ((bytes_decides y x).0 is)) in
        absurd (cc)

-- a name that is new to names that differ
all-push : (P : List ℕ → Type 0) (xs : Names) (n : List ℕ) → AllByRecursion P xs → P n → AllByRecursion P (xs ++ n ∷ [])
all-push P [] n all p = (p, tt)
all-push P (x ∷ xs) n all p = (all.0, all-push P xs n all.1 p)

any-first : (n x : List ℕ) (xs : Names) → list_any (same_name n) (x ∷ xs) ≡ false → (same_name n x ≡ false) × (list_any (same_name n) xs ≡ false)
any-first n x xs e = by (same_name n x) refl e
  where
    by : (b : Bool) → same_name n x ≡ b → (b || list_any (same_name n) xs) ≡ false → (same_name n x ≡ false) × (list_any (same_name n) xs ≡ false)
    by false is e = (is, e)
    by true is e = absurd (cc)

distinct-push : (xs : Names) (n : List ℕ) → IsDistinct same_name xs → list_any (same_name n) xs ≡ false → IsDistinct same_name (xs ++ n ∷ [])
unfolding IsDistinct
distinct-push [] n d new = (tt, tt)
distinct-push (x ∷ xs) n d new =
    let first = any-first n x xs new in
    (all-push (λ y. same_name x y ≡ false) xs n d.0 (differ-turned n x first.0), distinct-push xs n d.1 first.1)

-- each of names that differ is new to those before it
all-at : (P : List ℕ → Type 0) (xs : Names) (n : List ℕ) (ys : Names) → AllByRecursion P (xs ++ n ∷ ys) → P n
all-at P [] n ys all = all.0
all-at P (x ∷ xs) n ys all = all-at P xs n ys all.1

distinct-new : (xs : Names) (n : List ℕ) (ys : Names) → IsDistinct same_name (xs ++ n ∷ ys) → list_any (same_name n) xs ≡ false
unfolding IsDistinct
distinct-new [] n ys d = refl
distinct-new (x ∷ xs) n ys d =
    ap (λ b. b || list_any (same_name n) xs) (differ-turned x n (all-at (λ y. same_name x y ≡ false) xs n ys d.0)) ∙ distinct-new xs n ys d.1

-- ---- one model after another
there : (n : List ℕ) (ms : List Model) → is_some (named (map under_host ms) n) ≡ list_any (same_name n) (hosts ms)
there n [] = refl
there n (m ∷ ms) = by (same_name n (host m)) (there n ms)
  where
    by : (b : Bool) → is_some (named (map under_host ms) n) ≡ list_any (same_name n) (hosts ms) → is_some (cond b (Some (settled_router m.1)) (named (map under_host ms) n)) ≡ (b || list_any (same_name n) (hosts ms))
    by true rest = refl
    by false rest = rest

pushed : (earlier : List Model) (m : Model) → map under_host earlier ++ under_host m ∷ [] ≡ map under_host (earlier ++ m ∷ [])
pushed earlier m = sym (map-append under_host earlier (m ∷ []))

hosts-append : (xs ys : List Model) → hosts (xs ++ ys) ≡ hosts xs ++ hosts ys
hosts-append xs ys = map-append (λ (m : Model). host_of m.1) xs ys

-- what a model that is looked at gives
step : (earlier : List Model) (m : Model) (ms : List Model) (b : Bool) → list_any (same_name (host m)) (hosts earlier) ≡ b
    → first_twice (map under_host earlier) (m ∷ ms) ≡ cond b (Some m) (first_twice (map under_host (earlier ++ m ∷ [])) ms)
step earlier m ms b is =
    ap (λ t. cond t (Some m) (first_twice (map under_host earlier ++ under_host m ∷ []) ms)) (there (host m) earlier ∙ is)
    ∙ ap (λ es. cond b (Some m) (first_twice es ms)) (pushed earlier m)

-- ---- what is found
Found : List Model → Option Model → Type 0
Found models None = IsDistinct same_name (hosts models)
Found models (Some m) = IsFirstTwice models m

found : (ms earlier : List Model) → IsDistinct same_name (hosts earlier) → Found (earlier ++ ms) (first_twice (map under_host earlier) ms)
unfolding Found
found [] earlier d = subst (λ (es : List Model). IsDistinct same_name (hosts es)) (sym (append-nil earlier)) d
found (m ∷ ms) earlier d = by (list_any (same_name (host m)) (hosts earlier)) refl (found ms (earlier ++ m ∷ []))
  where
    by : (b : Bool) → list_any (same_name (host m)) (hosts earlier) ≡ b
        → (IsDistinct same_name (hosts (earlier ++ m ∷ [])) → Found ((earlier ++ m ∷ []) ++ ms) (first_twice (map under_host (earlier ++ m ∷ [])) ms))
        → Found (earlier ++ m ∷ ms) (first_twice (map under_host earlier) (m ∷ ms))
    by true is rest =
        let first : Found (earlier ++ m ∷ ms) (Some m) = record { before = earlier; later = ms; split = refl; again = is; once = d } in
        subst (Found (earlier ++ m ∷ ms)) (sym (step earlier m ms true is)) first
    by false is rest =
        let more : IsDistinct same_name (hosts (earlier ++ m ∷ [])) = subst (IsDistinct same_name) (sym (hosts-append earlier (m ∷ []))) (distinct-push (hosts earlier) (host m) d is) in
        let here : Found (earlier ++ m ∷ ms) (first_twice (map under_host (earlier ++ m ∷ [])) ms) =
        subst (λ (es : List Model). Found es (first_twice (map under_host (earlier ++ m ∷ [])) ms)) (append_assoc earlier (m ∷ []) ms) (rest more) in
        subst (Found (earlier ++ m ∷ ms)) (sym (step earlier m ms false is)) here

-- ---- models whose names differ are passed
passed : (ms earlier more : List Model) → IsDistinct same_name (hosts (earlier ++ ms)) → first_twice (map under_host earlier) (ms ++ more) ≡ first_twice (map under_host (earlier ++ ms)) more
passed [] earlier more d = ap (λ (es : List Model). first_twice (map under_host es) more) (sym (append-nil earlier))
passed (m ∷ ms) earlier more d =
    let names : IsDistinct same_name (hosts earlier ++ host m ∷ hosts ms) = subst (IsDistinct same_name) (hosts-append earlier (m ∷ ms)) d in
    let same = append_assoc earlier (m ∷ []) ms in
    step earlier m (ms ++ more) false (distinct-new (hosts earlier) (host m) (hosts ms) names)
    ∙ passed ms (earlier ++ m ∷ []) more (subst (λ (es : List Model). IsDistinct same_name (hosts es)) (sym same) d)
    ∙ ap (λ (es : List Model). first_twice (map under_host es) more) same

of-first : (models : List Model) (m : Model) → IsFirstTwice models m → first_twice [] models ≡ Some m
of-first models m h =
    ap (first_twice []) h.split ∙ passed h.before [] (m ∷ h.later) h.once ∙ step h.before m h.later true h.again

of-distinct : (models : List Model) → IsDistinct same_name (hosts models) → first_twice [] models ≡ None
of-distinct models d = ap (first_twice []) (sym (append-nil models)) ∙ passed models [] [] d

none-distinct : IsDistinct same_name (hosts [])
unfolding IsDistinct
none-distinct = tt

pub named_twice : NamesTheFirstTwice
unfolding Found
named_twice models = record {
  first = λ m. (λ e. subst (Found models) e (found models [] none-distinct), of-first models m);
  none = (λ e. subst (Found models) e (found models [] none-distinct), of-distinct models);
}
