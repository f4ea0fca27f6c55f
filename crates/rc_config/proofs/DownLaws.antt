-- Whether an interface is down is found by its name, that of its parent and so on.
use Rattle.std.proofs.Common.{refl, ◌≡◌, ◌∙◌, ◌↔◌, ap, sym, ℕ, zero, suc, ◌+◌, ◌<◌, ◌==◌, Bool, true, false, cond, ◌&&◌, ◌||◌, List, [], ◌∷◌, ◌++◌, length, length-append, append_assoc, append-nil, nat_lt, Option, Some, None, arith}
use Rattle.std.specs.Prelude.{IsTrue}
use Rattle.std.specs.Option.{option_and_then, option_map_or, unwrap_or}
use Rattle.std.specs.Char.{is_ascii_digit}
use Rattle.std.specs.List.{list_all}
use Rattle.std.proofs.lemmas.Bool.{and_parts, eqb-true}
use Rattle.std.proofs.lemmas.Option.{cond_some, none-some, option_and_then_some}
use Rattle.rc_base.specs.Name.{is_name, name_of}
use Rattle.rc_config.specs.declared.interface.Interface.{Interface}
use Rattle.rc_config.specs.Named.{named}
use Rattle.rc_config.specs.Down.{Entries, IsDown, IsSubinterface, below, before_number, is_down, is_down_within, is_number, parent_of, shut}

same_value : (a b : List ℕ) → Some a ≡ Some b → a ≡ b
same_value a b e = ap (λ o. unwrap_or o []) e

and-false : (b : Bool) → (b && false) ≡ false
and-false true = refl
and-false false = refl

or-true : (b : Bool) → (b || true) ≡ true
or-true true = refl
or-true false = refl

-- a text with a point in it is no number
digits-point : (front number : List ℕ) → list_all is_ascii_digit (front ++ 46 ∷ number) ≡ false
digits-point [] number = refl
digits-point (b ∷ front) number = ap (λ t. is_ascii_digit b && t) (digits-point front number) ∙ and-false (is_ascii_digit b)

number-point : (front number : List ℕ) → is_number (front ++ 46 ∷ number) ≡ false
number-point front number = ap (λ t. nat_lt 0 (length (front ++ 46 ∷ number)) && t) (digits-point front number) ∙ and-false (nat_lt 0 (length (front ++ 46 ∷ number)))

-- what stands before a point and a number is found
before-found : (front rest number : List ℕ) → is_number number ≡ true → before_number front (rest ++ 46 ∷ number) ≡ Some (front ++ rest)
before-found front [] number digits = ap (λ t. cond t (Some front) (before_number (front ++ 46 ∷ []) number)) digits ∙ ap Some (sym (append-nil front))
before-found front (b ∷ rest) number digits =
    ap (λ t. cond t (Some front) (before_number (front ++ b ∷ []) (rest ++ 46 ∷ number))) (ap (λ t. (b == 46) && t) (number-point rest number) ∙ and-false (b == 46))
    ∙ before-found (front ++ b ∷ []) rest number digits ∙ ap Some (append_assoc front (b ∷ []) rest)

-- and nothing else
before-is : (front rest p : List ℕ) → before_number front rest ≡ Some p → (number : List ℕ) × (front ++ rest ≡ p ++ 46 ∷ number) × (is_number number ≡ true)
before-is front [] p e = absurd (none-some p e)
before-is front (b ∷ rest) p e = by ((b == 46) && is_number rest) refl (before-is (front ++ b ∷ []) rest p) e
  where
    by : (found : Bool) → ((b == 46) && is_number rest) ≡ found → (before_number (front ++ b ∷ []) rest ≡ Some p → (number : List ℕ) × ((front ++ b ∷ []) ++ rest ≡ p ++ 46 ∷ number) × (is_number number ≡ true))
        → cond found (Some front) (before_number (front ++ b ∷ []) rest) ≡ Some p → (number : List ℕ) × (front ++ b ∷ rest ≡ p ++ 46 ∷ number) × (is_number number ≡ true)
    by true is later e =
        let parts = and_parts (b == 46) (is_number rest) is in
        (rest, ap (λ f. f ++ b ∷ rest) (same_value front p e) ∙ ap (λ c. p ++ c ∷ rest) (eqb-true b 46 parts.0), parts.1)
    by false is later e = (let found = later e in (found.0, sym (append_assoc front (b ∷ []) rest) ∙ found.1, found.2))

pub parent-is : (name p : List ℕ) → parent_of name ≡ Some p → IsSubinterface name p
parent-is name p e = option_and_then_some name_of (before_number [] name) p e (λ x found is.
    let named_so = cond_some (is_name x) x p is in
    let made = before-is [] name p (found ∙ ap Some named_so.1) in
    record { number = made.0; digits = made.2; behind = made.1; named = ap is_name (sym named_so.1) ∙ named_so.0 })

-- a name is that of a subinterface of one parent at most, which is the one that is found
pub one_parent : (name p : List ℕ) → IsSubinterface name p → parent_of name ≡ Some p
one_parent name p h =
    ap (λ n. option_and_then name_of (before_number [] n)) h.behind ∙ ap (option_and_then name_of) (before-found [] p h.number h.digits) ∙ ap (λ b. cond b (Some p) None) h.named

-- by a point and a digit at least
pub parent-shorter : (name p : List ℕ) → IsSubinterface name p → length p < length name
parent-shorter name p h = let long = ap length h.behind ∙ length-append p (46 ∷ h.number) in omega arith

abbrev or_parent : ℕ → Entries → Bool → Option (List ℕ) → Bool
or_parent names entries down parent = down || option_map_or (is_down_within names entries) parent false

down-is : (names : ℕ) (entries : Entries) (name : List ℕ) → is_down_within names entries name ≡ true → IsDown entries name
down-is zero entries name e = absurd (cc)
down-is (suc names) entries name e = by (named entries name) refl (parent_of name) refl (down-is names entries) e
  where
    by : (found : Option Interface) → named entries name ≡ found → (parent : Option (List ℕ)) → parent_of name ≡ parent → ((p : List ℕ) → is_down_within names entries p ≡ true → IsDown entries p)
        → option_map_or (λ (i : Interface). or_parent names entries i.shutdown parent) found false ≡ true → IsDown entries name
    by None is parent above rest e = absurd (cc)
    by (Some i) is None above rest e = split i.shutdown refl e
      where
        split : (b : Bool) → i.shutdown ≡ b → (b || false) ≡ true → IsDown entries name
        split true down e = shut is down
        split false down e = absurd (cc)
    by (Some i) is (Some p) above rest e = split i.shutdown refl e
      where
        split : (b : Bool) → i.shutdown ≡ b → (b || is_down_within names entries p) ≡ true → IsDown entries name
        split true down e = shut is down
        split false down e = below is (parent-is name p above) (rest p e)

down-found : (names : ℕ) (entries : Entries) (name : List ℕ) → length name < names → IsDown entries name → is_down_within names entries name ≡ true
down-found zero entries name less down = absurd (omega arith)
down-found (suc names) entries name less (shut found is) =
    ap (λ o. option_map_or (λ (i : Interface). or_parent names entries i.shutdown (parent_of name)) o false) found ∙ ap (λ b. or_parent names entries b (parent_of name)) is
down-found (suc names) entries name less (below {parent = p} {block = i} found sub down) =
    let short = parent-shorter name p sub in
    let rest : is_down_within names entries p ≡ true = down-found names entries p (omega arith) down in
    ap (λ o. option_map_or (λ (i : Interface). or_parent names entries i.shutdown (parent_of name)) o false) found
    ∙ ap (or_parent names entries i.shutdown) (one_parent name p sub) ∙ ap (λ b. i.shutdown || b) rest ∙ or-true i.shutdown

pub down_decides : (entries : Entries) (name : List ℕ) → IsTrue (is_down entries name) ↔ IsDown entries name
down_decides entries name = (down-is (length name + 1) entries name, down-found (length name + 1) entries name (omega arith))
