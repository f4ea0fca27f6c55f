-- A name that is plainly that of a main interface of a type is of that type.
use Rattle.std.proofs.Common.{◌≡◌, ◌∙◌, ℕ, Bool, true, false, not, ◌&&◌, ◌||◌, cond, eqb, List, [], ◌∷◌, ◌++◌, Option, Some, None, is_some, unwrap_or, refl, sym, ap}
use Rattle.std.specs.Prelude.{nat_eq}
use Rattle.std.specs.Char.{is_ascii_digit}
use Rattle.std.proofs.lemmas.Bool.{false≢true, eqb-true, and_parts}
use Rattle.rc_openings.specs.Opening.{left_behind}
use Rattle.rc_config.specs.Down.{before_number, is_number}
use Rattle.rc_config.specs.IfType.{front_of, main_name, type_of, type_word}
use Rattle.rc_config.specs.declared.if_type.IfType.{IfType}
use Rattle.rc_config.specs.declared.if_type.IfType.TheVariants.{Ethernet, FastEthernet, GigabitEthernet, TenGigabitEthernet, Serial, Loopback, Vlan, PortChannel}
use Rattle.rc_gram_if.specs.Typed.{has_point, is_plain_number, if_plain, is_numbered, is_plainly_typed}

some_same : (s r : List ℕ) → Some s ≡ Some r → s ≡ r
some_same s r e = ap (λ o. unwrap_or o []) e

left_there : (front text rest : List ℕ) → left_behind front text ≡ Some rest → text ≡ front ++ rest
left_there [] text rest h = some_same text rest h
left_there (a ∷ as') [] rest h = absurd (false≢true (ap is_some h))
left_there (a ∷ as') (b ∷ bs) rest h = by (nat_eq a b) refl (left_there as' bs rest) h
  where
    by : (v : Bool) → nat_eq a b ≡ v → (left_behind as' bs ≡ Some rest → bs ≡ as' ++ rest) → cond v (left_behind as' bs) None ≡ Some rest → b ∷ bs ≡ a ∷ (as' ++ rest)
    by true e later g = rw (eqb-true a b e) (ap (λ s. b ∷ s) (later g))
    by false e later g = absurd (false≢true (ap is_some g))

-- a name without a point is no subinterface's
no_number : (front text : List ℕ) → has_point text ≡ false → before_number front text ≡ None
no_number front [] h = refl
no_number front (b ∷ text) h = by (no_number (front ++ b ∷ []) text) (eqb b 46) h
  where
    by : (has_point text ≡ false → before_number (front ++ b ∷ []) text ≡ None) → (v : Bool) → (v || has_point text) ≡ false
        → cond (v && is_number text) (Some front) (before_number (front ++ b ∷ []) text) ≡ None
    by later true g = absurd (false≢true (sym g))
    by later false g = later g

own_main : (text : List ℕ) → has_point text ≡ false → main_name text ≡ text
own_main [] h = refl
own_main (b ∷ text) h = rw (no_number [] (b ∷ text) h) refl

not_true : (v : Bool) → not v ≡ true → v ≡ false
not_true false e = refl
not_true true e = absurd (false≢true e)

pointless : (t : IfType) (rest : List ℕ) → has_point rest ≡ false → has_point (type_word t ++ rest) ≡ false
pointless Ethernet rest h = h
pointless FastEthernet rest h = h
pointless GigabitEthernet rest h = h
pointless TenGigabitEthernet rest h = h
pointless Serial rest h = h
pointless Loopback rest h = h
pointless Vlan rest h = h
pointless PortChannel rest h = h

front_there : (t : IfType) (d : ℕ) (rest : List ℕ) → is_ascii_digit d ≡ true → front_of (type_word t ++ d ∷ rest) ≡ type_word t
front_there Ethernet d rest h = rw h refl
front_there FastEthernet d rest h = rw h refl
front_there GigabitEthernet d rest h = rw h refl
front_there TenGigabitEthernet d rest h = rw h refl
front_there Serial d rest h = rw h refl
front_there Loopback d rest h = rw h refl
front_there Vlan d rest h = rw h refl
front_there PortChannel d rest h = rw h refl

found : (t : IfType) (name : List ℕ) → front_of (main_name name) ≡ type_word t → is_some (type_of name) ≡ true
unfolding type_of
found Ethernet name h = rw h refl
found FastEthernet name h = rw h refl
found GigabitEthernet name h = rw h refl
found TenGigabitEthernet name h = rw h refl
found Serial name h = rw h refl
found Loopback name h = rw h refl
found Vlan name h = rw h refl
found PortChannel name h = rw h refl

typed_by : (t : IfType) (text rest : List ℕ) → left_behind (type_word t) text ≡ Some rest → is_plain_number rest ≡ true → is_some (type_of text) ≡ true
typed_by t text [] left plain = absurd (false≢true plain)
typed_by t text (d ∷ rest) left plain =
    let p = and_parts (is_ascii_digit d) (not (has_point (d ∷ rest))) plain in
    let is : text ≡ type_word t ++ d ∷ rest = left_there (type_word t) text (d ∷ rest) left in
    let whole : has_point (type_word t ++ d ∷ rest) ≡ false = pointless t (d ∷ rest) (not_true (has_point (d ∷ rest)) p.1) in
    rw is (found t (type_word t ++ d ∷ rest) (ap front_of (own_main (type_word t ++ d ∷ rest) whole) ∙ front_there t d rest p.0))

typed : (t : IfType) (text : List ℕ) → is_numbered (type_word t) text ≡ true → is_some (type_of text) ≡ true
typed t text h = by (left_behind (type_word t) text) refl h
  where
    by : (o : Option (List ℕ)) → left_behind (type_word t) text ≡ o → if_plain o ≡ true → is_some (type_of text) ≡ true
    by None e g = absurd (false≢true g)
    by (Some rest) e g = typed_by t text rest e g

-- what is told at a look is so
pub plainly : (x y z : Bool) (text : List ℕ) → is_numbered (type_word GigabitEthernet) text ≡ x → is_numbered (type_word TenGigabitEthernet) text ≡ y → is_numbered (type_word FastEthernet) text ≡ z
    → ((x || y) || z) ≡ true → is_some (type_of text) ≡ true
plainly true y z text a b c h = typed GigabitEthernet text a
plainly false true z text a b c h = typed TenGigabitEthernet text b
plainly false false true text a b c h = typed FastEthernet text c
plainly false false false text a b c h = absurd (false≢true h)

pub plainly_typed : (text : List ℕ) → is_plainly_typed text ≡ true → is_some (type_of text) ≡ true
plainly_typed text h =
    plainly (is_numbered (type_word GigabitEthernet) text) (is_numbered (type_word TenGigabitEthernet) text) (is_numbered (type_word FastEthernet) text) text refl refl refl h
