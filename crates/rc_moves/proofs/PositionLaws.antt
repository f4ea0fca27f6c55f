-- The test of two positions decides whether they are equal.
use Rattle.std.proofs.Common.{refl, ◌≡◌, ap, sym, ◌∙◌, Bool, true, false, ◌||◌, List, [], ◌∷◌, ◌++◌, rules}
use Rattle.std.specs.Bool.{Decides, one_answer}
use Rattle.std.specs.Cmp.{IsEquivalence}
use Rattle.std.specs.List.{AllByRecursion, IsDistinct, list_any}
use Rattle.std.proofs.lemmas.Bool.Decides.{nat_tests, same_from_decides}
use Rattle.rc_base.specs.declared.position.Pos.{Pos}
use Rattle.rc_base.specs.declared.position.Pos.TheVariants.{Own, Entering}
use Rattle.rc_base.specs.Positions.{same_position}
use Rattle.rc_base.specs.contracts.position.PosPartialEq.TheImpl as pos_impl
use Rattle.rc_moves.specs.Walks.{stands_in}

pub same_position-Decides : (p q : Pos) → Decides (same_position p q) (p ≡ q)
same_position-Decides (Own r) (Own s) = search (rules, nat_tests)
same_position-Decides (Own r) (Entering j) = search rules
same_position-Decides (Entering i) (Own s) = search rules
same_position-Decides (Entering i) (Entering j) = search (rules, nat_tests)

position-Decides : (p q : Pos) → Decides (pos_impl.eq-value.it p q) (p ≡ q)
position-Decides p q = search rules

-- the derived `==` of positions is the test of the definitions
pub same_test : (p q : Pos) → pos_impl.eq-value.it p q ≡ same_position p q
same_test p q = same_from_decides _ _ (position-Decides p q) (same_position-Decides p q)

pub same_any : (p : Pos) (ps : List Pos) → list_any (pos_impl.eq-value.it p) ps ≡ stands_in ps p
same_any p ps = ap (λ (test : Pos → Bool). list_any test ps) (λ i q. same_test p q i)

pub same_position-own : (p : Pos) → same_position p p ≡ true
same_position-own p = (same_position-Decides p p).1 refl

pub same_position-laws : IsEquivalence same_position
same_position-laws = record {
  refl = same_position-own;
  symm = λ p q. one_answer _ _ (λ e. (same_position-Decides q p).1 (sym ((same_position-Decides p q).0 e)), λ e. (same_position-Decides p q).1 (sym ((same_position-Decides q p).0 e))) (itself (same_position q p));
  congr = λ p q r e. ap (λ x. same_position x r) ((same_position-Decides p q).0 e);
}
  where
    itself : (b : Bool) → Decides b (b ≡ true)
    itself b = (λ e. e, λ e. e)

behind : (x : Pos) (xs ys : List Pos) (t : Pos) → AllByRecursion (λ y. same_position x y ≡ false) (xs ++ t ∷ ys) → same_position x t ≡ false
behind x [] ys t h = h.0
behind x (y ∷ xs) ys t h = behind x xs ys t h.1

both_false : (b c : Bool) → b ≡ false → c ≡ false → (b || c) ≡ false
both_false b c p q = λ i. p i || q i

-- of positions that stand once each none stands before itself
pub apart_behind : (xs ys : List Pos) (t : Pos) → IsDistinct same_position (xs ++ t ∷ ys) → stands_in xs t ≡ false
unfolding IsDistinct
apart_behind [] ys t d = refl
apart_behind (x ∷ xs) ys t d =
    both_false (same_position t x) (stands_in xs t) (same_position-laws.symm t x ∙ behind x xs ys t d.0) (apart_behind xs ys t d.1)
