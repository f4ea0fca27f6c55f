-- The leader of a pass is the first of those that are left and that none of these beats by the last tests.
use Rattle.std.proofs.Common.{◌≡◌, ℕ, zero, suc, ◌+◌, ◌<◌, Bool, true, false, not, cond, ◌&&◌, ◌||◌, List, [], ◌∷◌, Option, Some, None, refl, ap, sym, ◌∙◌, arith, filter, length}
use Rattle.std.specs.Prelude.{slice_get, slice_index_or, option_map}
use Rattle.std.specs.Cmp.{IsStrictWeakOrder}
use Rattle.std.specs.List.{list_any, enumerate_from, best_of as std_best}
use Rattle.std.proofs.lemmas.List.{get_or_default}
use Rattle.std.proofs.lemmas.List.Folds.{list_any_none, list_any_at}
use Rattle.std.proofs.lemmas.List.MinMax.{IsFirstBest-from_best_of}
use Rattle.rc_base.specs.Lists.{keep}
use Rattle.rc_base.proofs.KeepLaws.{filter_same}
use Rattle.rc_bgp_decide.specs.declared.standing.Standing.{Standing}
use Rattle.rc_bgp_decide.specs.declared.leader.Leader.{Leader}
use Rattle.rc_bgp_decide.specs.Decision.{place_of_best}
use Rattle.rc_bgp_decide.specs.Tests.{first_tests, last_tests, is_beaten, is_ahead, leader_after, leader_from}
use Rattle.rc_bgp_decide.proofs.OrderLaws.{last_is_order, order_on}
use Rattle.rc_bgp_decide.proofs.RowLaws.{left, in_two}

-- ---- the first of those that none beats

first_passing : {X : Type 0} (p : X → Bool) (xs : List X) (b : ℕ) (d : X) → b < length xs → ((k : ℕ) → k < b → p (slice_index_or xs k d) ≡ false) → p (slice_index_or xs b d) ≡ true
    → slice_get (filter p xs) 0 ≡ Some (slice_index_or xs b d)
first_passing p [] b d below before at = absurd (omega arith)
first_passing p (x ∷ xs) zero d below before at = ap (λ t. slice_get (cond t (x ∷ filter p xs) (filter p xs)) 0) at
first_passing p (x ∷ xs) (suc b) d below before at =
    ap (λ t. slice_get (cond t (x ∷ filter p xs) (filter p xs)) 0) (before 0 (omega arith))
    ∙ first_passing p xs b d (omega arith) (λ k less. before (suc k) (omega arith)) at

-- the first that none beats is the one that a search by the order keeps
pub first_kept : {X : Type 0} (beats : X → X → Bool) → IsStrictWeakOrder beats → (a : X) (xs : List X) → slice_get (keep beats (a ∷ xs)) 0 ≡ Some (std_best beats a xs)
first_kept {X} beats o a xs =
    let (b, is_best, same) = IsFirstBest-from_best_of o a xs in
    let (below, by_none, before) = is_best in
    first_passing (λ x. not (list_any (λ y. beats y x) (a ∷ xs))) (a ∷ xs) b a below
    (λ k less. ap not (list_any_at (λ y. beats y (slice_index_or (a ∷ xs) k a)) (a ∷ xs) b a below (before k a less)))
    (ap not (list_any_none (λ y. beats y (slice_index_or (a ∷ xs) b a)) (a ∷ xs)
    (λ k d less. ap (λ t. beats (slice_index_or (a ∷ xs) k d) t) (get_or_default (a ∷ xs) b a d below) ∙ by_none k d less)))
    ∙ ap Some same

-- ---- a pass over things that are left or not

module _ {X : Type 0} (beats : X → X → Bool) (is_left : X → Bool) where
  abbrev pub ahead : Option X → X → Bool
  ahead None x = true
  ahead (Some leader) x = beats x leader

  abbrev pub pass : Option X → List X → Option X
  pass leader [] = leader
  pass leader (x ∷ xs) = pass (cond (ahead leader x && is_left x) (Some x) leader) xs

  pass_behind : (leader : X) (xs : List X) → pass (Some leader) xs ≡ Some (std_best beats leader (filter is_left xs))
  pass_behind leader [] = refl
  pass_behind leader (x ∷ xs) = by_tests (beats x leader) (is_left x) refl (λ l. pass_behind l xs)
    where
      by_tests : (t l : Bool) → beats x leader ≡ t → ((l : X) → pass (Some l) xs ≡ Some (std_best beats l (filter is_left xs)))
          → pass (cond (t && l) (Some x) (Some leader)) xs ≡ Some (std_best beats leader (cond l (x ∷ filter is_left xs) (filter is_left xs)))
      by_tests true true e later = later x ∙ ap (λ t. Some (std_best beats (cond t x leader) (filter is_left xs))) (sym e)
      by_tests false true e later = later leader ∙ ap (λ t. Some (std_best beats (cond t x leader) (filter is_left xs))) (sym e)
      by_tests true false e later = later leader
      by_tests false false e later = later leader

  pub pass_all : IsStrictWeakOrder beats → (xs : List X) → pass None xs ≡ slice_get (keep beats (filter is_left xs)) 0
  pass_all o [] = refl
  pass_all o (x ∷ xs) = by_test (is_left x) (pass_all o xs)
    where
      by_test : (l : Bool) → pass None xs ≡ slice_get (keep beats (filter is_left xs)) 0
          → pass (cond l (Some x) None) xs ≡ slice_get (keep beats (cond l (x ∷ filter is_left xs) (filter is_left xs))) 0
      by_test true later = pass_behind x xs ∙ sym (first_kept beats o x (filter is_left xs))
      by_test false later = later

-- ---- the pass of the code

any_enumerate : {X : Type 0} (q : X → Bool) (n : ℕ) (xs : List X) → list_any (λ (e : ℕ × X). q e.1) (enumerate_from n xs) ≡ list_any q xs
any_enumerate q n [] = refl
any_enumerate q n (x ∷ xs) = ap (λ b. q x || b) (any_enumerate q (n + 1) xs)

map_cond : {A B : Type 0} (f : A → B) (t : Bool) (a b : Option A) → cond t (option_map f a) (option_map f b) ≡ option_map f (cond t a b)
map_cond f true a b = refl
map_cond f false a b = refl

map_twice : {A B C : Type 0} (f : A → B) (g : B → C) (o : Option A) → option_map g (option_map f o) ≡ option_map (λ x. g (f x)) o
map_twice f g None = refl
map_twice f g (Some x) = refl

module _ {X : Type 0} (of : X → Standing) (all : List X) where
  behind : ℕ × X → ℕ × X → Bool
  behind x y = last_tests (of x.1) (of y.1)

  unbeaten : ℕ × X → Bool
  unbeaten e = not (is_beaten of all (of e.1))

  leading : ℕ × X → Leader
  leading e = record { place = e.0; standing = of e.1 }

  ahead_same : (leader : Option (ℕ × X)) (e : ℕ × X) → is_ahead (option_map leading leader) (of e.1) ≡ ahead behind unbeaten leader e
  unfolding behind leading
  ahead_same None e = refl
  ahead_same (Some l) e = refl

  after_same : (leader : Option (ℕ × X)) (e : ℕ × X) → leader_after of all (option_map leading leader) (leading e) ≡ option_map leading (cond (ahead behind unbeaten leader e && unbeaten e) (Some e) leader)
  unfolding unbeaten leading
  after_same leader e =
      ap (λ t. cond (t && not (is_beaten of all (of e.1))) (Some (leading e)) (option_map leading leader)) (ahead_same leader e)
      ∙ map_cond leading (ahead behind unbeaten leader e && unbeaten e) (Some e) leader

  leader_is_pass : (leader : Option (ℕ × X)) (n : ℕ) (xs : List X) → leader_from of all (option_map leading leader) n xs ≡ option_map leading (pass behind unbeaten leader (enumerate_from n xs))
  unfolding leading
  leader_is_pass leader n [] = refl
  leader_is_pass leader n (x ∷ xs) =
      ap (λ l. leader_from of all l (n + 1) xs) (after_same leader (n, x))
      ∙ leader_is_pass (cond (ahead behind unbeaten leader (n, x) && unbeaten (n, x)) (Some (n, x)) leader) (n + 1) xs

  left_same : (n : ℕ) → filter unbeaten (enumerate_from n all) ≡ left (λ (e : ℕ × X). of e.1) (enumerate_from n all)
  unfolding unbeaten
  left_same n = filter_same unbeaten (λ (x : ℕ × X). not (list_any (λ (y : ℕ × X). first_tests (of y.1) (of x.1)) (enumerate_from n all))) (enumerate_from n all)
      (λ x there. ap not (sym (any_enumerate (λ y. first_tests (of y) (of x.1)) n all)))

  pub leader_is_best : option_map (λ (l : Leader). l.place) (leader_from of all None 0 all) ≡ place_of_best of all
  unfolding behind leading
  leader_is_best =
      ap (option_map (λ (l : Leader). l.place)) (leader_is_pass None 0 all)
      ∙ map_twice leading (λ (l : Leader). l.place) (pass behind unbeaten None (enumerate_from 0 all))
      ∙ ap (option_map (λ (e : ℕ × X). e.0)) (
      pass_all behind unbeaten (order_on (λ (e : ℕ × X). of e.1) last_tests last_is_order) (enumerate_from 0 all)
      ∙ ap (λ ys. slice_get (keep behind ys) 0) (left_same 0)
      ∙ ap (λ ys. slice_get ys 0) (sym (in_two (λ (e : ℕ × X). of e.1) (enumerate_from 0 all))))
