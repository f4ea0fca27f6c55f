-- The walks of examples, one cube after another.
use Rattle.std.proofs.Common.{refl, ◌≡◌, ap, sym, ◌∙◌, subst, ℕ, zero, suc, ◌+◌, ◌≤◌, List, [], ◌∷◌, ◌++◌, take, length, arith}
use Rattle.rc_cubes.specs.declared.cube.Cube.{Cube}
use Rattle.rc_reach.specs.declared.asked.Asked.{Asked}
use Rattle.rc_moves.specs.Moves.{DataPlane}
use Rattle.rc_moves.specs.declared.walk.Walk.{Walk}
use Rattle.rc_answers.specs.Written.{AreExamples, AreWalksOf}

-- the cubes are those that have their walks, then those that are left; so many have them
pub record AreUnderWay (plane : DataPlane) (asked : Asked) (all : List Cube) (n : ℕ) (left : List Cube) (walks : List (List Walk)) : Type 0 where
  pub done : List Cube
  pub parts : all ≡ done ++ left
  pub many : length done ≡ n
  pub have : AreExamples plane asked done walks

module _ (plane : DataPlane) (asked : Asked) where
  pub begun : (all : List Cube) → AreUnderWay plane asked all 0 all []
  begun all = record { done = []; parts = refl; many = refl; have = refl }

  one_more : (done : List Cube) (c : Cube) (walks : List (List Walk)) (own : List Walk) → AreExamples plane asked done walks → AreWalksOf plane asked c.value own → AreExamples plane asked (done ++ c ∷ []) (walks ++ own ∷ [])
  one_more [] c walks own none is = (own, [], ap (λ ws. ws ++ own ∷ []) none, is, refl)
  one_more (d ∷ done) c walks own (first, rest, e, has, others) is = (first, rest ++ own ∷ [], ap (λ ws. ws ++ own ∷ []) e, has, one_more done c rest own others is)

  joined : (done : List Cube) (c : Cube) (left : List Cube) → done ++ c ∷ left ≡ (done ++ c ∷ []) ++ left
  joined [] c left = refl
  joined (d ∷ done) c left = ap (λ t. d ∷ t) (joined done c left)

  longer : (done : List Cube) (c : Cube) → length (done ++ c ∷ []) ≡ length done + 1
  longer [] c = refl
  longer (d ∷ done) c = let e = longer done c in omega (arith, e)

  pub goes_on : (all : List Cube) (n : ℕ) (c : Cube) (left : List Cube) (walks : List (List Walk)) (own : List Walk)
      → AreUnderWay plane asked all n (c ∷ left) walks → AreWalksOf plane asked c.value own → AreUnderWay plane asked all (n + 1) left (walks ++ own ∷ [])
  goes_on all n c left walks own u is = record {
    done = u.done ++ c ∷ [];
    parts = u.parts ∙ joined u.done c left;
    many = longer u.done c ∙ ap (λ k. k + 1) u.many;
    have = one_more u.done c walks own u.have is;
  }

  taken : (done left : List Cube) → take (length done) (done ++ left) ≡ done
  taken [] left = refl
  taken (d ∷ done) left = ap (λ t. d ∷ t) (taken done left)

  -- so many have their walks
  pub enough : (all : List Cube) (n : ℕ) (left : List Cube) (walks : List (List Walk)) → AreUnderWay plane asked all n left walks → AreExamples plane asked (take n all) walks
  enough all n left walks u =
      let e : take n all ≡ u.done = ap (λ k. take k all) (sym u.many) ∙ ap (take (length u.done)) u.parts ∙ taken u.done left in
      subst (λ cs. AreExamples plane asked cs walks) (sym e) u.have

  all_taken : (done : List Cube) (n : ℕ) → length done ≤ n → take n done ≡ done
  all_taken [] zero less = refl
  all_taken [] (suc n) less = refl
  all_taken (d ∷ done) zero less = absurd (let none : ⊥ = omega (arith, less) in none)
  all_taken (d ∷ done) (suc n) less = ap (λ t. d ∷ t) (all_taken done n (omega (arith, less)))

  -- or there are no more
  pub ended : (all : List Cube) (n most : ℕ) (left : List Cube) (walks : List (List Walk)) → AreUnderWay plane asked all n left walks → left ≡ [] → n ≤ most → AreExamples plane asked (take most all) walks
  ended all n most left walks u none less =
      let whole : all ≡ u.done = u.parts ∙ ap (λ t. u.done ++ t) none ∙ nothing_behind u.done in
      let few : length u.done ≤ most = omega (arith, less, u.many) in
      subst (λ cs. AreExamples plane asked cs walks) (sym (ap (take most) whole ∙ all_taken u.done most few)) u.have
    where
      nothing_behind : (done : List Cube) → done ++ [] ≡ done
      nothing_behind [] = refl
      nothing_behind (d ∷ done) = ap (λ t. d ∷ t) (nothing_behind done)
