-- The lines of cubes, one cube after another.
use Rattle.std.proofs.Common.{refl, ◌≡◌, ap, sym, ◌∙◌, subst, ℕ, Bool, true, false, List, [], ◌∷◌, ◌++◌, length, codes, Option, Some, None, Result, Ok, Err, IsErr, append_assoc, append-nil, Bor, Iter, arith}
use Rattle.std.specs.Prelude.{option_copied, if◌then◌else◌}
use Rattle.std.specs.List.{slice_get}
use Rattle.std.specs.Slice.Iter.{iter_rest, iter_steps}
use Rattle.rc_base.specs.Header.{is_free}
use Rattle.rc_config.specs.declared.network.Network.{Network}
use Rattle.rc_cubes.specs.declared.cube.Cube.{Cube}
use Rattle.rc_outside.specs.Put.{IsPut}
use Rattle.rc_outside.specs.declared.sink.Sink.{Ghosts}
use Rattle.rc_outside.proofs.PutLaws.{put_then, put_stopped}
use Rattle.rc_report.specs.CubeText.{fields_text, cube_line, cube_text, cubes_text, shown}
use Rattle.rc_report.specs.declared.cubes.Told.TheVariants.{Tests}
use Rattle.rc_report.specs.declared.put.SinkFault.{SinkFault}
use Rattle.rc_moves.specs.declared.walk.Walk.{Walk}

-- ---- a cube's line

pub line_of_all : (c : Cube) → is_free c.mask ≡ true → cube_line c ≡ codes "cube all\n"
unfolding cube_line
line_of_all c e = ap (λ (b : Bool). if b then codes "cube all\n" else (codes "cube" ++ fields_text (Tests c)) ++ codes "\n") e

pub line_of_tests : (c : Cube) → is_free c.mask ≡ false → cube_line c ≡ (codes "cube" ++ fields_text (Tests c)) ++ codes "\n"
unfolding cube_line
line_of_tests c e = ap (λ (b : Bool). if b then codes "cube all\n" else (codes "cube" ++ fields_text (Tests c)) ++ codes "\n") e

-- ---- a list of cubes

empty : {A : Type 0} (xs : List A) → length xs ≡ 0 → xs ≡ []
empty [] e = refl
empty (x ∷ xs) e = absurd (let wrong : ⊥ = omega arith in wrong)

module _ (net : Network) where
  -- the text of the first cube and of the others, by the next of the examples that are left
  text_next : (c : Cube) (cs : List Cube) (r : Option (Bor (List Walk))) (s t : Iter (List Walk)) → iter_steps s r t → cubes_text net (c ∷ cs) (iter_rest s) ≡ cube_text net c (option_copied r) ++ cubes_text net cs (iter_rest t)
  text_next c cs None s t (none, same) =
      let e : iter_rest s ≡ [] = empty (iter_rest s) none in
      ap (λ xs. cubes_text net (c ∷ cs) xs) e ∙ ap (λ xs. cube_text net c None ++ cubes_text net cs xs) (sym (ap (λ (i : Iter (List Walk)). iter_rest i) same ∙ e))
  text_next c cs (Some x) s t e = ap (λ xs. cubes_text net (c ∷ cs) xs) e

  pub text_of_first : (cs after : List Cube) (c : Cube) (examples : List (List Walk)) → cs ≡ c ∷ after → cube_text net c (slice_get examples 0) ≡ cubes_text net (shown true cs) examples
  text_of_first cs after c [] e = sym (ap (λ xs. cubes_text net (shown true xs) []) e ∙ append-nil (cube_text net c None))
  text_of_first cs after c (walks ∷ examples) e = sym (ap (λ xs. cubes_text net (shown true xs) (walks ∷ examples)) e ∙ append-nil (cube_text net c (Some walks)))

  -- the lines of the cubes before these are put
  pub record IsPutUpTo {S : Type 0} (sink : Ghosts S) (old now : S) (all : List Cube) (examples : List (List Walk)) (cs : List Cube) (left : List (List Walk)) : Type 0 where
    pub before : List ℕ
    pub put : IsPut sink {E = SinkFault} old now (Ok tt) before
    pub whole : before ++ cubes_text net cs left ≡ cubes_text net all examples

  module _ {S : Type 0} {sink : Ghosts S} where
    module _ {old now : S} {all cs rest : List Cube} {c : Cube} {examples : List (List Walk)} (r : Option (Bor (List Walk))) (s t : Iter (List Walk)) (p : IsPutUpTo sink old now all examples cs (iter_rest s)) (first : cs ≡ c ∷ rest) (step : iter_steps s r t) where
      whole_more : (p.before ++ cube_text net c (option_copied r)) ++ cubes_text net rest (iter_rest t) ≡ cubes_text net all examples
      whole_more =
          append_assoc p.before (cube_text net c (option_copied r)) (cubes_text net rest (iter_rest t)) ∙ ap (λ x. p.before ++ x) (sym (ap (λ xs. cubes_text net xs (iter_rest s)) first ∙ text_next c rest r s t step)) ∙ p.whole

      pub put_more : {new : S} {u : Unit {0}} → IsPut sink {E = SinkFault} now new (Ok u) (cube_text net c (option_copied r)) → IsPutUpTo sink old new all examples rest (iter_rest t)
      put_more q = record { before = p.before ++ cube_text net c (option_copied r); put = put_then p.put q; whole = whole_more }

      pub stopped : {new : S} {e : SinkFault} {result : Result (Unit {0}) SinkFault} → IsErr result → IsPut sink now new (Err e) (cube_text net c (option_copied r)) → IsPut sink old new result (cubes_text net all examples)
      stopped {new = new} {result = result} err q = subst (IsPut sink old new result) whole_more (put_stopped (cubes_text net rest (iter_rest t)) err (put_then p.put q))

    pub put_all : {old now : S} {all cs : List Cube} {examples left : List (List Walk)} → IsPutUpTo sink old now all examples cs left → cs ≡ [] → IsPut sink {E = SinkFault} old now (Ok tt) (cubes_text net all examples)
    put_all {old = old} {now = now} {left = left} p none =
        subst (λ x. IsPut sink {E = SinkFault} old now (Ok tt) x) (sym (append-nil p.before) ∙ ap (λ xs. p.before ++ cubes_text net xs left) (sym none) ∙ p.whole) p.put
