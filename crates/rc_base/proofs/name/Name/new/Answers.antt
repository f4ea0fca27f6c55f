use Rattle.std.proofs.Common.{◌≡◌, ℕ, true, List, ◌++◌, length, drop, replicate, refl, sym, ap, ◌∙◌, subst, arith}
use Rattle.std.proofs.lemmas.List.{drop-replicate}
use Rattle.std.proofs.Math.Seq.{take-append_seam}
use Rattle.std.proofs.lemmas.Grind.{common_steps}
use Rattle.std.proofs.lemmas.Bool.Decides.{nat_tests}
use Rattle.rc_base.specs.Name.{is_name, padded, IsPadded}
use Rattle.rc_base.proofs.name.Name.new.Goals as goal

-- a name with zeros behind it
padded-IsPadded : (text : List ℕ) → is_name text ≡ true → IsPadded (length text) (padded (length text) text)
padded-IsPadded text name = record {
  name = rw take-append_seam name;
  long = rw take-append_seam refl;
  zeros = rw take-append_seam refl;
}

filled : (front text : List ℕ) → front ≡ text → front ++ drop (length text) (replicate 63 0) ≡ padded (length text) text
filled front text e = ap (λ f. f ++ drop (length text) (replicate 63 0)) e ∙ ap (λ z. text ++ z) (drop-replicate (length text) 63 0)

pub invariant_of-result : goal.invariant_of-result
invariant_of-result c =
    let text = c.args.text.now in
    let name : is_name text ≡ true = grind (arith, common_steps, nat_tests) in
    subst (IsPadded (length text)) (sym (filled c.copy_from_slice.new.self text c.copy_from_slice.ensures.after)) (padded-IsPadded text name)
