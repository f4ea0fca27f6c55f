-- What the front of a file's bytes says.
use Rattle.std.proofs.Common.{◌≡◌, ℕ, ◌+◌, ◌<◌, true, ltb, List, length, take, Option, Some, None, Result, Err, IfSome, refl, sym, ap, ◌∙◌, arith, inl, inr}
use Rattle.std.proofs.lemmas.List.{take_all, length-take-le}
use Rattle.std.proofs.lemmas.Bool.{cases_lt}
use Rattle.std.proofs.lemmas.Bool.Decides.{nat_tests}
use Rattle.rc_outside.specs.Folder.{File, bytes_at}
use Rattle.rc_config.specs.declared.router_text.RouterText.{RouterText}
use Rattle.rc_network.specs.declared.refusal.NetCause.TheVariants.{FileTooLong}
use Rattle.rc_network.specs.declared.refusal.NetRefusal.{NetRefusal}
use Rattle.rc_network.specs.declared.refusal.NetRefusal.TheVariants.{InFile}
use Rattle.rc_network.specs.Files.{model_by, model_of}

over : (n : ℕ) → 1048576 < n → ltb 1048576 n ≡ true
over n h = grind (arith, nat_tests)

model_over : (name bytes : List ℕ) → 1048576 < length bytes → model_of name bytes ≡ Err (InFile name 0 FileTooLong)
unfolding model_by
model_over name bytes h = rw (over (length bytes) h) refl

-- one byte more than the limit tells as much as all
model_front : (name all : List ℕ) → model_of name (take (1048576 + 1) all) ≡ model_of name all
model_front name all =
    elim (cases_lt 1048576 (length all)) [
      | inl long ↦
          let more : 1048576 < length (take (1048576 + 1) all) = omega (arith, length-take-le (1048576 + 1) all (omega arith)) in
          model_over name (take (1048576 + 1) all) more ∙ sym (model_over name all long)
      | inr short ↦ ap (model_of name) (take_all (1048576 + 1) all (omega arith))
    ]

said_of_bytes : (name : List ℕ) (found : Option (List ℕ)) (bytes : List ℕ) (said : Result RouterText NetRefusal) → said ≡ model_of name bytes
    → IfSome found (λ all. bytes ≡ take (1048576 + 1) all) → IfSome found (λ all. said ≡ model_of name all)
said_of_bytes name None bytes said h e = tt
said_of_bytes name (Some all) bytes said h e = h ∙ ap (model_of name) e ∙ model_front name all

pub said_of : (told : Option (List File)) (dir name bytes : List ℕ) (said : Result RouterText NetRefusal) → said ≡ model_of name bytes
    → IfSome told (λ files. IfSome (bytes_at dir name files) (λ all. bytes ≡ take (1048576 + 1) all))
    → IfSome told (λ files. IfSome (bytes_at dir name files) (λ all. said ≡ model_of name all))
said_of None dir name bytes said h e = tt
said_of (Some files) dir name bytes said h e = said_of_bytes name (bytes_at dir name files) bytes said h e
