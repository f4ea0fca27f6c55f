-- AS paths that the derived test holds for equal are the same.
use Rattle.std.proofs.Common.{◌≡◌, sym, ◌∙◌, ℕ, Bool, true, List, nat_eq}
use Rattle.std.specs.Cmp.Lexicographic.{pointwise, same_text}

pub same_numbers : (xs ys : List ℕ) (is : Bool) → is ≡ pointwise nat_eq xs ys → is ≡ true → xs ≡ ys
same_numbers xs ys is told holds = same_text xs ys (sym holds ∙ told)
