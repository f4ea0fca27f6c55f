-- A line that is filled up to a piece, and one that is put together of parts.
use Rattle.std.proofs.Common.{◌≡◌, ℕ, List, [], ◌++◌, sym, ap, ◌∙◌, append_assoc, take, drop}
use Rattle.std.proofs.lemmas.List.{take-append-drop}

-- bytes are taken in hand from the front of those that are left
filled : (n : ℕ) (hand bytes new rest : List ℕ) → new ≡ hand ++ take n bytes → rest ≡ drop n bytes → hand ++ bytes ≡ new ++ rest
filled n hand bytes new rest t r = ap (λ l. hand ++ l) (sym (take-append-drop n bytes)) ∙ sym (append_assoc hand (take n bytes) (drop n bytes)) ∙ ap (λ l. l ++ drop n bytes) (sym t) ∙ ap (λ l. new ++ l) (sym r)

pub filled_again : (n : ℕ) (emptied bytes new rest : List ℕ) → emptied ≡ [] → new ≡ emptied ++ take n bytes → rest ≡ drop n bytes → bytes ≡ new ++ rest
filled_again n emptied bytes new rest e t r = ap (λ l. l ++ bytes) (sym e) ∙ filled n emptied bytes new rest t r

-- two texts behind a line begun
pub two_behind : (line : List ℕ) {x y : List ℕ} (s : List ℕ) {t : List ℕ} → x ≡ y → s ≡ t → (line ++ x) ++ s ≡ line ++ (y ++ t)
two_behind line {x} {y} s {t} e f = append_assoc line x s ∙ ap (λ l. line ++ (l ++ s)) e ∙ ap (λ l. line ++ (y ++ l)) f
