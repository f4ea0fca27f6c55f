-- A line is a banner's first one where its first byte is a `b` and its first word is `banner`.
use Rattle.std.proofs.Common.{◌≡◌, ◌==◌, ℕ, suc, add-one, arith, length, take, Bool, true, false, ◌&&◌, List, [], ◌∷◌, refl, sym, ◌∙◌, ap}
use Rattle.std.specs.Prelude.{nat_eq}
use Rattle.std.specs.List.{slice_split, filter, onto_first, prefix_len}
use Rattle.std.proofs.lemmas.Bool.{eqb-true, ne_eqb}
use Rattle.std.proofs.Math.Nat.{add_comm}
use Rattle.rc_openings.specs.Words.{words_of, is_blank, has_bytes}
use Rattle.rc_lines.specs.Banners.{begins_with_b, first_is_banner, indent_of, is_banner}

-- a word that begins with another byte isn't `banner`
other_word : (b : ℕ) (ps : List (List ℕ)) → nat_eq b 98 ≡ false → first_is_banner (filter has_bytes (onto_first b ps)) ≡ false
other_word b [] e = rw e refl
other_word b (p ∷ ps) e = rw e refl

other_text : (b : ℕ) (bs : List ℕ) → nat_eq b 98 ≡ false → is_banner (b ∷ bs) ≡ false
unfolding is_banner words_of
other_text b bs e = by (is_blank b) refl
  where
    by : (v : Bool) → is_blank b ≡ v → is_banner (b ∷ bs) ≡ false
    by true g =
        let more : indent_of (b ∷ bs) ≡ suc (length (take (prefix_len is_blank bs) bs)) = rw (g, add_comm 1 (prefix_len is_blank bs), add-one) refl in
        let some : (indent_of (b ∷ bs) == 0) ≡ false = ne_eqb (indent_of (b ∷ bs)) 0 (λ e. omega arith) in
        ap (λ v. v && first_is_banner (words_of (b ∷ bs))) some
    by false g = rw g (other_word b (slice_split is_blank bs) e)

banner_is : (text : List ℕ) → (begins_with_b text && first_is_banner (words_of text)) ≡ is_banner text
unfolding is_banner words_of
banner_is [] = refl
banner_is (b ∷ bs) = by (nat_eq b 98) refl
  where
    by : (v : Bool) → nat_eq b 98 ≡ v → (v && first_is_banner (words_of (b ∷ bs))) ≡ is_banner (b ∷ bs)
    by true e = rw (eqb-true b 98 e) refl
    by false e = rw (other_text b bs e) refl

pub where_b : (text : List ℕ) → begins_with_b text ≡ true → first_is_banner (words_of text) ≡ is_banner text
where_b text e = sym (ap (λ v. v && first_is_banner (words_of text)) e) ∙ banner_is text

pub where_none : (text : List ℕ) → begins_with_b text ≡ false → false ≡ is_banner text
where_none text e = sym (ap (λ v. v && first_is_banner (words_of text)) e) ∙ banner_is text
