-- The cursor's lines are those of the file: a banner is passed over to the first line that holds its delimiter again.
use Rattle.std.proofs.Common.{refl, ◌≡◌, ◌∙◌, sym, ap, subst, ℕ, zero, suc, ◌+◌, ◌<◌, ◌||◌, Bool, true, false, cond, List, [], ◌∷◌, ◌++◌, length, length-append, Option, Some, None, ◌⊎◌, inl, inr, arith}
use Rattle.std.specs.List.{list_any}
use Rattle.std.specs.Str.Lines.{lines}
use Rattle.rc_lines.specs.Banners.{Opened, banner_part, holds, is_banner, left_open, open_after, opened, part_of}
use Rattle.rc_lines.specs.Lines.{TextLine, numbered}
use Rattle.rc_lines.specs.Reading.{AreGiven, AreLines, ClosesItself, HasNone, Opens, StaysOpen, closed_later, closed_there, inside, line, never_closed, none, plain, short}
use Rattle.rc_lines.specs.declared.banner.Delimiter.{Delimiter}
use Rattle.rc_lines.specs.declared.banner.Part.{Part}
use Rattle.rc_lines.specs.declared.banner.Part.TheVariants.{Plain, InBanner, Banner, ShortBanner, OpenBanner}

abbrev Texts : Type 0
Texts = List (List ℕ)

-- ---- the first line and what is left
first : (n : ℕ) (text : List ℕ) (texts : Texts) (p : Part) (d : Option Delimiter) → part_of None text texts ≡ p → open_after None text ≡ d → numbered None n (text ∷ texts) ≡ line n text p ∷ numbered d (n + 1) texts
first n text texts p d is left = λ i. line n text (is i) ∷ numbered (left i) (n + 1) texts

of_banner : (text : List ℕ) (texts : Texts) (x : Option Opened) → is_banner text ≡ true → opened text ≡ x → part_of None text texts ≡ banner_part x texts
of_banner text texts x banner is = ap (λ b. cond b (banner_part (opened text) texts) Plain) banner ∙ ap (λ y. banner_part y texts) is

left_by : (text : List ℕ) (x : Option Opened) → is_banner text ≡ true → opened text ≡ x → open_after None text ≡ left_open x
left_by text x banner is = ap (λ b. cond b (left_open (opened text)) None) banner ∙ ap left_open is

made-plain : (n : ℕ) (text : List ℕ) (texts : Texts) → is_banner text ≡ false → numbered None n (text ∷ texts) ≡ line n text Plain ∷ numbered None (n + 1) texts
made-plain n text texts e = first n text texts Plain None (ap (λ b. cond b (banner_part (opened text) texts) Plain) e) (ap (λ b. cond b (left_open (opened text)) None) e)

made-short : (n : ℕ) (text : List ℕ) (texts : Texts) → is_banner text ≡ true → opened text ≡ None → numbered None n (text ∷ texts) ≡ line n text ShortBanner ∷ numbered None (n + 1) texts
made-short n text texts banner is = first n text texts ShortBanner None (of_banner text texts None banner is) (left_by text None banner is)

made-there : (n : ℕ) (text : List ℕ) (o : Opened) (texts : Texts) → ClosesItself text o → numbered None n (text ∷ texts) ≡ line n text Banner ∷ numbered None (n + 1) texts
made-there n text o texts h =
    first n text texts Banner None
    (of_banner text texts (Some o) h.0.banner h.0.delimiter ∙ ap (λ b. cond (b || list_any (holds o.delimiter) texts) Banner OpenBanner) h.1)
    (left_by text (Some o) h.0.banner h.0.delimiter ∙ ap (λ b. cond b None (Some o.delimiter)) h.1)

made-open : (n : ℕ) (text : List ℕ) (o : Opened) (texts : Texts) (later : Bool) → StaysOpen text o → list_any (holds o.delimiter) texts ≡ later
    → numbered None n (text ∷ texts) ≡ line n text (cond later Banner OpenBanner) ∷ numbered (Some o.delimiter) (n + 1) texts
made-open n text o texts later h is =
    first n text texts (cond later Banner OpenBanner) (Some o.delimiter)
    (of_banner text texts (Some o) h.0.banner h.0.delimiter ∙ ap (λ b. cond (b || list_any (holds o.delimiter) texts) Banner OpenBanner) h.1 ∙ ap (λ b. cond b Banner OpenBanner) is)
    (left_by text (Some o) h.0.banner h.0.delimiter ∙ ap (λ b. cond b None (Some o.delimiter)) h.1)

-- ---- the lines of an open banner
any-none : (o : Opened) (texts : Texts) → HasNone o texts → list_any (holds o.delimiter) texts ≡ false
any-none o [] h = refl
any-none o (t ∷ ts) h = ap (λ b. b || list_any (holds o.delimiter) ts) h.0 ∙ any-none o ts h.1

any-last : (o : Opened) (between : Texts) (last : List ℕ) (texts : Texts) → HasNone o between → holds o.delimiter last ≡ true → list_any (holds o.delimiter) (between ++ last ∷ texts) ≡ true
any-last o [] last texts h closes = ap (λ b. b || list_any (holds o.delimiter) texts) closes
any-last o (t ∷ between) last texts h closes = ap (λ b. b || list_any (holds o.delimiter) (between ++ last ∷ texts)) h.0 ∙ any-last o between last texts h.1 closes

to_end : (o : Opened) (n : ℕ) (texts : Texts) → HasNone o texts → numbered (Some o.delimiter) n texts ≡ inside n texts
to_end o n [] h = refl
to_end o n (t ∷ ts) h =
    ap (λ b. line n t InBanner ∷ numbered (cond b None (Some o.delimiter)) (n + 1) ts) h.0 ∙ ap (λ ls. line n t InBanner ∷ ls) (to_end o (n + 1) ts h.1)

to_last : (o : Opened) (n : ℕ) (between : Texts) (last : List ℕ) (texts : Texts) → HasNone o between → holds o.delimiter last ≡ true
    → numbered (Some o.delimiter) n (between ++ last ∷ texts) ≡ inside n (between ++ last ∷ []) ++ numbered None (n + length between + 1) texts
to_last o n [] last texts h closes =
    let same : n + 1 ≡ n + 0 + 1 = omega arith in
    ap (λ b. line n last InBanner ∷ numbered (cond b None (Some o.delimiter)) (n + 1) texts) closes ∙ ap (λ m. line n last InBanner ∷ numbered None m texts) same
to_last o n (t ∷ between) last texts h closes =
    let same : n + 1 + length between + 1 ≡ n + suc (length between) + 1 = omega arith in
    ap (λ b. line n t InBanner ∷ numbered (cond b None (Some o.delimiter)) (n + 1) (between ++ last ∷ texts)) h.0
    ∙ ap (λ ls. line n t InBanner ∷ ls) (to_last o (n + 1) between last texts h.1 closes)
    ∙ ap (λ m. line n t InBanner ∷ (inside (n + 1) (between ++ last ∷ []) ++ numbered None m texts)) same

made-later : (n : ℕ) (text : List ℕ) (o : Opened) (between : Texts) (last : List ℕ) (texts : Texts) → StaysOpen text o → HasNone o between → holds o.delimiter last ≡ true
    → numbered None n (text ∷ (between ++ last ∷ texts)) ≡ line n text Banner ∷ (inside (n + 1) (between ++ last ∷ []) ++ numbered None (n + 1 + length between + 1) texts)
made-later n text o between last texts h without closes =
    made-open n text o (between ++ last ∷ texts) true h (any-last o between last texts without closes) ∙ ap (λ ls. line n text Banner ∷ ls) (to_last o (n + 1) between last texts without closes)

made-never : (n : ℕ) (text : List ℕ) (o : Opened) (texts : Texts) → StaysOpen text o → HasNone o texts → numbered None n (text ∷ texts) ≡ line n text OpenBanner ∷ inside (n + 1) texts
made-never n text o texts h without = made-open n text o texts false h (any-none o texts without) ∙ ap (λ ls. line n text OpenBanner ∷ ls) (to_end o (n + 1) texts without)

-- ---- lines of the file are those that are given
given : {n : ℕ} {texts : Texts} {ls : List TextLine} → AreLines n texts ls → ls ≡ numbered None n texts
given none = refl
given (plain {n} {text} {texts} e rest) = ap (λ ls. line n text Plain ∷ ls) (given rest) ∙ sym (made-plain n text texts e)
given (short {n} {text} {texts} banner e rest) = ap (λ ls. line n text ShortBanner ∷ ls) (given rest) ∙ sym (made-short n text texts banner e)
given (closed_there {n} {text} {o} {texts} h rest) = ap (λ ls. line n text Banner ∷ ls) (given rest) ∙ sym (made-there n text o texts h)
given (closed_later {n} {text} {o} between last texts h without closes rest) =
    ap (λ ls. line n text Banner ∷ (inside (n + 1) (between ++ last ∷ []) ++ ls)) (given rest) ∙ sym (made-later n text o between last texts h without closes)
given (never_closed {n} {text} {o} {texts} h without) = sym (made-never n text o texts h without)

-- ---- and those that are given are lines of the file
record Closing (o : Opened) (texts : Texts) : Type 0 where
  between : Texts
  last : List ℕ
  rest : Texts
  is : texts ≡ between ++ last ∷ rest
  without : HasNone o between
  closes : holds o.delimiter last ≡ true

closing : (o : Opened) (texts : Texts) → HasNone o texts ⊎ Closing o texts
closing o [] = inl tt
closing o (t ∷ ts) = by (holds o.delimiter t) refl (closing o ts)
  where
    by : (b : Bool) → holds o.delimiter t ≡ b → HasNone o ts ⊎ Closing o ts → HasNone o (t ∷ ts) ⊎ Closing o (t ∷ ts)
    by true e rest = inr (record { between = []; last = t; rest = ts; is = refl; without = tt; closes = e })
    by false e (inl without) = inl (e, without)
    by false e (inr c) = inr (record { between = t ∷ c.between; last = c.last; rest = c.rest; is = ap (λ us. t ∷ us) c.is; without = (e, c.without); closes = c.closes })

are-lines : (most : ℕ) (n : ℕ) (texts : Texts) → length texts < most → AreLines n texts (numbered None n texts)
are-lines zero n texts few = absurd (omega arith)
are-lines (suc most) n [] few = none
are-lines (suc most) n (text ∷ texts) few = by (is_banner text) refl (opened text) refl (are-lines most)
  where
    open' : (o : Opened) → StaysOpen text o → HasNone o texts ⊎ Closing o texts → ((m : ℕ) (us : Texts) → length us < most → AreLines m us (numbered None m us)) → AreLines n (text ∷ texts) (numbered None n (text ∷ texts))
    open' o h (inl without) rest = subst (AreLines n (text ∷ texts)) (sym (made-never n text o texts h without)) (never_closed h without)
    open' o h (inr c) rest =
        let long : length texts ≡ length (c.between ++ c.last ∷ c.rest) = ap length c.is in
        let both = length-append c.between (c.last ∷ c.rest) in
        let all : AreLines n (text ∷ (c.between ++ c.last ∷ c.rest)) (numbered None n (text ∷ (c.between ++ c.last ∷ c.rest))) =
        subst (AreLines n (text ∷ (c.between ++ c.last ∷ c.rest))) (sym (made-later n text o c.between c.last c.rest h c.without c.closes))
        (closed_later c.between c.last c.rest h c.without c.closes (rest (n + 1 + length c.between + 1) c.rest (omega arith))) in
        subst (λ us. AreLines n (text ∷ us) (numbered None n (text ∷ us))) (sym c.is) all

    own : (o : Opened) → Opens text o → (b : Bool) → holds o.delimiter o.behind ≡ b → ((m : ℕ) (us : Texts) → length us < most → AreLines m us (numbered None m us)) → AreLines n (text ∷ texts) (numbered None n (text ∷ texts))
    own o h true e rest = subst (AreLines n (text ∷ texts)) (sym (made-there n text o texts (h, e))) (closed_there {o = o} (h, e) (rest (n + 1) texts (omega arith)))
    own o h false e rest = open' o (h, e) (closing o texts) rest

    by : (banner : Bool) → is_banner text ≡ banner → (x : Option Opened) → opened text ≡ x → ((m : ℕ) (us : Texts) → length us < most → AreLines m us (numbered None m us)) → AreLines n (text ∷ texts) (numbered None n (text ∷ texts))
    by false e x is rest = subst (AreLines n (text ∷ texts)) (sym (made-plain n text texts e)) (plain e (rest (n + 1) texts (omega arith)))
    by true e None is rest = subst (AreLines n (text ∷ texts)) (sym (made-short n text texts e is)) (short e is (rest (n + 1) texts (omega arith)))
    by true e (Some o) is rest = own o (record { banner = e; delimiter = is }) (holds o.delimiter o.behind) refl rest

pub are_given : AreGiven
are_given bytes ls =
    (λ are. given are, λ same. subst (AreLines 1 (lines bytes)) (sym same) (are-lines (suc (length (lines bytes))) 1 (lines bytes) (omega arith)))
