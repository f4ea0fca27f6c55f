-- What clap found without a fault: numbers in range, texts that are there, and nothing of what isn't an option.
use Rattle.std.proofs.Common.{ap, sym, subst, ◌≡◌, ◌∙◌, ℕ, ◌<◌, ◌≤◌, ◌^◌, true, false, List, [], ◌∷◌, refl, Option, Some, None, cond, fold, true≢false, slice_get, codes, lit<}
use Rattle.std.specs.Prelude.{option_and_then}
use Rattle.std.specs.Str.{bytes_eq}
use Rattle.std.proofs.lemmas.Slice.Eq.{bytes_eq-Decides}
use Rattle.clap.specs.Takes.{is_given, value_passes}
use Rattle.clap.specs.ValueTests.{accepts}
use Rattle.clap.specs.Walk.{Row, Rule, Text, arg_by_id, row_text, with_default}
use Rattle.clap.specs.Words.{first_of}
use Rattle.clap.specs.declared.builder.ValueParser.TheVariants as vp
use Rattle.rc_words.specs.Plain.{OptionName, option_name, number, kind_of, default}
use Rattle.rc_words.specs.Request.{number_read, number_at}
use Rattle.rc_words.proofs.Commands.{IsOption, rule_for, count_rule}
use Rattle.rc_words.proofs.Defaults.{IsDefaulted, look, looked, look_all, or_default}
use Rattle.rc_words.proofs.KeptValues.{RowPasses, RowsPass}
use Rattle.rc_words.proofs.Numbers.{accepted_number}
use Rattle.rc_words.proofs.PlainWalk.{row_for}
use Rattle.rc_words.proofs.Rules.{AllOf}

-- a row that is found is one that passed, and has the id
pub found_passes : (c : List Rule) (id : Text) (rows : List Row) (r : Row) → RowsPass c rows → look id rows ≡ Some r → RowPasses c r × (bytes_eq r.id id ≡ true)
found_passes c id [] r h e = absurd (cc)
found_passes c id (x ∷ rows) r h e = elim (bytes_eq x.id id) as (λ b. bytes_eq x.id id ≡ b → cond b (Some x) (look id rows) ≡ Some r → RowPasses c r × (bytes_eq r.id id ≡ true)) [
  | true ↦ λ s f. let g : x ≡ r = cc in (subst (RowPasses c) g h.0, subst (λ (y : Row). bytes_eq y.id id ≡ true) g s)
  | false ↦ λ _ f. found_passes c id rows r h.1 f
] refl e

-- the rule of a row that is found by an id
own_rule : (c : List Rule) (id : Text) (r : Row) (h : RowPasses c r) → bytes_eq r.id id ≡ true → arg_by_id c id ≡ Some h.rule
own_rule c id r h same =
    let own_id : r.id ≡ h.rule.id = ap (λ (x : Row). x.id) h.is in
    let this_id : h.rule.id ≡ id = sym own_id ∙ (bytes_eq-Decides r.id id).0 same in
    sym (ap (arg_by_id c) this_id) ∙ h.own.here

-- what is no argument has no row
no_row : (c : List Rule) (id : Text) (rows : List Row) → RowsPass c rows → arg_by_id c id ≡ None → look id rows ≡ None
no_row c id rows h none = go (look id rows) refl
  where
    go : (o : Option Row) → look id rows ≡ o → o ≡ None
    go None e = refl
    go (Some r) e =
        let (p, same) = found_passes c id rows r h e in
        let bad : Some p.rule ≡ None = sym (own_rule c id r p same) ∙ none in
        absurd (cc)

abbrev pub after : List Rule → List Row → List Row
after c rows = fold with_default rows c

pub look_option : (c : List Rule) (o : OptionName) (rows : List Row) → AllOf IsDefaulted c → IsOption c o → look (option_name o) (after c rows) ≡ or_default (rule_for o) (look (option_name o) rows)
look_option c o rows d i = look_all c (option_name o) rows d ∙ i.after (look (option_name o) rows)

-- ---- numbers

abbrev pub Numbered : ℕ → Text → List Row → ℕ → ℕ → Type 0
Numbered bits id rows least most = (n : ℕ) × (number_at bits id rows ≡ Some n) × (least ≤ n) × (n ≤ most)

abbrev HasNumber : ℕ → Option Row → ℕ → ℕ → Type 0
HasNumber bits o least most = (n : ℕ) × (option_and_then (number_read bits) (option_and_then row_text o) ≡ Some n) × (least ≤ n) × (n ≤ most)

text_of_default : (o : OptionName) (low high : ℕ) (t : Text) → kind_of o ≡ number low high → default o ≡ Some t → option_and_then row_text (or_default (rule_for o) None) ≡ Some t
text_of_default o low high t kind is = rw (is, kind)

default_number : (bits : ℕ) (o : OptionName) (low high : ℕ) (t : Text) → kind_of o ≡ number low high → default o ≡ Some t → accepts false (vp.Unsigned low high) t ≡ true → high < 2 ^ bits
    → HasNumber bits (or_default (rule_for o) None) low high
default_number bits o low high t kind is passes small =
    let (n, read, least, most) = accepted_number bits low high t small passes in
    (n, ap (option_and_then (number_read bits)) (text_of_default o low high t kind is) ∙ read, least, most)

given_number : (bits : ℕ) (c : List Rule) (o : OptionName) (low high : ℕ) (r : Row) → IsOption c o → kind_of o ≡ number low high → high < 2 ^ bits → RowPasses c r → bytes_eq r.id (option_name o) ≡ true
    → HasNumber bits (Some r) low high
given_number bits c o low high r i kind small h same =
    let found : Some h.rule ≡ Some (rule_for o) = sym (own_rule c (option_name o) r h same) ∙ i.here in
    let this : h.rule ≡ rule_for o = cc in
    let passes : value_passes (rule_for o) h.value ≡ true = subst (λ (a : Rule). value_passes a h.value ≡ true) this h.passes in
    let (n, read, least, most) = accepted_number bits low high h.value small (rw kind at passes) in
    let this_row : r ≡ row_for (rule_for o) h.value = h.is ∙ ap (λ (a : Rule). row_for a h.value) this in
    let its_text : row_text (row_for (rule_for o) h.value) ≡ Some h.value = rw kind in
    let text_is : row_text r ≡ Some h.value = ap row_text this_row ∙ its_text in
    (n, ap (option_and_then (number_read bits)) text_is ∙ read, least, most)

pub number_in : (bits : ℕ) (c : List Rule) (o : OptionName) (low high : ℕ) (t : Text) (rows : List Row) → AllOf IsDefaulted c → IsOption c o → RowsPass c rows
    → kind_of o ≡ number low high → default o ≡ Some t → accepts false (vp.Unsigned low high) t ≡ true → high < 2 ^ bits → Numbered bits (option_name o) (after c rows) low high
number_in bits c o low high t rows d i h kind is passes small =
    let (n, read, least, most) = go (look (option_name o) rows) refl in
    (n, ap (λ x. option_and_then (number_read bits) (option_and_then row_text x)) (look_option c o rows d i) ∙ read, least, most)
  where
    go : (x : Option Row) → look (option_name o) rows ≡ x → HasNumber bits (or_default (rule_for o) (look (option_name o) rows)) low high
    go None e = rw e (default_number bits o low high t kind is passes small)
    go (Some r) e = let (p, same) = found_passes c (option_name o) rows r h e in rw e (given_number bits c o low high r i kind small p same)

-- the number of routers is in its range
given_count : (c : List Rule) (r : Row) → arg_by_id c (codes "N") ≡ Some count_rule → RowPasses c r → bytes_eq r.id (codes "N") ≡ true → HasNumber 32 (Some r) 4 512
given_count c r here h same =
    let found : Some h.rule ≡ Some count_rule = sym (own_rule c (codes "N") r h same) ∙ here in
    let this : h.rule ≡ count_rule = cc in
    let passes : value_passes count_rule h.value ≡ true = subst (λ (a : Rule). value_passes a h.value ≡ true) this h.passes in
    let (n, read, least, most) = accepted_number 32 4 512 h.value (lit< tt) passes in
    let this_row : r ≡ row_for count_rule h.value = h.is ∙ ap (λ (a : Rule). row_for a h.value) this in
    let text_is : row_text r ≡ Some h.value = ap row_text this_row in
    (n, ap (option_and_then (number_read 32)) text_is ∙ read, least, most)

pub count_in : (c : List Rule) (rows : List Row) → arg_by_id c (codes "N") ≡ Some count_rule → look (codes "N") (after c rows) ≡ or_default count_rule (look (codes "N") rows) → RowsPass c rows
    → is_given (codes "N") (after c rows) ≡ true → Numbered 32 (codes "N") (after c rows) 4 512
count_in c rows here is h given =
    let (n, read, least, most) = go (look (codes "N") rows) refl in
    (n, ap (λ x. option_and_then (number_read 32) (option_and_then row_text x)) is ∙ read, least, most)
  where
    go : (x : Option Row) → look (codes "N") rows ≡ x → HasNumber 32 (or_default count_rule (look (codes "N") rows)) 4 512
    go None e =
        let nothing : look (codes "N") (after c rows) ≡ None = is ∙ ap (or_default count_rule) e in
        let bad = rw nothing at given in absurd (true≢false (sym bad))
    go (Some r) e = let (p, same) = found_passes c (codes "N") rows r h e in rw e (given_count c r here p same)

-- ---- texts

abbrev pub first_in : Option Row → Option Text
first_in o = option_and_then (λ (r : Row). slice_get r.values 0) o

row_value : (c : List Rule) (r : Row) → RowPasses c r → (t : Text) × (first_in (Some r) ≡ Some t)
row_value c r p = (p.value, ap (λ (x : Row). slice_get x.values 0) p.is)

-- what is given is there
pub given_text : (c : List Rule) (id : Text) (a : Rule) (rows : List Row) → look id (after c rows) ≡ or_default a (look id rows) → a.defaults ≡ [] → RowsPass c rows → is_given id (after c rows) ≡ true
    → (t : Text) × (first_of id (after c rows) ≡ Some t)
given_text c id a rows is none h given = go (look id rows) refl
  where
    go : (x : Option Row) → look id rows ≡ x → (t : Text) × (first_of id (after c rows) ≡ Some t)
    go None e =
        let nothing : look id (after c rows) ≡ None = is ∙ ap (or_default a) e ∙ rw none in
        let bad = rw nothing at given in absurd (true≢false (sym bad))
    go (Some r) e =
        let (p, same) = found_passes c id rows r h e in
        let (t, first) = row_value c r p in
        (t, ap first_in (is ∙ ap (or_default a) e) ∙ first)

-- what has a default is there
pub default_text : (c : List Rule) (o : OptionName) (t : Text) (rows : List Row) → AllOf IsDefaulted c → IsOption c o → RowsPass c rows → default o ≡ Some t → (u : Text) × (first_of (option_name o) (after c rows) ≡ Some u)
default_text c o t rows d i h is = go (look (option_name o) rows) refl
  where
    go : (x : Option Row) → look (option_name o) rows ≡ x → (u : Text) × (first_of (option_name o) (after c rows) ≡ Some u)
    go None e = (t, ap first_in (look_option c o rows d i ∙ ap (or_default (rule_for o)) e) ∙ rw is)
    go (Some r) e =
        let (p, same) = found_passes c (option_name o) rows r h e in
        let (u, first) = row_value c r p in
        (u, ap first_in (look_option c o rows d i ∙ ap (or_default (rule_for o)) e) ∙ first)

-- what is no argument isn't there
pub no_text : (c : List Rule) (id : Text) (rows : List Row) → AllOf IsDefaulted c → RowsPass c rows → looked id c None ≡ None → arg_by_id c id ≡ None → first_of id (after c rows) ≡ None
no_text c id rows d h nothing none = ap first_in (look_all c id rows d ∙ ap (looked id c) (no_row c id rows h none) ∙ nothing)
