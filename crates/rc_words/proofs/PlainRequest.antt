-- Plain words make the request that they say.
use Rattle.std.proofs.Common.{ap, sym, subst, arith, ◌≡◌, ◌∙◌, ℕ, ◌<◌, ◌≤◌, ◌^◌, Bool, true, false, not, ◌||◌, ◌==◌, ne_eqb, true≢false, List, [], ◌∷◌, ◌++◌, append_assoc, refl, Option, Some, None, cond, codes, map, if◌then◌else◌, slice_get, lit<}
use Rattle.std.proofs.Math.Nat.{lt_of_le_of_lt}
use Rattle.std.specs.Prelude.{option_and_then, option_map}
use Rattle.std.specs.List.{list_all}
use Rattle.std.specs.Option.{option_map_or}
use Rattle.std.specs.Str.{bytes_eq}
use Rattle.std.specs.Str.Parse.{digits_value}
use Rattle.std.proofs.lemmas.Slice.Eq.{bytes_eq-Decides}
use Rattle.std.proofs.lemmas.Str.Parse.{digit_from_value}
use Rattle.clap.specs.Facts.{explicit_source}
use Rattle.clap.specs.Simple.{Shape}
use Rattle.clap.specs.Takes.{value_passes, is_given as is_there}
use Rattle.clap.specs.ValueTests.{accepts}
use Rattle.clap.specs.Values.{read_as, reading_of}
use Rattle.clap.specs.Walk.{Row, Rule, Text, has_row, row_text}
use Rattle.clap.specs.Words.{first_of}
use Rattle.clap.proofs.WalkLemmas.{both}
use Rattle.rc_base.specs.declared.ending.Ends.{Ends}
use Rattle.rc_base.specs.Fields.{fields, zeros}
use Rattle.rc_base.specs.declared.field.Field.{Field}
use Rattle.rc_base.specs.declared.field.Field.TheVariants.{Dst, Src}
use Rattle.rc_base.specs.declared.header.Header.{Header}
use Rattle.rc_openings.specs.Values.{address_of, at_most}
use Rattle.rc_words.specs.Plain.{CommandName, routes, trace, reach, loops, uneven, lines, failures, sample, command_word, OptionName, router, from, field, end, examples, rounds, workers, nodes, option_name, same_option, ValueKind, number, text, kind_of, default, limit_options, options_of, required_of, argument_of, has_option, Use, IsPlainNumber, IsPlainValue, is_plain_text, is_given, ArePlainUses, ArePlain, option_words, plain_words, text_for, number_for, plain_limits, plain_field, plain_request}
use Rattle.rc_words.specs.Endings.{endings_of}
use Rattle.rc_words.specs.HeaderOptions.{greatest, header_of}
use Rattle.rc_words.specs.Request.{number_read, number_at, address_at, place_of, place_at, limits_at, field_at, header_at, ends_at, packets_at, ask_at, source_at, request_at, request_of}
use Rattle.rc_words.specs.declared.request.Ask.{Ask}
use Rattle.rc_words.specs.declared.request.Ask.TheVariants.{Trace, Reach, Loops, Uneven, Failures, Summary}
use Rattle.rc_words.specs.declared.request.Limits.{Limits}
use Rattle.rc_words.specs.declared.request.PlaceName.{PlaceName}
use Rattle.rc_words.specs.declared.request.Source.TheVariants.{Folder, Made}
use Rattle.rc_words.proofs.HeaderRead.{same_header}
use Rattle.rc_words.proofs.NumberFields.{IsNumberField, are_numbers, number_fields}
use Rattle.rc_words.proofs.Numbers.{IsDigits, digits_are, digits_read, digits_accepted, within}
use Rattle.rc_words.proofs.Commands.{IsCommand, IsOption, IsSmall, named, same_is, rule_for, dir_rule, count_rule, parser_by, wanted_ids, routes_shape, routes_is, trace_shape, trace_is, reach_shape, reach_is, loops_shape, loops_is, uneven_shape, uneven_is, lines_shape, lines_is, failures_shape, failures_is, sample_shape, sample_is}
use Rattle.rc_words.proofs.Defaults.{look, look_all, or_default, default_row, defaults_by}
use Rattle.rc_words.proofs.PlainWalk.{IsSingle, IsOptionWord, IsPlainText, OptionUse, words_of, given, AreUsed, row_for, same_text_eq}
use Rattle.rc_words.proofs.PlainTaken.{plain_well, plain_rows}
use Rattle.rc_words.proofs.RequestLaws.{when_taken}
use Rattle.rc_words.proofs.Rules.{AllOf, all_behind, all_front}
use Rattle.rc_words.proofs.Told.{after, look_option, first_in}

-- ---- values

no_dash : (x : ℕ) (xs : Text) → (x == 45) ≡ false → IsPlainText (x ∷ xs)
no_dash x xs e = record { not_end = rw e; not_long = rw e; not_short = rw e }

not_true : (b : Bool) → not b ≡ true → b ≡ false
not_true true e = absurd (true≢false (sym e))
not_true false e = refl

text_plain : (v : Text) → is_plain_text v ≡ true → IsPlainText v
text_plain [] e = absurd (true≢false (sym e))
text_plain (x ∷ xs) e = no_dash x xs (not_true (x == 45) e)

digits_plain : (v : Text) → IsDigits v → IsPlainText v
digits_plain [] h = let bad : 0 < 0 = h.numeral.0 in absurd (omega arith)
digits_plain (x ∷ xs) h = no_dash x xs (ne_eqb x 45 (λ e. let k = digit_from_value x h.numeral.1.0 in absurd (omega arith)))

kind_well : (kind : ValueKind) (v : Text) → IsSmall kind → IsPlainValue kind v → (accepts false (parser_by kind) v ≡ true) × IsPlainText v
kind_well (number low high) v small h =
    let digits = digits_are v h.some h.digits in
    (digits_accepted low high v digits small h.least h.most, digits_plain v digits)
kind_well text v small h = (refl, text_plain v h)

-- ---- options

abbrev use_of : Use → OptionUse
use_of u = record { word = codes "--" ++ option_name u.option; rule = rule_for u.option; value = u.value }

abbrev uses_of : List Use → List OptionUse
uses_of [] = []
uses_of (u ∷ us) = use_of u ∷ uses_of us

words_are : (uses : List Use) → words_of (uses_of uses) ≡ option_words uses
words_are [] = refl
words_are (u ∷ us) = ap (λ ws. (codes "--" ++ option_name u.option) ∷ u.value ∷ ws) (words_are us)

same_option_is : (a b : OptionName) → same_option a b ≡ true → a ≡ b
same_option_is a b e = same_is a b ((bytes_eq-Decides (option_name a) (option_name b)).0 e)

-- a command's option is one of its rules
option_in : (c : List Rule) (os : List OptionName) (o : OptionName) → AllOf (IsOption c) os → has_option o os ≡ true → IsOption c o
option_in c [] o h e = absurd (true≢false (sym e))
option_in c (a ∷ os) o h e = elim (same_option a o) as (λ b. same_option a o ≡ b → (b || has_option o os) ≡ true → IsOption c o) [
  | true ↦ λ same _. subst (IsOption c) (same_option_is a o same) h.0
  | false ↦ λ _ g. option_in c os o h.1 g
] refl e

option_word : (c : List Rule) (o : OptionName) → IsOption c o → IsOptionWord c (codes "--" ++ option_name o) (rule_for o)
option_word c o i = record { name = option_name o; long = (named o).long; not_end = (named o).not_end; found = i.long }

single : (c : List Rule) (o : OptionName) (v : Text) → IsOption c o → value_passes (rule_for o) v ≡ true → IsSingle c (rule_for o) v
single c o v i e = record { here = i.here; set = refl; least = refl; most = refl; passes = e }

-- ---- no argument is used twice

-- no option among the uses has a row
abbrev Fresh : List Row → List Use → Type 0
Fresh rows uses = (o : OptionName) → is_given o uses ≡ true → has_row (option_name o) rows ≡ false

has_row_behind : (id : Text) (rows : List Row) (r : Row) → has_row id rows ≡ false → bytes_eq r.id id ≡ false → has_row id (rows ++ r ∷ []) ≡ false
has_row_behind id [] r e other = rw other
has_row_behind id (x ∷ rows) r e other = elim (bytes_eq x.id id) as (λ b. (b || has_row id rows) ≡ false → (b || has_row id (rows ++ r ∷ [])) ≡ false) [
  | true ↦ λ h. h
  | false ↦ λ h. has_row_behind id rows r h other
] e

or_true : (b : Bool) → (b || true) ≡ true
or_true true = refl
or_true false = refl

fresh_head : (u : Use) (us : List Use) (rows : List Row) → Fresh rows (u ∷ us) → has_row (option_name u.option) rows ≡ false
fresh_head u us rows f = f u.option (rw (same_text_eq (option_name u.option)))

fresh_more : (u : Use) (us : List Use) (rows : List Row) → Fresh rows (u ∷ us) → is_given u.option us ≡ false → Fresh (rows ++ row_for (rule_for u.option) u.value ∷ []) us
fresh_more u us rows f once = λ o g.
    let before : has_row (option_name o) rows ≡ false = f o (rw g (or_true (same_option u.option o))) in
    has_row_behind (option_name o) rows (row_for (rule_for u.option) u.value) before (other o g (same_option u.option o) refl)
  where
    other : (o : OptionName) → is_given o us ≡ true → (b : Bool) → same_option u.option o ≡ b → same_option u.option o ≡ false
    other o g false e = e
    other o g true e =
        let same : u.option ≡ o = same_option_is u.option o e in
        absurd (true≢false (sym g ∙ ap (λ x. is_given x us) (sym same) ∙ once))

-- ---- what is found of an option

abbrev row_of : Use → Row
row_of u = row_for (rule_for u.option) u.value

abbrev rows_for : List Use → List Row
rows_for [] = []
rows_for (u ∷ us) = row_of u ∷ rows_for us

given_is : (rows : List Row) (a : Rule) (v : Text) (uses : List Use) → given rows a v (uses_of uses) ≡ rows ++ (row_for a v ∷ rows_for uses)
given_is rows a v [] = refl
given_is rows a v (u ∷ us) = given_is (rows ++ row_for a v ∷ []) (rule_for u.option) u.value us ∙ append_assoc rows (row_for a v ∷ []) (row_of u ∷ rows_for us)

abbrev option_row : OptionName → List Use → Option Row
option_row o uses = or_default (rule_for o) (look (option_name o) (rows_for uses))

-- numbers and texts are read as they are written
as_written : (kind : ValueKind) (v : Text) → option_map (read_as (reading_of (parser_by kind))) (Some v) ≡ Some v
as_written (number low high) v = refl
as_written text v = refl

first_found : (o : OptionName) (uses : List Use) → first_in (option_row o uses) ≡ text_for o uses
first_found o [] = elim (default o) as (λ x. first_in (option_map (default_row (rule_for o)) (slice_get (defaults_by x) 0)) ≡ x) [ None ↦ refl | Some t ↦ refl ]
first_found o (u ∷ us) = elim (same_option u.option o) as (λ b. first_in (or_default (rule_for o) (cond b (Some (row_of u)) (look (option_name o) (rows_for us)))) ≡ (if b then Some u.value else text_for o us)) [
  | true ↦ refl
  | false ↦ first_found o us
]

one_found : (o : OptionName) (uses : List Use) → option_and_then row_text (option_row o uses) ≡ text_for o uses
one_found o [] = elim (default o) as (λ x. option_and_then row_text (option_map (default_row (rule_for o)) (slice_get (defaults_by x) 0)) ≡ x) [ None ↦ refl | Some t ↦ as_written (kind_of o) t ]
one_found o (u ∷ us) = elim (same_option u.option o) as (λ b. option_and_then row_text (or_default (rule_for o) (cond b (Some (row_of u)) (look (option_name o) (rows_for us)))) ≡ (if b then Some u.value else text_for o us)) [
  | true ↦ as_written (kind_of u.option) u.value
  | false ↦ one_found o us
]

number_found : (k : CommandName) (bits : ℕ) (o : OptionName) (low high : ℕ) (t : Text) (uses : List Use) → kind_of o ≡ number low high → high < 2 ^ bits → default o ≡ Some t → number_read bits t ≡ Some (digits_value 10 t)
    → ArePlainUses k uses → option_and_then (number_read bits) (text_for o uses) ≡ Some (number_for o uses)
number_found k bits o low high t [] kind small is read p = rw is read
number_found k bits o low high t (u ∷ us) kind small is read (own, plain, once, rest) = go (number_found k bits o low high t us kind small is read rest) (same_option u.option o) refl
  where
    go : option_and_then (number_read bits) (text_for o us) ≡ Some (number_for o us) → (b : Bool) → same_option u.option o ≡ b
        → option_and_then (number_read bits) (if b then Some u.value else text_for o us) ≡ Some (option_map_or (digits_value 10) (if b then Some u.value else text_for o us) 0)
    go later false e = later
    go later true e =
        let this : kind_of u.option ≡ number low high = ap kind_of (same_option_is u.option o e) ∙ kind in
        let plain_number : IsPlainNumber low high u.value = subst (λ (x : ValueKind). IsPlainValue x u.value) this plain in
        digits_read bits u.value (digits_are u.value plain_number.some plain_number.digits) (lt_of_le_of_lt plain_number.most small)

number_most : (k : CommandName) (o : OptionName) (low high : ℕ) (t : Text) (uses : List Use) → kind_of o ≡ number low high → default o ≡ Some t → digits_value 10 t ≤ high → ArePlainUses k uses → number_for o uses ≤ high
number_most k o low high t [] kind is most p = rw is most
number_most k o low high t (u ∷ us) kind is most (own, plain, once, rest) = go (number_most k o low high t us kind is most rest) (same_option u.option o) refl
  where
    go : number_for o us ≤ high → (b : Bool) → same_option u.option o ≡ b → option_map_or (digits_value 10) (if b then Some u.value else text_for o us) 0 ≤ high
    go later false e = later
    go later true e =
        let this : kind_of u.option ≡ number low high = ap kind_of (same_option_is u.option o e) ∙ kind in
        let plain_number : IsPlainNumber low high u.value = subst (λ (x : ValueKind). IsPlainValue x u.value) this plain in
        plain_number.most

abbrev source_given : Option Row → Bool
source_given o = option_map_or (λ (r : Row). explicit_source r.source) o false

given_found : (o : OptionName) (uses : List Use) → is_given o uses ≡ true → source_given (option_row o uses) ≡ true
given_found o [] e = absurd (true≢false (sym e))
given_found o (u ∷ us) e = elim (same_option u.option o) as (λ b. (b || is_given o us) ≡ true → source_given (or_default (rule_for o) (cond b (Some (row_of u)) (look (option_name o) (rows_for us)))) ≡ true) [
  | true ↦ λ _. refl
  | false ↦ λ g. given_found o us g
] e

-- ---- a command's plain words

abbrev plain_found : Rule → Text → List Use → List Row
plain_found a d uses = row_for a d ∷ rows_for uses

module _ (k : CommandName) (a : Rule) (s : Shape) (f : IsCommand k a s) (d : Text) (pass : value_passes a d ≡ true) (uses : List Use) where
  all_used : (rows : List Row) (b : Rule) (v : Text) (us : List Use) → IsSingle s.rules b v → has_row b.id rows ≡ false → Fresh (rows ++ row_for b v ∷ []) us → ArePlainUses k us → AreUsed s.rules rows b v (uses_of us)
  all_used rows b v [] i e fresh p = (i, e)
  all_used rows b v (u ∷ us) i e fresh (own, plain, once, rest) =
      let option = option_in s.rules (options_of k) u.option f.options own in
      let (passes, no_flag) = kind_well (kind_of u.option) u.value (named u.option).small plain in
      let one = single s.rules u.option u.value option passes in (
        i,
        e,
        option_word s.rules u.option option,
        one,
        no_flag,
        all_used (rows ++ row_for b v ∷ []) (rule_for u.option) u.value us one (fresh_head u us (rows ++ row_for b v ∷ []) fresh) (fresh_more u us (rows ++ row_for b v ∷ []) fresh once) rest,
      )

  are_used : ArePlainUses k uses → AreUsed s.rules [] a d (uses_of uses)
  are_used p = all_used [] a d uses (f.first d pass).single refl (λ o g. rw (f.apart o)) p

  argument_found : look a.id (after s.rules (plain_found a d uses)) ≡ Some (row_for a d)
  argument_found = look_all s.rules a.id (plain_found a d uses) f.defaults ∙ f.after (look a.id (plain_found a d uses)) ∙ rw (same_text_eq a.id)

  option_found : (o : OptionName) → IsOption s.rules o → look (option_name o) (after s.rules (plain_found a d uses)) ≡ option_row o uses
  option_found o i = look_option s.rules o (plain_found a d uses) f.defaults i ∙ ap (λ b. or_default (rule_for o) (cond b (Some (row_for a d)) (look (option_name o) (rows_for uses)))) (f.apart o)

  text_found : (o : OptionName) → IsOption s.rules o → first_of (option_name o) (after s.rules (plain_found a d uses)) ≡ text_for o uses
  text_found o i = ap first_in (option_found o i) ∙ first_found o uses

  value_found : (bits : ℕ) (o : OptionName) (low high : ℕ) (t : Text) → IsOption s.rules o → kind_of o ≡ number low high → high < 2 ^ bits → default o ≡ Some t → number_read bits t ≡ Some (digits_value 10 t)
      → ArePlainUses k uses → number_at bits (option_name o) (after s.rules (plain_found a d uses)) ≡ Some (number_for o uses)
  value_found bits o low high t i kind small is read p =
      ap (λ x. option_and_then (number_read bits) (option_and_then row_text x)) (option_found o i)
      ∙ ap (option_and_then (number_read bits)) (one_found o uses)
      ∙ number_found k bits o low high t uses kind small is read p

  all_there : (os : List OptionName) → AllOf (IsOption s.rules) os → list_all (λ o. is_given o uses) os ≡ true → AllOf (λ id. is_there id (after s.rules (plain_found a d uses)) ≡ true) (map option_name os)
  all_there [] i e = tt
  all_there (o ∷ os) i e =
      let halves = both _ _ e in
      (ap source_given (option_found o i.0) ∙ given_found o uses halves.0, all_there os i.1 halves.1)

  limits_found : AllOf (IsOption s.rules) limit_options → ArePlainUses k uses → limits_at (after s.rules (plain_found a d uses)) ≡ Some (plain_limits uses)
  limits_found i p =
      let r = value_found 32 rounds 1 100000 (codes "1000") i.0 refl (lit< tt) refl refl p in
      let w = value_found 32 workers 1 64 (codes "4") i.1.0 refl (lit< tt) refl refl p in
      let n = value_found 32 nodes 16 16777216 (codes "1048576") i.1.1.0 refl (lit< tt) refl refl p in
      rw (r, w, n)

  -- what is asked is what clap found says
  words_ask : IsPlainText d → ArePlain k d uses → request_of (plain_words k d uses) ≡ request_at (Some (command_word k, after s.rules (plain_found a d uses)))
  words_ask plain h =
      let used = are_used h.options in
      let rows : given [] a d (uses_of uses) ≡ plain_found a d uses = given_is [] a d uses in
      let there : AllOf (λ id. is_there id (after s.rules (plain_found a d uses)) ≡ true) (wanted_ids a k) = (ap source_given argument_found, all_there (required_of k) f.required h.required) in
      let words : plain_words k d uses ≡ command_word k ∷ d ∷ words_of (uses_of uses) = ap (λ ws. command_word k ∷ d ∷ ws) (sym (words_are uses)) in
      ap request_of words
      ∙ when_taken (command_word k ∷ d ∷ words_of (uses_of uses)) (plain_well k a s f d pass plain (uses_of uses) used (subst (λ (rs : List Row). AllOf (λ id. is_there id (after s.rules rs) ≡ true) (wanted_ids a k)) (sym rows) there))
      ∙ ap request_at (plain_rows k a s f d pass plain (uses_of uses) used)
      ∙ ap (λ rs. request_at (Some (command_word k, after s.rules rs))) rows

-- ---- routes

routes_taken : (d : Text) (uses : List Use) → ArePlain routes d uses → request_of (plain_words routes d uses) ≡ plain_request routes d uses
routes_taken d uses h =
    let dir = ap first_in (argument_found routes dir_rule routes_shape routes_is d refl uses) in
    let one = text_found routes dir_rule routes_shape routes_is d refl uses router routes_is.options.0 in
    let limits = limits_found routes dir_rule routes_shape routes_is d refl uses routes_is.options.1 h.options in
    words_ask routes dir_rule routes_shape routes_is d refl uses (text_plain d h.argument) h ∙ rw (dir, one, limits)

-- ---- trace

trace_from : (rows : List Row) (d : Text) (place : Option PlaceName) (header : Option Header) (l : Limits) → first_of (codes "DIR") rows ≡ Some d → place_at (codes "from") rows ≡ place → header_at rows ≡ header → limits_at rows ≡ Some l
    → request_at (Some (codes "trace", rows)) ≡ option_map (λ ask. record { source = Folder d; ask = ask; limits = l }) (option_and_then (λ p. option_map (λ h. Trace p h) header) place)
trace_from rows d None header l dir_is place_is header_is l_is = rw (dir_is, place_is)
trace_from rows d (Some p) None l dir_is place_is header_is l_is = rw (dir_is, place_is, header_is)
trace_from rows d (Some p) (Some h) l dir_is place_is header_is l_is = rw (dir_is, place_is, header_is, l_is)

-- a command whose options are the fields of a header among others
module _ (k : CommandName) (s : Shape) (f : IsCommand k dir_rule s) (options : AllOf (IsOption s.rules) (map field fields)) (d : Text) (uses : List Use) (p : ArePlainUses k uses) where
  address_found : (o : OptionName) → IsOption s.rules o → address_at (option_name o) (after s.rules (plain_found dir_rule d uses)) ≡ option_and_then address_of (text_for o uses)
  address_found o i = ap (option_and_then address_of) (text_found k dir_rule s f d refl uses o i)

  field_found : (o : OptionName) (high : ℕ) → IsOption s.rules o → kind_of o ≡ number 0 high → default o ≡ Some (codes "0") → high < 2 ^ 32
      → at_most high (number_at 32 (option_name o) (after s.rules (plain_found dir_rule d uses))) ≡ Some (number_for o uses)
  field_found o high i kind is small =
      ap (at_most high) (value_found k dir_rule s f d refl uses 32 o 0 high (codes "0") i kind small is refl p)
      ∙ within high (number_for o uses) (number_most k o 0 high (codes "0") uses kind is (let e : 0 ≤ high = omega arith in e) p)

  numbers_found : (fs : List Field) → AllOf IsNumberField fs → AllOf (IsOption s.rules) (map field fs) → AllOf (λ f. field_at (after s.rules (plain_found dir_rule d uses)) f ≡ plain_field uses f) fs
  numbers_found [] are i = tt
  numbers_found (f ∷ fs) (is, are) (o, i) = (is.found (after s.rules (plain_found dir_rule d uses)) ∙ field_found (field f) (greatest f) o is.kind is.absent is.small ∙ sym (is.plain uses), numbers_found fs are i)

  header_found : header_at (after s.rules (plain_found dir_rule d uses)) ≡ header_of (plain_field uses)
  header_found = same_header (field_at (after s.rules (plain_found dir_rule d uses))) (plain_field uses) fields zeros (address_found (field Dst) options.0, (address_found (field Src) options.1.0, numbers_found number_fields are_numbers options.1.1))

trace_taken : (d : Text) (uses : List Use) → ArePlain trace d uses → request_of (plain_words trace d uses) ≡ plain_request trace d uses
trace_taken d uses h =
    words_ask trace dir_rule trace_shape trace_is d refl uses (text_plain d h.argument) h
    ∙ trace_from (after trace_shape.rules (plain_found dir_rule d uses)) d (option_and_then place_of (text_for from uses)) (header_of (plain_field uses)) (plain_limits uses)
    (ap first_in (argument_found trace dir_rule trace_shape trace_is d refl uses))
    (ap (option_and_then place_of) (text_found trace dir_rule trace_shape trace_is d refl uses from trace_is.options.0))
    (header_found trace trace_shape trace_is (all_front (IsOption trace_shape.rules) (map field fields) limit_options trace_is.options.1) d uses h.options)
    (limits_found trace dir_rule trace_shape trace_is d refl uses (all_behind (IsOption trace_shape.rules) (map field fields) limit_options trace_is.options.1) h.options)

-- ---- reach

reach_from : (rows : List Row) (d : Text) (place : Option PlaceName) (ends : Option Ends) (n : ℕ) (l : Limits) → first_of (codes "DIR") rows ≡ Some d → place_at (codes "from") rows ≡ place → ends_at rows ≡ ends
    → number_at 32 (codes "examples") rows ≡ Some n → limits_at rows ≡ Some l
    → request_at (Some (codes "reach", rows)) ≡ option_map (λ ask. record { source = Folder d; ask = ask; limits = l }) (option_and_then (λ p. option_map (λ e. Reach p e n) ends) place)
reach_from rows d None ends n l dir_is place_is ends_is n_is l_is = rw (dir_is, place_is)
reach_from rows d (Some p) None n l dir_is place_is ends_is n_is l_is = rw (dir_is, place_is, ends_is)
reach_from rows d (Some p) (Some e) n l dir_is place_is ends_is n_is l_is = rw (dir_is, place_is, ends_is, n_is, l_is)

reach_taken : (d : Text) (uses : List Use) → ArePlain reach d uses → request_of (plain_words reach d uses) ≡ plain_request reach d uses
reach_taken d uses h =
    words_ask reach dir_rule reach_shape reach_is d refl uses (text_plain d h.argument) h
    ∙ reach_from (after reach_shape.rules (plain_found dir_rule d uses)) d (option_and_then place_of (text_for from uses)) (endings_of (text_for end uses)) (number_for examples uses) (plain_limits uses)
    (ap first_in (argument_found reach dir_rule reach_shape reach_is d refl uses))
    (ap (option_and_then place_of) (text_found reach dir_rule reach_shape reach_is d refl uses from reach_is.options.0))
    (ap endings_of (text_found reach dir_rule reach_shape reach_is d refl uses end reach_is.options.1.0))
    (value_found reach dir_rule reach_shape reach_is d refl uses 32 examples 0 1000 (codes "0") reach_is.options.1.1.0 refl (lit< tt) refl refl h.options)
    (limits_found reach dir_rule reach_shape reach_is d refl uses reach_is.options.1.1.1 h.options)

-- ---- loops, uneven

module _ (k : CommandName) (s : Shape) (f : IsCommand k dir_rule s) (ask : PlaceName → ℕ → Ask) (asks : (rows : List Row) → ask_at (command_word k) rows ≡ packets_at ask rows)
    (about : (rows : List Row) → source_at (command_word k) rows ≡ option_map Folder (first_of (codes "DIR") rows))
    (says : (d : Text) (uses : List Use) → plain_request k d uses ≡ option_map (λ a. record { source = Folder d; ask = a; limits = plain_limits uses }) (option_map (λ p. ask p (number_for examples uses)) (option_and_then place_of (text_for from uses))))
    (argument : (d : Text) → IsPlainValue (argument_of k) d → IsPlainText d) (options : AllOf (IsOption s.rules) (from ∷ examples ∷ limit_options)) where
  packets_from : (rows : List Row) (d : Text) (place : Option PlaceName) (n : ℕ) (l : Limits) → first_of (codes "DIR") rows ≡ Some d → place_at (codes "from") rows ≡ place → number_at 32 (codes "examples") rows ≡ Some n
      → limits_at rows ≡ Some l → request_at (Some (command_word k, rows)) ≡ option_map (λ a. record { source = Folder d; ask = a; limits = l }) (option_map (λ p. ask p n) place)
  packets_from rows d None n l dir_is place_is n_is l_is =
      let source : source_at (command_word k) rows ≡ Some (Folder d) = about rows ∙ rw dir_is in
      let asked : ask_at (command_word k) rows ≡ None = asks rows ∙ rw place_is in
      rw (source, asked)
  packets_from rows d (Some p) n l dir_is place_is n_is l_is =
      let source : source_at (command_word k) rows ≡ Some (Folder d) = about rows ∙ rw dir_is in
      let asked : ask_at (command_word k) rows ≡ Some (ask p n) = asks rows ∙ rw (place_is, n_is) in
      rw (source, asked, l_is)

  packets_taken : (d : Text) (uses : List Use) → ArePlain k d uses → request_of (plain_words k d uses) ≡ plain_request k d uses
  packets_taken d uses h =
      words_ask k dir_rule s f d refl uses (argument d h.argument) h
      ∙ packets_from (after s.rules (plain_found dir_rule d uses)) d (option_and_then place_of (text_for from uses)) (number_for examples uses) (plain_limits uses)
      (ap first_in (argument_found k dir_rule s f d refl uses))
      (ap (option_and_then place_of) (text_found k dir_rule s f d refl uses from options.0))
      (value_found k dir_rule s f d refl uses 32 examples 0 1000 (codes "0") options.1.0 refl (lit< tt) refl refl h.options)
      (limits_found k dir_rule s f d refl uses options.1.1 h.options)
      ∙ sym (says d uses)

-- ---- lines

lines_taken : (d : Text) (uses : List Use) → ArePlain lines d uses → request_of (plain_words lines d uses) ≡ plain_request lines d uses
lines_taken d uses h =
    let dir = ap first_in (argument_found lines dir_rule lines_shape lines_is d refl uses) in
    let one = text_found lines dir_rule lines_shape lines_is d refl uses router lines_is.options.0 in
    let limits = limits_found lines dir_rule lines_shape lines_is d refl uses lines_is.options.1 h.options in
    words_ask lines dir_rule lines_shape lines_is d refl uses (text_plain d h.argument) h ∙ rw (dir, one, limits)

-- ---- failures

failures_from : (rows : List Row) (d : Text) (place : Option PlaceName) (header : Option Header) (ends : Option Ends) (l : Limits) → first_of (codes "DIR") rows ≡ Some d → place_at (codes "from") rows ≡ place → header_at rows ≡ header
    → ends_at rows ≡ ends → limits_at rows ≡ Some l
    → request_at (Some (codes "failures", rows)) ≡ option_map (λ ask. record { source = Folder d; ask = ask; limits = l }) (option_and_then (λ p. option_and_then (λ h. option_map (λ e. Failures p h e) ends) header) place)
failures_from rows d None header ends l dir_is place_is header_is ends_is l_is = rw (dir_is, place_is)
failures_from rows d (Some p) None ends l dir_is place_is header_is ends_is l_is = rw (dir_is, place_is, header_is)
failures_from rows d (Some p) (Some h) None l dir_is place_is header_is ends_is l_is = rw (dir_is, place_is, header_is, ends_is)
failures_from rows d (Some p) (Some h) (Some e) l dir_is place_is header_is ends_is l_is = rw (dir_is, place_is, header_is, ends_is, l_is)

failures_taken : (d : Text) (uses : List Use) → ArePlain failures d uses → request_of (plain_words failures d uses) ≡ plain_request failures d uses
failures_taken d uses h =
    words_ask failures dir_rule failures_shape failures_is d refl uses (text_plain d h.argument) h
    ∙ failures_from (after failures_shape.rules (plain_found dir_rule d uses)) d (option_and_then place_of (text_for from uses)) (header_of (plain_field uses)) (endings_of (text_for end uses)) (plain_limits uses)
    (ap first_in (argument_found failures dir_rule failures_shape failures_is d refl uses))
    (ap (option_and_then place_of) (text_found failures dir_rule failures_shape failures_is d refl uses from failures_is.options.0))
    (header_found failures failures_shape failures_is (all_front (IsOption failures_shape.rules) (map field fields) limit_options failures_is.options.1.1) d uses h.options)
    (ap endings_of (text_found failures dir_rule failures_shape failures_is d refl uses end failures_is.options.1.0))
    (limits_found failures dir_rule failures_shape failures_is d refl uses (all_behind (IsOption failures_shape.rules) (map field fields) limit_options failures_is.options.1.1) h.options)

-- ---- sample

sample_from : (rows : List Row) (n : ℕ) (l : Limits) → number_at 32 (codes "N") rows ≡ Some n → limits_at rows ≡ Some l → request_at (Some (codes "sample", rows)) ≡ Some (record { source = Made n; ask = Summary; limits = l })
sample_from rows n l n_is l_is = rw (n_is, l_is)

sample_taken : (d : Text) (uses : List Use) → ArePlain sample d uses → request_of (plain_words sample d uses) ≡ plain_request sample d uses
sample_taken d uses h =
    let digits = digits_are d h.argument.some h.argument.digits in
    let pass : value_passes count_rule d ≡ true = digits_accepted 4 512 d digits (lit< tt) h.argument.least h.argument.most in
    let read : number_read 32 d ≡ Some (digits_value 10 d) = digits_read 32 d digits (lt_of_le_of_lt h.argument.most (lit< tt)) in
    words_ask sample count_rule sample_shape sample_is d pass uses (digits_plain d digits) h
    ∙ sample_from (after sample_shape.rules (plain_found count_rule d uses)) (digits_value 10 d) (plain_limits uses)
    (ap (λ x. option_and_then (number_read 32) (option_and_then row_text x)) (argument_found sample count_rule sample_shape sample_is d pass uses) ∙ read)
    (limits_found sample count_rule sample_shape sample_is d pass uses sample_is.options h.options)

pub plain_taken : (k : CommandName) (d : Text) (uses : List Use) → ArePlain k d uses → request_of (plain_words k d uses) ≡ plain_request k d uses
plain_taken routes = routes_taken
plain_taken trace = trace_taken
plain_taken reach = reach_taken
plain_taken loops = packets_taken loops loops_shape loops_is Loops (λ rows. refl) (λ rows. refl) (λ d uses. refl) (λ d p. text_plain d p) loops_is.options
plain_taken uneven = packets_taken uneven uneven_shape uneven_is Uneven (λ rows. refl) (λ rows. refl) (λ d uses. refl) (λ d p. text_plain d p) uneven_is.options
plain_taken lines = lines_taken
plain_taken failures = failures_taken
plain_taken sample = sample_taken
