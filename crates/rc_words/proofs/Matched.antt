-- Where clap finds no fault in the words there is a request, with every number in its option's range, but where the text of a place, an address or an ending isn't read.
use Rattle.std.proofs.Common.{ap, sym, lit<, ◌≡◌, ◌∙◌, ℕ, ◌<◌, ◌≤◌, ◌^◌, Bool, true, false, not, ◌&&◌, ◌||◌, ◌⊎◌, inl, inr, List, [], ◌∷◌, refl, Option, Some, None, codes, find, is_some, map, true≢false}
use Rattle.std.proofs.Math.Nat.{lt_of_le_of_lt}
use Rattle.std.specs.Prelude.{option_and_then, option_map}
use Rattle.std.specs.List.{list_any}
use Rattle.std.specs.Option.{option_map_or}
use Rattle.clap.specs.Faults.{check_fault, settle_fault, walk_fault, level_fault, entered_fault, defaults_fault, fault_of}
use Rattle.clap.specs.Kinds.{check_kinds, or_else, Kinds}
use Rattle.clap.specs.Simple.{Shape, names_of, entered, rows_at, label_of}
use Rattle.clap.specs.Takes.{is_given}
use Rattle.clap.specs.Walk.{Held, Names, Row, Rule, Text, Walk, answers_to, walk, walk_from, nothing_held, settled, finished}
use Rattle.clap.specs.Words.{subcommand_of, first_of}
use Rattle.clap.proofs.WalkLemmas.{both}
use Rattle.rc_base.specs.Fields.{fields, zeros}
use Rattle.rc_base.specs.Header.{IsHeader}
use Rattle.rc_base.specs.declared.field.Field.{Field}
use Rattle.rc_base.specs.declared.field.Field.TheVariants.{Dst, Src}
use Rattle.rc_base.specs.declared.header.Header.{Header}
use Rattle.rc_openings.specs.Values.{address_of, at_most}
use Rattle.rc_base.specs.declared.ending.Ends.{Ends}
use Rattle.rc_words.specs.App.{netcheck_app}
use Rattle.rc_base.specs.Endings.{kind_named}
use Rattle.rc_words.specs.Endings.{endings_of, only}
use Rattle.rc_words.specs.HeaderOptions.{greatest}
use Rattle.rc_words.specs.Plain.{CommandName, routes, trace, reach, loops, uneven, lines, failures, sample, command_word, from, field, examples, rounds, workers, nodes, limit_options}
use Rattle.rc_words.specs.Request.{address_at, place_of, place_at, field_at, header_at, ends_at, trace_at, reach_at, packets_at, failures_at, ask_at, source_at, limits_at, request_at, is_read, texts_are_read, AreInRange, IsSourceInRange, IsAskInRange}
use Rattle.rc_words.specs.declared.request.Ask.TheVariants.{Routes, Trace, Reach, Loops, Uneven, Lines, Failures, Summary}
use Rattle.rc_words.specs.declared.request.Ask.{Ask}
use Rattle.rc_words.specs.declared.request.Limits.{Limits}
use Rattle.rc_words.specs.declared.request.PlaceName.{PlaceName}
use Rattle.rc_words.specs.declared.request.Request.{Request}
use Rattle.rc_words.specs.declared.request.Source.TheVariants.{Folder, Made}
use Rattle.rc_words.proofs.Commands.{IsCommand, IsOption, whole, wanted_ids, dir_rule, count_rule, rule_for, routes_shape, routes_is, trace_shape, trace_is, reach_shape, reach_is, loops_shape, loops_is, uneven_shape, uneven_is, lines_shape, lines_is, failures_shape, failures_is, sample_shape, sample_is}
use Rattle.rc_words.proofs.Defaults.{IsDefaulted, look, look_all}
use Rattle.rc_words.proofs.KeptValues.{RowsPass, all_pass, settled_passes, first_none, second_none}
use Rattle.rc_words.proofs.HeaderRead.{IsNumbered, address_fits, header_read, zeros_fit}
use Rattle.rc_words.proofs.NumberFields.{IsNumberField, are_numbers, greatest_fits, number_fields}
use Rattle.rc_words.proofs.Numbers.{within}
use Rattle.rc_words.proofs.Parts.{without_ask}
use Rattle.rc_words.proofs.Rules.{AllOf, all_behind, all_front, find_all, some_of}
use Rattle.rc_words.proofs.Told.{after, look_option, number_in, count_in, given_text, default_text, no_text}

-- ---- the parts of a request

limits_asked : (c : List Rule) (rows : List Row) → AllOf IsDefaulted c → AllOf (IsOption c) limit_options → RowsPass c rows → (l : Limits) × (limits_at (after c rows) ≡ Some l) × AreInRange l
limits_asked c rows d i h =
    let (r, r_is, r_low, r_high) = number_in 32 c rounds 1 100000 (codes "1000") rows d i.0 h refl refl refl (lit< tt) in
    let (w, w_is, w_low, w_high) = number_in 32 c workers 1 64 (codes "4") rows d i.1.0 h refl refl refl (lit< tt) in
    let (n, n_is, n_low, n_high) = number_in 32 c nodes 16 16777216 (codes "1048576") rows d i.1.1.0 h refl refl refl (lit< tt) in (
      record { rounds = r; workers = w; nodes = n },
      rw (r_is, w_is, n_is),
      record { least_rounds = r_low; most_rounds = r_high; least_workers = w_low; most_workers = w_high; least_nodes = n_low; most_nodes = n_high },
    )

read_text : {A : Type 0} (read : Text → Option A) (o : Option Text) (t : Text) → o ≡ Some t → is_read read o ≡ true → (a : A) × (option_and_then read o ≡ Some a)
read_text read None t is e = absurd (cc)
read_text read (Some u) t is e = some_of (read u) e

argument_asked : (k : CommandName) (a : Rule) (s : Shape) → IsCommand k a s → (rows : List Row) → RowsPass s.rules rows → is_given a.id (after s.rules rows) ≡ true → (t : Text) × (first_of a.id (after s.rules rows) ≡ Some t)
argument_asked k a s f rows h given = given_text s.rules a.id a rows (look_all s.rules a.id rows f.defaults ∙ f.after (look a.id rows)) f.no_default h given

read_fits : (o : Option Text) (n : ℕ) → option_and_then address_of o ≡ Some n → n < 2 ^ 32
read_fits None n e = absurd (cc)
read_fits (Some t) n e = address_fits t n e

-- the fields that are numbers
numbers_asked : (c : List Rule) (rows : List Row) (fs : List Field) → AllOf IsDefaulted c → RowsPass c rows → AllOf IsNumberField fs → AllOf (IsOption c) (map field fs) → AllOf (IsNumbered (field_at (after c rows))) fs
numbers_asked c rows [] d h are i = tt
numbers_asked c rows (f ∷ fs) d h (is, are) (o, i) =
    let (n, n_is, n_low, n_high) = number_in 32 c (field f) 0 (greatest f) (codes "0") rows d o h is.kind is.absent is.accepted is.small in
    ((n, is.found (after c rows) ∙ ap (at_most (greatest f)) n_is ∙ within (greatest f) n n_high, lt_of_le_of_lt n_high (greatest_fits f)), numbers_asked c rows fs d h are i)

header_asked : (c : List Rule) (rows : List Row) → AllOf IsDefaulted c → AllOf (IsOption c) (map field fields) → RowsPass c rows → is_given (codes "dst") (after c rows) ≡ true
    → is_read address_of (first_of (codes "dst") (after c rows)) ≡ true → is_read address_of (first_of (codes "src") (after c rows)) ≡ true
    → (h : Header) × (header_at (after c rows) ≡ Some h) × IsHeader h
header_asked c rows d i h given to_read by_read =
    let (to_text, to_is) = given_text c (codes "dst") (rule_for (field Dst)) rows (look_option c (field Dst) rows d i.0) refl h given in
    let (to, to_at) = read_text address_of (first_of (codes "dst") (after c rows)) to_text to_is to_read in
    let to_fits = read_fits (first_of (codes "dst") (after c rows)) to to_at in
    let (by_text, by_is) = default_text c (field Src) (codes "0.0.0.0") rows d i.1.0 h refl in
    let (by, by_at) = read_text address_of (first_of (codes "src") (after c rows)) by_text by_is by_read in
    let by_fits = read_fits (first_of (codes "src") (after c rows)) by by_at in
    header_read (field_at (after c rows)) fields zeros zeros_fit ((to, to_at, to_fits), ((by, by_at, by_fits), numbers_asked c rows number_fields d h are_numbers i.1.1))

-- ---- a command

-- the request of what was found, where its texts are read, and none where they aren't
pub record IsTold (found : Option (Text × List Row)) : Type 0 where
  pub read : texts_are_read found ≡ true → (r : Request) × (request_at found ≡ Some r) × AreInRange r.limits × IsSourceInRange r.source × IsAskInRange r.ask
  pub unread : texts_are_read found ≡ false → request_at found ≡ None

-- what has to be given is given
abbrev AreGiven : List Text → List Row → Type 0
AreGiven ids rows = AllOf (λ id. is_given id rows ≡ true) ids

routes_told : (rows : List Row) → RowsPass routes_shape.rules rows → AreGiven (wanted_ids dir_rule routes) (after routes_shape.rules rows) → IsTold (Some (codes "routes", after routes_shape.rules rows))
routes_told rows h given =
    let c = routes_shape.rules in
    let d = routes_is.defaults in
    let (dir, dir_is) = argument_asked routes dir_rule routes_shape routes_is rows h given.0 in
    let (l, l_is, l_in) = limits_asked routes_shape.rules rows d routes_is.options.1 h in
    let no_from : first_of (codes "from") (after routes_shape.rules rows) ≡ None = no_text routes_shape.rules (codes "from") rows d h refl refl in
    let no_dst : first_of (codes "dst") (after routes_shape.rules rows) ≡ None = no_text routes_shape.rules (codes "dst") rows d h refl refl in
    let no_src : first_of (codes "src") (after routes_shape.rules rows) ≡ None = no_text routes_shape.rules (codes "src") rows d h refl refl in
    let no_end : first_of (codes "end") (after routes_shape.rules rows) ≡ None = no_text routes_shape.rules (codes "end") rows d h refl refl in
    record {
      read = λ _. (record { source = Folder dir; ask = Routes (first_of (codes "router") (after routes_shape.rules rows)); limits = l }, rw (dir_is, l_is), l_in, tt, tt);
      unread = λ e. let bad : true ≡ false = rw (no_from, no_dst, no_src, no_end) at e in absurd (true≢false bad);
    }

sample_told : (rows : List Row) → RowsPass sample_shape.rules rows → AreGiven (wanted_ids count_rule sample) (after sample_shape.rules rows) → IsTold (Some (codes "sample", after sample_shape.rules rows))
sample_told rows h given =
    let d = sample_is.defaults in
    let (n, n_is, n_low, n_high) = count_in sample_shape.rules rows refl (look_all sample_shape.rules (codes "N") rows d ∙ sample_is.after (look (codes "N") rows)) h given.0 in
    let (l, l_is, l_in) = limits_asked sample_shape.rules rows d sample_is.options h in
    let no_from : first_of (codes "from") (after sample_shape.rules rows) ≡ None = no_text sample_shape.rules (codes "from") rows d h refl refl in
    let no_dst : first_of (codes "dst") (after sample_shape.rules rows) ≡ None = no_text sample_shape.rules (codes "dst") rows d h refl refl in
    let no_src : first_of (codes "src") (after sample_shape.rules rows) ≡ None = no_text sample_shape.rules (codes "src") rows d h refl refl in
    let no_end : first_of (codes "end") (after sample_shape.rules rows) ≡ None = no_text sample_shape.rules (codes "end") rows d h refl refl in
    record {
      read = λ _. (record { source = Made n; ask = Summary; limits = l }, rw (n_is, l_is), l_in, (n_low, n_high), tt);
      unread = λ e. let bad : true ≡ false = rw (no_from, no_dst, no_src, no_end) at e in absurd (true≢false bad);
    }

then_none : {A B : Type 0} (f : A → Option B) (o : Option A) → ((x : A) → f x ≡ None) → option_and_then f o ≡ None
then_none f None h = refl
then_none f (Some x) h = h x

unread_none : {A : Type 0} (read : Text → Option A) (o : Option Text) → is_read read o ≡ false → option_and_then read o ≡ None
unread_none read None e = absurd (true≢false e)
unread_none read (Some t) e = elim (read t) as (λ x. is_some x ≡ false → x ≡ None) [ None ↦ λ _. refl | Some x ↦ λ f. absurd (true≢false f) ] e

and_split : (a b : Bool) → (a && b) ≡ false → (a ≡ false) ⊎ (b ≡ false)
and_split true b e = inr e
and_split false b e = inl refl

-- where the last of two is read, an unread one is the first
last_read : (a b : Bool) → b ≡ true → (a && b) ≡ false → a ≡ false
last_read true true is e = e
last_read true false is e = absurd (true≢false (sym is))
last_read false b is e = refl

-- without an address there is no header, and without a header or a place no trace
no_dst : (rows : List Row) → address_at (codes "dst") rows ≡ None → header_at rows ≡ None
no_dst rows e = rw e

no_src : (rows : List Row) → address_at (codes "src") rows ≡ None → header_at rows ≡ None
no_src rows e = rw e (then_none _ (address_at (codes "dst") rows) (λ x. refl))

no_header : (rows : List Row) → header_at rows ≡ None → trace_at rows ≡ None
no_header rows e = rw e (then_none _ (place_at (codes "from") rows) (λ x. refl))

no_place : (rows : List Row) → place_at (codes "from") rows ≡ None → trace_at rows ≡ None
no_place rows e = rw e

trace_unread : (rows : List Row) → first_of (codes "end") rows ≡ None → texts_are_read (Some (codes "trace", rows)) ≡ false → trace_at rows ≡ None
trace_unread rows no_end whole_unread = let e : (is_read place_of (first_of (codes "from") rows) && is_read address_of (first_of (codes "dst") rows) && is_read address_of (first_of (codes "src") rows)) ≡ false = last_read _ (is_read kind_named (first_of (codes "end") rows)) (ap (is_read kind_named) no_end) whole_unread in elim (and_split (is_read place_of (first_of (codes "from") rows) && is_read address_of (first_of (codes "dst") rows)) (is_read address_of (first_of (codes "src") rows)) e) [
  | inl both_unread ↦ elim (and_split (is_read place_of (first_of (codes "from") rows)) (is_read address_of (first_of (codes "dst") rows)) both_unread) [
    | inl place_unread ↦ no_place rows (unread_none place_of (first_of (codes "from") rows) place_unread)
    | inr dst_unread ↦ no_header rows (no_dst rows (unread_none address_of (first_of (codes "dst") rows) dst_unread))
  ]
  | inr src_unread ↦ no_header rows (no_src rows (unread_none address_of (first_of (codes "src") rows) src_unread))
]

trace_told : (rows : List Row) → RowsPass trace_shape.rules rows → AreGiven (wanted_ids dir_rule trace) (after trace_shape.rules rows) → IsTold (Some (codes "trace", after trace_shape.rules rows))
trace_told rows h given =
    let d = trace_is.defaults in
    let (dir, dir_is) = argument_asked trace dir_rule trace_shape trace_is rows h given.0 in
    let (place_text, place_is) = given_text trace_shape.rules (codes "from") (rule_for from) rows (look_option trace_shape.rules from rows d trace_is.options.0) refl h given.1.0 in
    let (l, l_is, l_in) = limits_asked trace_shape.rules rows d (all_behind (IsOption trace_shape.rules) (map field fields) limit_options trace_is.options.1) h in
    let no_end : first_of (codes "end") (after trace_shape.rules rows) ≡ None = no_text trace_shape.rules (codes "end") rows d h refl refl in
    record {
      read = λ e.
          let outer = both _ _ (both _ _ e).0 in
          let inner = both _ _ outer.0 in
          let (place, place_at_is) = read_text place_of (first_of (codes "from") (after trace_shape.rules rows)) place_text place_is inner.0 in
          let (header, header_is, header_in) = header_asked trace_shape.rules rows d (all_front (IsOption trace_shape.rules) (map field fields) limit_options trace_is.options.1) h given.1.1.0 inner.1 outer.1 in
          (record { source = Folder dir; ask = Trace place header; limits = l }, rw (dir_is, place_at_is, header_is, l_is), l_in, tt, header_in);
      unread = λ e. without_ask (source_at (codes "trace") (after trace_shape.rules rows)) (trace_at (after trace_shape.rules rows)) (limits_at (after trace_shape.rules rows)) (trace_unread (after trace_shape.rules rows) no_end e);
    }

-- without the endings, or without a place, nothing is asked
no_place_to_reach : (rows : List Row) → place_at (codes "from") rows ≡ None → reach_at rows ≡ None
no_place_to_reach rows e = rw e

no_ends : (rows : List Row) → ends_at rows ≡ None → reach_at rows ≡ None
no_ends rows e = rw e (then_none _ (place_at (codes "from") rows) (λ x. refl))

ends_read : (o : Option Text) → is_read kind_named o ≡ true → (ends : Ends) × (endings_of o ≡ Some ends)
ends_read None e = (_, refl)
ends_read (Some t) e = let (k, is) = some_of (kind_named t) e in (only k, ap (option_map only) is)

ends_unread : (o : Option Text) → is_read kind_named o ≡ false → endings_of o ≡ None
ends_unread None e = absurd (true≢false e)
ends_unread (Some t) e = elim (kind_named t) as (λ x. is_some x ≡ false → option_map only x ≡ None) [ None ↦ λ _. refl | Some x ↦ λ f. absurd (true≢false f) ] e

-- no address is an option of `reach`
reach_unread : (rows : List Row) → first_of (codes "dst") rows ≡ None → first_of (codes "src") rows ≡ None → texts_are_read (Some (codes "reach", rows)) ≡ false → reach_at rows ≡ None
reach_unread rows no_dst no_src e =
    let fewer : (is_read place_of (first_of (codes "from") rows) && true && true && is_read kind_named (first_of (codes "end") rows)) ≡ false = rw (no_dst, no_src) at e in
    by (is_read place_of (first_of (codes "from") rows)) refl (is_read kind_named (first_of (codes "end") rows)) refl fewer
  where
    by : (a : Bool) → is_read place_of (first_of (codes "from") rows) ≡ a → (b : Bool) → is_read kind_named (first_of (codes "end") rows) ≡ b → (a && true && true && b) ≡ false → reach_at rows ≡ None
    by false p b q f = no_place_to_reach rows (unread_none place_of (first_of (codes "from") rows) p)
    by true p false q f = no_ends rows (ends_unread (first_of (codes "end") rows) q)
    by true p true q f = absurd (true≢false f)

reach_told : (rows : List Row) → RowsPass reach_shape.rules rows → AreGiven (wanted_ids dir_rule reach) (after reach_shape.rules rows) → IsTold (Some (codes "reach", after reach_shape.rules rows))
reach_told rows h given =
    let d = reach_is.defaults in
    let (dir, dir_is) = argument_asked reach dir_rule reach_shape reach_is rows h given.0 in
    let (place_text, place_is) = given_text reach_shape.rules (codes "from") (rule_for from) rows (look_option reach_shape.rules from rows d reach_is.options.0) refl h given.1.0 in
    let (n, n_is, n_low, n_high) = number_in 32 reach_shape.rules examples 0 1000 (codes "0") rows d reach_is.options.1.1.0 h refl refl refl (lit< tt) in
    let (l, l_is, l_in) = limits_asked reach_shape.rules rows d reach_is.options.1.1.1 h in
    let no_dst : first_of (codes "dst") (after reach_shape.rules rows) ≡ None = no_text reach_shape.rules (codes "dst") rows d h refl refl in
    let no_src : first_of (codes "src") (after reach_shape.rules rows) ≡ None = no_text reach_shape.rules (codes "src") rows d h refl refl in
    record {
      read = λ e.
          let outer = both _ _ e in
          let inner = both _ _ (both _ _ outer.0).0 in
          let (place, place_at_is) = read_text place_of (first_of (codes "from") (after reach_shape.rules rows)) place_text place_is inner.0 in
          let (ends, ends_is) = ends_read (first_of (codes "end") (after reach_shape.rules rows)) outer.1 in
          (record { source = Folder dir; ask = Reach place ends n; limits = l }, rw (dir_is, place_at_is, ends_is, n_is, l_is), l_in, tt, n_high);
      unread = λ e. without_ask (source_at (codes "reach") (after reach_shape.rules rows)) (reach_at (after reach_shape.rules rows)) (limits_at (after reach_shape.rules rows)) (reach_unread (after reach_shape.rules rows) no_dst no_src e);
    }

-- a command that asks of the packets from a place, and has no other text among its options
module _ (k : CommandName) (s : Shape) (f : IsCommand k dir_rule s) (ask : PlaceName → ℕ → Ask) (in_range : (place : PlaceName) (n : ℕ) → n ≤ 1000 → IsAskInRange (ask place n))
    (asks : (rows : List Row) → ask_at (command_word k) rows ≡ packets_at ask rows) (about : (rows : List Row) → source_at (command_word k) rows ≡ option_map Folder (first_of (codes "DIR") rows))
    (options : AllOf (IsOption s.rules) (from ∷ examples ∷ limit_options)) where
  packets_told : (rows : List Row) → RowsPass s.rules rows → AreGiven (codes "DIR" ∷ codes "from" ∷ []) (after s.rules rows)
      → first_of (codes "dst") (after s.rules rows) ≡ None → first_of (codes "src") (after s.rules rows) ≡ None → first_of (codes "end") (after s.rules rows) ≡ None
      → IsTold (Some (command_word k, after s.rules rows))
  packets_told rows h given no_dst no_src no_end =
      let d = f.defaults in
      let (dir, dir_is) = argument_asked k dir_rule s f rows h given.0 in
      let (place_text, place_is) = given_text s.rules (codes "from") (rule_for from) rows (look_option s.rules from rows d options.0) refl h given.1.0 in
      let (n, n_is, n_low, n_high) = number_in 32 s.rules examples 0 1000 (codes "0") rows d options.1.0 h refl refl refl (lit< tt) in
      let (l, l_is, l_in) = limits_asked s.rules rows d options.1.1 h in
      record {
        read = λ e.
            let (place, place_at_is) = read_text place_of (first_of (codes "from") (after s.rules rows)) place_text place_is (both _ _ (both _ _ (both _ _ e).0).0).0 in
            let asked : ask_at (command_word k) (after s.rules rows) ≡ Some (ask place n) = asks (after s.rules rows) ∙ rw (place_at_is, n_is) in
            let source : source_at (command_word k) (after s.rules rows) ≡ Some (Folder dir) = about (after s.rules rows) ∙ rw dir_is in
            (record { source = Folder dir; ask = ask place n; limits = l }, rw (source, asked, l_is), l_in, tt, in_range place n n_high);
        unread = λ e.
            let fewer : (is_read place_of (first_of (codes "from") (after s.rules rows)) && true && true && true) ≡ false = rw (no_dst, no_src, no_end) at e in
            without_ask (source_at (command_word k) (after s.rules rows)) (ask_at (command_word k) (after s.rules rows)) (limits_at (after s.rules rows))
            (asks (after s.rules rows) ∙ no_packets (after s.rules rows) (unread_none place_of (first_of (codes "from") (after s.rules rows)) (only_first (is_read place_of (first_of (codes "from") (after s.rules rows))) fewer)));
      }
    where
      only_first : (b : Bool) → (b && true && true && true) ≡ false → b ≡ false
      only_first true e = e
      only_first false e = refl

      no_packets : (rows : List Row) → place_at (codes "from") rows ≡ None → packets_at ask rows ≡ None
      no_packets rows e = rw e

loops_told : (rows : List Row) → RowsPass loops_shape.rules rows → AreGiven (wanted_ids dir_rule loops) (after loops_shape.rules rows) → IsTold (Some (codes "loops", after loops_shape.rules rows))
loops_told rows h given =
    let d = loops_is.defaults in
    packets_told loops loops_shape loops_is Loops (λ place n most. most) (λ rows. refl) (λ rows. refl) loops_is.options rows h given
    (no_text loops_shape.rules (codes "dst") rows d h refl refl) (no_text loops_shape.rules (codes "src") rows d h refl refl) (no_text loops_shape.rules (codes "end") rows d h refl refl)

uneven_told : (rows : List Row) → RowsPass uneven_shape.rules rows → AreGiven (wanted_ids dir_rule uneven) (after uneven_shape.rules rows) → IsTold (Some (codes "uneven", after uneven_shape.rules rows))
uneven_told rows h given =
    let d = uneven_is.defaults in
    packets_told uneven uneven_shape uneven_is Uneven (λ place n most. most) (λ rows. refl) (λ rows. refl) uneven_is.options rows h given
    (no_text uneven_shape.rules (codes "dst") rows d h refl refl) (no_text uneven_shape.rules (codes "src") rows d h refl refl) (no_text uneven_shape.rules (codes "end") rows d h refl refl)

lines_told : (rows : List Row) → RowsPass lines_shape.rules rows → AreGiven (wanted_ids dir_rule lines) (after lines_shape.rules rows) → IsTold (Some (codes "lines", after lines_shape.rules rows))
lines_told rows h given =
    let c = lines_shape.rules in
    let d = lines_is.defaults in
    let (dir, dir_is) = argument_asked lines dir_rule lines_shape lines_is rows h given.0 in
    let (l, l_is, l_in) = limits_asked lines_shape.rules rows d lines_is.options.1 h in
    let no_from : first_of (codes "from") (after lines_shape.rules rows) ≡ None = no_text lines_shape.rules (codes "from") rows d h refl refl in
    let no_dst : first_of (codes "dst") (after lines_shape.rules rows) ≡ None = no_text lines_shape.rules (codes "dst") rows d h refl refl in
    let no_src : first_of (codes "src") (after lines_shape.rules rows) ≡ None = no_text lines_shape.rules (codes "src") rows d h refl refl in
    let no_end : first_of (codes "end") (after lines_shape.rules rows) ≡ None = no_text lines_shape.rules (codes "end") rows d h refl refl in
    record {
      read = λ _. (record { source = Folder dir; ask = Lines (first_of (codes "router") (after lines_shape.rules rows)); limits = l }, rw (dir_is, l_is), l_in, tt, tt);
      unread = λ e. let bad : true ≡ false = rw (no_from, no_dst, no_src, no_end) at e in absurd (true≢false bad);
    }

-- without the endings, a header or a place nothing is asked
no_place_to_fail : (rows : List Row) → place_at (codes "from") rows ≡ None → failures_at rows ≡ None
no_place_to_fail rows e = rw e

no_header_to_fail : (rows : List Row) → header_at rows ≡ None → failures_at rows ≡ None
no_header_to_fail rows e = rw e (then_none _ (place_at (codes "from") rows) (λ x. refl))

no_ends_to_fail : (rows : List Row) → ends_at rows ≡ None → failures_at rows ≡ None
no_ends_to_fail rows e = rw e (then_none _ (place_at (codes "from") rows) (λ x. then_none _ (header_at rows) (λ y. refl)))

failures_unread : (rows : List Row) → texts_are_read (Some (codes "failures", rows)) ≡ false → failures_at rows ≡ None
failures_unread rows e = elim (and_split (is_read place_of (first_of (codes "from") rows) && is_read address_of (first_of (codes "dst") rows) && is_read address_of (first_of (codes "src") rows)) (is_read kind_named (first_of (codes "end") rows)) e) [
  | inl three_unread ↦ elim (and_split (is_read place_of (first_of (codes "from") rows) && is_read address_of (first_of (codes "dst") rows)) (is_read address_of (first_of (codes "src") rows)) three_unread) [
    | inl both_unread ↦ elim (and_split (is_read place_of (first_of (codes "from") rows)) (is_read address_of (first_of (codes "dst") rows)) both_unread) [
      | inl place_unread ↦ no_place_to_fail rows (unread_none place_of (first_of (codes "from") rows) place_unread)
      | inr dst_unread ↦ no_header_to_fail rows (no_dst rows (unread_none address_of (first_of (codes "dst") rows) dst_unread))
    ]
    | inr src_unread ↦ no_header_to_fail rows (no_src rows (unread_none address_of (first_of (codes "src") rows) src_unread))
  ]
  | inr end_unread ↦ no_ends_to_fail rows (ends_unread (first_of (codes "end") rows) end_unread)
]

failures_told : (rows : List Row) → RowsPass failures_shape.rules rows → AreGiven (wanted_ids dir_rule failures) (after failures_shape.rules rows) → IsTold (Some (codes "failures", after failures_shape.rules rows))
failures_told rows h given =
    let d = failures_is.defaults in
    let (dir, dir_is) = argument_asked failures dir_rule failures_shape failures_is rows h given.0 in
    let (place_text, place_is) = given_text failures_shape.rules (codes "from") (rule_for from) rows (look_option failures_shape.rules from rows d failures_is.options.0) refl h given.1.0 in
    let (l, l_is, l_in) = limits_asked failures_shape.rules rows d (all_behind (IsOption failures_shape.rules) (map field fields) limit_options failures_is.options.1.1) h in
    record {
      read = λ e.
          let whole_read = both _ _ e in
          let outer = both _ _ whole_read.0 in
          let inner = both _ _ outer.0 in
          let (place, place_at_is) = read_text place_of (first_of (codes "from") (after failures_shape.rules rows)) place_text place_is inner.0 in
          let (header, header_is, header_in) = header_asked failures_shape.rules rows d (all_front (IsOption failures_shape.rules) (map field fields) limit_options failures_is.options.1.1) h given.1.1.0 inner.1 outer.1 in
          let (ends, ends_is) = ends_read (first_of (codes "end") (after failures_shape.rules rows)) whole_read.1 in
          (record { source = Folder dir; ask = Failures place header ends; limits = l }, rw (dir_is, place_at_is, header_is, ends_is, l_is), l_in, tt, header_in);
      unread = λ e. without_ask (source_at (codes "failures") (after failures_shape.rules rows)) (failures_at (after failures_shape.rules rows)) (limits_at (after failures_shape.rules rows)) (failures_unread (after failures_shape.rules rows) e);
    }

-- ---- the command that the words name

any_false : (ids : List Text) (rows : List Row) → list_any (λ id. not (is_given id rows)) ids ≡ false → AreGiven ids rows
any_false [] rows e = tt
any_false (id ∷ ids) rows e = elim (is_given id rows) as (λ b. is_given id rows ≡ b → (not b || list_any (λ id. not (is_given id rows)) ids) ≡ false → AreGiven (id ∷ ids) rows) [
  | true ↦ λ is f. (is, any_false ids rows f)
  | false ↦ λ is f. absurd (true≢false f)
] refl e

none_wanted : (b : Bool) → check_kinds false false b ≡ [] → b ≡ false
none_wanted false e = refl
none_wanted true e = cc

-- what is found of a command in whose words there is no fault
level_told : (k : CommandName) (a : Rule) (s : Shape) → IsCommand k a s → ((rows : List Row) → RowsPass s.rules rows → AreGiven (wanted_ids a k) (after s.rules rows) → IsTold (Some (command_word k, after s.rules rows)))
    → (ws : List Text) → level_fault s [] nothing_held ws false [] ≡ [] → IsTold (Some (rows_at s ws))
level_told k a s f told ws e =
    let end : Held = (walk s.rules [] nothing_held ws).held in
    let walked_well : walk_fault s [] (walk_from nothing_held) ws ≡ [] = first_none _ _ e in
    let behind = second_none _ _ e in
    let settled_raw : settle_fault s.rules s.args_override_self (walk s.rules [] nothing_held ws).held ≡ [] = first_none _ _ behind in
    let settled_well : settle_fault s.rules false (walk s.rules [] nothing_held ws).held ≡ [] = rw f.once at settled_raw in
    let checked : check_fault s (finished s.rules (walk s.rules [] nothing_held ws).held) false ≡ [] = second_none _ _ (second_none _ _ behind) in
    let kept : RowsPass s.rules (walk s.rules [] nothing_held ws).held.rows = all_pass s f.own f.once ws (walk_from nothing_held) walked_well tt in
    let given = any_false (wanted_ids a k) (finished s.rules (walk s.rules [] nothing_held ws).held) (none_wanted _ (sym (f.check (finished s.rules (walk s.rules [] nothing_held ws).held)) ∙ checked)) in
    rw f.name (told (settled s.rules (walk s.rules [] nothing_held ws).held).rows (settled_passes s.rules f.own (walk s.rules [] nothing_held ws).held settled_well kept) given)

abbrev Tells : Shape → Type 0
Tells s = (ws : List Text) → level_fault s [] nothing_held ws false [] ≡ [] → IsTold (Some (rows_at s ws))

all_tell : AllOf Tells whole.subs
all_tell = (level_told routes dir_rule routes_shape routes_is routes_told, (level_told trace dir_rule trace_shape trace_is trace_told, (level_told reach dir_rule reach_shape reach_is reach_told, (level_told loops dir_rule loops_shape loops_is loops_told, (level_told uneven dir_rule uneven_shape uneven_is uneven_told, (level_told lines dir_rule lines_shape lines_is lines_told, (level_told failures dir_rule failures_shape failures_is failures_told, (level_told sample count_rule sample_shape sample_is sample_told, tt))))))))

stop_told : (stop : Option (Text × List Text)) → entered_fault whole stop ≡ [] → is_some (entered whole stop) ≡ true → IsTold (entered whole stop)
stop_told None e there = absurd (true≢false (sym there))
stop_told (Some p) e there = go (find (λ s. answers_to p.0 (label_of s)) whole.subs) refl e there
  where
    go : (o : Option Shape) → find (λ s. answers_to p.0 (label_of s)) whole.subs ≡ o → option_map_or (λ s. level_fault s [] nothing_held p.1 false []) o [] ≡ [] → is_some (option_map (λ s. rows_at s p.1) o) ≡ true
        → IsTold (option_map (λ s. rows_at s p.1) o)
    go None is f h = absurd (true≢false (sym h))
    go (Some s) is f h = find_all Tells (λ x. answers_to p.0 (label_of x)) whole.subs s all_tell is p.1 f

-- a subcommand is wanted
wanted : (rows : List Row) (has : Bool) → check_fault whole.top rows has ≡ [] → has ≡ true
wanted rows true e = refl
wanted rows false e = cc

parts : (walked below settled defaults checked : Kinds) → or_else walked (or_else below (or_else settled (or_else defaults checked))) ≡ [] → (walked ≡ []) × (below ≡ []) × (checked ≡ [])
parts walked below settled defaults checked e =
    let rest = second_none walked (or_else below (or_else settled (or_else defaults checked))) e in
    let last = second_none settled (or_else defaults checked) (second_none below (or_else settled (or_else defaults checked)) rest) in
    (first_none walked (or_else below (or_else settled (or_else defaults checked))) e, first_none below (or_else settled (or_else defaults checked)) rest, second_none defaults checked last)

level_parts : (s : Shape) (names : Names) (h : Held) (words : List Text) (has : Bool) (below : Kinds) → level_fault s names h words has below ≡ []
    → (walk_fault s names (walk_from h) words ≡ []) × (below ≡ []) × (check_fault s (finished s.rules (walk s.rules names h words).held) has ≡ [])
level_parts s names h words has below e =
    let end : Held = (walk s.rules names h words).held in
    parts (walk_fault s names (walk_from h) words) below (settle_fault s.rules s.args_override_self end) (defaults_fault (settled s.rules end).rows s.rules) (check_fault s (finished s.rules end) has) e

-- the subcommand that the words name, and the words behind it
abbrev pub stop_at : List Text → Option (Text × List Text)
stop_at words = (walk whole.top.rules (names_of whole) nothing_held words).stopped

pub top_parts : (words : List Text) → fault_of netcheck_app words ≡ []
    → (walk_fault whole.top (names_of whole) (walk_from nothing_held) words ≡ []) × (entered_fault whole (stop_at words) ≡ []) × (is_some (entered whole (stop_at words)) ≡ true)
top_parts words e =
    let end : Walk = walk whole.top.rules (names_of whole) nothing_held words in
    let (walked_well, below, checked) = level_parts whole.top (names_of whole) nothing_held words (is_some (entered whole (stop_at words))) (entered_fault whole (stop_at words)) e in
    (walked_well, below, wanted (finished whole.top.rules end.held) (is_some (entered whole (stop_at words))) checked)

pub told : (words : List Text) → fault_of netcheck_app words ≡ [] → IsTold (subcommand_of netcheck_app words)
told words e =
    let (walked_well, below, there) = top_parts words e in
    stop_told (stop_at words) below there
