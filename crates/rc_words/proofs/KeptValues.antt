-- Whatever words a command with single-valued long options takes, each value that it kept passed its parser.
use Rattle.std.proofs.Common.{sym, subst, ◌≡◌, ◌∙◌, ℕ, zero, suc, Bool, true, false, List, [], ◌∷◌, ◌++◌, refl, Option, Some, None, arith, length, ◌&&◌, if◌then◌else◌, fold, eqb, ne_eqb, slice_get, is_some}
use Rattle.std.specs.Str.{bytes_eq, chars}
use Rattle.clap.specs.Walk.{Held, Row, Rule, Text, Waiting, idle, option, positional, Walk, Step, Outcome, action_of, arg_by_id, arg_by_long, arg_by_short, arg_by_index, has_row, most_values, settled, reacted, takes_several, walked, used, without, bundle_met, word_met, plain_word, after_flag, more_values, used_by_id, settled_rows, long_met, bundle_step, option_word, done, waits, plain, refused, to_positional, positional_held, is_pending, subcommand_met, next, trailing, subcommand, value, after_step, subcommand_or_other, short_or_plain, long_or_other, bundle, walked_from}
use Rattle.clap.specs.Lexer.{long_of, short_of}
use Rattle.clap.specs.Simple.{Shape}
use Rattle.clap.specs.declared.parser.matches.ValueSource.TheVariants.{CommandLine}
use Rattle.std.specs.Option.{option_map_or}
use Rattle.clap.specs.Faults.{settle_fault, react_fault, turn_fault, walk_fault, use_fault, word_fault, step_fault, long_fault, option_fault, positional_fault, stray_fault, other_fault, flag_word_fault}
use Rattle.clap.specs.Kinds.{or_else, Kinds}
use Rattle.clap.specs.Takes.{value_passes}
use Rattle.clap.specs.Facts.{unwrap_or_range}
use Rattle.clap.specs.declared.builder.ArgAction.TheVariants.{Set}
use Rattle.rc_words.proofs.PlainWalk.{row_for, new_row, all_rows}

-- an argument of the command, which takes one value at a use
pub record IsOwn (c : List Rule) (a : Rule) : Type 0 where
  pub here : arg_by_id c a.id ≡ Some a
  pub set : action_of a ≡ Set
  pub least : (unwrap_or_range a.range).start_inclusive ≡ 1
  pub most : most_values a ≡ 1

pub record RowPasses (c : List Rule) (r : Row) : Type 0 where
  pub rule : Rule
  pub value : Text
  pub own : IsOwn c rule
  pub is : r ≡ row_for rule value
  pub passes : value_passes rule value ≡ true

abbrev pub RowsPass : List Rule → List Row → Type 0
RowsPass c [] = Unit {0}
RowsPass c (r ∷ rs) = RowPasses c r × RowsPass c rs

rows_more : (c : List Rule) (rs : List Row) (r : Row) → RowsPass c rs → RowPasses c r → RowsPass c (rs ++ r ∷ [])
rows_more c [] r h p = (p, tt)
rows_more c (q ∷ rs) r h p = (h.0, rows_more c rs r h.1 p)

pub first_none : (a b : Kinds) → or_else a b ≡ [] → a ≡ []
first_none [] b e = refl
first_none (k ∷ ks) b e = e

pub second_none : (a b : Kinds) → or_else a b ≡ [] → b ≡ []
second_none [] b e = e
second_none (k ∷ ks) b e = cc

if_none : (b : Bool) (k : _) (ks : Kinds) → (if b then k ∷ ks else []) ≡ [] → b ≡ false
if_none true k ks e = cc
if_none false k ks e = refl

else_none : (b : Bool) (k : _) (ks : Kinds) → (if b then [] else k ∷ ks) ≡ [] → b ≡ true
else_none true k ks e = refl
else_none false k ks e = cc

and_false : (b : Bool) → (b && false) ≡ false
and_false true = refl
and_false false = refl

and_on : (b : Bool) → (b && true) ≡ false → b ≡ false
and_on true e = e
and_on false e = refl

-- a use that finds no fault adds a row that passes
used_passes : (c : List Rule) (a : Rule) (vs : List Text) (rows : List Row) → IsOwn c a → use_fault false a vs rows ≡ [] → RowsPass c rows → RowsPass c (used a vs rows)
used_passes c a [] rows o f h = let g = rw o.least at f in absurd (cc)
used_passes c a (v ∷ []) rows o f h =
    let g = rw (o.least, o.most, o.set) at f in
    let new : has_row a.id rows ≡ false = and_on (has_row a.id rows) (if_none _ _ _ (first_none _ _ g)) in
    let passes : value_passes a v ≡ true = else_none _ _ _ (first_none _ _ (second_none _ _ g)) in
    let gone : without a.id rows ≡ rows = new_row a.id (λ _. []) [] rows new ∙ all_rows rows in
    rw (o.set, gone, new_row a.id (more_values CommandLine (v ∷ [])) (row_for a v ∷ []) rows new)
    (rows_more c rows (row_for a v) h record { rule = a; value = v; own = o; is = refl; passes = passes })
used_passes c a (v ∷ w ∷ vs) rows o f h =
    let g = rw (o.least, o.most) at f in
    let n : ℕ = suc (suc (length vs)) in
    let ne : eqb 1 n ≡ false = ne_eqb 1 n (λ e. absurd (omega arith)) in
    let nz : eqb n 0 ≡ false = ne_eqb n 0 (λ e. absurd (omega arith)) in
    let k = rw (nz, ne) at g in absurd (cc)

-- every argument that is found is the command's own
pub record AreOwn (c : List Rule) : Type 0 where
  pub by_id : (id : Text) (a : Rule) → arg_by_id c id ≡ Some a → IsOwn c a
  pub by_long : (n : Text) (a : Rule) → arg_by_long c n ≡ Some a → IsOwn c a
  pub by_index : (i : ℕ) (a : Rule) → arg_by_index c i ≡ Some a → IsOwn c a
  pub no_short : (x : ℕ) → arg_by_short c x ≡ None

module _ (c : List Rule) (own : AreOwn c) where
  pub settled_passes : (h : Held) → settle_fault c false h ≡ [] → RowsPass c h.rows → RowsPass c (settled c h).rows
  settled_passes h f r = go h.pending f
    where
      used_passes_by : (found : Option Rule) (vs : List Text) → ((a : Rule) → found ≡ Some a → IsOwn c a) → option_map_or (λ a. use_fault false a vs h.rows) found [] ≡ [] → RowsPass c (used_by_id found vs h.rows)
      used_passes_by None vs o e = r
      used_passes_by (Some a) vs o e = used_passes c a vs h.rows (o a refl) e r

      go : (p : Option (Text × List Text)) → option_map_or (λ p. option_map_or (λ a. use_fault false a p.1 h.rows) (arg_by_id c p.0) []) p [] ≡ [] → RowsPass c (settled_rows c p h.rows)
      go None e = r
      go (Some p) e = used_passes_by (arg_by_id c p.0) p.1 (own.by_id p.0) e

  reacted_passes : (a : Rule) (vs : List Text) (h : Held) → IsOwn c a → react_fault c false a vs h ≡ [] → RowsPass c h.rows → RowsPass c (reacted c a vs h).rows
  reacted_passes a vs h o f r = used_passes c a vs (settled c h).rows o (second_none _ _ f) (settled_passes h (first_none _ _ f) r)

  long_passes_on : (found : Option Rule) (v : Option Text) (h : Held) → ((a : Rule) → found ≡ Some a → IsOwn c a) → long_fault c false found v h ≡ [] → RowsPass c h.rows → RowsPass c (long_met c found v h).0.rows
  long_passes_on None v h o f r = absurd (cc)
  long_passes_on (Some a) v h o f r = go v (rw (o a refl).most at f)
    where
      go : (v : Option Text) → option_fault c false a v h ≡ [] → RowsPass c (long_met c (Some a) v h).0.rows
      go (Some t) e = rw (o a refl).most (reacted_passes a (t ∷ []) h (o a refl) e r)
      go None e = rw (o a refl).most (settled_passes h e r)

  bundle_keeps : (k : ℕ) (flags : Text) (skip : ℕ) (so_far : Outcome) (h : Held) → (bundle_met c k flags skip so_far h).0.rows ≡ h.rows
  unfolding bundle_met
  bundle_keeps zero flags skip so_far h = refl
  bundle_keeps (suc k) flags skip so_far h = go (slice_get (chars flags) 0) skip (λ rest n. bundle_keeps k rest n so_far h)
    where
      go : (x : Option ℕ) (skip : ℕ) → ((rest : Text) (n : ℕ) → (bundle_met c k rest n so_far h).0.rows ≡ h.rows) → (bundle_step c x flags skip so_far h (bundle_met c k)).0.rows ≡ h.rows
      go None skip again = refl
      go (Some x) zero again = rw (own.no_short x)
      go (Some x) (suc skip) again = again _ skip

  plain_keeps : (waiting : Waiting) (word : Text) (h : Held) → (plain_word c waiting word h).0.rows ≡ h.rows
  plain_keeps idle word h = refl
  plain_keeps positional word h = refl
  plain_keeps (option id) word h = go (arg_by_id c id)
    where
      go : (found : Option Rule) → (option_word found id word h).0.rows ≡ h.rows
      go None = refl
      go (Some a) = refl

  after_keeps : (waiting : Waiting) (word : Text) (h : Held) (o : Outcome) → (after_flag c waiting word h o).0.rows ≡ h.rows
  after_keeps waiting word h done = refl
  after_keeps waiting word h (waits id) = refl
  after_keeps waiting word h plain = plain_keeps waiting word h
  after_keeps waiting word h refused = plain_keeps waiting word h

  module _ (s : Shape) (same : s.rules ≡ c) (o : s.args_override_self ≡ false) where
    value_passes_on : (w : Walk) (word : Text) (h : Held) (found : Option Rule) → ((a : Rule) → found ≡ Some a → IsOwn c a)
        → option_map_or (λ a. positional_fault c false a h) found (stray_fault s) ≡ [] → RowsPass c h.rows → RowsPass c (to_positional c found word w h).held.rows
    value_passes_on w word h None own_it f r = r
    value_passes_on w word h (Some a) own_it f r =
        let one : takes_several a ≡ false = rw ((own_it a refl).least, (own_it a refl).most) in
        go (is_pending a h.pending) (rw one at f)
      where
        go : (b : Bool) → (if b && false then [] else settle_fault c false h) ≡ [] → RowsPass c (positional_held c a word h).rows
        go true e = let one : takes_several a ≡ false = rw ((own_it a refl).least, (own_it a refl).most) in rw (one, and_false (is_pending a h.pending)) (settled_passes h e r)
        go false e = let one : takes_several a ≡ false = rw ((own_it a refl).least, (own_it a refl).most) in rw (one, and_false (is_pending a h.pending)) (settled_passes h e r)

no_subcommand : (waiting : Waiting) (word : Text) → subcommand_met [] waiting word ≡ None
no_subcommand idle word = refl
no_subcommand (option id) word = refl
no_subcommand positional word = refl

module _ (s : Shape) (own : AreOwn s.rules) (o : s.args_override_self ≡ false) where
  step_passes_on : (w : Walk) (word : Text) (h : Held) (st : Step) → step_fault s w.position h st ≡ [] → RowsPass s.rules h.rows → RowsPass s.rules (after_step s.rules word w h st).held.rows
  step_passes_on w word h (next waiting) f r = r
  step_passes_on w word h (trailing position) f r = r
  step_passes_on w word h (subcommand name) f r = r
  step_passes_on w word h value f r = value_passes_on s.rules own s refl o w word h (arg_by_index s.rules w.position) (own.by_index w.position) (rw o at f) r

  other_passes_on : (waiting : Waiting) (position : ℕ) (word : Text) (h : Held) → other_fault s None word h ≡ [] → RowsPass s.rules h.rows → RowsPass s.rules (subcommand_or_other s.rules None waiting position word h).0.rows
  other_passes_on waiting position word h f r = go (bytes_eq word (45 ∷ 45 ∷ [])) (rw o at f)
    where
      short_rows : (flags : Option Text) → RowsPass s.rules (short_or_plain s.rules waiting word flags h).0.rows
      short_rows None = subst (RowsPass s.rules) (sym (plain_keeps s.rules own waiting word h)) r
      short_rows (Some flags) = subst (RowsPass s.rules) (sym (after_keeps s.rules own waiting word (bundle s.rules flags h).0 (bundle s.rules flags h).1 ∙ bundle_keeps s.rules own (length flags) flags h.skip plain (record h { skip = 0 }))) r

      long_rows : (long : Option (Text × Option Text)) → flag_word_fault s.rules false long word h ≡ [] → RowsPass s.rules (long_or_other s.rules waiting word long h).0.rows
      long_rows None e = short_rows (short_of word)
      long_rows (Some p) e = subst (RowsPass s.rules)
          (sym (after_keeps s.rules own waiting word (long_met s.rules (arg_by_long s.rules p.0) p.1 h).0 (long_met s.rules (arg_by_long s.rules p.0) p.1 h).1))
          (long_passes_on s.rules own (arg_by_long s.rules p.0) p.1 h (own.by_long p.0) e r)

      go : (b : Bool) → (if b then [] else flag_word_fault s.rules false (long_of word) word h) ≡ [] → RowsPass s.rules (if b then (h, trailing position) else long_or_other s.rules waiting word (long_of word) h).0.rows
      go true e = r
      go false e = long_rows (long_of word) e

  met_passes : (trail : Bool) (waiting : Waiting) (position : ℕ) (word : Text) (h : Held) → word_fault s [] trail waiting word h ≡ [] → RowsPass s.rules h.rows → RowsPass s.rules (word_met s.rules [] trail waiting position word h).0.rows
  met_passes true waiting position word h f r = r
  met_passes false waiting position word h f r = rw (no_subcommand waiting word) (other_passes_on waiting position word h (rw (no_subcommand waiting word) at f) r)

  walked_passes : (w : Walk) (word : Text) → turn_fault s [] w word ≡ [] → RowsPass s.rules w.held.rows → RowsPass s.rules (walked s.rules [] w word).held.rows
  unfolding walked
  walked_passes w word f r = go w.stopped f
    where
      go : (p : Option (Text × List Text)) → (if is_some p then [] else or_else (word_fault s [] w.is_trailing w.waiting word w.held) (step_fault s w.position (word_met s.rules [] w.is_trailing w.waiting w.position word w.held).0 (word_met s.rules [] w.is_trailing w.waiting w.position word w.held).1)) ≡ []
          → RowsPass s.rules (walked_from s.rules [] p w word).held.rows
      go (Some p) e = r
      go None e = step_passes_on w word _ _ (second_none _ _ e) (met_passes w.is_trailing w.waiting w.position word w.held (first_none _ _ e) r)

  pub all_pass : (words : List Text) (w : Walk) → walk_fault s [] w words ≡ [] → RowsPass s.rules w.held.rows → RowsPass s.rules (fold (walked s.rules []) w words).held.rows
  unfolding walk_fault
  all_pass [] w f r = r
  all_pass (word ∷ rest) w f r = all_pass rest (walked s.rules [] w word) (second_none _ _ f) (walked_passes w word (first_none _ _ f) r)
