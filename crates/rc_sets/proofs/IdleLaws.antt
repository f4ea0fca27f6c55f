-- What sets tell of idle lines is what the headers tell that lines match.
use Rattle.std.proofs.Common.{refl, ◌≡◌, ap, sym, ◌∙◌, subst, ℕ, ◌<◌, Bool, true, false, not, ◌&&◌, ◌==◌, cond, List, [], ◌∷◌, ◌++◌, arith, eq-eqb, ne_eqb}
use Rattle.std.specs.List.{list_any}
use Rattle.rc_base.specs.Header.{IsHeader, bit}
use Rattle.rc_base.specs.declared.header.Header.{Header}
use Rattle.rc_base.proofs.HeaderLaws.{headers_are_bits}
use Rattle.rc_config.specs.declared.access_list.AccessListLine.{AccessListLine}
use Rattle.rc_filter.specs.Verdict.{matches}
use Rattle.rc_trees.specs.Trees.{Tree, never, always, node, holds, same_tree, top, value, IsReduced}
use Rattle.rc_trees.specs.Recipes.{Recipe, has, tree, IsOfReduced}
use Rattle.rc_trees.proofs.HeaderLaws.{one_tree_per_set}
use Rattle.rc_trees.proofs.OneTree.{by_bits}
use Rattle.rc_trees.proofs.RecipeLaws.{every, has-and, has-minus, has-union_of, of_reduced-union_of, reduced-tree}
use Rattle.rc_trees.proofs.TreeLaws.{same_tree-Decides}
use Rattle.rc_sets.specs.AccessLists.{line_set}
use Rattle.rc_sets.specs.IdleLines.{AreDeciders, AreIdle, AreTold, DecidesOf, IsIdle, decided, deciders, deciders_end, decides, decides_not, idle_behind, idle_lines, is_empty, is_idle, is_matched, is_used, lines_end, seen, shared}
use Rattle.rc_sets.specs.declared.idle_line.IdleLine.{IdleLine}
use Rattle.rc_sets.proofs.AccessListLaws.{has-line_set}
use Rattle.rc_sets.proofs.AccessListsReduced.{of_reduced-line_set}

-- ---- a set that isn't empty holds some header

-- bits at which a tree is true, which are some others where it doesn't test them
record AreHeld (t : Tree) (base : ℕ → Bool) : Type 0 where
  bits : ℕ → Bool
  held : value t bits ≡ true
  same : (k : ℕ) → k < top t → bits k ≡ base k

abbrev at_value : (ℕ → Bool) → ℕ → Bool → ℕ → Bool
at_value base v x k = cond (k == v) x (base k)

here : (base : ℕ → Bool) (v : ℕ) (x : Bool) → at_value base v x v ≡ x
here base v x = ap (λ b. cond b x (base v)) (eq-eqb v v refl)

elsewhere : (base : ℕ → Bool) (v : ℕ) (x : Bool) (k : ℕ) → k < v → at_value base v x k ≡ base k
elsewhere base v x k less = ap (λ b. cond b x (base k)) (ne_eqb k v (omega arith))

some_bits : (t : Tree) → IsReduced t → same_tree t never ≡ false → (base : ℕ → Bool) → AreHeld t base
some_bits never r other base = absurd (let e : true ≡ false = other in cc)
some_bits always r other base = record { bits = base; held = refl; same = λ k less. refl }
some_bits (node v l h) r other base = by (same_tree h never) (same_tree l never) (same_tree-Decides h never).0 (same_tree-Decides l never).0 (some_bits h r.4) (some_bits l r.3)
  where
    by : (a b : Bool) → (a ≡ true → h ≡ never) → (b ≡ true → l ≡ never) → (a ≡ false → (base : ℕ → Bool) → AreHeld h base) → (b ≡ false → (base : ℕ → Bool) → AreHeld l base) → AreHeld (node v l h) base
    by false b none_high none_low high low =
        let found = high refl (at_value base v true) in
        let one : found.bits v ≡ true = found.same v r.1 ∙ here base v true in
        record {
          bits = found.bits;
          held = ap (λ x. cond x (value h found.bits) (value l found.bits)) one ∙ found.held;
          same = λ k less. found.same k (let a = r.1 in omega arith) ∙ elsewhere base v true k less;
        }
    by true false none_high none_low high low =
        let found = low refl (at_value base v false) in
        let zero : found.bits v ≡ false = found.same v r.0 ∙ here base v false in
        record {
          bits = found.bits;
          held = ap (λ x. cond x (value h found.bits) (value l found.bits)) zero ∙ found.held;
          same = λ k less. found.same k (let a = r.0 in omega arith) ∙ elsewhere base v false k less;
        }
    by true true none_high none_low high low = absurd (r.2 (none_low refl ∙ sym (none_high refl)))

record HasOne (r : Recipe) : Type 0 where
  header : Header
  is_header : IsHeader header
  held : has r header ≡ true

some_header : (r : Recipe) → IsOfReduced r → is_empty r ≡ false → HasOne r
some_header r ok other =
    let reduced = reduced-tree r ok in
    let found = some_bits (tree r) reduced other (λ _. false) in
    let is = headers_are_bits found.bits in
    record { header = is.header; is_header = is.fits; held = by_bits (tree r) reduced (bit is.header) found.bits is.same ∙ found.held }

none_in : (r : Recipe) → is_empty r ≡ true → (h : Header) → has r h ≡ false
none_in r empty h = ap (λ t. holds t h) ((same_tree-Decides (tree r) never).0 empty)

pub empty_where_none : (r : Recipe) → IsOfReduced r → ((h : Header) → IsHeader h → has r h ≡ false) → is_empty r ≡ true
empty_where_none r ok none = (same_tree-Decides (tree r) never).1 (one_tree_per_set (tree r) never (reduced-tree r ok) tt none)

-- ---- what the sets hold

module _ (h : Header) (is : IsHeader h) where
  any-same : (lines : List AccessListLine) → list_any (λ l. has (line_set l) h) lines ≡ is_matched lines h
  any-same lines = λ i. list_any (λ l. has-line_set h is l i) lines

  pub has-seen : (lines : List AccessListLine) → has (seen lines) h ≡ is_matched lines h
  has-seen lines = has-union_of line_set h lines ∙ any-same lines

  pub has-decided : (before : List AccessListLine) (l : AccessListLine) → has (decided before l) h ≡ (matches l h && not (is_matched before h))
  unfolding decided
  has-decided before l = has-minus h (line_set l) (seen before) ∙ (λ i. has-line_set h is l i && not (has-seen before i))

  pub has-shared : (later : AccessListLine) (before : List AccessListLine) (l : AccessListLine) → has (shared later before l) h ≡ (matches later h && (matches l h && not (is_matched before h)))
  unfolding shared
  has-shared later before l = has-and h (line_set later) (decided before l) ∙ (λ i. has-line_set h is later i && has-decided before l i)

pub of_reduced-seen : (lines : List AccessListLine) → IsOfReduced (seen lines)
of_reduced-seen lines = of_reduced-union_of line_set lines (every line_set of_reduced-line_set lines)

pub of_reduced-decided : (before : List AccessListLine) (l : AccessListLine) → IsOfReduced (decided before l)
unfolding decided
of_reduced-decided before l = (of_reduced-line_set l, of_reduced-seen before)

pub of_reduced-shared : (later : AccessListLine) (before : List AccessListLine) (l : AccessListLine) → IsOfReduced (shared later before l)
unfolding shared
of_reduced-shared later before l = (of_reduced-line_set later, of_reduced-decided before l)

-- ---- truth

not_false : (b : Bool) → not b ≡ false → b ≡ true
not_false true e = refl
not_false false e = absurd (let f : true ≡ false = e in cc)

not_true : (b : Bool) → not b ≡ true → b ≡ false
not_true true e = absurd (let f : false ≡ true = e in cc)
not_true false e = refl

both_left : (a b : Bool) → (a && b) ≡ true → a ≡ true
both_left true b e = refl
both_left false b e = absurd (let f : false ≡ true = e in cc)

both_right : (a b : Bool) → (a && b) ≡ true → b ≡ true
both_right true b e = e
both_right false b e = absurd (let f : false ≡ true = e in cc)

clash : (b : Bool) → b ≡ true → b ≡ false → ⊥
clash b e f = let d : true ≡ false = sym e ∙ f in cc

-- ---- a line

module _ (before : List AccessListLine) (l : AccessListLine) where
  idle_where_empty : is_empty (decided before l) ≡ true → IsIdle before l
  idle_where_empty empty h is matching =
      not_false (is_matched before h) (ap (λ b. b && not (is_matched before h)) (sym matching) ∙ sym (has-decided h is before l) ∙ none_in (decided before l) empty h)

  used_where_some : is_empty (decided before l) ≡ false → IsIdle before l → ⊥
  used_where_some other idle =
      let one = some_header (decided before l) (of_reduced-decided before l) other in
      let both = sym (has-decided one.header one.is_header before l) ∙ one.held in
      let m = is_matched before one.header in
      clash m (idle one.header one.is_header (both_left (matches l one.header) (not m) both)) (not_true m (both_right (matches l one.header) (not m) both))

  empty_where_idle : IsIdle before l → is_empty (decided before l) ≡ true
  empty_where_idle idle = by (is_empty (decided before l)) refl
    where
      by : (b : Bool) → is_empty (decided before l) ≡ b → b ≡ true
      by true e = refl
      by false e = absurd (used_where_some e idle)

  some_where_used : (IsIdle before l → ⊥) → is_empty (decided before l) ≡ false
  some_where_used used = by (is_empty (decided before l)) refl
    where
      by : (b : Bool) → is_empty (decided before l) ≡ b → b ≡ false
      by true e = absurd (used (idle_where_empty e))
      by false e = refl

module _ (later : AccessListLine) (before : List AccessListLine) (l : AccessListLine) where
  decides_where_some : is_empty (shared later before l) ≡ false → DecidesOf before l later
  decides_where_some other =
      let one = some_header (shared later before l) (of_reduced-shared later before l) other in
      let h = one.header in
      let all = sym (has-shared h one.is_header later before l) ∙ one.held in
      let own = both_right (matches later h) (matches l h && not (is_matched before h)) all in
      record {
        header = h;
        is_header = one.is_header;
        by_first = both_left (matches l h) (not (is_matched before h)) own;
        by_later = both_left (matches later h) (matches l h && not (is_matched before h)) all;
        unmatched = not_true (is_matched before h) (both_right (matches l h) (not (is_matched before h)) own);
      }

  not_where_empty : is_empty (shared later before l) ≡ true → DecidesOf before l later → ⊥
  not_where_empty empty d =
      let h = d.header in
      let held : (matches later h && (matches l h && not (is_matched before h))) ≡ true = (λ i. d.by_later i && (d.by_first i && not (d.unmatched i))) in
      clash (has (shared later before l) h) (has-shared h d.is_header later before l ∙ held) (none_in (shared later before l) empty h)

  some_where_decides : DecidesOf before l later → is_empty (shared later before l) ≡ false
  some_where_decides d = by (is_empty (shared later before l)) refl
    where
      by : (b : Bool) → is_empty (shared later before l) ≡ b → b ≡ false
      by true e = absurd (not_where_empty e d)
      by false e = refl

  empty_where_not : (DecidesOf before l later → ⊥) → is_empty (shared later before l) ≡ true
  empty_where_not not_there = by (is_empty (shared later before l)) refl
    where
      by : (b : Bool) → is_empty (shared later before l) ≡ b → b ≡ true
      by true e = refl
      by false e = absurd (not_there (decides_where_some e))

-- ---- all lines

pub are_deciders : (later : AccessListLine) (before lines : List AccessListLine) → AreDeciders later before lines (deciders later before lines)
are_deciders later before [] = deciders_end
are_deciders later before (l ∷ lines) = by (is_empty (shared later before l)) refl (are_deciders later (before ++ l ∷ []) lines)
  where
    others : List ℕ
    others = deciders later (before ++ l ∷ []) lines

    by : (b : Bool) → is_empty (shared later before l) ≡ b → AreDeciders later (before ++ l ∷ []) lines others → AreDeciders later before (l ∷ lines) (cond b others (l.sequence ∷ others))
    by true e rest = decides_not (not_where_empty later before l e) rest
    by false e rest = decides (decides_where_some later before l e) rest

pub are_idle : (before lines : List AccessListLine) → AreIdle before lines (idle_behind before lines)
are_idle before [] = lines_end
are_idle before (l ∷ lines) = by (is_empty (decided before l)) refl (are_idle (before ++ l ∷ []) lines)
  where
    others : List IdleLine
    others = idle_behind (before ++ l ∷ []) lines

    by : (b : Bool) → is_empty (decided before l) ≡ b → AreIdle (before ++ l ∷ []) lines others → AreIdle before (l ∷ lines) (cond b (record { sequence = l.sequence; by = deciders l [] before } ∷ others) others)
    by true e rest = is_idle (idle_where_empty before l e) (are_deciders l [] before) rest
    by false e rest = is_used (used_where_some before l e) rest

-- ---- and no others are

one_list_of_deciders : {later : AccessListLine} {before lines : List AccessListLine} {numbers : List ℕ} → AreDeciders later before lines numbers → numbers ≡ deciders later before lines
one_list_of_deciders deciders_end = refl
one_list_of_deciders {later} (decides {before} {l} {lines} {numbers} d rest) =
    let others = deciders later (before ++ l ∷ []) lines in
    ap (λ ns. l.sequence ∷ ns) (one_list_of_deciders rest) ∙ ap (λ b. cond b others (l.sequence ∷ others)) (sym (some_where_decides later before l d))
one_list_of_deciders {later} (decides_not {before} {l} {lines} {numbers} d rest) =
    let others = deciders later (before ++ l ∷ []) lines in
    one_list_of_deciders rest ∙ ap (λ b. cond b others (l.sequence ∷ others)) (sym (empty_where_not later before l d))

one_list : {before lines : List AccessListLine} {found : List IdleLine} → AreIdle before lines found → found ≡ idle_behind before lines
one_list lines_end = refl
one_list (is_idle {before} {l} {lines} {numbers} {found} idle by rest) =
    let others = idle_behind (before ++ l ∷ []) lines in
    (λ i. record { sequence = l.sequence; by = one_list_of_deciders by i } ∷ one_list rest i)
    ∙ ap (λ b. cond b (record { sequence = l.sequence; by = deciders l [] before } ∷ others) others) (sym (empty_where_idle before l idle))
one_list (is_used {before} {l} {lines} {found} used rest) =
    let others = idle_behind (before ++ l ∷ []) lines in
    one_list rest ∙ ap (λ b. cond b (record { sequence = l.sequence; by = deciders l [] before } ∷ others) others) (sym (some_where_used before l used))

pub told : AreTold
unfolding idle_lines
told lines found = (λ idle. one_list idle, λ same. subst (AreIdle [] lines) (sym same) (are_idle [] lines))

-- the lines that sets tell are idle by the headers that lines match, and two such lists are one
pub idle_lines_are_idle : (lines : List AccessListLine) → AreIdle [] lines (idle_lines lines)
unfolding idle_lines
idle_lines_are_idle lines = are_idle [] lines

pub one_idle : {before lines : List AccessListLine} {found other : List IdleLine} → AreIdle before lines found → AreIdle before lines other → found ≡ other
one_idle is was = one_list is ∙ sym (one_list was)
