-- What is known of the lines that were looked at, one line after another.
use Rattle.std.proofs.Common.{refl, ◌≡◌, ◌≢◌, ap, sym, ◌∙◌, subst, ℕ, zero, suc, ◌+◌, ◌<◌, ◌≤◌, max, Bool, true, false, not, ◌&&◌, ◌||◌, ◌==◌, cond, List, [], ◌∷◌, ◌++◌, inl, inr, length, take, drop, get_or, arith, eq-eqb, eqb-true}
use Rattle.std.specs.Int.{bit_at}
use Rattle.std.specs.Int.Bits.{bit_or}
use Rattle.std.specs.List.{flat_map, fold, list_all, range_with_len}
use Rattle.std.proofs.lemmas.Nat.Bits.{bit_at_or, bit_at-lt}
use Rattle.rc_base.proofs.KeepLaws.{In}
use Rattle.rc_base.specs.declared.header.Header.{Header}
use Rattle.rc_config.specs.declared.access_list.AccessListLine.{AccessListLine}
use Rattle.rc_config.specs.declared.access_list.AddressTest.{AddressTest}
use Rattle.rc_filter.specs.Verdict.{is_same_bit, matches, matches_address, matches_further, matches_port, matches_protocol, same_bits}
use Rattle.rc_nodes.specs.Seats.{SeatView, SeatKnows, TableView, Keeps}
use Rattle.rc_nodes.specs.Views.{Sound}
use Rattle.rc_nodes.proofs.KnownLaws.{known_never, knows_never, one_known_ref}
use Rattle.rc_trees.specs.Trees.{Tree, never, same_tree, HasNodes, HasNodesOf, IsAmong}
use Rattle.rc_trees.specs.Combine as trees
use Rattle.rc_trees.specs.Recipes.{Recipe, given, or, minus, parts, tree}
use Rattle.rc_trees.proofs.NodeLaws.{has_recipe}
use Rattle.rc_trees.proofs.PartLaws.{minus-first, minus-second}
use Rattle.rc_trees.proofs.TreeLaws.{same_tree-Decides}
use Rattle.rc_bdd.specs.Work.{MayCombine}
use Rattle.rc_sets.specs.AccessLists.{line_set}
use Rattle.rc_sets.specs.Deciding.{AreApart, AreDecided, IsDecided, IsSeen, KnowsDecided, all_but_last, none_yet, passes_addresses}
use Rattle.rc_sets.specs.IdleLines.{all_parts, all_shared, decided, deciders, idle_behind, idle_lines, idle_sets, is_empty, is_matched, seen, sets_behind, shared}
use Rattle.rc_sets.specs.declared.deciding.Decided.{Decided}
use Rattle.rc_sets.specs.declared.idle_line.IdleLine.{IdleLine}
use Rattle.rc_sets.proofs.IdleLaws.{empty_where_none, has-shared, of_reduced-shared}

-- ---- tests of addresses that agree

all_of : {A : Type 0} (p q r : A → Bool) → ((x : A) → p x ≡ true → q x ≡ true → r x ≡ true) → (xs : List A) → list_all p xs ≡ true → list_all q xs ≡ true → list_all r xs ≡ true
all_of p q r each [] e f = refl
all_of p q r each (x ∷ xs) e f = by (p x) (q x) refl refl e f (all_of p q r each xs)
  where
    by : (a b : Bool) → p x ≡ a → q x ≡ b → (a && list_all p xs) ≡ true → (b && list_all q xs) ≡ true → (list_all p xs ≡ true → list_all q xs ≡ true → list_all r xs ≡ true) → (r x && list_all r xs) ≡ true
    by false b pe qe e f later = absurd (let d : false ≡ true = e in cc)
    by true false pe qe e f later = absurd (let d : false ≡ true = f in cc)
    by true true pe qe e f later = (λ i. each x pe qe i && later e f i)

-- a bit that two tests ask for is the same in both, where an address passes both
same_bit : (v w a b c k : ℕ) → is_same_bit v a c k ≡ true → is_same_bit w b c k ≡ true → is_same_bit (bit_or v w) a b k ≡ true
same_bit v w a b c k e f =
    ap (λ n. n == 1 || bit_at a k == bit_at b k) (bit_at_or v w k)
    ∙ by (bit_at v k) (bit_at w k) (bit_at-lt v k) (bit_at-lt w k) e f
  where
    same : bit_at a k == bit_at c k ≡ true → bit_at b k == bit_at c k ≡ true → bit_at a k == bit_at b k ≡ true
    same p q = eq-eqb (bit_at a k) (bit_at b k) (eqb-true (bit_at a k) (bit_at c k) p ∙ sym (eqb-true (bit_at b k) (bit_at c k) q))

    by : (m n : ℕ) → m < 2 → n < 2 → (m == 1 || bit_at a k == bit_at c k) ≡ true → (n == 1 || bit_at b k == bit_at c k) ≡ true → (max m n == 1 || bit_at a k == bit_at b k) ≡ true
    by zero zero lm ln p q = same p q
    by zero (suc zero) lm ln p q = refl
    by (suc zero) zero lm ln p q = refl
    by (suc zero) (suc zero) lm ln p q = refl
    by (suc (suc m)) n lm ln p q = absurd (omega arith)
    by m (suc (suc n)) lm ln p q = absurd (omega arith)

pub agree : (one other : AddressTest) (a : ℕ) → matches_address one a ≡ true → matches_address other a ≡ true → matches_address (record { addr = one.addr; wildcard = bit_or one.wildcard other.wildcard }) other.addr ≡ true
unfolding same_bits
agree one other a e f =
    all_of (is_same_bit one.wildcard one.addr a) (is_same_bit other.wildcard other.addr a) (is_same_bit (bit_or one.wildcard other.wildcard) one.addr other.addr)
    (λ k. same_bit one.wildcard other.wildcard one.addr other.addr a k) (range_with_len 0 32) e f

-- ---- lines of which no header passes both

left : (a b : Bool) → (a && b) ≡ true → a ≡ true
left true b e = refl
left false b e = absurd (let f : false ≡ true = e in cc)

right : (a b : Bool) → (a && b) ≡ true → b ≡ true
right true b e = e
right false b e = absurd (let f : false ≡ true = e in cc)

addresses_of : (l : AccessListLine) (h : Header) → matches l h ≡ true → (matches_protocol l.protocol h.proto && matches_address l.source h.src && matches_address l.destination h.dst) ≡ true
unfolding matches
addresses_of l h e =
    let p = matches_protocol l.protocol h.proto in let s = matches_address l.source h.src in let a = matches_port l.source_port h.sport in
    let d = matches_address l.destination h.dst in let b = matches_port l.destination_port h.dport in let f = matches_further l.further h in
    let fifth : (p && s && a && d && b) ≡ true = left (p && s && a && d && b) f e in
    let fourth : (p && s && a && d) ≡ true = left (p && s && a && d) b fifth in
    let third : (p && s && a) ≡ true = left (p && s && a) d fourth in
    let second : (p && s) ≡ true = left (p && s) a third in
    (λ i. second i && right (p && s && a) d fourth i)

passed : {seat : SeatView} {before : List AccessListLine} {l : AccessListLine} {one : Decided} → IsDecided seat before l one → (h : Header) → matches l h ≡ true → passes_addresses one h ≡ true
passed is h e =
    (λ i. matches_protocol (is.protocol i) h.proto && matches_address (is.source i) h.src && matches_address (is.destination i) h.dst) ∙ addresses_of _ h e

pub nothing_shared : {seat : SeatView} {before all : List AccessListLine} {l k : AccessListLine} {one later : Decided} → IsDecided seat before l one → IsDecided seat all k later → AreApart one later → is_empty (shared k before l) ≡ true
nothing_shared {seat} {before} {all} {l} {k} {one} {later} is of apart =
    empty_where_none (shared k before l) (of_reduced-shared k before l) (λ h header. has-shared h header k before l ∙ by h (matches k h) (matches l h) refl refl)
  where
    by : (h : Header) (a b : Bool) → matches k h ≡ a → matches l h ≡ b → (a && (b && not (is_matched before h))) ≡ false
    by h false b e f = refl
    by h true false e f = refl
    by h true true e f = absurd (apart h (passed is h f) (passed of h e))

pub shared_is : (k : AccessListLine) (before : List AccessListLine) (l : AccessListLine) → not (same_tree (trees.and (tree (line_set k)) (tree (decided before l))) never) ≡ not (is_empty (shared k before l))
unfolding shared
shared_is k before l = refl

-- ---- what is known is known for good

pub decided_kept : {v w : SeatView} → Keeps v w → {before : List AccessListLine} {l : AccessListLine} {one : Decided} → IsDecided v before l one → IsDecided w before l one
decided_kept keeps {before} {l} {one} is = record {
  sequence = is.sequence;
  protocol = is.protocol;
  source = is.source;
  destination = is.destination;
  matched = keeps one.matched.index (tree (line_set l)) is.matched;
  own = keeps one.own.index (tree (decided before l)) is.own;
}

pub all_kept : (v w : SeatView) → Keeps v w → (before ls : List AccessListLine) (ds : List Decided) → AreDecided v before ls ds → AreDecided w before ls ds
all_kept v w keeps before [] [] all = tt
all_kept v w keeps before [] (d ∷ ds) all = absurd all
all_kept v w keeps before (l ∷ ls) [] all = absurd all
all_kept v w keeps before (l ∷ ls) (d ∷ ds) all = (decided_kept keeps all.0, all_kept v w keeps (before ++ l ∷ []) ls ds all.1)

-- ---- one line more

abbrev Lines : Type 0
Lines = List AccessListLine

one_more : {A : Type 0} (xs : List A) (y : A) (ys : List A) → (xs ++ y ∷ []) ++ ys ≡ xs ++ y ∷ ys
one_more [] y ys = refl
one_more (x ∷ xs) y ys = ap (λ zs. x ∷ zs) (one_more xs y ys)

pub nothing_more : {A : Type 0} (xs : List A) → xs ++ [] ≡ xs
nothing_more [] = refl
nothing_more (x ∷ xs) = ap (λ ys. x ∷ ys) (nothing_more xs)

pub decided_more : (seat : SeatView) (before ls : Lines) (ds : List Decided) (l : AccessListLine) (d : Decided) → AreDecided seat before ls ds → IsDecided seat (before ++ ls) l d → AreDecided seat before (ls ++ l ∷ []) (ds ++ d ∷ [])
decided_more seat before [] [] l d all is = (subst (λ xs. IsDecided seat xs l d) (nothing_more before) is, tt)
decided_more seat before [] (e ∷ es) l d all is = absurd all
decided_more seat before (k ∷ ks) [] l d all is = absurd all
decided_more seat before (k ∷ ks) (e ∷ es) l d all is =
    (all.0, decided_more seat (before ++ k ∷ []) ks es l d all.1 (subst (λ xs. IsDecided seat xs l d) (sym (one_more before k ks)) is))

-- ---- the lines so far, and their set

set_more : (r : Recipe) (xs : Lines) (y : AccessListLine) → fold (λ s x. or s (line_set x)) r (xs ++ y ∷ []) ≡ or (fold (λ s x. or s (line_set x)) r xs) (line_set y)
set_more r [] y = refl
set_more r (x ∷ xs) y = set_more (or r (line_set x)) xs y

pub seen_more : (xs : Lines) (y : AccessListLine) → seen (xs ++ y ∷ []) ≡ or (seen xs) (line_set y)
seen_more xs y = set_more (given never) xs y

nothing_or_nothing : trees.or never never ≡ never
unfolding trees.or
nothing_or_nothing = refl

module _ (nodes : TableView) (seat : SeatView) where
  pub may_join : (before : Lines) (r last : ℕ) → IsSeen seat before r last → HasNodes nodes.may (parts (seen before)) → MayCombine nodes seat trees.or r last
  may_join _ r last (none_yet e f) has = record {
    left = never;
    right = never;
    knows_left = subst (λ n. SeatKnows seat n never) (sym e) (knows_never seat);
    knows_right = subst (λ n. SeatKnows seat n never) (sym f) (knows_never seat);
    allowed = subst (HasNodesOf nodes.may) (sym nothing_or_nothing) tt;
  }
  may_join _ r last (all_but_last xs y knows of) has = record {
    left = tree (seen xs);
    right = tree (line_set y);
    knows_left = knows;
    knows_right = of;
    allowed = has_recipe nodes.may (or (seen xs) (line_set y)) (subst (λ s. HasNodes nodes.may (parts s)) (seen_more xs y) has);
  }

pub seen_now : (seat after : SeatView) (before : Lines) (r last now : ℕ) → IsSeen seat before r last → ((s t : Tree) → SeatKnows seat r s → SeatKnows seat last t → SeatKnows after now (trees.or s t)) → SeatKnows after now (tree (seen before))
seen_now seat after _ r last now (none_yet e f) made =
    subst (SeatKnows after now) nothing_or_nothing (made never never (subst (λ n. SeatKnows seat n never) (sym e) (knows_never seat)) (subst (λ n. SeatKnows seat n never) (sym f) (knows_never seat)))
seen_now seat after _ r last now (all_but_last xs y knows of) made =
    subst (SeatKnows after now) (ap tree (sym (seen_more xs y))) (made (tree (seen xs)) (tree (line_set y)) knows of)

-- ---- what may be made

in_flat : {A : Type 0} (f : A → List Tree) (r : A) (rs : List A) (x : Tree) → In r rs → IsAmong (f r) x → IsAmong (flat_map f rs) x
in_flat f r [] x there is = absurd there
in_flat f r (s ∷ rs) x (inl same) is = among_left (f s) (flat_map f rs) x (subst (λ y. IsAmong (f y) x) (sym same) is)
  where
    among_left : (xs ys : List Tree) (x : Tree) → IsAmong xs x → IsAmong (xs ++ ys) x
    among_left [] ys x there = absurd there
    among_left (y ∷ xs) ys x (inl same) = inl same
    among_left (y ∷ xs) ys x (inr rest) = inr (among_left xs ys x rest)
in_flat f r (s ∷ rs) x (inr rest) is = among_right (f s) (flat_map f rs) x (in_flat f r rs x rest is)
  where
    among_right : (xs ys : List Tree) (x : Tree) → IsAmong ys x → IsAmong (xs ++ ys) x
    among_right [] ys x there = there
    among_right (y ∷ xs) ys x there = inr (among_right xs ys x there)

in_right : {A : Type 0} (x : A) (xs ys : List A) → In x ys → In x (xs ++ ys)
in_right x [] ys there = there
in_right x (y ∷ xs) ys there = inr (in_right x xs ys there)

in_sets : (before xs : Lines) (l : AccessListLine) (rest : Lines) → In (decided (before ++ xs) l) (sets_behind before (xs ++ l ∷ rest))
in_sets before [] l rest = inl (ap (λ ys. decided ys l) (sym (nothing_more before)))
in_sets before (x ∷ xs) l rest =
    inr (in_right (decided (before ++ x ∷ xs) l) (cond (is_empty (decided before x)) (all_shared x [] before) []) (sets_behind (before ++ x ∷ []) (xs ++ l ∷ rest))
    (subst (λ ys. In (decided ys l) (sets_behind (before ++ x ∷ []) (xs ++ l ∷ rest))) (one_more before x xs) (in_sets (before ++ x ∷ []) xs l rest)))

-- what a line decides may be made, and so may what the lines before it match, and what it matches itself
module _ (may : List Tree) (xs : Lines) (l : AccessListLine) (rest lines : Lines) (is : xs ++ l ∷ rest ≡ lines) (has : HasNodes may (all_parts (idle_sets lines))) where
  pub may_decide : HasNodes may (parts (decided xs l))
  unfolding idle_sets
  may_decide t there node =
      has t (subst (λ ls. IsAmong (all_parts (sets_behind [] ls)) t) is (in_flat parts (decided xs l) (sets_behind [] (xs ++ l ∷ rest)) t (in_sets [] xs l rest) there)) node

  pub may_see : HasNodes may (parts (seen xs))
  unfolding decided
  may_see t there node = may_decide t (minus-second (line_set l) (seen xs) t there) node

pub may_match : (may : List Tree) (before : Lines) (l : AccessListLine) → HasNodes may (parts (decided before l)) → HasNodes may (parts (line_set l))
unfolding decided
may_match may before l has t there node = has t (minus-first (line_set l) (seen before) t there) node

pub decided_is : (before : Lines) (l : AccessListLine) → decided before l ≡ minus (line_set l) (seen before)
unfolding decided
decided_is before l = refl

-- ---- the line at a place

pub record IsPlaced (seat : SeatView) (before ls : Lines) (ds : List Decided) (i : ℕ) (d : Decided) : Type 0 where
  pub line : AccessListLine
  pub rest : drop i ls ≡ line ∷ drop (suc i) ls
  pub taken : take (suc i) ls ≡ take i ls ++ line ∷ []
  pub earlier : AreDecided seat before (take i ls) (take i ds)
  pub is : IsDecided seat (before ++ take i ls) line (get_or ds i d)

pub placed : (seat : SeatView) (before ls : Lines) (ds : List Decided) (i : ℕ) (d : Decided) → i < length ds → AreDecided seat before ls ds → IsPlaced seat before ls ds i d
placed seat before [] [] i d less all = absurd (omega arith)
placed seat before [] (e ∷ es) i d less all = absurd all
placed seat before (l ∷ ls) [] i d less all = absurd all
placed seat before (l ∷ ls) (e ∷ es) zero d less all = record {
  line = l;
  rest = refl;
  taken = refl;
  earlier = tt;
  is = subst (λ xs. IsDecided seat xs l e) (sym (nothing_more before)) all.0;
}
placed seat before (l ∷ ls) (e ∷ es) (suc i) d less all =
    let p = placed seat (before ++ l ∷ []) ls es i d (omega arith) all.1 in
    record {
      line = p.line;
      rest = p.rest;
      taken = ap (λ xs. l ∷ xs) p.taken;
      earlier = (all.0, p.earlier);
      is = subst (λ xs. IsDecided seat xs p.line (get_or es i d)) (one_more before l (take i ls)) p.is;
    }

module _ {seat : SeatView} {before ls : Lines} {ds : List Decided} {i : ℕ} {d : Decided} (p : IsPlaced seat before ls ds i d) where
  next : suc i ≡ i + 1
  next = omega arith

  pub rest_at : drop i ls ≡ p.line ∷ drop (i + 1) ls
  rest_at = p.rest ∙ ap (λ n. p.line ∷ drop n ls) next

  pub taken_at : take (i + 1) ls ≡ take i ls ++ p.line ∷ []
  taken_at = ap (λ n. take n ls) (sym next) ∙ p.taken

pub as_many : (seat : SeatView) (before ls : Lines) (ds : List Decided) → AreDecided seat before ls ds → length ls ≡ length ds
as_many seat before [] [] all = refl
as_many seat before [] (e ∷ es) all = absurd all
as_many seat before (l ∷ ls) [] all = absurd all
as_many seat before (l ∷ ls) (e ∷ es) all = ap suc (as_many seat (before ++ l ∷ []) ls es all.1)

-- ---- the lines that were walked over

pub seen_kept : {v w : SeatView} → Keeps v w → {before : Lines} {r last : ℕ} → IsSeen v before r last → IsSeen w before r last
seen_kept keeps (none_yet e f) = none_yet e f
seen_kept keeps {r = r} {last = last} (all_but_last xs y knows of) = all_but_last xs y (keeps r (tree (seen xs)) knows) (keeps last (tree (line_set y)) of)

pub record IsWalked (seat : SeatView) (lines left : Lines) (all : List Decided) (r last : ℕ) : Type 0 where
  pub done : Lines
  pub whole : done ++ left ≡ lines
  pub decided_are : AreDecided seat [] done all
  pub seen_is : IsSeen seat done r last

pub at_first : (seat : SeatView) (lines left : Lines) → left ≡ lines → IsWalked seat lines left [] 0 0
at_first seat lines left same = record { done = []; whole = same; decided_are = tt; seen_is = none_yet refl refl }

module _ {seat : SeatView} {lines left : Lines} {all : List Decided} {r last : ℕ} (w : IsWalked seat lines left all r last) (l : AccessListLine) (rest : Lines) (is : left ≡ l ∷ rest) where
  pub whole_now : w.done ++ l ∷ rest ≡ lines
  whole_now = ap (λ xs. w.done ++ xs) (sym is) ∙ w.whole

  pub next_walked : (joined after : SeatView) → Keeps seat after → Keeps joined after → (now : ℕ) → SeatKnows joined now (tree (seen w.done)) → (one : Decided) → IsDecided after w.done l one → (more : List Decided) → more ≡ all ++ one ∷ []
      → IsWalked after lines rest more now one.matched.index
  next_walked joined after keeps later now known one decided more same = record {
    done = w.done ++ l ∷ [];
    whole = one_more w.done l rest ∙ whole_now;
    decided_are = subst (AreDecided after [] (w.done ++ l ∷ [])) (sym same) (decided_more after [] w.done all l one (all_kept seat after keeps [] w.done all w.decided_are) decided);
    seen_is = all_but_last w.done l (later now (tree (seen w.done)) known) decided.matched;
  }

pub at_last : {seat : SeatView} {lines left : Lines} {all : List Decided} {r last : ℕ} → IsWalked seat lines left all r last → left ≡ [] → AreDecided seat [] lines all
at_last {seat} {lines} {left} {all} w none = subst (λ ls. AreDecided seat [] ls all) (sym (nothing_more w.done) ∙ ap (λ xs. w.done ++ xs) (sym none) ∙ w.whole) w.decided_are

-- ---- what a line puts behind the idle ones

pub known_sets : {seat : SeatView} {before : Lines} {l : AccessListLine} {one : Decided} → IsDecided seat before l one → KnowsDecided seat one
known_sets {seat} {before} {l} is = ((tree (line_set l), is.matched), (tree (decided before l), is.own))

pub own_empty : {seat : SeatView} {before : Lines} {l : AccessListLine} {one : Decided} → IsDecided seat before l one → one.own.index ≡ 0 → is_empty (decided before l) ≡ true
own_empty {seat} {before} {l} is e = (same_tree-Decides (tree (decided before l)) never).1 (known_never seat (tree (decided before l)) (subst (λ n. SeatKnows seat n (tree (decided before l))) e is.own))

pub own_some : {seat : SeatView} {before : Lines} {l : AccessListLine} {one : Decided} → Sound seat.view → IsDecided seat before l one → one.own.index ≢ 0 → is_empty (decided before l) ≡ false
own_some {seat} {before} {l} {one} sound is other = by (is_empty (decided before l)) (same_tree-Decides (tree (decided before l)) never).0
  where
    by : (b : Bool) → (b ≡ true → tree (decided before l) ≡ never) → b ≡ false
    by false same = refl
    by true same = absurd (other (one_known_ref seat sound one.own.index 0 never (subst (SeatKnows seat one.own.index) (same refl) is.own) (knows_never seat)))

pub used_step : (before : Lines) (l : AccessListLine) (rest : Lines) → is_empty (decided before l) ≡ false → idle_behind (before ++ l ∷ []) rest ≡ idle_behind before (l ∷ rest)
used_step before l rest e =
    let others = idle_behind (before ++ l ∷ []) rest in
    sym (ap (λ b. cond b (record { sequence = l.sequence; by = deciders l [] before } ∷ others) others) e)

pub idle_step : (before : Lines) (l : AccessListLine) (rest : Lines) → is_empty (decided before l) ≡ true → record { sequence = l.sequence; by = deciders l [] before } ∷ idle_behind (before ++ l ∷ []) rest ≡ idle_behind before (l ∷ rest)
idle_step before l rest e =
    let others = idle_behind (before ++ l ∷ []) rest in
    sym (ap (λ b. cond b (record { sequence = l.sequence; by = deciders l [] before } ∷ others) others) e)

pub deciders_step : (k : AccessListLine) (before : Lines) (l : AccessListLine) (rest : Lines) (b : Bool) → is_empty (shared k before l) ≡ b → cond b (deciders k (before ++ l ∷ []) rest) (l.sequence ∷ deciders k (before ++ l ∷ []) rest) ≡ deciders k before (l ∷ rest)
deciders_step k before l rest b e =
    let others = deciders k (before ++ l ∷ []) rest in
    sym (ap (λ c. cond c others (l.sequence ∷ others)) e)

-- a further line decides nothing of a later one, or it is named
pub passed_by : (k : AccessListLine) (lines : Lines) (l : AccessListLine) (i : ℕ) (by : List ℕ) → drop i lines ≡ l ∷ drop (i + 1) lines → take (i + 1) lines ≡ take i lines ++ l ∷ [] → is_empty (shared k (take i lines) l) ≡ true
    → by ++ deciders k (take i lines) (drop i lines) ≡ deciders k [] lines → by ++ deciders k (take (i + 1) lines) (drop (i + 1) lines) ≡ deciders k [] lines
passed_by k lines l i by rest taken e so_far =
    ap (λ xs. by ++ deciders k xs (drop (i + 1) lines)) taken
    ∙ ap (λ ns. by ++ ns) (deciders_step k (take i lines) l (drop (i + 1) lines) true e)
    ∙ ap (λ xs. by ++ deciders k (take i lines) xs) (sym rest)
    ∙ so_far

pub named_now : (k : AccessListLine) (lines : Lines) (l : AccessListLine) (i : ℕ) (by more : List ℕ) (number : ℕ) → more ≡ by ++ number ∷ [] → number ≡ l.sequence → drop i lines ≡ l ∷ drop (i + 1) lines → take (i + 1) lines ≡ take i lines ++ l ∷ []
    → is_empty (shared k (take i lines) l) ≡ false → by ++ deciders k (take i lines) (drop i lines) ≡ deciders k [] lines → more ++ deciders k (take (i + 1) lines) (drop (i + 1) lines) ≡ deciders k [] lines
named_now k lines l i by more number same is rest taken e so_far =
    (λ j. same j ++ deciders k (taken j) (drop (i + 1) lines))
    ∙ one_more by number (deciders k (take i lines ++ l ∷ []) (drop (i + 1) lines))
    ∙ ap (λ n. by ++ n ∷ deciders k (take i lines ++ l ∷ []) (drop (i + 1) lines)) is
    ∙ ap (λ ns. by ++ ns) (deciders_step k (take i lines) l (drop (i + 1) lines) false e)
    ∙ ap (λ xs. by ++ deciders k (take i lines) xs) (sym rest)
    ∙ so_far

pub drop_past : {A : Type 0} (xs : List A) (i : ℕ) → length xs ≤ i → drop i xs ≡ []
drop_past [] zero le = refl
drop_past [] (suc i) le = refl
drop_past (x ∷ xs) zero le = absurd (omega arith)
drop_past (x ∷ xs) (suc i) le = drop_past xs i (omega arith)

-- all lines before a line were passed
pub all_named : (seat : SeatView) (k : AccessListLine) (lines : Lines) (ds : List Decided) (i : ℕ) (by : List ℕ) → AreDecided seat [] lines ds → length ds ≤ i → by ++ deciders k (take i lines) (drop i lines) ≡ deciders k [] lines → by ≡ deciders k [] lines
all_named seat k lines ds i by all le so_far =
    sym (nothing_more by)
    ∙ ap (λ xs. by ++ deciders k (take i lines) xs) (sym (drop_past lines i (let n = as_many seat [] lines ds all in omega arith)))
    ∙ so_far

pub all_found : (seat : SeatView) (lines : Lines) (ds : List Decided) (i : ℕ) (found : List IdleLine) → AreDecided seat [] lines ds → length ds ≤ i → found ++ idle_behind (take i lines) (drop i lines) ≡ idle_behind [] lines → found ≡ idle_behind [] lines
all_found seat lines ds i found all le so_far =
    sym (nothing_more found)
    ∙ ap (λ xs. found ++ idle_behind (take i lines) xs) (sym (drop_past lines i (let n = as_many seat [] lines ds all in omega arith)))
    ∙ so_far

pub found_now : (lines : Lines) (l : AccessListLine) (i : ℕ) (found more : List IdleLine) → drop i lines ≡ l ∷ drop (i + 1) lines → take (i + 1) lines ≡ take i lines ++ l ∷ []
    → more ++ idle_behind (take i lines ++ l ∷ []) (drop (i + 1) lines) ≡ found ++ idle_behind (take i lines) (l ∷ drop (i + 1) lines)
    → found ++ idle_behind (take i lines) (drop i lines) ≡ idle_behind [] lines → more ++ idle_behind (take (i + 1) lines) (drop (i + 1) lines) ≡ idle_behind [] lines
found_now lines l i found more rest taken pushed so_far =
    ap (λ xs. more ++ idle_behind xs (drop (i + 1) lines)) taken ∙ pushed ∙ ap (λ xs. found ++ idle_behind (take i lines) xs) (sym rest) ∙ so_far

pub idle_pushed : (old new : List IdleLine) (before : Lines) (l : AccessListLine) (rest : Lines) (number : ℕ) (by : List ℕ) → new ≡ old ++ record { sequence = number; by = by } ∷ [] → number ≡ l.sequence → by ≡ deciders l [] before → is_empty (decided before l) ≡ true
    → new ++ idle_behind (before ++ l ∷ []) rest ≡ old ++ idle_behind before (l ∷ rest)
idle_pushed old new before l rest number by pushed same named e =
    let others = idle_behind (before ++ l ∷ []) rest in
    ap (λ xs. xs ++ others) pushed
    ∙ one_more old (record { sequence = number; by = by }) others
    ∙ (λ i. old ++ record { sequence = same i; by = named i } ∷ others)
    ∙ ap (λ ys. old ++ ys) (idle_step before l rest e)

pub some_of : (b r : Bool) → r ≡ not b → r ≡ true → b ≡ false
some_of true r e f = absurd (let d : true ≡ false = sym f ∙ e in cc)
some_of false r e f = refl

pub none_of : (b r : Bool) → r ≡ not b → r ≡ false → b ≡ true
none_of true r e f = refl
none_of false r e f = absurd (let d : false ≡ true = sym f ∙ e in cc)

pub listed : (lines : Lines) → idle_behind [] lines ≡ idle_lines lines
unfolding idle_lines
listed lines = refl
