-- A prepared table that grows run by run.
use Rattle.std.proofs.Common.{refl, ◌≡◌, ap, sym, ◌∙◌, subst, ℕ, ◌+◌, ◌<◌, Bool, true, false, ◌&&◌, arith, List, [], ◌∷◌, ◌++◌, append-nil, append_assoc, length, map, take, drop, get_or, All, Result, Ok, Err, OnOk}
use Rattle.std.specs.List.{AllByRecursion, list_all}
use Rattle.std.proofs.lemmas.List.{map-append, length-map, take_more, drop_more}
use Rattle.std.proofs.lemmas.List.Elements.{All-from_recursion, recursion_from_All}
use Rattle.std.specs.Arc.{arc_value}
use Rattle.std.specs.declared.alloc.Global.{Global}
use Rattle.std.specs.declared.sync.Arc.{Arc}
use Rattle.rc_route.specs.Parts.{joined_parts}
use Rattle.rc_base.specs.Prefix.{Cidr, IsCidr}
use Rattle.rc_route.specs.declared.route.Hop.{Hop}
use Rattle.rc_route.specs.declared.route.Route.{Route}
use Rattle.rc_fib.specs.Entry.{Entry}
use Rattle.rc_fib.specs.Entries.{entry_over, entries_over}
use Rattle.rc_fib.specs.Forwarding.{is_resolved, resolve_all, resolved_hops}
use Rattle.rc_fib.specs.Growing.{HasHops, IsLayer}
use Rattle.rc_fib.specs.Stretches.{Cover, entry_with, spread}
use Rattle.rc_fib.specs.declared.growing.Growing.{Growing}
use Rattle.rc_fib.specs.declared.stretch.Stretch.{Stretch}
use Rattle.rc_fib.proofs.StretchLaws.{covers_more, prefixes_are, run_more}

abbrev is_plain : Route → Bool
is_plain r = list_all is_resolved r.hops

abbrev prefixes : List Route → List Cidr
prefixes routes = map (λ (r : Route). r.prefix) routes

both : (a b : Bool) → (a && b) ≡ true → (a ≡ true) × (b ≡ true)
both true b e = (refl, e)
both false b e = absurd (cc e)

all-append : (xs ys : List Route) → list_all is_plain xs ≡ true → list_all is_plain ys ≡ true → list_all is_plain (xs ++ ys) ≡ true
all-append [] ys xs_are ys_are = ys_are
all-append (x ∷ xs) ys xs_are ys_are =
    let (here, later) = both (is_plain x) (list_all is_plain xs) xs_are in
    (λ i. here i && all-append xs ys later ys_are i)

module _ (hops : List Hop) where
  plain_run : (run : List Route) → AllByRecursion (HasHops hops) run → list_all is_resolved hops ≡ true → list_all is_plain run ≡ true
  plain_run [] alike plain = refl
  plain_run (r ∷ rs) alike plain = λ i. (ap (list_all is_resolved) alike.0 ∙ plain) i && plain_run rs alike.1 plain i

  entries_of_run : (entries : List Entry) (run : List Route) → AllByRecursion (HasHops hops) run →
      map (entry_with (resolve_all (resolved_hops entries) hops)) (prefixes run) ≡ entries_over entries run
  entries_of_run entries [] alike = refl
  entries_of_run entries (r ∷ rs) alike = λ i. record { prefix = r.prefix; hops = resolve_all (resolved_hops entries) (sym alike.0 i) } ∷ entries_of_run entries rs alike.1 i

-- one run more
pub run_pushed : (entries : List Entry) (hops : List Hop) (run : List Route) → 0 < length run → AllByRecursion (HasHops hops) run →
    (old new : Growing) (last : Stretch) → last.hops ≡ resolve_all (resolved_hops entries) hops → last.end ≡ length new.prefixes →
    new.prefixes ≡ old.prefixes ++ prefixes run → (All IsCidr old.prefixes → All IsCidr new.prefixes) → new.stretches ≡ old.stretches ++ last ∷ [] →
    (new.is_plain ≡ true → (old.is_plain ≡ true) × (list_all is_resolved hops ≡ true)) → (before : List Route) → IsLayer entries before old → IsLayer entries (before ++ run) new
run_pushed entries hops run some alike old new last shared ends grown canonical put plain before layer =
    let qs = prefixes run in
    let many : 0 < length qs = subst (λ n. 0 < n) (sym (length-map run (λ (r : Route). r.prefix))) some in
    let end : last.end ≡ 0 + length (old.prefixes ++ qs) = (let same = ap length grown in omega arith) in
    record {
      covers = subst (λ ps. Cover 0 ps new.stretches) (sym grown) (subst (Cover 0 (old.prefixes ++ qs)) (sym put) (covers_more qs many last 0 old.prefixes old.stretches layer.covers end));
      value =
          (λ i. spread 0 (grown i) (put i))
          ∙ run_more qs many last 0 old.prefixes old.stretches layer.covers end
          ∙ (λ i. layer.value i ++ map (entry_with (shared i)) qs)
          ∙ ap (λ es. entries_over entries before ++ es) (entries_of_run hops entries run alike)
          ∙ sym (map-append (entry_over entries) before run);
      canonical = canonical layer.canonical;
      plain = λ is. let (others, these) = plain is in all-append before run (layer.plain others) (plain_run hops run alike these);
    }

-- nothing is the layer of no routes
pub no_layer : (entries : List Entry) (made : Growing) → made.prefixes ≡ [] → made.stretches ≡ [] → IsLayer entries [] made
no_layer entries made no_prefix no_stretch = record {
  covers = subst (λ ss. Cover 0 made.prefixes ss) (sym no_stretch) no_prefix;
  value = ap (spread 0 made.prefixes) no_stretch;
  canonical = subst (All IsCidr) (sym no_prefix) (search arith);
  plain = λ is. refl;
}

-- the prefix of one route more
pub prefix_more : (old now more : List Cidr) (routes : List Route) (i : ℕ) (r : Route) → i < length routes → r ≡ get_or routes i r →
    now ≡ old ++ prefixes (take i routes) → more ≡ now ++ r.prefix ∷ [] → more ≡ old ++ prefixes (take (i + 1) routes)
prefix_more old now more routes i r within at is push =
    push ∙ (λ k. is k ++ (at k).prefix ∷ []) ∙ append_assoc old (prefixes (take i routes)) ((get_or routes i r).prefix ∷ [])
    ∙ ap (λ ps. old ++ ps) (sym (map-append (λ (q : Route). q.prefix) (take i routes) (get_or routes i r ∷ [])) ∙ ap prefixes (sym (take_more routes i r within)))

-- what was made, with the routes before it
pub record Grown (entries : List Entry) (old : Growing) (left routes : List Route) (made : Growing) : Type 0 where
  pub done : List Route
  pub all : done ++ left ≡ routes
  pub grown : (before : List Route) → IsLayer entries before old → IsLayer entries (before ++ done) made

pub grown_not_yet : (entries : List Entry) (old : Growing) (routes : List Route) → Grown entries old routes routes old
grown_not_yet entries old routes = record {
  done = [];
  all = refl;
  grown = λ before layer. subst (λ rs. IsLayer entries rs old) (sym (append-nil before)) layer;
}

pub grown_more : (entries : List Entry) (old made next : Growing) (routes left run behind : List Route) → run ++ behind ≡ left → Grown entries old left routes made →
    ((before : List Route) → IsLayer entries before made → IsLayer entries (before ++ run) next) → Grown entries old behind routes next
grown_more entries old made next routes left run behind parted so_far more = record {
  done = so_far.done ++ run;
  all = append_assoc so_far.done run behind ∙ ap (λ rs. so_far.done ++ rs) parted ∙ so_far.all;
  grown = λ before layer. subst (λ rs. IsLayer entries rs next) (append_assoc before so_far.done run) (more (before ++ so_far.done) (so_far.grown before layer));
}

pub all_grown : (entries : List Entry) (old made : Growing) (routes left : List Route) → left ≡ [] → Grown entries old left routes made →
    (before : List Route) → IsLayer entries before old → IsLayer entries (before ++ routes) made
all_grown entries old made routes left none so_far before layer =
    let all : so_far.done ≡ routes = sym (append-nil so_far.done) ∙ ap (λ rs. so_far.done ++ rs) (sym none) ∙ so_far.all in
    subst (λ rs. IsLayer entries (before ++ rs) made) all (so_far.grown before layer)

pub on_done : {A E : Type 0} (result : Result A E) (P Q : Type 0) → (P → Q) → OnOk result P → OnOk result Q
on_done (Ok v) P Q next done = next done
on_done (Err e) P Q next done = tt

-- the routes of one part, and behind them those of the parts that are left
pub part_of_left : (parts : List (Arc (List Route) Global)) (i : ℕ) (part : Arc (List Route) Global) → i < length parts → part ≡ get_or parts i part →
    arc_value part ++ joined_parts (drop (i + 1) parts) ≡ joined_parts (drop i parts)
part_of_left parts i part within at =
    sym (ap joined_parts (drop_more parts i part within ∙ ap (λ (p : Arc (List Route) Global). p ∷ drop (i + 1) parts) (sym at)))

each_canonical : (es : List Entry) → AllByRecursion IsCidr (map (λ (e : Entry). e.prefix) es) → AllByRecursion (λ (e : Entry). IsCidr e.prefix) es
each_canonical [] h = tt
each_canonical (e ∷ es) h = (h.0, each_canonical es h.1)

-- the prefixes of entries are those of the table
pub canonical_entries : (ps : List Cidr) (ss : List Stretch) → Cover 0 ps ss → All IsCidr ps → All (λ (e : Entry). IsCidr e.prefix) (spread 0 ps ss)
canonical_entries ps ss covers all =
    All-from_recursion (λ (e : Entry). IsCidr e.prefix) (spread 0 ps ss) (each_canonical (spread 0 ps ss)
    (subst (AllByRecursion IsCidr) (sym (prefixes_are 0 ps ss covers)) (recursion_from_All IsCidr ps all)))
