-- The steps of a search, as the program takes them.
use Rattle.std.proofs.Common.{refl, ◌≡◌, ap, sym, ◌∙◌, subst, ℕ, zero, suc, ◌+◌, ◌≤◌, ◌<◌, ⊎_elim, Bool, true, false, ◌||◌, List, [], ◌∷◌, ◌++◌, map, length, reverse, slice_index, slice_index_or, Some, None, Contains, append_assoc, arith}
use Rattle.std.specs.List.{IsDistinct, list_any, slice_get}
use Rattle.std.specs.Prelude.{if◌then◌else◌}
use Rattle.std.proofs.lemmas.Bool.{cases_lt}
use Rattle.std.proofs.lemmas.List.{length-map, length-append, map-append, get_or_append_left}
use Rattle.std.proofs.lemmas.List.Elements.{All-head}
use Rattle.std.proofs.lemmas.Map.Keys.{IsDistinct-push}
use Rattle.std.proofs.lemmas.Map.Made.{length-le_from_is_member, is_member-Decides}
use Rattle.std.proofs.Math.Seq.{get_or-append_seam}
use Rattle.rc_base.specs.declared.ending.Kind.{Kind}
use Rattle.rc_base.specs.declared.header.Header.{Header}
use Rattle.rc_base.specs.declared.position.Pos.{Pos}
use Rattle.rc_base.specs.declared.position.Pos.TheVariants.{Entering}
use Rattle.rc_base.specs.Positions.{same_position}
use Rattle.rc_topology.specs.Links.{all_ids}
use Rattle.rc_walk.specs.declared.goal.Goal.{Goal}
use Rattle.rc_moves.specs.declared.walk.Move.{Move}
use Rattle.rc_moves.specs.declared.walk.Move.TheVariants.{Next, End}
use Rattle.rc_moves.specs.Moves.{DataPlane, moves}
use Rattle.rc_walk.specs.Search.{IsSearch, IsFirstEnd, NothingEnds, Lead}
use Rattle.rc_walk.specs.Goals.{is_met, is_met_by}
use Rattle.rc_walk.specs.Searching.{position_of, by_with, found_with, from_with, AreLinked, Entry, IsLed, IsUnderWay, WaysBack, at_first, further, leads_to, meets_by}
use Rattle.rc_moves.specs.Walks.{stands_in, last_position}
use Rattle.rc_moves.proofs.BoundLaws.{entries, steps_enter}
use Rattle.rc_walk.proofs.ChoiceLaws.{Along, reverse_more, next_at, in_moves}
use Rattle.rc_moves.proofs.PositionLaws.{same_position-Decides, same_position-laws}
use Rattle.rc_walk.proofs.SearchLaws.{as_first, as_later, first_or_later, none_of_none, goes_on, waits, comes_to_hand, ends_here, nothing_ends, sets_out}

-- ---- lists

-- what a list has at an index that it has, is its element by every default
pub index_is : (xs : List ℕ) (i x : ℕ) → i < length xs → x ≡ slice_index_or xs i x → slice_index xs i ≡ x
index_is [] i x less e = absurd (let wrong : ⊥ = omega arith in wrong)
index_is (y ∷ xs) zero x less e = sym e
index_is (y ∷ xs) (suc i) x less e = index_is xs i x (omega arith) e

abbrev pub spot : Entry → Pos
spot e = e.0

mapped : {A B : Type 0} (f : A → B) (xs : List A) (i : ℕ) (d : A) → slice_index_or (map f xs) i (f d) ≡ f (slice_index_or xs i d)
mapped f [] i d = refl
mapped f (x ∷ xs) zero d = refl
mapped f (x ∷ xs) (suc i) d = mapped f xs i d

-- an element that is there is found with every default
pub got : {A : Type 0} (xs : List A) (i : ℕ) (x d : A) → slice_get xs i ≡ Some x → slice_index_or xs i d ≡ x
got [] i x d e = absurd (cc)
got (y ∷ xs) zero x d e = cc
got (y ∷ xs) (suc i) x d e = got xs i x d e

pub get_there : {A : Type 0} (xs : List A) (i : ℕ) (d : A) → i < length xs → slice_get xs i ≡ Some (slice_index_or xs i d)
get_there [] i d less = absurd (let wrong : ⊥ = omega arith in wrong)
get_there (y ∷ xs) zero d less = refl
get_there (y ∷ xs) (suc i) d less = get_there xs i d (omega arith)

-- what was read at an index is there
pub get_read : {A : Type 0} (xs : List A) (i : ℕ) (x : A) → i < length xs → x ≡ slice_index_or xs i x → slice_get xs i ≡ Some x
get_read xs i x less e = get_there xs i x less ∙ ap Some (sym e)

pub get_seam : {A : Type 0} (xs : List A) (x : A) (ys : List A) → slice_get (xs ++ x ∷ ys) (length xs) ≡ Some x
get_seam [] x ys = refl
get_seam (y ∷ xs) x ys = get_seam xs x ys

get_past : {A : Type 0} (xs : List A) (i : ℕ) → length xs ≤ i → slice_get xs i ≡ None
get_past [] i long = refl
get_past (y ∷ xs) zero long = absurd (let wrong : ⊥ = omega arith in wrong)
get_past (y ∷ xs) (suc i) long = get_past xs i (omega arith)

-- a position that stands among those of the entries is that of one of them
stood : (all : List Entry) (t : Pos) → stands_in (map spot all) t ≡ true → (e : Entry) × Contains all e × (e.0 ≡ t)
stood [] t there = absurd (cc)
stood (x ∷ all) t there = by (same_position t x.0) refl there (stood all t)
  where
    by : (b : Bool) → same_position t x.0 ≡ b → (b || stands_in (map spot all) t) ≡ true → (stands_in (map spot all) t ≡ true → (e : Entry) × Contains all e × (e.0 ≡ t)) → (e : Entry) × Contains (x ∷ all) e × (e.0 ≡ t)
    by true same there rest = (x, as_first x all, sym ((same_position-Decides t x.0).0 same))
    by false same there rest = let (e, is, at) = rest there in (e, as_later x all e is, at)

apart : (all : List Entry) (t : Pos) → stands_in (map spot all) t ≡ false → (e : Entry) → Contains all e → e.0 ≡ t → ⊥
apart [] t none e is at = absurd (none_of_none e is)
apart (x ∷ all) t none e is at = by (same_position t x.0) refl none (apart all t)
  where
    by : (b : Bool) → same_position t x.0 ≡ b → (b || stands_in (map spot all) t) ≡ false → (stands_in (map spot all) t ≡ false → (f : Entry) → Contains all f → f.0 ≡ t → ⊥) → ⊥
    by true same none rest = absurd (cc)
    by false same none rest = ⊎_elim
        (λ first. let own : same_position t x.0 ≡ true = (same_position-Decides t x.0).1 (sym at ∙ ap spot (sym first)) in absurd (let wrong : ⊥ = cc (own, same) in wrong))
        (λ later. rest none e later at) (first_or_later x all e is)

abbrev pub no_entry : Pos → Entry
no_entry start = (start, [])

module _ {plane : DataPlane} {h : Header} {start : Pos} where
  kept_led : (all : List Entry) (n : Entry) (j from choice : ℕ) → j < length all → IsLed plane h start all j from choice → IsLed plane h start (all ++ n ∷ []) j from choice
  kept_led all n j from choice less l =
      let a : slice_index_or (all ++ n ∷ []) j (no_entry start) ≡ slice_index_or all j (no_entry start) = get_or_append_left all (n ∷ []) (no_entry start) j less in
      let b : slice_index_or (all ++ n ∷ []) from (no_entry start) ≡ slice_index_or all from (no_entry start) = get_or_append_left all (n ∷ []) (no_entry start) from (let e = l.earlier in omega arith) in
      record {
        earlier = l.earlier;
        choices = ap (λ (x : Entry). x.1) a ∙ l.choices ∙ ap (λ (x : Entry). choice ∷ x.1) (sym b);
        on = ap (λ (x : Entry). slice_get (moves plane h x.0) choice) b ∙ l.on ∙ ap (λ (x : Entry). Some (Next x.0)) (sym a);
      }

  new_led : (all : List Entry) (t : Pos) (here : Entry) (place c : ℕ) → place < length all → slice_index_or all place (no_entry start) ≡ here → slice_get (moves plane h here.0) c ≡ Some (Next t) → IsLed plane h start (all ++ (t, c ∷ here.1) ∷ []) (length all) place c
  new_led all t here place c less at on =
      let n : Entry = (t, c ∷ here.1) in
      let a : slice_index_or (all ++ n ∷ []) (length all) (no_entry start) ≡ n = get_or-append_seam all n [] (no_entry start) in
      let b : slice_index_or (all ++ n ∷ []) place (no_entry start) ≡ here = get_or_append_left all (n ∷ []) (no_entry start) place less ∙ at in
      record {
        earlier = less;
        choices = ap (λ (x : Entry). x.1) a ∙ ap (λ (x : Entry). c ∷ x.1) (sym b);
        on = ap (λ (x : Entry). slice_get (moves plane h x.0) c) b ∙ on ∙ ap (λ (x : Entry). Some (Next x.0)) (sym a);
      }

module _ {plane : DataPlane} {h : Header} {goal : Goal} {start : Pos} where
  -- the start alone
  pub begins : (found : List Pos) (from by : List ℕ) → found ≡ start ∷ [] → from ≡ 0 ∷ [] → by ≡ 0 ∷ [] → IsUnderWay plane h goal start found from by 0 0
  unfolding IsDistinct
  begins found from by one zeros more = record {
    done = [];
    here = (start, []);
    rest = [];
    search = sets_out (leads_to plane h) (meets_by plane h goal) start;
    at_place = refl;
    spots = sym one;
    once = subst (IsDistinct same_position) (sym one) (tt, tt);
    first = refl;
    as_many = ap length zeros ∙ sym (ap length one);
    as_many_by = ap length more ∙ sym (ap length one);
    led = λ j some low. absurd (let many : length found ≡ 1 = ap length one in let wrong : ⊥ = omega arith in wrong);
  }

  module _ {found : List Pos} {from by : List ℕ} {place c : ℕ} (u : IsUnderWay plane h goal start found from by place c) where
    abbrev all : List Entry
    all = u.done ++ u.here ∷ u.rest

    pub same_length : length all ≡ length found
    same_length = sym (length-map all spot) ∙ ap length u.spots

    pub long : length found ≡ length u.done + suc (length u.rest)
    long = sym same_length ∙ length-append u.done (u.here ∷ u.rest)

    pub place_fits : place < length found
    place_fits = let at : length u.done ≡ place = u.at_place in let l = long in omega arith

    at_entry : slice_index_or all place (no_entry start) ≡ u.here
    at_entry = ap (λ i. slice_index_or all i (no_entry start)) (sym u.at_place) ∙ get_or-append_seam u.done u.here u.rest (no_entry start)

    pub spot_of : (j : ℕ) → slice_index_or found j start ≡ (slice_index_or all j (no_entry start)).0
    spot_of j = ap (λ xs. slice_index_or xs j start) (sym u.spots) ∙ mapped spot all j (no_entry start)

    -- the position at the place
    pub here_is : slice_get found place ≡ Some u.here.0
    here_is = get_there found place start place_fits ∙ ap Some (spot_of place ∙ ap spot at_entry)

    -- ---- one choice more

    abbrev Later : List Pos → List ℕ → List ℕ → Type 0
    Later found' from' by' = (w : IsUnderWay plane h goal start found' from' by' place (suc c)) × (w.here ≡ u.here)

    -- one that leads nowhere new
    stays : meets_by plane h goal u.here.0 c ≡ false → ((t : Pos) → leads_to plane h u.here.0 c ≡ Some t → (e : Entry) × Contains all e × (e.0 ≡ t)) → Later found from by
    stays quiet known = (
      record {
        done = u.done;
        here = u.here;
        rest = u.rest;
        search = goes_on (leads_to plane h) (meets_by plane h goal) start u.done u.here u.rest c u.search quiet known;
        at_place = u.at_place;
        spots = u.spots;
        once = u.once;
        first = u.first;
        as_many = u.as_many;
        as_many_by = u.as_many_by;
        led = u.led;
      },
      refl,
    )

    past_end : (kind : Kind) → slice_get (moves plane h u.here.0) c ≡ Some (End kind) → is_met goal (End kind) ≡ false → Later found from by
    past_end kind at quiet =
        stays (ap (is_met_by goal) at ∙ quiet) (λ t on. absurd (let off : leads_to plane h u.here.0 c ≡ None = ap position_of at in let wrong : ⊥ = cc (on, off) in wrong))

    past_known : (t : Pos) → slice_get (moves plane h u.here.0) c ≡ Some (Next t) → is_met goal (Next t) ≡ false → stands_in found t ≡ true → Later found from by
    past_known t at quiet there =
        stays (ap (is_met_by goal) at ∙ quiet) (λ p on.
        let to : leads_to plane h u.here.0 c ≡ Some t = ap position_of at in
        let same : t ≡ p = cc (on, to) in
        let (e, is, here) = stood all t (subst (λ xs. stands_in xs t ≡ true) (sym u.spots) there) in
        (e, is, here ∙ same))

    led_more : (t : Pos) → slice_get (moves plane h u.here.0) c ≡ Some (Next t) → (j : ℕ) → 0 < j → j < length (found ++ t ∷ []) → IsLed plane h start (all ++ (t, c ∷ u.here.1) ∷ []) j (slice_index (from ++ place ∷ []) j) (slice_index (by ++ c ∷ []) j)
    led_more t on j some low =
        let new : Entry = (t, c ∷ u.here.1) in
        let fits = place_fits in
        let same = same_length in
        let many : length from ≡ length found = u.as_many in
        let many_by : length by ≡ length found = u.as_many_by in
        ⊎_elim (λ old.
        let at : slice_index (from ++ place ∷ []) j ≡ slice_index from j = get_or_append_left from (place ∷ []) 0 j (omega arith) in
        let at_by : slice_index (by ++ c ∷ []) j ≡ slice_index by j = get_or_append_left by (c ∷ []) 0 j (omega arith) in
        subst (λ i. IsLed plane h start (all ++ new ∷ []) j i (slice_index (by ++ c ∷ []) j)) (sym at) (subst (IsLed plane h start (all ++ new ∷ []) j (slice_index from j)) (sym at_by) (kept_led all new j (slice_index from j) (slice_index by j) (omega arith) (u.led j some old))))
        (λ high.
        let e : j ≡ length found = omega (arith, length-append found (t ∷ [])) in
        let f : length from ≡ j = omega arith in
        let k : length by ≡ j = omega arith in
        let g : length all ≡ j = omega arith in
        let at : slice_index (from ++ place ∷ []) j ≡ place = ap (λ i. slice_index (from ++ place ∷ []) i) (sym f) ∙ get_or-append_seam from place [] 0 in
        let at_by : slice_index (by ++ c ∷ []) j ≡ c = ap (λ i. slice_index (by ++ c ∷ []) i) (sym k) ∙ get_or-append_seam by c [] 0 in
        let led : IsLed plane h start (all ++ new ∷ []) (length all) place c = new_led all t u.here place c (omega arith) at_entry on in
        subst (λ i. IsLed plane h start (all ++ new ∷ []) j i (slice_index (by ++ c ∷ []) j)) (sym at) (subst (IsLed plane h start (all ++ new ∷ []) j place) (sym at_by) (subst (λ i. IsLed plane h start (all ++ new ∷ []) i place c) g led))) (cases_lt j (length found))

    past_new : (t : Pos) → slice_get (moves plane h u.here.0) c ≡ Some (Next t) → is_met goal (Next t) ≡ false → stands_in found t ≡ false → Later (found ++ t ∷ []) (from ++ place ∷ []) (by ++ c ∷ [])
    past_new t at quiet none =
        let new : Entry = (t, c ∷ u.here.1) in
        let more : u.done ++ u.here ∷ (u.rest ++ new ∷ []) ≡ all ++ new ∷ [] = sym (append_assoc u.done (u.here ∷ u.rest) (new ∷ [])) in
        let off : stands_in (map spot all) t ≡ false = subst (λ xs. stands_in xs t ≡ false) (sym u.spots) none in (
          record {
            done = u.done;
            here = u.here;
            rest = u.rest ++ new ∷ [];
            search = waits (leads_to plane h) (meets_by plane h goal) start u.done u.here u.rest c u.search t (ap position_of at) (ap (is_met_by goal) at ∙ quiet) (apart all t off);
            at_place = u.at_place;
            spots = ap (map spot) more ∙ map-append spot all (new ∷ []) ∙ ap (λ xs. xs ++ t ∷ []) u.spots;
            once = IsDistinct-push same_position-laws found t u.once none;
            first = ap (λ xs. slice_index_or xs 0 (no_entry start)) more ∙ get_or_append_left all (new ∷ []) (no_entry start) 0 (let f = place_fits in let l = same_length in omega arith) ∙ u.first;
            as_many = length-append from (place ∷ []) ∙ (let e : length from ≡ length found = u.as_many in let k : length from + 1 ≡ length found + 1 = omega arith in k) ∙ sym (length-append found (t ∷ []));
            as_many_by = length-append by (c ∷ []) ∙ (let e : length by ≡ length found = u.as_many_by in let k : length by + 1 ≡ length found + 1 = omega arith in k) ∙ sym (length-append found (t ∷ []));
            led = λ j some low. subst (λ xs. IsLed plane h start xs j (slice_index (from ++ place ∷ []) j) (slice_index (by ++ c ∷ []) j)) (sym more) (led_more t at j some low);
          },
          refl,
        )

    -- a move that isn't sought is looked at
    looked_at : (m : Move) → slice_get (moves plane h u.here.0) c ≡ Some m → is_met goal m ≡ false → Later (found_with found m) (from_with found from place m) (by_with found by c m)
    looked_at (End kind) at quiet = past_end kind at quiet
    looked_at (Next t) at quiet = choice (stands_in found t) refl
      where
        choice : (b : Bool) → stands_in found t ≡ b → Later (if b then found else found ++ t ∷ []) (if b then from else from ++ place ∷ []) (if b then by else by ++ c ∷ [])
        choice true there = past_known t at quiet there
        choice false off = past_new t at quiet off

    pub looked_on : (m : Move) → slice_get (moves plane h u.here.0) c ≡ Some m → is_met goal m ≡ false → (found' : List Pos) (from' by' : List ℕ) (k : ℕ) → found' ≡ found_with found m → from' ≡ from_with found from place m → by' ≡ by_with found by c m → k ≡ suc c → (w : IsUnderWay plane h goal start found' from' by' place k) × (w.here ≡ u.here)
    looked_on m at quiet found' from' by' k e f g n =
        let P : List Pos → List ℕ → List ℕ → ℕ → Type 0 = λ xs ys zs i. (w : IsUnderWay plane h goal start xs ys zs place i) × (w.here ≡ u.here) in
        subst (λ i. P found' from' by' i) (sym n) (subst (λ xs. P xs from' by' (suc c)) (sym e) (subst (λ ys. P (found_with found m) ys by' (suc c)) (sym f) (subst (λ zs. P (found_with found m) (from_with found from place m) zs (suc c)) (sym g) (looked_at m at quiet))))

    -- ---- from position to position

    pub at_end : (k : ℕ) → length (moves plane h u.here.0) ≤ k → (meets_by plane h goal u.here.0 k ≡ false) × (leads_to plane h u.here.0 k ≡ None)
    at_end k past =
        let none : slice_get (moves plane h u.here.0) k ≡ None = get_past (moves plane h u.here.0) k past in
        (ap (is_met_by goal) none, ap position_of none)

    -- nothing waits
    pub no_more : place + 1 ≡ length found → length (moves plane h u.here.0) ≤ c → NothingEnds (leads_to plane h) (meets_by plane h goal) start
    no_more e past = rests u.rest refl
      where
        rests : (rest : List Entry) → u.rest ≡ rest → NothingEnds (leads_to plane h) (meets_by plane h goal) start
        rests [] none =
            nothing_ends (leads_to plane h) (meets_by plane h goal) start u.done u.here c (subst (λ r. IsSearch (leads_to plane h) (meets_by plane h goal) start u.done u.here r c) none u.search) (λ d low. at_end d (omega arith))
        rests (x ∷ xs) some =
            let many : length found ≡ length u.done + suc (suc (length xs)) = long ∙ ap (λ r. length u.done + suc (length r)) some in
            let at : length u.done ≡ place = u.at_place in
            absurd (let wrong : ⊥ = omega arith in wrong)

    -- the next comes to hand
    pub next_place : place + 1 < length found → length (moves plane h u.here.0) ≤ c → IsUnderWay plane h goal start found from by (place + 1) 0
    next_place less past = rests u.rest refl
      where
        rests : (rest : List Entry) → u.rest ≡ rest → IsUnderWay plane h goal start found from by (place + 1) 0
        rests [] none =
            let many : length found ≡ length u.done + suc 0 = long ∙ ap (λ r. length u.done + suc (length r)) none in
            let at : length u.done ≡ place = u.at_place in
            absurd (let wrong : ⊥ = omega arith in wrong)
        rests (x ∷ xs) some =
            let s : IsSearch (leads_to plane h) (meets_by plane h goal) start u.done u.here (x ∷ xs) c = subst (λ r. IsSearch (leads_to plane h) (meets_by plane h goal) start u.done u.here r c) some u.search in
            let same : all ≡ (u.done ++ u.here ∷ []) ++ x ∷ xs = ap (λ r. u.done ++ u.here ∷ r) some ∙ sym (append_assoc u.done (u.here ∷ []) (x ∷ xs)) in
            record {
              done = u.done ++ u.here ∷ [];
              here = x;
              rest = xs;
              search = comes_to_hand (leads_to plane h) (meets_by plane h goal) start u.done u.here x xs c s (λ d low. at_end d (omega arith));
              at_place = length-append u.done (u.here ∷ []) ∙ (let at : length u.done ≡ place = u.at_place in let e : length u.done + 1 ≡ place + 1 = omega arith in e);
              spots = ap (map spot) (sym same) ∙ u.spots;
              once = u.once;
              first = ap (λ ys. slice_index_or ys 0 (no_entry start)) (sym same) ∙ u.first;
              as_many = u.as_many;
              as_many_by = u.as_many_by;
              led = λ j low high. subst (λ ys. IsLed plane h start ys j (slice_index from j) (slice_index by j)) same (u.led j low high);
            }

    -- the first choice that ends as asked
    pub found_first : meets_by plane h goal u.here.0 c ≡ true → IsFirstEnd (leads_to plane h) (meets_by plane h goal) start u.here.1 u.here.0 c
    found_first e = ends_here (leads_to plane h) (meets_by plane h goal) start u.done u.here u.rest c u.search e

    -- ---- the positions found are no more than the network's

    enters : (e : Entry) → Lead (leads_to plane h) start e.1 e.0 → list_any (same_position e.0) (start ∷ entries plane.links) ≡ true
    enters (p, []) lead = first_true (same_position p start) (list_any (same_position p) (entries plane.links)) ((same_position-Decides p start).1 (sym lead))
      where
        first_true : (a b : Bool) → a ≡ true → (a || b) ≡ true
        first_true true b e = refl
        first_true false b e = absurd (cc)
    enters (p, c ∷ cs) (q, lead, on) =
        let there = in_moves plane h (moves plane h q) c (Next p) (next_at plane h q p c on) in
        let inside = All-head (Contains (entries plane.links)) p [] (steps_enter plane h q (p ∷ []) (there, tt)) in
        second_true (same_position p start) (list_any (same_position p) (entries plane.links)) ((is_member-Decides same_position-Decides (entries plane.links) p).1 inside)
      where
        second_true : (a b : Bool) → b ≡ true → (a || b) ≡ true
        second_true true b e = refl
        second_true false b e = e

    pub few_found : length found ≤ 1 + length (all_ids plane.links)
    few_found =
        let among : (q : Pos) → list_any (same_position q) found ≡ true → list_any (same_position q) (start ∷ entries plane.links) ≡ true = λ q told.
        let (e, is, at) = stood all q (subst (λ xs. stands_in xs q ≡ true) (sym u.spots) told) in
        subst (λ x. list_any (same_position x) (start ∷ entries plane.links) ≡ true) at (enters e (u.search.lead e is)) in
        let few : length found ≤ length (start ∷ entries plane.links) = length-le_from_is_member same_position-laws found (start ∷ entries plane.links) u.once among in
        omega (arith, few, length-map (all_ids plane.links) Entering)

    -- ---- the way back

    pub linked : AreLinked found from
    linked j some low = (u.led j some low).earlier

    pub record IsWay (entry : Entry) (back : List Pos) (choices : List ℕ) : Type 0 where
      pub steps : List Pos
      pub positions : reverse back ≡ start ∷ steps
      pub chosen : choices ≡ entry.1
      pub along : Along plane h start entry.1 steps
      pub last : last_position start steps ≡ entry.0

    passes : (j : ℕ) (ps : List Pos) (cs : List ℕ) → WaysBack found from by j ps cs → j < length found → IsWay (slice_index_or all j (no_entry start)) ps cs
    passes j ps cs (at_first {p = p} at) low =
        let here : p ≡ start = sym (got found 0 p start at) ∙ spot_of 0 ∙ ap spot u.first in
        record {
          steps = [];
          positions = ap (λ x. x ∷ []) here;
          chosen = ap (λ (e : Entry). e.1) (sym u.first);
          along = subst (λ (e : Entry). Along plane h start e.1 []) (sym u.first) refl;
          last = ap spot (sym u.first);
        }
    passes j ps cs (further {p = p} {ps = rest} {cs = choices} some at back) low =
        let l = u.led j some low in
        let w = passes (slice_index from j) rest choices back (let e : slice_index from j < j = l.earlier in omega arith) in
        let here : p ≡ (slice_index_or all j (no_entry start)).0 = sym (got found j p start at) ∙ spot_of j in
        let on : slice_get (moves plane h (last_position start w.steps)) (slice_index by j) ≡ Some (Next p) = ap (λ q. slice_get (moves plane h q) (slice_index by j)) w.last ∙ l.on ∙ ap (λ q. Some (Next q)) (sym here) in
        record {
          steps = w.steps ++ p ∷ [];
          positions = reverse_more p rest ∙ ap (λ xs. xs ++ p ∷ []) w.positions;
          chosen = ap (λ xs. slice_index by j ∷ xs) w.chosen ∙ sym l.choices;
          along = subst (λ ds. Along plane h start ds (w.steps ++ p ∷ [])) (sym l.choices) (p, w.steps, refl, w.along, on);
          last = last_behind w.steps start p ∙ here;
        }
      where
        last_behind : (us : List Pos) (q t : Pos) → last_position q (us ++ t ∷ []) ≡ t
        last_behind [] q t = refl
        last_behind (x ∷ us) q t = last_behind us x t

    pub passes_to : (j : ℕ) (back : List Pos) (choices : List ℕ) → j < length found → WaysBack found from by j back choices → IsWay (slice_index_or all j (no_entry start)) back choices
    passes_to j back choices low way = passes j back choices way low

    pub passes_here : (back : List Pos) (choices : List ℕ) → WaysBack found from by place back choices → IsWay u.here back choices
    passes_here back choices way = subst (λ e. IsWay e back choices) at_entry (passes place back choices way place_fits)
