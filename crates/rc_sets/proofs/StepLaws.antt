-- One step of building: the routes are parted by a bit, and the sides are joined.
use Rattle.std.proofs.Common.{◌≡◌, ◌≢◌, ℕ, ◌+◌, ◌<◌, ◌≤◌, ◌==◌, Bool, true, false, not, ◌&&◌, cond, refl, sym, ap, subst, ◌∙◌, arith, eqb-true, List, [], ◌∷◌, ◌++◌, length, take, drop, add-one, Result, Ok, Err, IfOk}
use Rattle.std.specs.List.{AllByRecursion, list_all}
use Rattle.std.specs.Bool.{beq}
use Rattle.std.specs.List.Sorted.{IsPartitionedBy, IsPartitionPoint}
use Rattle.std.proofs.lemmas.List.{drop-map, length-map, take-map, take-append-drop}
use Rattle.rc_base.specs.Prefix.{Cidr}
use Rattle.rc_trees.specs.Trees.{Tree}
use Rattle.rc_nodes.specs.Seats.{TableView, SeatView, SeatKnows}
use Rattle.rc_nodes.specs.declared.words.Ref.{Ref}
use Rattle.rc_nodes.specs.declared.table.Full.{Full}
use Rattle.rc_trees.specs.Trees.{HasNodesOf}
use Rattle.rc_bdd.specs.Work.{MayBranch}
use Rattle.rc_trees.specs.Combine.{joined, constant}
use Rattle.rc_trees.specs.Trees.{low_side, high_side}
use Rattle.rc_sets.proofs.LeadLaws.{with_bit}
use Rattle.rc_trees.proofs.SideLaws.{low_top, high_top, joined_low, joined_high, rejoined}
use Rattle.rc_sets.specs.Marks.{Mark, address_bit, prefixes, giving, AreOn, IsSetOf, IsHopSet, MayBuild, known_at, prefixes_below, decided, held}
use Rattle.rc_sets.proofs.BuildLaws.{AreBelow, IsBelow, rest_below, rest_set, short, nothing_left, parted, front_all, behind_all, low_on, high_on, low_set, high_set, own_known, own_rest}
use Rattle.rc_sets.proofs.GivenLaws.{all_prefixes, all_given, all_marks, rises_prefixes, rises_given, routes_below, known_is, given_below, each_gives, none_gives, given-append, one_place}

-- the routes of a way, without that of the way itself, the prefixes of those that give the hop, and the set that they decide
pub record IsPart (d : ℕ) (known : Bool) (rest left : List Cidr) (t : Tree) : Type 0 where
  pub marked : List Mark
  pub way : ℕ → Bool
  pub routes : rest ≡ prefixes marked
  pub given : left ≡ giving marked
  pub below : AreBelow d way marked
  pub set : IsSetOf d way known marked t

pub part_of : (d : ℕ) (known : Bool) (rs gs : List Cidr) (t : Tree) → IsHopSet d known rs gs t → (k : Bool) → k ≡ known_at d known rs gs → (rest : List Cidr) → rest ≡ prefixes_below d rs → (left : List Cidr) → left ≡ prefixes_below d gs → IsPart d k rest left t
part_of d known rs gs t s k ek rest er left el =
    let decides : k ≡ own_known d known s.marked = ek ∙ (λ i. known_at d known (s.are_routes i) (s.are_given i)) ∙ known_is d s.way known s.marked s.on in
    record {
      marked = own_rest d s.marked;
      way = s.way;
      routes = er ∙ ap (prefixes_below d) s.are_routes ∙ routes_below d s.marked;
      given = el ∙ ap (prefixes_below d) s.are_given ∙ given_below d s.way s.marked s.on;
      below = rest_below d s.way s.marked s.on;
      set = subst (λ b. IsSetOf d s.way b (own_rest d s.marked) t) (sym decides) (rest_set d s.way known s.marked t s.on s.set);
    }

pub and_true : (a b : Bool) → (a && b) ≡ true → (a ≡ true) × (b ≡ true)
and_true true true e = (refl, refl)
and_true true false e = absurd (cc e)
and_true false b e = absurd (cc e)

-- marks that say what is known without them change nothing
says_same : (b gives known : Bool) → beq gives known ≡ true → cond b gives known ≡ known
says_same true true true e = refl
says_same true false false e = refl
says_same true true false e = absurd (cc e)
says_same true false true e = absurd (cc e)
says_same false gives known e = refl

pub decided_same : (known : Bool) (ms : List Mark) (bits : ℕ → Bool) → list_all (λ (m : Mark). beq m.gives known) ms ≡ true → decided known ms bits ≡ known
decided_same known [] bits e = refl
decided_same known (m ∷ ms) bits e =
    let (here, later) = and_true (beq m.gives known) (list_all (λ (n : Mark). beq n.gives known) ms) e in
    ap (λ b. decided b ms bits) (says_same (held bits m) m.gives known here) ∙ decided_same known ms bits later

-- ---- whether routes are left that say otherwise

each_says : (known : Bool) (ms : List Mark) → length (giving ms) ≡ cond known (length ms) 0 → list_all (λ (m : Mark). beq m.gives known) ms ≡ true
each_says true ms same = each_gives ms same
each_says false ms same = none_gives ms same

module _ {d : ℕ} {known : Bool} {rest left : List Cidr} {t : Tree} (p : IsPart d known rest left t) where
  pub as_many : length p.marked ≡ length rest
  as_many = sym (length-map p.marked (λ (m : Mark). m.prefix)) ∙ ap length (sym p.routes)

  -- where so many of them give the hop, each says the same
  pub all_say : (b : Bool) → (length left == cond b (length rest) 0) ≡ true → list_all (λ (m : Mark). beq m.gives b) p.marked ≡ true
  all_say b e = each_says b p.marked (ap length (sym p.given) ∙ eqb-true (length left) (cond b (length rest) 0) e ∙ ap (λ n. cond b n 0) (sym as_many))

pub settled_part : (d : ℕ) (known : Bool) (rest left : List Cidr) (t : Tree) → IsPart d known rest left t → (length left == cond known (length rest) 0) ≡ true → t ≡ constant known
settled_part d known rest left t p e = nothing_left d p.way known t (record {
  reduced = p.set.reduced;
  above = p.set.above;
  values = λ bits on. p.set.values bits on ∙ decided_same known p.marked bits (all_say p known e);
})

none_is_settled : (known : Bool) → (0 == cond known 0 0) ≡ true
none_is_settled true = refl
none_is_settled false = refl

no_marks : (ms : List Mark) → prefixes ms ≡ [] → ms ≡ []
no_marks [] none = refl
no_marks (m ∷ ms) none = absurd (cc none)

pub is_something : (d : ℕ) (known : Bool) (rest left : List Cidr) (t : Tree) → IsPart d known rest left t → (b : Bool) → b ≡ (length left == cond known (length rest) 0) → b ≡ false → rest ≢ []
is_something d known rest left t p b e f none =
    let nothing : left ≡ [] = p.given ∙ ap giving (no_marks p.marked (sym p.routes ∙ none)) in
    let same : (length left == cond known (length rest) 0) ≡ (0 == cond known 0 0) = (λ i. length (nothing i) == cond known (length (none i)) 0) in
    let clash : true ≡ false = sym (e ∙ same ∙ none_is_settled known) ∙ f in
    absurd (cc clash)

module _ {d : ℕ} {known : Bool} {rest left : List Cidr} {t : Tree} (p : IsPart d known rest left t) (some : rest ≢ []) where
  pub is_short : d < 32
  is_short = short d p.way p.marked p.below (λ none. some (p.routes ∙ ap prefixes none))

  pub turns : IsPartitionedBy (λ (g : Cidr). not (address_bit g.network d)) rest
  turns = subst (IsPartitionedBy (λ (g : Cidr). not (address_bit g.network d))) (sym p.routes)
      (parted d p.way is_short (prefixes p.marked) (all_prefixes (IsBelow d p.way) p.marked p.below.all) (rises_prefixes p.marked p.below.rises))

  pub given_turns : IsPartitionedBy (λ (g : Cidr). not (address_bit g.network d)) left
  given_turns = subst (IsPartitionedBy (λ (g : Cidr). not (address_bit g.network d))) (sym p.given)
      (parted d p.way is_short (giving p.marked) (all_given (IsBelow d p.way) p.marked p.below.all) (rises_given p.marked p.below.rises))

abbrev Zero : ℕ → Cidr → Type 0
Zero d g = address_bit g.network d ≡ false

abbrev One : ℕ → Cidr → Type 0
One d g = address_bit g.network d ≡ true

apart : (d : ℕ) (g : Cidr) → Zero d g → One d g → ⊥
apart d g zero one = let clash : false ≡ true = sym zero ∙ one in absurd (cc clash)

-- where the routes and the prefixes are parted
pub record ArePoints (d : ℕ) (rest left : List Cidr) (n m : ℕ) : Type 0 where
  pub within : n ≤ length rest
  pub point : IsPartitionPoint (Zero d) (One d) rest n
  pub given_within : m ≤ length left
  pub given_point : IsPartitionPoint (Zero d) (One d) left m

-- the parts on both sides
pub record AreSides (rest left : List Cidr) (n m : ℕ) (front back given_front given_back : List Cidr) : Type 0 where
  pub front_is : front ≡ take n rest
  pub back_is : back ≡ drop n rest
  pub given_front_is : given_front ≡ take m left
  pub given_back_is : given_back ≡ drop m left

module _ {d : ℕ} {known : Bool} {rest left : List Cidr} {t : Tree} (p : IsPart d known rest left t) (some : rest ≢ []) {n m : ℕ} (at : ArePoints d rest left n m)
    {front back given_front given_back : List Cidr} (sides : AreSides rest left n m front back given_front given_back) where
  abbrev ms : List Mark
  ms = p.marked

  abbrev way : ℕ → Bool
  way = p.way

  front_routes : take n rest ≡ prefixes (take n ms)
  front_routes = ap (take n) p.routes ∙ take-map (λ (k : Mark). k.prefix) n ms

  back_routes : drop n rest ≡ prefixes (drop n ms)
  back_routes = ap (drop n) p.routes ∙ drop-map (λ (k : Mark). k.prefix) n ms

  zeros : AllByRecursion (λ (k : Mark). Zero d k.prefix) (take n ms)
  zeros = all_marks (Zero d) (take n ms) (subst (AllByRecursion (Zero d)) front_routes (front_all (Zero d) n rest at.within at.point.0))

  ones : AllByRecursion (λ (k : Mark). One d k.prefix) (drop n ms)
  ones = all_marks (One d) (drop n ms) (subst (AllByRecursion (One d)) back_routes (behind_all (One d) n rest at.point.1))

  both : left ≡ giving (take n ms) ++ giving (drop n ms)
  both = p.given ∙ ap giving (sym (take-append-drop n ms)) ∙ given-append (take n ms) (drop n ms)

  place : (take m left ≡ giving (take n ms)) × (drop m left ≡ giving (drop n ms))
  place =
      let low : AllByRecursion (Zero d) (take m left) = front_all (Zero d) m left at.given_within at.given_point.0 in
      let high : AllByRecursion (One d) (drop m left) = behind_all (One d) m left at.given_point.1 in
      let (before, after) = one_place (Zero d) (One d) (apart d) m (giving (take n ms)) (giving (drop n ms)) (all_given (Zero d) (take n ms) zeros) (all_given (One d) (drop n ms) ones)
      (subst (λ gs. AllByRecursion (Zero d) (take m gs)) both low) (subst (λ gs. AllByRecursion (One d) (drop m gs)) both high) in
      (ap (take m) both ∙ before, ap (drop m) both ∙ after)

  pub low_part : IsHopSet (d + 1) known front given_front (low_side d t)
  low_part = record {
    marked = take n ms;
    way = with_bit way d false;
    are_routes = sides.front_is ∙ front_routes;
    are_given = sides.given_front_is ∙ place.0;
    on = subst (λ k. AreOn k (with_bit way d false) (take n ms)) (sym (add-one d)) (low_on d way known ms t p.below p.set (is_short p some) n zeros ones);
    set = subst (λ k. IsSetOf k (with_bit way d false) known (take n ms) (low_side d t)) (sym (add-one d)) (low_set d way known ms t p.below p.set (is_short p some) n zeros ones);
  }

  pub high_part : IsHopSet (d + 1) known back given_back (high_side d t)
  high_part = record {
    marked = drop n ms;
    way = with_bit way d true;
    are_routes = sides.back_is ∙ back_routes;
    are_given = sides.given_back_is ∙ place.1;
    on = subst (λ k. AreOn k (with_bit way d true) (drop n ms)) (sym (add-one d)) (high_on d way known ms t p.below p.set (is_short p some) n zeros ones);
    set = subst (λ k. IsSetOf k (with_bit way d true) known (drop n ms) (high_side d t)) (sym (add-one d)) (high_set d way known ms t p.below p.set (is_short p some) n zeros ones);
  }

  again : joined d (low_side d t) (high_side d t) ≡ t
  again = let s = is_short p some in rejoined d t p.set.reduced (omega arith) p.set.above

  module _ (may : List Tree) (allowed : HasNodesOf may t) where
    may_sides : HasNodesOf may (joined d (low_side d t) (high_side d t))
    may_sides = subst (HasNodesOf may) (sym again) allowed

    pub may_low : MayBuild may (d + 1) known front given_front
    may_low = record { tree = low_side d t; set = low_part; allowed = joined_low may d (low_side d t) (high_side d t) may_sides }

    pub may_high : MayBuild may (d + 1) known back given_back
    may_high = record { tree = high_side d t; set = high_part; allowed = joined_high may d (low_side d t) (high_side d t) may_sides }

  -- what the calls on the sides have made
  module _ (seat : SeatView) (lo hi : ℕ) (low : (u : Tree) → IsHopSet (d + 1) known front given_front u → SeatKnows seat lo u) (high : (u : Tree) → IsHopSet (d + 1) known back given_back u → SeatKnows seat hi u) where
    pub may_branch : (nodes : TableView) → HasNodesOf nodes.may t → MayBranch nodes seat d lo hi
    may_branch nodes allowed = let s = is_short p some in record {
      bit = omega arith;
      low = low_side d t;
      high = high_side d t;
      knows_low = low (low_side d t) low_part;
      knows_high = high (high_side d t) high_part;
      rises_low = low_top d t p.set.reduced (omega arith) p.set.above;
      rises_high = high_top d t p.set.reduced (omega arith) p.set.above;
      allowed = may_sides nodes.may allowed;
    }

    pub known_result : (last : SeatView) (r : ℕ) → ((l h : Tree) → SeatKnows seat lo l → SeatKnows seat hi h → SeatKnows last r (joined d l h)) → SeatKnows last r t
    known_result last r joined = subst (SeatKnows last r) again (joined (low_side d t) (high_side d t) (low (low_side d t) low_part) (high (high_side d t) high_part))

-- the whole contract of the step, from that of the join
pub built_result : (d : ℕ) (known : Bool) (rs gs : List Cidr) (k : Bool) → k ≡ known_at d known rs gs → (rest : List Cidr) → rest ≡ prefixes_below d rs → (left : List Cidr) → left ≡ prefixes_below d gs → rest ≢ [] → (n m : ℕ)
    → ArePoints d rest left n m → (front back given_front given_back : List Cidr) → AreSides rest left n m front back given_front given_back → (seat last : SeatView) (lo hi : ℕ)
    → ((u : Tree) → IsHopSet (d + 1) k front given_front u → SeatKnows seat lo u)
    → ((u : Tree) → IsHopSet (d + 1) k back given_back u → SeatKnows seat hi u)
    → (result : Result Ref Full) → IfOk result (λ r. (l h : Tree) → SeatKnows seat lo l → SeatKnows seat hi h → SeatKnows last r.index (joined d l h))
    → IfOk result (λ r. (t : Tree) → IsHopSet d known rs gs t → SeatKnows last r.index t)
built_result d known rs gs k ek rest er left el some n m at front back given_front given_back sides seat last lo hi low high (Ok r) joined = λ t s.
    known_result (part_of d known rs gs t s k ek rest er left el) some at sides seat lo hi low high last r.index joined
built_result d known rs gs k ek rest er left el some n m at front back given_front given_back sides seat last lo hi low high (Err e) joined = tt
