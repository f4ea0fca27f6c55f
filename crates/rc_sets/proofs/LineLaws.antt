-- What the making of an access list's set asks and gives.
use Rattle.std.proofs.Common.{refl, ◌≡◌, ap, sym, ◌∙◌, subst, ℕ, zero, suc, ◌+◌, ◌^◌, ◌<◌, ◌≤◌, cond, List, [], ◌∷◌, ◌++◌, length, take, drop, get_or, Option, Some, None, Result, Ok, Err, IfOk, arith}
use Rattle.std.specs.List.{fold}
use Rattle.std.proofs.lemmas.Bool.{lt-ltb}
use Rattle.rc_base.specs.Header.{last_bit}
use Rattle.rc_base.specs.declared.field.Field.TheVariants.{Dst, Src, Proto, Sport, Dport, IcmpType, IcmpCode}
use Rattle.rc_config.specs.declared.access_list.Action.{Action}
use Rattle.rc_config.specs.declared.access_list.Action.TheVariants.{Permit, Deny}
use Rattle.rc_config.specs.declared.access_list.AccessListLine.{AccessListLine}
use Rattle.rc_config.specs.declared.access_list.FurtherTest.{FurtherTest}
use Rattle.rc_config.specs.declared.access_list.FurtherTest.TheVariants as further
use Rattle.rc_config.specs.declared.access_list.PortTest.{PortTest}
use Rattle.rc_config.specs.declared.access_list.PortTest.TheVariants.{Any, Equal, NotEqual, Below, Above, Within}
use Rattle.rc_config.specs.declared.access_list.ProtocolTest.{ProtocolTest}
use Rattle.rc_config.specs.declared.access_list.ProtocolTest.TheVariants as protocols
use Rattle.rc_trees.specs.Trees.{Tree, never, always, HasNodes, HasNodesOf}
use Rattle.rc_trees.specs.Combine as trees
use Rattle.rc_trees.specs.Fields.{masked, exact}
use Rattle.rc_trees.specs.Recipes.{Recipe, given, and, or, minus, parts, tree, union_of, Uses}
use Rattle.rc_trees.proofs.NodeLaws.{has_recipe}
use Rattle.rc_trees.proofs.PartLaws.{and-first, and-second, or-first, or-second, minus-first, minus-second, fold-step}
use Rattle.rc_nodes.specs.Seats.{TableView, SeatView, SeatKnows}
use Rattle.rc_nodes.specs.declared.words.Ref.{Ref}
use Rattle.rc_nodes.proofs.KnownLaws.{knows_never, knows_always}
use Rattle.rc_bdd.specs.Work.{MayCombine}
use Rattle.rc_bdd.specs.declared.work.SetError.{SetError}
use Rattle.rc_sets.specs.AccessLists.{protocol_set, address_set, port_set, established, type_set, code_of, code_set, flag_set, way_set, line_set, with_line, lines_set}
use Rattle.rc_sets.specs.Builds.{MayAdd}
use Rattle.rc_sets.specs.Intervals.{IsPort, between}
use Rattle.rc_sets.proofs.IntervalLaws.{below_is, above_is, within_is}

-- ---- numbers

pub is_exact : (last count n : ℕ) → n < 2 ^ count → masked last count 0 n ≡ exact last count n
is_exact last count n less = ap (λ b. cond b (masked last count 0 n) never) (sym (lt-ltb n (2 ^ count) less))

-- ---- operations on known sets

pub piece : (may : List Tree) (whole r : Recipe) → Uses whole r → HasNodes may (parts whole) → HasNodes may (parts r)
piece may whole r uses has x there is = has x (uses x there) is

module _ (nodes : TableView) (seat : SeatView) (a b : ℕ) (r s : Recipe) (knows_left : SeatKnows seat a (tree r)) (knows_right : SeatKnows seat b (tree s)) where
  pub may_and : HasNodes nodes.may (parts (and r s)) → MayCombine nodes seat trees.and a b
  may_and has = record { left = tree r; right = tree s; knows_left = knows_left; knows_right = knows_right; allowed = has_recipe nodes.may (and r s) has }

  pub may_or : HasNodes nodes.may (parts (or r s)) → MayCombine nodes seat trees.or a b
  may_or has = record { left = tree r; right = tree s; knows_left = knows_left; knows_right = knows_right; allowed = has_recipe nodes.may (or r s) has }

  pub may_minus : HasNodes nodes.may (parts (minus r s)) → MayCombine nodes seat trees.minus a b
  may_minus has = record { left = tree r; right = tree s; knows_left = knows_left; knows_right = knows_right; allowed = has_recipe nodes.may (minus r s) has }

-- ---- one of some ports

module _ (last : ℕ) where
  abbrev pub alone : ℕ → Recipe
  alone n = given (exact last 16 n)

  abbrev pub joined : List ℕ → Recipe
  joined ports = union_of alone ports

  split : (xs : List ℕ) (k d : ℕ) → k < length xs → xs ≡ take k xs ++ get_or xs k d ∷ drop (suc k) xs
  split [] k d less = absurd (omega arith)
  split (x ∷ xs) zero d less = refl
  split (x ∷ xs) (suc k) d less = ap (λ ys. x ∷ ys) (split xs k d (omega arith))

  taken : (xs : List ℕ) (k d : ℕ) → k < length xs → take (suc k) xs ≡ take k xs ++ get_or xs k d ∷ []
  taken [] k d less = absurd (omega arith)
  taken (x ∷ xs) zero d less = refl
  taken (x ∷ xs) (suc k) d less = ap (λ ys. x ∷ ys) (taken xs k d (omega arith))

  one_more : (r : Recipe) (xs : List ℕ) (y : ℕ) → fold (λ s x. or s (alone x)) r (xs ++ y ∷ []) ≡ or (fold (λ s x. or s (alone x)) r xs) (alone y)
  one_more r [] y = refl
  one_more r (x ∷ xs) y = one_more (or r (alone x)) xs y

  module _ (ports : List ℕ) (k d : ℕ) (less : k < length ports) where
    pub uses_step : Uses (joined ports) (or (joined (take k ports)) (alone (get_or ports k d)))
    uses_step = subst (λ xs. Uses (joined xs) (or (joined (take k ports)) (alone (get_or ports k d)))) (sym (split ports k d less)) (fold-step alone (given never) (take k ports) (get_or ports k d) (drop (suc k) ports))

    pub step_is : trees.or (tree (joined (take k ports))) (exact last 16 (get_or ports k d)) ≡ tree (joined (take (k + 1) ports))
    step_is =
        ap tree (sym (one_more (given never) (take k ports) (get_or ports k d)))
        ∙ ap (λ xs. tree (joined xs)) (sym (taken ports k d less))
        ∙ ap (λ n. tree (joined (take n ports))) (let e : suc k ≡ k + 1 = omega arith in e)

  take-whole : (k : ℕ) (xs : List ℕ) → length xs ≤ k → take k xs ≡ xs
  take-whole zero [] le = refl
  take-whole zero (x ∷ xs) le = absurd (omega arith)
  take-whole (suc k) [] le = refl
  take-whole (suc k) (x ∷ xs) le = ap (λ ys. x ∷ ys) (take-whole k xs (omega arith))

  pub all_joined : (k : ℕ) (ports : List ℕ) → length ports ≤ k → tree (joined (take k ports)) ≡ tree (joined ports)
  all_joined k ports le = ap (λ xs. tree (joined xs)) (take-whole k ports le)

-- ---- a line

module _ (l : AccessListLine) where
  abbrev pub protocol : Recipe
  protocol = protocol_set l.protocol

  abbrev pub source : Recipe
  source = address_set (last_bit Src) l.source

  abbrev pub source_port : Recipe
  source_port = port_set (last_bit Sport) l.source_port

  abbrev pub destination : Recipe
  destination = address_set (last_bit Dst) l.destination

  abbrev pub destination_port : Recipe
  destination_port = port_set (last_bit Dport) l.destination_port

  abbrev pub sources : Recipe
  sources = and protocol source

  abbrev pub senders : Recipe
  senders = and sources source_port

  abbrev pub ways : Recipe
  ways = and senders destination

  abbrev pub whole : Recipe
  whole = and ways destination_port

  pub way_is : way_set l ≡ whole
  way_is = refl

  module _ (may : List Tree) (has : HasNodes may (parts (way_set l))) where
    pub has_whole : HasNodes may (parts whole)
    has_whole = subst (λ (r : Recipe). HasNodes may (parts r)) way_is has

    pub has_ways : HasNodes may (parts ways)
    has_ways = piece may whole ways (and-first ways destination_port) has_whole

    pub has_destination_port : HasNodes may (parts destination_port)
    has_destination_port = piece may whole destination_port (and-second ways destination_port) has_whole

    pub has_senders : HasNodes may (parts senders)
    has_senders = piece may ways senders (and-first senders destination) has_ways

    pub has_destination : HasNodes may (parts destination)
    has_destination = piece may ways destination (and-second senders destination) has_ways

    pub has_sources : HasNodes may (parts sources)
    has_sources = piece may senders sources (and-first sources source_port) has_senders

    pub has_source_port : HasNodes may (parts source_port)
    has_source_port = piece may senders source_port (and-second sources source_port) has_senders

    pub has_protocol : HasNodes may (parts protocol)
    has_protocol = piece may sources protocol (and-first protocol source) has_sources

    pub has_source : HasNodes may (parts source)
    has_source = piece may sources source (and-second protocol source) has_sources

  -- ---- and what the line tests behind its ports
  abbrev pub typed : Recipe
  typed = and (way_set l) (type_set l.further)

  abbrev pub coded : Recipe
  coded = and typed (code_set l.further)

  abbrev pub flagged : Recipe
  flagged = and coded (flag_set l.further)

  pub line_is : line_set l ≡ flagged
  unfolding line_set
  line_is = refl

  module _ (may : List Tree) (has : HasNodes may (parts (line_set l))) where
    pub has_flagged : HasNodes may (parts flagged)
    has_flagged = subst (λ (r : Recipe). HasNodes may (parts r)) line_is has

    pub has_coded : HasNodes may (parts coded)
    has_coded = piece may flagged coded (and-first coded (flag_set l.further)) has_flagged

    pub has_flags : HasNodes may (parts (flag_set l.further))
    has_flags = piece may flagged (flag_set l.further) (and-second coded (flag_set l.further)) has_flagged

    pub has_typed : HasNodes may (parts typed)
    has_typed = piece may coded typed (and-first typed (code_set l.further)) has_coded

    pub has_code : HasNodes may (parts (code_set l.further))
    has_code = piece may coded (code_set l.further) (and-second typed (code_set l.further)) has_coded

    pub has_way : HasNodes may (parts (way_set l))
    has_way = piece may typed (way_set l) (and-first (way_set l) (type_set l.further)) has_typed

    pub has_type : HasNodes may (parts (type_set l.further))
    has_type = piece may typed (type_set l.further) (and-second (way_set l) (type_set l.further)) has_typed

-- ---- lines from the last to the first

module _ (may : List Tree) where
  line_of : (a : Action) (m r : Recipe) → HasNodes may (parts (with_line a m r)) → HasNodes may (parts m)
  line_of Permit m r has = piece may (or r m) m (or-second r m) has
  line_of Deny m r has = piece may (minus r m) m (minus-second r m) has

  rest_of : (a : Action) (m r : Recipe) → HasNodes may (parts (with_line a m r)) → HasNodes may (parts r)
  rest_of Permit m r has = piece may (or r m) r (or-first r m) has
  rest_of Deny m r has = piece may (minus r m) r (minus-first r m) has

  behind : (front back : List AccessListLine) → HasNodes may (parts (lines_set (front ++ back))) → HasNodes may (parts (lines_set back))
  behind [] back has = has
  behind (l ∷ front) back has = behind front back (rest_of l.action (line_set l) (lines_set (front ++ back)) has)

  module _ (lines left made : List AccessListLine) (l : AccessListLine) (is : left ++ l ∷ made ≡ lines) (has : HasNodes may (parts (lines_set lines))) where
    here : HasNodes may (parts (with_line l.action (line_set l) (lines_set made)))
    here = behind left (l ∷ made) (subst (λ (ls : List AccessListLine). HasNodes may (parts (lines_set ls))) (sym is) has)

    pub has_line : HasNodes may (parts (line_set l))
    has_line = line_of l.action (line_set l) (lines_set made) here

-- the lines behind those that are left are made
pub record IsMade (lines left : List AccessListLine) (seat : SeatView) (set : ℕ) : Type 0 where
  pub made : List AccessListLine
  pub all : left ++ made ≡ lines
  pub known : SeatKnows seat set (tree (lines_set made))

append-step : (xs : List AccessListLine) (y : AccessListLine) (ys : List AccessListLine) → (xs ++ y ∷ []) ++ ys ≡ xs ++ y ∷ ys
append-step [] y ys = refl
append-step (x ∷ xs) y ys = ap (λ zs. x ∷ zs) (append-step xs y ys)

module _ (nodes : TableView) (start seat : SeatView) (lines before left : List AccessListLine) (l : AccessListLine) (set : ℕ) (is : before ≡ left ++ l ∷ []) (m : IsMade lines before start set) (has : HasNodes nodes.may (parts (lines_set lines))) where
  pub in_front : left ++ l ∷ m.made ≡ lines
  in_front = sym (append-step left l m.made) ∙ ap (λ xs. xs ++ m.made) (sym is) ∙ m.all

  pub may_line : HasNodes nodes.may (parts (line_set l))
  may_line = has_line nodes.may lines left m.made l in_front has

  pub may_add : (matched : ℕ) → SeatKnows seat matched (tree (line_set l)) → SeatKnows seat set (tree (lines_set m.made)) → MayAdd nodes seat l.action matched set
  may_add matched kl kr = record { line = line_set l; rest = lines_set m.made; knows_line = kl; knows_rest = kr; allowed = here nodes.may lines left m.made l in_front has }

  pub made_more : (after : SeatView) (r : ℕ) → SeatKnows after r (tree (with_line l.action (line_set l) (lines_set m.made))) → IsMade lines left after r
  made_more after r known = record { made = l ∷ m.made; all = in_front; known = known }

-- ---- what functions ask and give

-- an answer is known as a tree
abbrev pub IsKnownAs : SeatView → Result Ref SetError → Tree → Type 0
IsKnownAs after result t = IfOk result (λ (r : Ref). SeatKnows after r.index t)

pub operated : (before after : SeatView) (operation : Tree → Tree → Tree) (a b : ℕ) (s t : Tree) → SeatKnows before a s → SeatKnows before b t → (result : Result Ref SetError)
    → IfOk result (λ (r : Ref). (s t : Tree) → SeatKnows before a s → SeatKnows before b t → SeatKnows after r.index (operation s t)) → IsKnownAs after result (operation s t)
operated before after operation a b s t ks kt (Ok r) made = made s t ks kt
operated before after operation a b s t ks kt (Err e) made = tt

pub permit_may : (nodes : TableView) (seat : SeatView) (action : Action) (matched set : ℕ) → action ≡ Permit → MayAdd nodes seat action matched set → MayCombine nodes seat trees.or set matched
permit_may nodes seat Permit matched set is m = may_or nodes seat set matched m.rest m.line m.knows_rest m.knows_line m.allowed
permit_may nodes seat Deny matched set is m = absurd (cc)

pub deny_may : (nodes : TableView) (seat : SeatView) (action : Action) (matched set : ℕ) → action ≡ Deny → MayAdd nodes seat action matched set → MayCombine nodes seat trees.minus set matched
deny_may nodes seat Permit matched set is m = absurd (cc)
deny_may nodes seat Deny matched set is m = may_minus nodes seat set matched m.rest m.line m.knows_rest m.knows_line m.allowed

pub protocol_may : (may : List Tree) (test : ProtocolTest) (n : ℕ) → test ≡ protocols.Is n → HasNodes may (parts (protocol_set test)) → HasNodesOf may (exact (last_bit Proto) 8 n)
protocol_may may test n is has = has_recipe may (given (exact (last_bit Proto) 8 n)) (subst (λ t. HasNodes may (parts (protocol_set t))) is has)

pub any_protocol : (seat : SeatView) (test : ProtocolTest) → test ≡ protocols.Any → SeatKnows seat 1 (tree (protocol_set test))
any_protocol seat test is = subst (λ t. SeatKnows seat 1 (tree (protocol_set t))) (sym is) (knows_always seat)

-- ---- what a line tests behind its ports

pub type_may : (may : List Tree) (test : FurtherTest) (n : ℕ) (code : Option ℕ) → test ≡ further.Icmp n code → HasNodes may (parts (type_set test)) → HasNodesOf may (exact (last_bit IcmpType) 8 n)
type_may may test n code is has = has_recipe may (given (exact (last_bit IcmpType) 8 n)) (subst (λ t. HasNodes may (parts (type_set t))) is has)

pub code_may : (may : List Tree) (code : Option ℕ) (n : ℕ) → code ≡ Some n → HasNodes may (parts (code_of code)) → HasNodesOf may (exact (last_bit IcmpCode) 8 n)
code_may may code n is has = has_recipe may (given (exact (last_bit IcmpCode) 8 n)) (subst (λ c. HasNodes may (parts (code_of c))) is has)

pub flags_may : (may : List Tree) (test : FurtherTest) → test ≡ further.Established → HasNodes may (parts (flag_set test)) → HasNodesOf may established
flags_may may test is has = has_recipe may (given established) (subst (λ t. HasNodes may (parts (flag_set t))) is has)

-- a test that a line doesn't have is passed by all headers
pub untested : (seat : SeatView) (set : FurtherTest → Recipe) (test other : FurtherTest) → test ≡ other → tree (set other) ≡ always → SeatKnows seat 1 (tree (set test))
untested seat set test other is all = subst (λ t. SeatKnows seat 1 (tree (set t))) (sym is) (subst (SeatKnows seat 1) (sym all) (knows_always seat))

pub any_code : (seat : SeatView) (code : Option ℕ) → code ≡ None → SeatKnows seat 1 (tree (code_of code))
any_code seat code is = subst (λ c. SeatKnows seat 1 (tree (code_of c))) (sym is) (knows_always seat)

pub any_port : (seat : SeatView) (last : ℕ) (test : PortTest) → test ≡ Any → SeatKnows seat 1 (tree (port_set last test))
any_port seat last test is = subst (λ t. SeatKnows seat 1 (tree (port_set last t))) (sym is) (knows_always seat)

pub alone_may : (may : List Tree) (last : ℕ) (ports : List ℕ) (k d : ℕ) → k < length ports → HasNodes may (parts (joined last ports)) → HasNodesOf may (exact last 16 (get_or ports k d))
alone_may may last ports k d less has =
    let step = or (joined last (take k ports)) (alone last (get_or ports k d)) in
    has_recipe may (alone last (get_or ports k d)) (piece may step (alone last (get_or ports k d)) (or-second (joined last (take k ports)) (alone last (get_or ports k d))) (piece may (joined last ports) step (uses_step last ports k d less) has))

pub step_may : (nodes : TableView) (seat : SeatView) (last : ℕ) (ports : List ℕ) (k d : ℕ) → k < length ports → HasNodes nodes.may (parts (joined last ports)) → (a b : ℕ) → SeatKnows seat a (tree (joined last (take k ports))) → SeatKnows seat b (exact last 16 (get_or ports k d))
    → MayCombine nodes seat trees.or a b
step_may nodes seat last ports k d less has a b ka kb =
    may_or nodes seat a b (joined last (take k ports)) (alone last (get_or ports k d)) ka kb (piece nodes.may (joined last ports) (or (joined last (take k ports)) (alone last (get_or ports k d))) (uses_step last ports k d less) has)

module _ (last : ℕ) (test : PortTest) where
  pub equal_recipe : (ports list : List ℕ) → test ≡ Equal ports → list ≡ ports → joined last list ≡ port_set last test
  equal_recipe ports list is same = ap (joined last) same ∙ ap (port_set last) (sym is)

  pub not_equal_recipe : (ports list : List ℕ) → test ≡ NotEqual ports → list ≡ ports → minus (given always) (joined last list) ≡ port_set last test
  not_equal_recipe ports list is same = ap (λ xs. minus (given always) (joined last xs)) same ∙ ap (port_set last) (sym is)

  module _ (port : IsPort last) where
    pub below_tree : (n p : ℕ) → test ≡ Below p → n ≡ p → between last 16 0 n ≡ tree (port_set last test)
    below_tree n p is same = ap (between last 16 0) same ∙ below_is last p port ∙ ap (λ t. tree (port_set last t)) (sym is)

    pub above_tree : (n p : ℕ) → test ≡ Above p → n ≡ p → between last 16 (n + 1) 65536 ≡ tree (port_set last test)
    above_tree n p is same = ap (λ m. between last 16 (m + 1) 65536) same ∙ above_is last p port ∙ ap (λ t. tree (port_set last t)) (sym is)

    pub within_tree : (n m low high : ℕ) → test ≡ Within low high → n ≡ low → m ≡ high → between last 16 n (m + 1) ≡ tree (port_set last test)
    within_tree n m low high is same also = (λ i. between last 16 (same i) (also i + 1)) ∙ within_is last low high port ∙ ap (λ t. tree (port_set last t)) (sym is)

-- ---- the loop over the lines

append-nothing : (xs : List AccessListLine) → xs ++ [] ≡ xs
append-nothing [] = refl
append-nothing (x ∷ xs) = ap (λ ys. x ∷ ys) (append-nothing xs)

pub none_made : (lines left : List AccessListLine) (seat : SeatView) → left ≡ lines → IsMade lines left seat 0
none_made lines left seat same = record { made = []; all = append-nothing left ∙ same; known = knows_never seat }

pub all_made : (lines left : List AccessListLine) (seat : SeatView) (set : ℕ) → left ≡ [] → IsMade lines left seat set → SeatKnows seat set (tree (lines_set lines))
all_made lines left seat set none m = subst (λ (ls : List AccessListLine). SeatKnows seat set (tree (lines_set ls))) (ap (λ (xs : List AccessListLine). xs ++ m.made) (sym none) ∙ m.all) m.known
