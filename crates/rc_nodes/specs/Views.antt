-- What a seat knows, what it knows a reference as, and what the steps on a word tell it.
use Rattle.std.specs.Prelude.{◌≡◌, ◌≢◌, ℕ, ◌+◌, ◌<◌, ◌⊎◌, Bool, false, true, List, [], ◌∷◌, ◌++◌, slice_index, refl}
use Rattle.std.specs.Coded.{Coded, code_by, coded×, coded_ℕ, coded_bool, coded_list}
use base.Stored.{Gv, gnum, gcons}
use Rattle.rc_base.specs.Header.{bit_count}
use Rattle.rc_trees.specs.Trees.{Tree, never, always, node, top, IsAmong}
use Rattle.rc_nodes.specs.Words.{IsWord, var_of, lo_of, hi_of, slot_at}

abbrev pub code_tree : Tree → Gv
code_tree never = gnum 0
code_tree always = gnum 1
code_tree (node v l h) = gcons (gnum v) (gcons (code_tree l) (code_tree h))

pub code_tree-inj : (s t : Tree) → code_tree s ≡ code_tree t → s ≡ t
code_tree-inj never never e = refl
code_tree-inj never always e = cc
code_tree-inj never (node v l h) e = cc
code_tree-inj always never e = cc
code_tree-inj always always e = refl
code_tree-inj always (node v l h) e = cc
code_tree-inj (node v l h) never e = cc
code_tree-inj (node v l h) always e = cc
code_tree-inj (node v l h) (node w m i) e =
    let a : code_tree l ≡ code_tree m = cc in let b : code_tree h ≡ code_tree i = cc in
    let p = code_tree-inj l m a in let q = code_tree-inj h i b in cc

abbrev pub coded_tree : Coded Tree
coded_tree = record { code = code_tree; inj = code_tree-inj }

-- Words seen, each with its slot; the trees that may be made; and a number that each move raises by one.
pub record View : Type 0 where
  pub spent : Bool
  pub capacity : ℕ
  pub seen : List (ℕ × ℕ)
  pub may : List Tree
  pub moves : ℕ

abbrev pub view_code : Coded View
view_code = code_by (Bool × (ℕ × (List (ℕ × ℕ) × (List Tree × ℕ))))
    (coded× coded_bool (coded× coded_ℕ (coded× (coded_list (coded× coded_ℕ coded_ℕ)) (coded× (coded_list coded_tree) coded_ℕ))))
    (λ v. (v.spent, (v.capacity, (v.seen, (v.may, v.moves)))))
    (λ p. record { spent = p.0; capacity = p.1.0; seen = p.1.1.0; may = p.1.1.1.0; moves = p.1.1.1.1 }) (λ _. refl)

-- a first seat: it has seen nothing, and made no move
abbrev pub fresh : ℕ → List Tree → View
fresh capacity may = record { spent = false; capacity = capacity; seen = []; may = may; moves = 0 }

-- a word was seen at a slot
abbrev pub Has : List (ℕ × ℕ) → ℕ → ℕ → Type 0
Has [] k w = ⊥
Has (p ∷ s) k w = ((p.0 ≡ k) × (p.1 ≡ w)) ⊎ Has s k w

-- a word, which is not 0, stands at a slot of the table
abbrev pub StandsAt : List ℕ → ℕ → ℕ → Type 0
StandsAt words k w = (slice_index words k ≡ w) × (w ≢ 0)

-- r gives the tree over the words that A has at their slots
abbrev pub Unfolds : (ℕ → ℕ → Type 0) → ℕ → Tree → Type 0
Unfolds A r never = r ≡ 0
Unfolds A r always = r ≡ 1
Unfolds A r (node v l h) = (k : ℕ) × (w : ℕ) × (r ≡ k + 2) × A k w × (var_of w ≡ v) × (v < top l) × (v < top h) × Unfolds A (lo_of w) l × Unfolds A (hi_of w) h

abbrev pub Knows : View → ℕ → Tree → Type 0
Knows v = Unfolds (Has v.seen)

-- what was known is known for good
abbrev pub Grows : View → View → Type 0
Grows v w = (k x : ℕ) → Has v.seen k x → Has w.seen k x

-- a reference below a bit: a constant, or a slot; a word that was seen there tests a greater bit
abbrev pub IsChild : View → ℕ → ℕ → Type 0
IsChild v x r = (r < 2) ⊎ ((k : ℕ) × (r ≡ k + 2) × (k < v.capacity) × ((w : ℕ) → Has v.seen k w → x < var_of w))

-- what holds of every view
pub record Sound (v : View) : Type 0 where
  pub open_ : v.spent ≡ false
  pub word : (k w : ℕ) → Has v.seen k w → IsWord w × (var_of w < bit_count) × (lo_of w ≢ hi_of w) × (k < v.capacity)
  pub same : (k w x : ℕ) → Has v.seen k w → Has v.seen k x → w ≡ x
  pub once : (k j w : ℕ) → Has v.seen k w → Has v.seen j w → k ≡ j
  pub below : (k w : ℕ) → Has v.seen k w → IsChild v (var_of w) (lo_of w) × IsChild v (var_of w) (hi_of w)
  pub allowed : (k w : ℕ) (t : Tree) → Has v.seen k w → Knows v (k + 2) t → IsAmong v.may t

abbrev pub moved : View → View
moved v = record { spent = v.spent; capacity = v.capacity; seen = v.seen; may = v.may; moves = v.moves + 1 }

abbrev pub noted : View → ℕ → ℕ → View
noted v k w = record { spent = v.spent; capacity = v.capacity; seen = (k, w) ∷ v.seen; may = v.may; moves = v.moves + 1 }

-- a load of slot k found n
abbrev pub Looked : ℕ → View → ℕ → View → Type 0
Looked k v n w = (n ≡ 0 → w ≡ moved v) × (n ≢ 0 → w ≡ noted v k n) × Sound w × (n ≡ 0 → (x : ℕ) → ¬ (Has v.seen k x))

-- an exchange of slot k from 0 to x found n
abbrev pub Claimed : ℕ → ℕ → View → ℕ → View → Type 0
Claimed k x v n w = (n ≡ 0 → w ≡ noted v k x) × (n ≢ 0 → w ≡ noted v k n) × Sound w

-- the word x may be written at slot k: its children are known, its tree may be made, and the slots before k on its path have other words
pub record MayWrite (v : View) (k x : ℕ) : Type 0 where
  pub is_word : IsWord x
  pub bit : var_of x < bit_count
  pub differ : lo_of x ≢ hi_of x
  pub low : Tree
  pub high : Tree
  pub knows_low : Knows v (lo_of x) low
  pub knows_high : Knows v (hi_of x) high
  pub rises_low : var_of x < top low
  pub rises_high : var_of x < top high
  pub allowed : IsAmong v.may (node (var_of x) low high)
  pub steps : ℕ
  pub steps_fit : steps < v.capacity
  pub lands : k ≡ slot_at v.capacity x steps
  pub passed : (j : ℕ) → j < steps → (y : ℕ) × Has v.seen (slot_at v.capacity x j) y × (y ≢ x)

-- what both seats knew
abbrev pub joined : View → View → View
joined v w = record { spent = v.spent; capacity = v.capacity; seen = v.seen ++ w.seen; may = v.may; moves = v.moves }

abbrev pub spent_view : View
spent_view = record { spent = true; capacity = 0; seen = []; may = []; moves = 0 }
