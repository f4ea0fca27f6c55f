-- Rounds made by one alone, who looks at those positions only to which something fresh leads.
use Rattle.std.specs.Prelude.{◌≡◌, ◌≢◌, ◌⊎◌, ◌∷◌, ◌++◌, ℕ, ◌+◌, ◌<◌, Bool, true, false, List, [], All, length, slice_index_or, slice_set}
use Rattle.std.specs.List.{Contains}
use Rattle.rc_jobs.specs.Flows.{no_header}
use Rattle.rc_jobs.specs.declared.flow.Flow.{Flow}
use Rattle.rc_nodes.specs.Seats.{TableView, SeatView, IsSeatOf, SeatKnows, Keeps}
use Rattle.rc_nodes.specs.declared.words.Ref.{Ref}
use Rattle.rc_trees.specs.Trees.{Tree}
use Rattle.rc_spread.specs.Known.{IsAfter}

-- a flow out of a position leads to another one
abbrev pub LeadsTo : List (List Flow) → ℕ → ℕ → Type 0
LeadsTo out p q = (r : ℕ) × (r < length (slice_index_or out p [])) × ((d : Flow) → (slice_index_or (slice_index_or out p []) r d).from ≡ q)

-- the flows out of so many positions lead to these
pub record StayWithin (out : List (List Flow)) (count : ℕ) : Type 0 where
  pub as_many : length out ≡ count
  pub each : (p : ℕ) (d : List Flow) → p < count → All (λ (f : Flow). f.from < count) (slice_index_or out p d)

-- the set of a position to which nothing fresh leads stays as it is, whatever a seat that knows more knows of the rounds before
abbrev pub Rest : TableView → SeatView → List (List Flow) → (ℕ → ℕ → Tree) → ℕ → Type 0
Rest nodes seat out sets count =
    (later : SeatView) (refs : List Ref) (fresh : List Bool) (k q : ℕ) → Keeps seat later → IsSeatOf nodes later → IsAfter later refs fresh sets count k → q < count
    → ((p : ℕ) → p < count → LeadsTo out p q → slice_index_or fresh p false ≡ false) → sets (k + 1) q ≡ sets k q

-- ---- lists of positions

-- each marked position is in the list, and the list is of positions
pub record AreListed (marks : List Bool) (listed : List ℕ) : Type 0 where
  pub within : All (λ q. q < length marks) listed
  pub each : (q : ℕ) → q < length marks → slice_index_or marks q false ≡ true → Contains listed q

-- those in the list stay in it
pub record AreKept (earlier later : List ℕ) : Type 0 where
  pub each : (q : ℕ) → Contains earlier q → Contains later q

-- each position to which a flow out of some others leads is in the list, and the list is of positions
pub record AreLedTo (out : List (List Flow)) (others listed : List ℕ) : Type 0 where
  pub within : All (λ q. q < length out) listed
  pub each : (p q : ℕ) → Contains others p → LeadsTo out p q → Contains listed q

-- ---- sets of some positions

-- the seat knows the references as the sets of these positions
pub record KnowsThese (seat : SeatView) (refs : List Ref) (positions : List ℕ) (sets : ℕ → Tree) : Type 0 where
  pub at : (i : ℕ) (d : Ref) → i < length refs → SeatKnows seat (slice_index_or refs i d).index (sets (slice_index_or positions i 0))

-- a set that differs stands in the place of the one of a position, which is marked and listed
pub record IsChanged (q : ℕ) (set : Ref) (earlier later : List Ref) (unmarked marked : List Bool) (listed longer : List ℕ) : Type 0 where
  pub differs : set.index ≢ (slice_index_or earlier q no_header).index
  pub put : later ≡ slice_set earlier q set
  pub marks : marked ≡ slice_set unmarked q true
  pub lists : longer ≡ listed ++ q ∷ []

-- a set that is the same changes nothing
pub record IsSame (q : ℕ) (set : Ref) (earlier later : List Ref) (unmarked marked : List Bool) (listed longer : List ℕ) : Type 0 where
  pub same : set.index ≡ (slice_index_or earlier q no_header).index
  pub put : later ≡ earlier
  pub marks : marked ≡ unmarked
  pub lists : longer ≡ listed

-- one of both
abbrev pub IsPut : ℕ → Ref → List Ref → List Ref → List Bool → List Bool → List ℕ → List ℕ → Type 0
IsPut q set earlier later unmarked marked listed longer =
    IsChanged q set earlier later unmarked marked listed longer ⊎ IsSame q set earlier later unmarked marked listed longer

-- of the sets made of the first n of some positions one stands at q, which is marked
pub record IsNewAt (positions : List ℕ) (made : List Ref) (n : ℕ) (later : List Ref) (marks : List Bool) (q : ℕ) : Type 0 where
  pub index : ℕ
  pub low : index < n
  pub here : slice_index_or positions index 0 ≡ q
  pub set : slice_index_or later q no_header ≡ slice_index_or made index no_header
  pub marked : slice_index_or marks q false ≡ true

-- what stood at q stands there, and isn't marked: each set that was made of it is the same
pub record IsOldAt (earlier : List Ref) (positions : List ℕ) (made : List Ref) (n : ℕ) (later : List Ref) (marks : List Bool) (q : ℕ) : Type 0 where
  pub same : (i : ℕ) → i < n → slice_index_or positions i 0 ≡ q → (slice_index_or made i no_header).index ≡ (slice_index_or earlier q no_header).index
  pub set : slice_index_or later q no_header ≡ slice_index_or earlier q no_header
  pub unmarked : slice_index_or marks q false ≡ false

-- the sets made of the first n of some positions stand in the place of earlier ones, and where they differ is marked
pub record ArePut (earlier : List Ref) (positions : List ℕ) (made : List Ref) (n : ℕ) (later : List Ref) (marks : List Bool) : Type 0 where
  pub as_many : length later ≡ length earlier
  pub as_many_marks : length marks ≡ length earlier
  pub at : (q : ℕ) → q < length earlier → IsNewAt positions made n later marks q ⊎ IsOldAt earlier positions made n later marks q
