-- A breadth-first search for an ending that is asked for, in any graph.
use Rattle.std.specs.Prelude.{◌≡◌, ℕ, ◌<◌, ◌⊎◌, Bool, true, false, List, [], ◌∷◌, ◌++◌, Option, Some, Contains}

-- Here choices are listed the last one first. Fewer come before more; of as many, the first of those taken that differ decide.
abbrev pub PrecedeBack : List ℕ → List ℕ → Type 0
PrecedeBack [] [] = ⊥
PrecedeBack [] (d ∷ ds) = Unit {0}
PrecedeBack (c ∷ cs) [] = ⊥
PrecedeBack (c ∷ cs) (d ∷ ds) = PrecedeBack cs ds ⊎ ((cs ≡ ds) × (c < d))

abbrev pub AreAtMost : List ℕ → List ℕ → Type 0
AreAtMost cs ds = PrecedeBack cs ds ⊎ (cs ≡ ds)

-- in a graph by choices, where each leads on, choices lead from a start to a position
module _ {P : Type 0} (next : P → ℕ → Option P) (start : P) where
  abbrev pub Lead : List ℕ → P → Type 0
  Lead [] p = start ≡ p
  Lead (c ∷ cs) p = (q : P) × Lead cs q × (next q c ≡ Some p)

-- and some choices end as asked
module _ {P : Type 0} (next : P → ℕ → Option P) (ends : P → ℕ → Bool) (start : P) where
  -- they lead there, and one choice more ends as asked
  pub record IsEnd (choices : List ℕ) (at : P) (last : ℕ) : Type 0 where
    pub lead : Lead next start choices at
    pub ends_there : ends at last ≡ true

  -- none that ends as asked is shorter or has its choices before these
  pub record IsFirstEnd (choices : List ℕ) (at : P) (last : ℕ) : Type 0 where
    pub is_end : IsEnd choices at last
    pub first : (others : List ℕ) (p : P) (other : ℕ) → IsEnd others p other → AreAtMost (last ∷ choices) (other ∷ others)

  -- nothing ends as asked
  abbrev pub NothingEnds : Type 0
  NothingEnds = (choices : List ℕ) (p : P) (last : ℕ) → ¬ (IsEnd choices p last)

  -- ---- a search on its way

  -- a position is found by choices no later than these
  abbrev pub IsFound : List (P × List ℕ) → List ℕ → P → Type 0
  IsFound found choices p = (e : P × List ℕ) × Contains found e × (e.0 ≡ p) × AreAtMost e.1 choices

  abbrev pub all_found : List (P × List ℕ) → P × List ℕ → List (P × List ℕ) → List (P × List ℕ)
  all_found done here rest = done ++ here ∷ rest

  abbrev pub AreInSearchOrder : List (P × List ℕ) → Type 0
  AreInSearchOrder [] = Unit {0}
  AreInSearchOrder (e ∷ es) = ((f : P × List ℕ) → Contains es f → PrecedeBack e.1 f.1) × AreInSearchOrder es

  -- Some positions are done, one is at hand, of whose choices c were looked at, and the rest waits in order. With each position
  -- stand the choices that led to it.
  pub record IsSearch (done : List (P × List ℕ)) (here : P × List ℕ) (rest : List (P × List ℕ)) (c : ℕ) : Type 0 where
    pub lead : (e : P × List ℕ) → Contains (all_found done here rest) e → Lead next start e.1 e.0
    pub begun : Contains (all_found done here rest) (start, [])
    pub no_end : (e : P × List ℕ) → Contains done e → (d : ℕ) → ends e.0 d ≡ false
    pub closed : (e : P × List ℕ) → Contains done e → (d : ℕ) (t : P) → next e.0 d ≡ Some t → IsFound (all_found done here rest) (d ∷ e.1) t
    pub no_end_here : (d : ℕ) → d < c → ends here.0 d ≡ false
    pub closed_here : (d : ℕ) (t : P) → d < c → next here.0 d ≡ Some t → IsFound (all_found done here rest) (d ∷ here.1) t
    pub earlier : (e : P × List ℕ) → Contains done e → PrecedeBack e.1 here.1
    pub in_order : AreInSearchOrder (here ∷ rest)
    pub bound : (e : P × List ℕ) → Contains (all_found done here rest) e → PrecedeBack e.1 (c ∷ here.1)
    pub once : (e f : P × List ℕ) → Contains (all_found done here rest) e → Contains (all_found done here rest) f → e.0 ≡ f.0 → e ≡ f
    pub parents : (e : P × List ℕ) → Contains rest e → (w : List ℕ) × (d : ℕ) × (e.1 ≡ d ∷ w) × AreAtMost w here.1
