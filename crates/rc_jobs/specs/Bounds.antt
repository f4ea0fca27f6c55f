-- Where the shares of a job begin.
use Rattle.std.specs.Prelude.{◌≡◌, ℕ, ◌+◌, ◌-◌, ◌<◌, ◌≤◌, List, All, length, max, min, slice_index_or}

-- shares in a row of so many items: where each begins
pub record Shares : Type 0 where
  pub begins : List ℕ
  pub items : ℕ

-- where a share begins, by its number; behind the last one, where all items end
abbrev pub begin_of : Shares → ℕ → ℕ
begin_of s n = slice_index_or s.begins n s.items

-- there is a share, and the first one begins at the first item; each ends not before it begins, and not behind all items
pub record AreBounds (s : Shares) : Type 0 where
  pub some : 0 < length s.begins
  pub first : begin_of s 0 ≡ 0
  pub rise : (n : ℕ) → begin_of s n ≤ begin_of s (n + 1)
  pub within : (n : ℕ) → begin_of s n ≤ s.items

-- where a share more begins that is asked for at an item: not before the last one, and not behind all items
abbrev pub next_begin : Shares → ℕ → ℕ
next_begin s at = max (begin_of s (length s.begins - 1)) (min at s.items)

-- what was made of shares, each with its number: of the items of that share
abbrev pub AreMadeOf : {X : Type 0} → (ℕ → ℕ → X → Type 0) → Shares → List (ℕ × X) → Type 0
AreMadeOf knows s parts = All (λ e. knows (begin_of s e.0) (begin_of s (e.0 + 1)) e.1) parts
