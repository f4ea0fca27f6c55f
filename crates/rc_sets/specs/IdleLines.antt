-- The lines of an access list that never decide: a line before them matches each header that they match.
use Rattle.std.specs.Prelude.{◌≡◌, ◌↔◌, ℕ, Bool, true, false, List, [], ◌∷◌, ◌++◌, filter, if◌then◌else◌}
use Rattle.std.specs.List.{flat_map, list_any}
use Rattle.rc_base.specs.Header.{IsHeader}
use Rattle.rc_base.specs.Lists.{first_seen}
use Rattle.rc_base.specs.declared.header.Header.{Header}
use Rattle.rc_config.specs.declared.access_list.AccessListLine.{AccessListLine}
use Rattle.rc_filter.specs.Verdict.{matches}
use Rattle.rc_trees.specs.Trees.{Tree, never, is_node, same_tree}
use Rattle.rc_trees.specs.Recipes.{Recipe, and, minus, parts, tree, union_of}
use Rattle.rc_sets.specs.AccessLists.{line_set}
use Rattle.rc_sets.specs.declared.idle_line.IdleLine.{IdleLine}

-- ---- by the headers that lines match

-- some line matches the header
abbrev pub is_matched : List AccessListLine → Header → Bool
is_matched lines h = list_any (λ l. matches l h) lines

-- a line is idle behind these where each header that it matches is matched by one of them; so is a line that no header matches
abbrev pub IsIdle : List AccessListLine → AccessListLine → Type 0
IsIdle before l = (h : Header) → IsHeader h → matches l h ≡ true → is_matched before h ≡ true

-- a line with these before it decides something that a later line matches: a header that both match, and no line before the first of them
pub record DecidesOf (before : List AccessListLine) (first later : AccessListLine) : Type 0 where
  pub header : Header
  pub is_header : IsHeader header
  pub by_first : matches first header ≡ true
  pub by_later : matches later header ≡ true
  pub unmatched : is_matched before header ≡ false

-- of some lines, with others before them, the numbers of those that decide something that a later line matches
pub data AreDeciders (later : AccessListLine) : List AccessListLine → List AccessListLine → List ℕ → Type 0 where
  deciders_end : {before : List AccessListLine} → AreDeciders later before [] []
  decides : {before : List AccessListLine} {l : AccessListLine} {lines : List AccessListLine} {numbers : List ℕ} → DecidesOf before l later → AreDeciders later (before ++ l ∷ []) lines numbers
      → AreDeciders later before (l ∷ lines) (l.sequence ∷ numbers)
  decides_not : {before : List AccessListLine} {l : AccessListLine} {lines : List AccessListLine} {numbers : List ℕ} → (DecidesOf before l later → ⊥) → AreDeciders later (before ++ l ∷ []) lines numbers
      → AreDeciders later before (l ∷ lines) numbers

-- of some lines, with others before them, the idle ones, each with the lines before it that decide something that it matches
pub data AreIdle : List AccessListLine → List AccessListLine → List IdleLine → Type 0 where
  lines_end : {before : List AccessListLine} → AreIdle before [] []
  is_idle : {before : List AccessListLine} {l : AccessListLine} {lines : List AccessListLine} {numbers : List ℕ} {found : List IdleLine} → IsIdle before l → AreDeciders l [] before numbers → AreIdle (before ++ l ∷ []) lines found
      → AreIdle before (l ∷ lines) (record { sequence = l.sequence; by = numbers } ∷ found)
  is_used : {before : List AccessListLine} {l : AccessListLine} {lines : List AccessListLine} {found : List IdleLine} → (IsIdle before l → ⊥) → AreIdle (before ++ l ∷ []) lines found → AreIdle before (l ∷ lines) found

-- ---- by sets, which say the same

-- the headers that some line matches
abbrev pub seen : List AccessListLine → Recipe
seen lines = union_of line_set lines

-- the headers that a line decides: those that it matches, and none of these before it
unfoldable pub decided : List AccessListLine → AccessListLine → Recipe
decided before l = minus (line_set l) (seen before)

-- of what a line with these before it decides, the headers that a later line matches
unfoldable pub shared : AccessListLine → List AccessListLine → AccessListLine → Recipe
shared later before l = and (line_set later) (decided before l)

-- the set holds no header
abbrev pub is_empty : Recipe → Bool
is_empty r = same_tree (tree r) never

-- of some lines, with others before them, the numbers of those that decide something that a later line matches
abbrev pub deciders : AccessListLine → List AccessListLine → List AccessListLine → List ℕ
deciders later before [] = []
deciders later before (l ∷ lines) =
    let others = deciders later (before ++ l ∷ []) lines in if is_empty (shared later before l) then others else (l.sequence ∷ others)

-- of some lines, with others before them, the idle ones
abbrev pub idle_behind : List AccessListLine → List AccessListLine → List IdleLine
idle_behind before [] = []
idle_behind before (l ∷ lines) =
    let others = idle_behind (before ++ l ∷ []) lines in if is_empty (decided before l) then (record { sequence = l.sequence; by = deciders l [] before } ∷ others) else others

-- the idle lines of a list, by sequence number
unfoldable pub idle_lines : List AccessListLine → List IdleLine
idle_lines lines = idle_behind [] lines

-- what sets tell is what headers tell, and nothing else is
abbrev pub AreTold : Type 0
AreTold = (lines : List AccessListLine) (found : List IdleLine) → AreIdle [] lines found ↔ (found ≡ idle_lines lines)

-- ---- what is made on the way

-- of what some lines decide, with others before them, the headers that a later line matches
abbrev pub all_shared : AccessListLine → List AccessListLine → List AccessListLine → List Recipe
all_shared later before [] = []
all_shared later before (l ∷ lines) = shared later before l ∷ all_shared later (before ++ l ∷ []) lines

-- what each line decides, and for an idle line what it shares with each line before it
abbrev pub sets_behind : List AccessListLine → List AccessListLine → List Recipe
sets_behind before [] = []
sets_behind before (l ∷ lines) = decided before l ∷ (if is_empty (decided before l) then all_shared l [] before else []) ++ sets_behind (before ++ l ∷ []) lines

-- the sets by which the idle lines of a list are told
unfoldable pub idle_sets : List AccessListLine → List Recipe
idle_sets lines = sets_behind [] lines

-- the parts of all these sets
abbrev pub all_parts : List Recipe → List Tree
all_parts sets = flat_map parts sets

-- the different nodes among the parts of all these sets
unfoldable pub nodes_of : List Recipe → List Tree
nodes_of sets = first_seen same_tree (filter is_node (all_parts sets))
