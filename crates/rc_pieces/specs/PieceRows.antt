-- Worked cases of the definitions, each by computation.
use Rattle.std.specs.Prelude.{◌≡◌, ℕ, ◌+◌, ◌*◌, false, true, List, [], ◌∷◌, Option, Some, None, refl}
use Rattle.rc_base.specs.Prefix.{Cidr}
use Rattle.rc_route.specs.Tables.{listed_at}
use Rattle.rc_trie.specs.Tree.{longest_by}
use Rattle.rc_pieces.specs.Editing.{edited, goes_before, said}
use Rattle.rc_pieces.specs.Finding.{is_begun, stands_before, stands_behind}
use Rattle.rc_pieces.specs.Pieces.{joined, piece_before}
use Rattle.rc_pieces.specs.declared.edit.Edit.{Edit}

-- a prefix with a value
abbrev Row : Type 0
Row = Cidr × ℕ

abbrev prefix_of : Row → Cidr
prefix_of row = row.0

-- 0.0.0.0/0
abbrev everything : Cidr
everything = record { network = 0; len = 0 }

-- 10.0.n.m
abbrev address : ℕ → ℕ → ℕ
address n m = 10 * 16777216 + n * 256 + m

-- 10.0.n.0/24
abbrev subnet : ℕ → Cidr
subnet n = record { network = address n 0; len = 24 }

-- 10.0.n.m/32
abbrev host : ℕ → ℕ → Cidr
host n m = record { network = address n m; len = 32 }

-- ---- two pieces: 0.0.0.0/0 and 10.0.1.0/24; then 10.0.3.0/24 and 10.0.3.9/32

abbrev first : List Row
first = (everything, 0) ∷ (subnet 1, 1) ∷ []

abbrev second : List Row
second = (subnet 3, 3) ∷ (host 3 9, 9) ∷ []

abbrev pieces : List (List Row)
pieces = first ∷ second ∷ []

abbrev all : List Row
all = (everything, 0) ∷ (subnet 1, 1) ∷ (subnet 3, 3) ∷ (host 3 9, 9) ∷ []

pub one_behind_the_other : joined pieces ≡ all
one_behind_the_other = refl

pub no_piece_is_no_element : joined {A = Row} [] ≡ []
no_piece_is_no_element = refl

pub before_the_first_place_is_nothing : piece_before 0 pieces ≡ []
before_the_first_place_is_nothing = refl

pub before_the_second_place : piece_before 1 pieces ≡ first
before_the_second_place = refl

pub before_the_end : piece_before 2 pieces ≡ second
before_the_end = refl

-- ---- where a prefix is looked for

pub a_piece_begins_at_it : is_begun prefix_of (subnet 3) (Some second) ≡ true
a_piece_begins_at_it = refl

pub a_piece_begins_behind_it : is_begun prefix_of (subnet 2) (Some second) ≡ false
a_piece_begins_behind_it = refl

pub no_piece_begins : is_begun prefix_of (subnet 4) None ≡ false
no_piece_begins = refl

pub an_element_before_it : stands_before prefix_of (subnet 2) (Some (subnet 1, 1)) ≡ true
an_element_before_it = refl

pub an_element_of_it : stands_before prefix_of (subnet 1) (Some (subnet 1, 1)) ≡ false
an_element_of_it = refl

pub no_element_before_it : stands_before prefix_of (subnet 1) None ≡ false
no_element_before_it = refl

pub an_element_behind_it : stands_behind prefix_of (subnet 2) (Some (subnet 3, 3)) ≡ true
an_element_behind_it = refl

pub none_of_it : stands_behind prefix_of (subnet 3) (Some (subnet 3, 3)) ≡ false
none_of_it = refl

pub no_element_at_all : stands_behind prefix_of (subnet 3) None ≡ true
no_element_at_all = refl

-- ---- by address

abbrev longest : ℕ → Option Row
longest a = longest_by prefix_of (joined pieces) a

-- 10.0.3.9 and 10.0.3.10
pub a_host : longest (address 3 9) ≡ Some (host 3 9, 9)
a_host = refl

pub beside_the_host : longest (address 3 10) ≡ Some (subnet 3, 3)
beside_the_host = refl

-- behind all that begins: the second piece begins before the address and doesn't hold it
pub from_the_first_piece : longest (address 4 0) ≡ Some (everything, 0)
from_the_first_piece = refl

pub of_the_first_piece : longest (address 1 255) ≡ Some (subnet 1, 1)
of_the_first_piece = refl

-- the second piece alone, before it, between its prefixes and behind them
pub before_all : longest_by prefix_of second (address 2 255) ≡ None
before_all = refl

pub behind_all : longest_by prefix_of second (address 4 0) ≡ None
behind_all = refl

-- ---- edits

abbrev put : Cidr → ℕ → Edit Row
put p n = record { prefix = p; value = Some (p, n) }

abbrev drop : Cidr → Edit Row
drop p = record { prefix = p; value = None }

abbrev with : List (Edit Row) → List Row
with edits = edited prefix_of all edits

pub without_edits : with [] ≡ all
without_edits = refl

pub in_place_of_what_was : with (put (subnet 3) 7 ∷ []) ≡ (everything, 0) ∷ (subnet 1, 1) ∷ (subnet 3, 7) ∷ (host 3 9, 9) ∷ []
in_place_of_what_was = refl

pub taken_out : with (drop (subnet 3) ∷ []) ≡ (everything, 0) ∷ (subnet 1, 1) ∷ (host 3 9, 9) ∷ []
taken_out = refl

-- one more between pieces
pub one_more : with (put (subnet 2) 2 ∷ []) ≡ (everything, 0) ∷ (subnet 1, 1) ∷ (subnet 2, 2) ∷ (subnet 3, 3) ∷ (host 3 9, 9) ∷ []
one_more = refl

-- of one address the shorter prefix stands first
pub one_more_of_an_address : with (put (host 3 0) 8 ∷ []) ≡ (everything, 0) ∷ (subnet 1, 1) ∷ (subnet 3, 3) ∷ (host 3 0, 8) ∷ (host 3 9, 9) ∷ []
one_more_of_an_address = refl

pub behind_the_last : with (put (subnet 4) 4 ∷ []) ≡ (everything, 0) ∷ (subnet 1, 1) ∷ (subnet 3, 3) ∷ (host 3 9, 9) ∷ (subnet 4, 4) ∷ []
behind_the_last = refl

pub nothing_to_take_out : with (drop (subnet 2) ∷ []) ≡ all
nothing_to_take_out = refl

pub several : with (drop everything ∷ put (subnet 1) 5 ∷ put (subnet 2) 6 ∷ drop (host 3 9) ∷ []) ≡ (subnet 1, 5) ∷ (subnet 2, 6) ∷ (subnet 3, 3) ∷ []
several = refl

pub of_an_empty_list : edited prefix_of [] (put (subnet 1) 1 ∷ drop (subnet 2) ∷ put (subnet 3) 3 ∷ []) ≡ (subnet 1, 1) ∷ (subnet 3, 3) ∷ []
of_an_empty_list = refl

-- ---- what edits say

pub the_edit_says_it : said (put (subnet 1) 5 ∷ []) (subnet 1) (listed_at prefix_of all (subnet 1)) ≡ Some (subnet 1, 5)
the_edit_says_it = refl

pub the_edit_says_there_is_none : said (drop (subnet 1) ∷ []) (subnet 1) (listed_at prefix_of all (subnet 1)) ≡ None
the_edit_says_there_is_none = refl

pub no_edit_says_it : said (drop (subnet 1) ∷ []) (subnet 3) (listed_at prefix_of all (subnet 3)) ≡ Some (subnet 3, 3)
no_edit_says_it = refl

-- ---- which piece an edit belongs to: one of the prefix at which the next piece begins belongs to that

pub of_the_next_piece : goes_before (put (subnet 3) 7 ∷ []) (Some (subnet 3)) ≡ false
of_the_next_piece = refl

pub of_this_piece : goes_before (put (subnet 2) 2 ∷ []) (Some (subnet 3)) ≡ true
of_this_piece = refl

pub of_the_last_piece : goes_before (put (subnet 4) 4 ∷ []) None ≡ true
of_the_last_piece = refl

pub no_edit_is_left : goes_before {A = Row} [] None ≡ false
no_edit_is_left = refl
