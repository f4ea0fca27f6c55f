-- Worked cases of sectors, each by computation.
use Rattle.std.specs.Prelude.{◌≡◌, true, false, [], ◌∷◌, refl}
use Rattle.rc_trees.specs.Trees.{Tree, never, always, node}
use Rattle.rc_sectors.specs.Cuts.{uncut, halved, sectors_of}
use Rattle.rc_sectors.specs.Sectors.{within, flows_within}

-- the first bit is tested, and the third
abbrev tested : Tree
tested = node 0 never (node 2 never always)

pub in_no_sector : within [] tested ≡ tested
in_no_sector = refl

pub where_the_first_is_0 : within (false ∷ []) tested ≡ never
where_the_first_is_0 = refl

pub where_the_first_is_1 : within (true ∷ []) tested ≡ node 2 never always
where_the_first_is_1 = refl

-- a bit that isn't tested takes nothing away
pub where_an_untested_one_is_told : within (true ∷ false ∷ []) tested ≡ node 2 never always
where_an_untested_one_is_told = refl

pub where_all_are_told : within (true ∷ true ∷ true ∷ []) tested ≡ always
where_all_are_told = refl

-- all headers, and what has every header
pub of_all : within (true ∷ false ∷ []) always ≡ always
of_all = refl

-- a flow keeps its source
pub a_flow : flows_within (true ∷ []) ((7, tested) ∷ (8, never) ∷ []) ≡ (7, node 2 never always) ∷ (8, never) ∷ []
a_flow = refl

-- ---- cuts

pub not_cut : sectors_of uncut ≡ [] ∷ []
not_cut = refl

pub cut_in_two : sectors_of (halved uncut uncut) ≡ (false ∷ []) ∷ (true ∷ []) ∷ []
cut_in_two = refl

pub one_half_cut_again : sectors_of (halved uncut (halved uncut uncut)) ≡ (false ∷ []) ∷ (true ∷ false ∷ []) ∷ (true ∷ true ∷ []) ∷ []
one_half_cut_again = refl
