-- The texts that speak of what was asked, and of refusals.
use Rattle.std.specs.Prelude.{ℕ, List, [], ◌++◌, codes, decimal}
use Rattle.rc_network.specs.Codes.{net_code}
use Rattle.rc_network.specs.declared.refusal.NetRefusal.{NetRefusal}
use Rattle.rc_network.specs.declared.refusal.NetRefusal.TheVariants.{InFile, TooManyFiles}
use Rattle.rc_words.specs.declared.request.Source.{Source}
use Rattle.rc_words.specs.declared.request.Source.TheVariants.{Folder, Made}

-- the usage text
unfoldable pub usage_text : List ℕ
usage_text = codes "usage: netcheck routes DIR [--router R]\n"
    ++ codes "       netcheck trace DIR --from PLACE --dst A [--src A] [--proto N] [--sport N] [--dport N] [--type N] [--code N] [--ack N] [--rst N]\n"
    ++ codes "       netcheck reach DIR --from PLACE [--end KIND] [--examples N]\n"
    ++ codes "       netcheck loops DIR --from PLACE [--examples N]\n"
    ++ codes "       netcheck uneven DIR --from PLACE [--examples N]\n"
    ++ codes "       netcheck lines DIR [--router R]\n"
    ++ codes "       netcheck failures DIR --from PLACE --dst A [--end KIND] [--src A] [--proto N] [--sport N] [--dport N] [--type N] [--code N] [--ack N] [--rst N]\n"
    ++ codes "       netcheck sample N\n"
    ++ codes "options: --rounds N --workers N --nodes N\n"

unfoldable pub refused_line : NetRefusal → List ℕ
refused_line TooManyFiles = codes "refused folder: 10\n"
refused_line (InFile file line cause) = codes "refused " ++ file ++ codes ":" ++ decimal line ++ codes ": " ++ decimal (net_code cause) ++ codes "\n"

-- the text that names no router or interface
unfoldable pub no_place_line : List ℕ → List ℕ
no_place_line text = codes "no place " ++ text ++ codes "\n"

-- what stands before the outcome: the size of a made network
unfoldable pub head_text : Source → List ℕ
head_text (Folder dir) = []
head_text (Made n) = codes "sample " ++ decimal n ++ codes "\n"
