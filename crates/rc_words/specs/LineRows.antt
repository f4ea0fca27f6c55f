-- Command lines worked out by hand, as clap reads their words.
use Rattle.std.specs.Prelude.{◌≡◌, refl, ℕ, ◌==◌, Bool, true, not, List, [], ◌∷◌, ◌++◌, codes, Option, Some, None, is_some}
use Rattle.std.specs.List.{list_all, slice_split}
use Rattle.std.specs.Str.{chars}
use Rattle.clap.specs.Faults.{defaults_fault, flags_fault, walk_fault}
use Rattle.clap.specs.Walk.{bundle_met, walked}
use Rattle.rc_base.specs.Fields.{zeros}
use Rattle.rc_base.specs.declared.header.Header.{Header}
use Rattle.rc_words.specs.Endings.{no_endings}
use Rattle.rc_words.specs.Request.{request_of}
use Rattle.rc_words.specs.declared.request.Ask.{Ask}
use Rattle.rc_words.specs.declared.request.Ask.TheVariants.{Routes, Trace, Loops, Uneven, Lines, Failures, Summary}
use Rattle.rc_words.specs.declared.request.PlaceName.{PlaceName}
use Rattle.rc_words.specs.declared.request.Request.{Request}
use Rattle.rc_words.specs.declared.request.Source.TheVariants.{Folder, Made}

-- the request of a line whose words are parted by single blanks (32): two blanks stand around an empty word
abbrev asked : List ℕ → Option Request
asked line = request_of (slice_split (λ b. b == 32) line)

-- what asks for the routes of all routers, or of one
abbrev all_routes : List ℕ → ℕ → ℕ → ℕ → Option Request
all_routes dir rounds workers nodes = Some (record { source = Folder dir; ask = Routes None; limits = record { rounds = rounds; workers = workers; nodes = nodes } })

abbrev routes_of_one : List ℕ → List ℕ → ℕ → ℕ → ℕ → Option Request
routes_of_one dir router rounds workers nodes = Some (record { source = Folder dir; ask = Routes (Some router); limits = record { rounds = rounds; workers = workers; nodes = nodes } })

-- a place, and a header by its fields in the order of the option names `dst`, `src`, `proto`, `sport` and `dport`
abbrev at_router : List ℕ → PlaceName
at_router router = record { router = router; interface = None }

abbrev at_interface : List ℕ → List ℕ → PlaceName
at_interface router interface = record { router = router; interface = Some interface }

abbrev header : ℕ → ℕ → ℕ → ℕ → ℕ → Header
header dst src proto sport dport = record zeros { dst = dst; src = src; proto = proto; sport = sport; dport = dport }

-- what asks for a walk of a packet of the folder `d`
abbrev a_walk : PlaceName → Header → ℕ → ℕ → ℕ → Option Request
a_walk place header rounds workers nodes = Some (record { source = Folder (codes "d"); ask = Trace place header; limits = record { rounds = rounds; workers = workers; nodes = nodes } })

-- ---- routes

-- without options each has its default
pub plain_routes : asked (codes "routes d") ≡ all_routes (codes "d") 1000 4 1048576
unfolding request_of walk_fault flags_fault defaults_fault walked bundle_met chars
plain_routes = refl

-- a folder is any text: a path beyond ASCII (é is 195 169), a word that names a command, one dash, the empty text
pub a_path_as_folder : asked (codes "routes ../a/" ++ 195 ∷ 169 ∷ [] ++ codes ".b") ≡ all_routes (codes "../a/" ++ 195 ∷ 169 ∷ [] ++ codes ".b") 1000 4 1048576
unfolding request_of walk_fault flags_fault defaults_fault walked bundle_met chars
a_path_as_folder = refl

pub a_command_as_folder : asked (codes "routes routes") ≡ all_routes (codes "routes") 1000 4 1048576
unfolding request_of walk_fault flags_fault defaults_fault walked bundle_met chars
a_command_as_folder = refl

pub a_dash_as_folder : asked (codes "routes -") ≡ all_routes (codes "-") 1000 4 1048576
unfolding request_of walk_fault flags_fault defaults_fault walked bundle_met chars
a_dash_as_folder = refl

pub an_empty_folder : asked (codes "routes ") ≡ all_routes [] 1000 4 1048576
unfolding request_of walk_fault flags_fault defaults_fault walked bundle_met chars
an_empty_folder = refl

-- each number at both ends of its range
pub least_rounds : asked (codes "routes d --rounds 1") ≡ all_routes (codes "d") 1 4 1048576
unfolding request_of walk_fault flags_fault defaults_fault walked bundle_met chars
least_rounds = refl

pub most_rounds : asked (codes "routes d --rounds 100000") ≡ all_routes (codes "d") 100000 4 1048576
unfolding request_of walk_fault flags_fault defaults_fault walked bundle_met chars
most_rounds = refl

pub least_workers : asked (codes "routes d --workers 1") ≡ all_routes (codes "d") 1000 1 1048576
unfolding request_of walk_fault flags_fault defaults_fault walked bundle_met chars
least_workers = refl

pub most_workers : asked (codes "routes d --workers 64") ≡ all_routes (codes "d") 1000 64 1048576
unfolding request_of walk_fault flags_fault defaults_fault walked bundle_met chars
most_workers = refl

pub least_nodes : asked (codes "routes d --nodes 16") ≡ all_routes (codes "d") 1000 4 16
unfolding request_of walk_fault flags_fault defaults_fault walked bundle_met chars
least_nodes = refl

pub most_nodes : asked (codes "routes d --nodes 16777216") ≡ all_routes (codes "d") 1000 4 16777216
unfolding request_of walk_fault flags_fault defaults_fault walked bundle_met chars
most_nodes = refl

-- in any order, with zeros in front
pub three_options : asked (codes "routes d --nodes 16 --rounds 007 --workers 2") ≡ all_routes (codes "d") 7 2 16
unfolding request_of walk_fault flags_fault defaults_fault walked bundle_met chars
three_options = refl

pub many_zeros : asked (codes "routes d --rounds 00000000000000000000000007") ≡ all_routes (codes "d") 7 4 1048576
unfolding request_of walk_fault flags_fault defaults_fault walked bundle_met chars
many_zeros = refl

-- a value may stand behind an equals sign, a plus in front of a number, an option before the folder
pub a_value_behind_equals : asked (codes "routes d --rounds=5") ≡ all_routes (codes "d") 5 4 1048576
unfolding request_of walk_fault flags_fault defaults_fault walked bundle_met chars
a_value_behind_equals = refl

pub a_plus_in_front : asked (codes "routes d --rounds +5") ≡ all_routes (codes "d") 5 4 1048576
unfolding request_of walk_fault flags_fault defaults_fault walked bundle_met chars
a_plus_in_front = refl

pub an_option_before : asked (codes "routes --workers 2 d") ≡ all_routes (codes "d") 1000 2 1048576
unfolding request_of walk_fault flags_fault defaults_fault walked bundle_met chars
an_option_before = refl

-- behind two dashes no word is an option, and none has to stand there
pub a_dash_behind_two : asked (codes "routes --workers 2 -- -d") ≡ all_routes (codes "-d") 1000 2 1048576
unfolding request_of walk_fault flags_fault defaults_fault walked bundle_met chars
a_dash_behind_two = refl

pub nothing_behind_two : asked (codes "routes d --") ≡ all_routes (codes "d") 1000 4 1048576
unfolding request_of walk_fault flags_fault defaults_fault walked bundle_met chars
nothing_behind_two = refl

-- a router is any text
pub one_router : asked (codes "routes d --router R1") ≡ routes_of_one (codes "d") (codes "R1") 1000 4 1048576
unfolding request_of walk_fault flags_fault defaults_fault walked bundle_met chars
one_router = refl

pub an_empty_router : asked (codes "routes d --router ") ≡ routes_of_one (codes "d") [] 1000 4 1048576
unfolding request_of walk_fault flags_fault defaults_fault walked bundle_met chars
an_empty_router = refl

pub a_colon_in_a_router : asked (codes "routes d --router=R1:" ++ 195 ∷ 169 ∷ []) ≡ routes_of_one (codes "d") (codes "R1:" ++ 195 ∷ 169 ∷ []) 1000 4 1048576
unfolding request_of walk_fault flags_fault defaults_fault walked bundle_met chars
a_colon_in_a_router = refl

pub a_command_as_router : asked (codes "routes d --nodes 16 --router trace") ≡ routes_of_one (codes "d") (codes "trace") 1000 4 16
unfolding request_of walk_fault flags_fault defaults_fault walked bundle_met chars
a_command_as_router = refl

-- ---- walks

-- without options the source is 0.0.0.0, and protocol and ports are 0
pub plain_trace : asked (codes "trace d --from R1 --dst 10.0.0.1") ≡ a_walk (at_router (codes "R1")) (header 167772161 0 0 0 0) 1000 4 1048576
unfolding request_of walk_fault flags_fault defaults_fault walked bundle_met chars
plain_trace = refl

pub destination_first : asked (codes "trace d --dst 10.0.0.1 --from R1") ≡ a_walk (at_router (codes "R1")) (header 167772161 0 0 0 0) 1000 4 1048576
unfolding request_of walk_fault flags_fault defaults_fault walked bundle_met chars
destination_first = refl

-- a place is cut at its first colon
pub an_interface_of_it : asked (codes "trace d --from=R1:Gi0/0 --dst=10.0.0.1") ≡ a_walk (at_interface (codes "R1") (codes "Gi0/0")) (header 167772161 0 0 0 0) 1000 4 1048576
unfolding request_of walk_fault flags_fault defaults_fault walked bundle_met chars
an_interface_of_it = refl

pub two_colons : asked (codes "trace d --from R1:a:b --dst 10.0.0.1") ≡ a_walk (at_interface (codes "R1") (codes "a:b")) (header 167772161 0 0 0 0) 1000 4 1048576
unfolding request_of walk_fault flags_fault defaults_fault walked bundle_met chars
two_colons = refl

-- the folder between options, zeros in front of octets
pub the_folder_behind : asked (codes "trace --nodes 16 --from R1 --dst 010.000.0.001 d --workers 64") ≡ a_walk (at_router (codes "R1")) (header 167772161 0 0 0 0) 1000 64 16
unfolding request_of walk_fault flags_fault defaults_fault walked bundle_met chars
the_folder_behind = refl

-- each field of the header by its option
pub a_whole_header : asked (codes "trace d --from R1 --dst 255.255.255.255 --src 0.0.1.0 --proto 6 --sport 1 --dport 2") ≡ a_walk (at_router (codes "R1")) (header 4294967295 256 6 1 2) 1000 4 1048576
unfolding request_of walk_fault flags_fault defaults_fault walked bundle_met chars
a_whole_header = refl

pub greatest_fields : asked (codes "trace d --from R1 --dst 10.0.0.1 --dport 65535 --sport 65534 --proto 255 --rounds 1") ≡ a_walk (at_router (codes "R1")) (header 167772161 0 255 65534 65535) 1 4 1048576
unfolding request_of walk_fault flags_fault defaults_fault walked bundle_met chars
greatest_fields = refl

-- the type and code of ICMP at their greatest, and at their least
pub greatest_kinds : asked (codes "trace d --from R1 --dst 10.0.0.1 --proto 1 --type 255 --code 255") ≡ a_walk (at_router (codes "R1")) (record zeros { dst = 167772161; proto = 1; icmp_type = 255; icmp_code = 255 }) 1000 4 1048576
unfolding request_of walk_fault flags_fault defaults_fault walked bundle_met chars
greatest_kinds = refl

pub apart_kinds : asked (codes "trace d --code=1 --from R1 --type 003 --dst 10.0.0.1") ≡ a_walk (at_router (codes "R1")) (record zeros { dst = 167772161; icmp_type = 3; icmp_code = 1 }) 1000 4 1048576
unfolding request_of walk_fault flags_fault defaults_fault walked bundle_met chars
apart_kinds = refl

-- each flag for itself
pub an_ack : asked (codes "trace d --from R1 --dst 10.0.0.1 --ack 1 --rst 0") ≡ a_walk (at_router (codes "R1")) (record zeros { dst = 167772161; ack = true }) 1000 4 1048576
unfolding request_of walk_fault flags_fault defaults_fault walked bundle_met chars
an_ack = refl

pub a_reset : asked (codes "trace d --from R1 --dst 10.0.0.1 --rst +1 --ack 0") ≡ a_walk (at_router (codes "R1")) (record zeros { dst = 167772161; rst = true }) 1000 4 1048576
unfolding request_of walk_fault flags_fault defaults_fault walked bundle_met chars
a_reset = refl

pub both_flags : asked (codes "trace d --rst=1 --from R1 --dst 10.0.0.1 --ack 01 --type 0 --code 0") ≡ a_walk (at_router (codes "R1")) (record zeros { dst = 167772161; ack = true; rst = true }) 1000 4 1048576
unfolding request_of walk_fault flags_fault defaults_fault walked bundle_met chars
both_flags = refl

pub fields_with_zeros : asked (codes "trace d --from R1 --dst 10.0.0.1 --dport 0080 --sport +5 --proto 007") ≡ a_walk (at_router (codes "R1")) (header 167772161 0 7 5 80) 1000 4 1048576
unfolding request_of walk_fault flags_fault defaults_fault walked bundle_met chars
fields_with_zeros = refl

pub a_source_behind_equals : asked (codes "trace d --from R1 --dst 10.0.0.1 --src=0.0.0.7") ≡ a_walk (at_router (codes "R1")) (header 167772161 7 0 0 0) 1000 4 1048576
unfolding request_of walk_fault flags_fault defaults_fault walked bundle_met chars
a_source_behind_equals = refl

-- ---- sets of packets

-- what asks about packets of the folder `d`
abbrev asks : Ask → ℕ → ℕ → ℕ → Option Request
asks ask rounds workers nodes = Some (record { source = Folder (codes "d"); ask = ask; limits = record { rounds = rounds; workers = workers; nodes = nodes } })

-- without options no example is shown
pub plain_loops : asked (codes "loops d --from R1") ≡ asks (Loops (at_router (codes "R1")) 0) 1000 4 1048576
unfolding request_of walk_fault flags_fault defaults_fault walked bundle_met chars
plain_loops = refl

pub loops_with_examples : asked (codes "loops --examples 1000 d --workers 64 --from R1:Gi0/0") ≡ asks (Loops (at_interface (codes "R1") (codes "Gi0/0")) 1000) 1000 64 1048576
unfolding request_of walk_fault flags_fault defaults_fault walked bundle_met chars
loops_with_examples = refl

pub plain_uneven : asked (codes "uneven d --from R1") ≡ asks (Uneven (at_router (codes "R1")) 0) 1000 4 1048576
unfolding request_of walk_fault flags_fault defaults_fault walked bundle_met chars
plain_uneven = refl

pub uneven_with_examples : asked (codes "uneven d --from=R1 --examples=01 --rounds 7 --nodes 16") ≡ asks (Uneven (at_router (codes "R1")) 1) 7 4 16
unfolding request_of walk_fault flags_fault defaults_fault walked bundle_met chars
uneven_with_examples = refl

-- ---- lines of access lists

pub plain_lines : asked (codes "lines d") ≡ asks (Lines None) 1000 4 1048576
unfolding request_of walk_fault flags_fault defaults_fault walked bundle_met chars
plain_lines = refl

pub lines_of_one : asked (codes "lines d --nodes 16 --router R1") ≡ asks (Lines (Some (codes "R1"))) 1000 4 16
unfolding request_of walk_fault flags_fault defaults_fault walked bundle_met chars
lines_of_one = refl

-- ---- a packet without each link

-- without options the endings are `accepted` and `delivered`, and the header is that of a walk
pub plain_failures : asked (codes "failures d --from R1 --dst 10.0.0.1") ≡ asks (Failures (at_router (codes "R1")) (header 167772161 0 0 0 0) (record no_endings { accepted = true; delivered = true })) 1000 4 1048576
unfolding request_of walk_fault flags_fault defaults_fault walked bundle_met chars
plain_failures = refl

-- one ending by its name, before the place or behind it
pub failures_to_an_ending : asked (codes "failures d --from R1:Gi0/0 --dst 10.0.0.1 --end exits") ≡ asks (Failures (at_interface (codes "R1") (codes "Gi0/0")) (header 167772161 0 0 0 0) (record no_endings { exits = true })) 1000 4 1048576
unfolding request_of walk_fault flags_fault defaults_fault walked bundle_met chars
failures_to_an_ending = refl

pub failures_to_be_denied : asked (codes "failures --end=denied-in --workers 64 --dst=10.0.0.1 d --from=R1 --rounds 7 --nodes 16") ≡ asks (Failures (at_router (codes "R1")) (header 167772161 0 0 0 0) (record no_endings { denied_in = true })) 7 64 16
unfolding request_of walk_fault flags_fault defaults_fault walked bundle_met chars
failures_to_be_denied = refl

-- each field of the header by its option
pub failures_of_a_header : asked (codes "failures d --from R1 --dst 255.255.255.255 --src 0.0.1.0 --proto 6 --sport 1 --dport 2 --ack 1") ≡ asks (Failures (at_router (codes "R1")) (record zeros { dst = 4294967295; src = 256; proto = 6; sport = 1; dport = 2; ack = true }) (record no_endings { accepted = true; delivered = true })) 1000 4 1048576
unfolding request_of walk_fault flags_fault defaults_fault walked bundle_met chars
failures_of_a_header = refl

pub failures_of_an_echo : asked (codes "failures d --rst 1 --code 4 --type 8 --proto 1 --end accepted --dst 10.0.0.1 --from R1") ≡ asks (Failures (at_router (codes "R1")) (record zeros { dst = 167772161; proto = 1; icmp_type = 8; icmp_code = 4; rst = true }) (record no_endings { accepted = true })) 1000 4 1048576
unfolding request_of walk_fault flags_fault defaults_fault walked bundle_met chars
failures_of_an_echo = refl

pub failures_of_greatest_fields : asked (codes "failures d --from R1 --dst 10.0.0.1 --dport 65535 --sport 65534 --proto 255 --type 255 --code 254 --ack 0 --rst 0") ≡ asks (Failures (at_router (codes "R1")) (record zeros { dst = 167772161; proto = 255; sport = 65534; dport = 65535; icmp_type = 255; icmp_code = 254 }) (record no_endings { accepted = true; delivered = true })) 1000 4 1048576
unfolding request_of walk_fault flags_fault defaults_fault walked bundle_met chars
failures_of_greatest_fields = refl

-- ---- made networks

-- what asks for the summary of a made network
abbrev made : ℕ → ℕ → ℕ → ℕ → Option Request
made routers rounds workers nodes = Some (record { source = Made routers; ask = Summary; limits = record { rounds = rounds; workers = workers; nodes = nodes } })

pub least_network : asked (codes "sample 4") ≡ made 4 1000 4 1048576
unfolding request_of walk_fault flags_fault defaults_fault walked bundle_met chars
least_network = refl

pub most_network : asked (codes "sample --nodes 16777216 0512") ≡ made 512 1000 4 16777216
unfolding request_of walk_fault flags_fault defaults_fault walked bundle_met chars
most_network = refl

-- ---- lines that are refused

abbrev refused : List (List ℕ) → Bool
refused lines = list_all (λ line. not (is_some (asked line))) lines

pub no_words : request_of [] ≡ None
unfolding request_of walk_fault flags_fault defaults_fault walked bundle_met chars
no_words = refl

-- no command: an empty word, help and versions, an option before the command, other names and cases; and `sample` below its least number
pub no_command : refused (
    []
    ∷ codes "--help"
    ∷ codes "-h"
    ∷ codes "help"
    ∷ codes "help routes"
    ∷ codes "--version"
    ∷ codes "-V"
    ∷ codes "--"
    ∷ codes "-- routes d"
    ∷ codes "--rounds 5 routes d"
    ∷ codes "d"
    ∷ codes "Routes d"
    ∷ codes "route d"
    ∷ codes "loop d --from R1"
    ∷ codes "line d"
    ∷ codes "failure d --from R1 --dst 10.0.0.1"
    ∷ codes "sample 3"
    ∷ codes "Trace d --from R1 --dst 10.0.0.1"
    ∷ []) ≡ true
unfolding request_of walk_fault flags_fault defaults_fault walked bundle_met chars
no_command = refl

-- no folder, or two words where one has to stand
pub no_folder : refused (
    codes "routes"
    ∷ codes "routes --help"
    ∷ codes "routes -h"
    ∷ codes "routes help me"
    ∷ codes "routes d e"
    ∷ codes "routes -d"
    ∷ codes "trace"
    ∷ codes "trace d e --from R1 --dst 10.0.0.1"
    ∷ codes "trace --from R1 --dst 10.0.0.1"
    ∷ codes "failures"
    ∷ codes "failures --from R1 --dst 10.0.0.1"
    ∷ []) ≡ true
unfolding request_of walk_fault flags_fault defaults_fault walked bundle_met chars
no_folder = refl

-- an option of another command, or the front of an option's name
pub no_such_option : refused (
    codes "routes d --from R1"
    ∷ codes "routes d --dst 10.0.0.1"
    ∷ codes "routes d --ack 1"
    ∷ codes "reach d --from R1 --type 8"
    ∷ codes "loops d --from R1 --end exits"
    ∷ codes "uneven d --from R1 --dst 10.0.0.1"
    ∷ codes "lines d --from R1"
    ∷ codes "lines d --examples 1"
    ∷ codes "routes d --round 5"
    ∷ codes "trace d --from R1 --dst 10.0.0.1 --router R1"
    ∷ codes "trace d --from R1 --dst 10.0.0.1 --end exits"
    ∷ codes "failures d --from R1 --dst 10.0.0.1 --examples 1"
    ∷ codes "failures d --from R1 --dst 10.0.0.1 --router R1"
    ∷ []) ≡ true
unfolding request_of walk_fault flags_fault defaults_fault walked bundle_met chars
no_such_option = refl

-- an option without a value
pub no_value : refused (
    codes "routes d --router"
    ∷ codes "routes d --rounds"
    ∷ codes "routes d --rounds "
    ∷ codes "routes d --rounds="
    ∷ codes "routes d --rounds --workers 2"
    ∷ codes "trace d --from --dst 10.0.0.1"
    ∷ codes "trace d --from R1 --dst"
    ∷ codes "trace d --from R1 --dst 10.0.0.1 --sport"
    ∷ codes "trace d --from R1 --dst 10.0.0.1 --ack"
    ∷ codes "failures d --from R1 --dst 10.0.0.1 --end"
    ∷ codes "failures d --from R1 --end exits --dst"
    ∷ []) ≡ true
unfolding request_of walk_fault flags_fault defaults_fault walked bundle_met chars
no_value = refl

-- an option twice
pub given_twice : refused (
    codes "routes d --router r --router r"
    ∷ codes "routes d --rounds 5 --rounds 5"
    ∷ codes "routes d --workers 2 --workers=2"
    ∷ codes "trace d --from R1 --from R1 --dst 10.0.0.1"
    ∷ codes "trace d --from R1 --dst 10.0.0.1 --dst=10.0.0.1"
    ∷ codes "trace d --from R1 --dst 10.0.0.1 --src 10.0.0.1 --src 10.0.0.1"
    ∷ codes "trace d --from R1 --dst 10.0.0.1 --proto 1 --proto 1"
    ∷ codes "trace d --from R1 --dst 10.0.0.1 --type 1 --type 1"
    ∷ codes "trace d --from R1 --dst 10.0.0.1 --code 1 --code=1"
    ∷ codes "trace d --from R1 --dst 10.0.0.1 --ack 1 --ack 1"
    ∷ codes "trace d --from R1 --dst 10.0.0.1 --rst 0 --rst 0"
    ∷ codes "failures d --from R1 --dst 10.0.0.1 --end exits --end exits"
    ∷ codes "failures d --from R1 --dst 10.0.0.1 --dst 10.0.0.1"
    ∷ []) ≡ true
unfolding request_of walk_fault flags_fault defaults_fault walked bundle_met chars
given_twice = refl

-- a bound out of its range: below and above it, 5 above a power of two, below zero, no whole number
pub no_number : refused (
    codes "routes d --rounds 0"
    ∷ codes "routes d --rounds 100001"
    ∷ codes "routes d --rounds 4294967301"
    ∷ codes "routes d --rounds 18446744073709551621"
    ∷ codes "routes d --rounds -1"
    ∷ codes "routes d --rounds=-0"
    ∷ codes "routes d --rounds 1.0"
    ∷ codes "routes d --workers 0"
    ∷ codes "routes d --workers 65"
    ∷ codes "routes d --nodes 15"
    ∷ codes "routes d --nodes 16777217"
    ∷ codes "loops d --from R1 --examples 1001"
    ∷ codes "uneven d --from R1 --examples -1"
    ∷ codes "trace d --from R1 --dst 10.0.0.1 --rounds 0"
    ∷ codes "trace d --from R1 --dst 10.0.0.1 --nodes 16777217"
    ∷ []) ≡ true
unfolding request_of walk_fault flags_fault defaults_fault walked bundle_met chars
no_number = refl

-- a field of the header out of its range
pub no_field : refused (
    codes "trace d --from R1 --dst 10.0.0.1 --proto 256"
    ∷ codes "trace d --from R1 --dst 10.0.0.1 --proto -1"
    ∷ codes "trace d --from R1 --dst 10.0.0.1 --proto=-0"
    ∷ codes "trace d --from R1 --dst 10.0.0.1 --proto tcp"
    ∷ codes "trace d --from R1 --dst 10.0.0.1 --sport 65536"
    ∷ codes "trace d --from R1 --dst 10.0.0.1 --sport -1"
    ∷ codes "trace d --from R1 --dst 10.0.0.1 --dport 65536"
    ∷ codes "trace d --from R1 --dst 10.0.0.1 --dport=-1"
    ∷ codes "trace d --from R1 --dst 10.0.0.1 --dport 65536 --sport 1"
    ∷ codes "trace d --from R1 --dst 10.0.0.1 --type 256"
    ∷ codes "trace d --from R1 --dst 10.0.0.1 --type -1"
    ∷ codes "trace d --from R1 --dst 10.0.0.1 --type echo"
    ∷ codes "trace d --from R1 --dst 10.0.0.1 --code 256"
    ∷ codes "trace d --from R1 --dst 10.0.0.1 --code=-1"
    ∷ codes "trace d --from R1 --dst 10.0.0.1 --ack 2"
    ∷ codes "trace d --from R1 --dst 10.0.0.1 --ack -1"
    ∷ codes "trace d --from R1 --dst 10.0.0.1 --rst 2"
    ∷ codes "trace d --from R1 --dst 10.0.0.1 --rst true"
    ∷ codes "failures d --from R1 --dst 10.0.0.1 --proto 256"
    ∷ codes "failures d --from R1 --dst 10.0.0.1 --sport 65536"
    ∷ codes "failures d --from R1 --dst 10.0.0.1 --ack 2"
    ∷ codes "failures d --from R1 --dst 10.0.0.1 --workers 65"
    ∷ []) ≡ true
unfolding request_of walk_fault flags_fault defaults_fault walked bundle_met chars
no_field = refl

-- a text that is no address
pub no_address : refused (
    codes "trace d --from R1 --dst 10.0.0"
    ∷ codes "trace d --from R1 --dst 10.0.0.256"
    ∷ codes "trace d --from R1 --dst 1.2.3.4.5"
    ∷ codes "trace d --from R1 --dst "
    ∷ codes "trace d --from R1 --dst="
    ∷ codes "trace d --from R1 --dst 10.0.0.1/32"
    ∷ codes "trace d --from R1 --dst 10.0.0.1 --src 10.0.0"
    ∷ codes "trace d --from R1 --dst 10.0.0.1 --src "
    ∷ codes "trace d --from R1 --dst 10.0.0.1 --src 256.0.0.0"
    ∷ codes "failures d --from R1 --dst 10.0.0"
    ∷ codes "failures d --from R1 --dst 10.0.0.1 --src 10.0.0.256"
    ∷ []) ≡ true
unfolding request_of walk_fault flags_fault defaults_fault walked bundle_met chars
no_address = refl

-- no place or no destination, a text that is no place, or no ending
pub no_place : refused (
    codes "trace d"
    ∷ codes "trace d --from R1"
    ∷ codes "trace d --dst 10.0.0.1"
    ∷ codes "trace d --from R1: --dst 10.0.0.1"
    ∷ codes "trace d --from :Gi0/0 --dst 10.0.0.1"
    ∷ codes "trace d --from : --dst 10.0.0.1"
    ∷ codes "trace d --from  --dst 10.0.0.1"
    ∷ (codes "trace d --from " ++ 195 ∷ 169 ∷ [] ++ codes " --dst 10.0.0.1")
    ∷ codes "reach d --from R1 --end nowhere"
    ∷ codes "loops d"
    ∷ codes "loops d --from R1:"
    ∷ codes "uneven d --examples 1"
    ∷ codes "uneven d --from :"
    ∷ codes "failures d --from R1"
    ∷ codes "failures d --from R1 --end exits"
    ∷ codes "failures d --dst 10.0.0.1"
    ∷ codes "failures d --from R1: --dst 10.0.0.1"
    ∷ codes "failures d --from R1 --dst 10.0.0.1 --end nowhere"
    ∷ codes "failures d --from R1 --dst 10.0.0.1 --end Exits"
    ∷ codes "failures d --from R1 --dst 10.0.0.1 --end "
    ∷ []) ≡ true
unfolding request_of walk_fault flags_fault defaults_fault walked bundle_met chars
no_place = refl
