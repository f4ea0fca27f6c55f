-- Numbers, places and plain words worked out by hand.
use Rattle.std.specs.Prelude.{◌≡◌, refl, true, false, List, [], ◌∷◌, ◌++◌, codes, map, Some, None}
use Rattle.std.specs.List.{list_all}
use Rattle.std.proofs.Common.{lit<, lit≤}
use Rattle.rc_base.specs.Fields.{fields, zeros}
use Rattle.rc_base.specs.declared.field.Field.TheVariants.{Dst, Src, Proto, Sport, Dport, IcmpType, IcmpCode, Ack, Rst}
use Rattle.rc_words.specs.Endings.{no_endings}
use Rattle.rc_words.specs.Plain.{routes, trace, failures, router, from, field, end, rounds, workers, nodes, number, text, kind_of, required_of, has_option, options_of, Use, is_given, is_plain_text, IsPlainValue, ArePlain, plain_words, plain_request}
use Rattle.rc_words.specs.Request.{number_read, place_of}
use Rattle.rc_words.specs.declared.request.Ask.TheVariants.{Routes, Trace, Failures}
use Rattle.rc_words.specs.declared.request.Source.TheVariants.{Folder}

-- ---- numbers

pub greatest_byte : number_read 8 (codes "255") ≡ Some 255
greatest_byte = refl

pub no_byte : number_read 8 (codes "256") ≡ None
no_byte = refl

pub a_plus : number_read 16 (codes "+007") ≡ Some 7
a_plus = refl

pub a_minus : number_read 16 (codes "-0") ≡ None
a_minus = refl

pub no_digits : number_read 16 [] ≡ None
no_digits = refl

-- ---- places

pub a_router : place_of (codes "R1") ≡ Some (record { router = codes "R1"; interface = None })
a_router = refl

pub an_interface : place_of (codes "R1:Gi0/0") ≡ Some (record { router = codes "R1"; interface = Some (codes "Gi0/0") })
an_interface = refl

pub two_colons : place_of (codes "R1:a:b") ≡ Some (record { router = codes "R1"; interface = Some (codes "a:b") })
two_colons = refl

pub no_interface : place_of (codes "R1:") ≡ None
no_interface = refl

pub no_router : place_of (codes ":Gi0/0") ≡ None
no_router = refl

pub no_place : place_of [] ≡ None
no_place = refl

pub a_blank : place_of (codes "R 1") ≡ None
a_blank = refl

pub a_blank_behind : place_of (codes "R1:Gi 0") ≡ None
a_blank_behind = refl

-- ---- which words are plain

-- every option of `routes`, with the least numbers
abbrev routes_uses : List Use
routes_uses = record { option = nodes; value = codes "16" } ∷ record { option = router; value = codes "R 1" } ∷ record { option = workers; value = codes "1" } ∷ record { option = rounds; value = codes "1" } ∷ []

pub whole_routes : ArePlain routes (codes "d") routes_uses
whole_routes = record {
  argument = refl;
  options = (
    refl,
    record { some = lit< tt; digits = refl; least = lit≤ tt; most = lit≤ tt },
    refl,
    (
      refl,
      refl,
      refl,
      (refl, record { some = lit< tt; digits = refl; least = lit≤ tt; most = lit≤ tt }, refl, (refl, record { some = lit< tt; digits = refl; least = lit≤ tt; most = lit≤ tt }, refl, tt)),
    ),
  );
  required = refl;
}

-- the greatest numbers are plain, and the least ones
pub protocols : IsPlainValue (kind_of (field Proto)) (codes "0") × IsPlainValue (kind_of (field Proto)) (codes "255")
protocols = (record { some = lit< tt; digits = refl; least = lit≤ tt; most = lit≤ tt }, record { some = lit< tt; digits = refl; least = lit≤ tt; most = lit≤ tt })

pub sports : IsPlainValue (kind_of (field Sport)) (codes "0") × IsPlainValue (kind_of (field Sport)) (codes "65535")
sports = (record { some = lit< tt; digits = refl; least = lit≤ tt; most = lit≤ tt }, record { some = lit< tt; digits = refl; least = lit≤ tt; most = lit≤ tt })

pub dports : IsPlainValue (kind_of (field Dport)) (codes "0") × IsPlainValue (kind_of (field Dport)) (codes "0065535")
dports = (record { some = lit< tt; digits = refl; least = lit≤ tt; most = lit≤ tt }, record { some = lit< tt; digits = refl; least = lit≤ tt; most = lit≤ tt })

pub kinds : IsPlainValue (kind_of (field IcmpType)) (codes "255") × IsPlainValue (kind_of (field IcmpCode)) (codes "255")
kinds = (record { some = lit< tt; digits = refl; least = lit≤ tt; most = lit≤ tt }, record { some = lit< tt; digits = refl; least = lit≤ tt; most = lit≤ tt })

pub flags : IsPlainValue (kind_of (field Ack)) (codes "1") × IsPlainValue (kind_of (field Rst)) (codes "01")
flags = (record { some = lit< tt; digits = refl; least = lit≤ tt; most = lit≤ tt }, record { some = lit< tt; digits = refl; least = lit≤ tt; most = lit≤ tt })

pub their_kinds : map kind_of (map field fields) ≡ text ∷ text ∷ number 0 255 ∷ number 0 65535 ∷ number 0 65535 ∷ number 0 255 ∷ number 0 255 ∷ number 0 1 ∷ number 0 1 ∷ []
their_kinds = refl

pub most_rounds : IsPlainValue (kind_of rounds) (codes "100000")
most_rounds = record { some = lit< tt; digits = refl; least = lit≤ tt; most = lit≤ tt }

pub most_workers : IsPlainValue (kind_of workers) (codes "64")
most_workers = record { some = lit< tt; digits = refl; least = lit≤ tt; most = lit≤ tt }

pub most_nodes : IsPlainValue (kind_of nodes) (codes "16777216")
most_nodes = record { some = lit< tt; digits = refl; least = lit≤ tt; most = lit≤ tt }

-- a trace with its source
abbrev trace_uses : List Use
trace_uses = record { option = field Src; value = codes "0.0.1.0" } ∷ record { option = field Dst; value = codes "0.0.0.9" } ∷ record { option = from; value = codes "R1:e0" } ∷ []

pub some_trace : ArePlain trace (codes "d") trace_uses
some_trace = record { argument = refl; options = (refl, refl, refl, (refl, refl, refl, (refl, refl, refl, tt))); required = refl }

pub numbers_of_trace : list_all (λ o. has_option o (options_of trace)) (map field fields ++ rounds ∷ workers ∷ nodes ∷ []) ≡ true
numbers_of_trace = refl

pub options_of_failures : list_all (λ o. has_option o (options_of failures)) (from ∷ end ∷ map field fields ++ rounds ∷ workers ∷ nodes ∷ []) ≡ true
options_of_failures = refl

pub other_command : has_option from (options_of routes) ≡ false
other_command = refl

pub no_router_in_trace : has_option router (options_of trace) ≡ false
no_router_in_trace = refl

pub from_wanted : list_all (λ o. is_given o (record { option = field Dst; value = codes "0.0.0.9" } ∷ [])) (required_of trace) ≡ false
from_wanted = refl

pub dst_wanted : list_all (λ o. is_given o (record { option = from; value = codes "R1" } ∷ [])) (required_of trace) ≡ false
dst_wanted = refl

pub no_end_in_trace : has_option end (options_of trace) ≡ false
no_end_in_trace = refl

pub both_wanted_of_failures : map (λ uses. list_all (λ o. is_given o uses) (required_of failures)) ((record { option = from; value = codes "R1" } ∷ []) ∷ (record { option = field Dst; value = codes "0.0.0.9" } ∷ []) ∷ []) ≡ false ∷ false ∷ []
both_wanted_of_failures = refl

pub no_dash_first : is_plain_text (codes "-d") ≡ false
no_dash_first = refl

pub something : is_plain_text [] ≡ false
something = refl

-- ---- what plain words ask for

pub only_dir : plain_request routes (codes "d") [] ≡ Some (record { source = Folder (codes "d"); ask = Routes None; limits = record { rounds = 1000; workers = 4; nodes = 1048576 } })
only_dir = refl

pub two_options : plain_words routes (codes "d") (record { option = workers; value = codes "64" } ∷ record { option = rounds; value = codes "007" } ∷ [])
    ≡ codes "routes" ∷ codes "d" ∷ codes "--workers" ∷ codes "64" ∷ codes "--rounds" ∷ codes "007" ∷ []
two_options = refl

pub their_numbers : plain_request routes (codes "d") (record { option = workers; value = codes "64" } ∷ record { option = rounds; value = codes "007" } ∷ [])
    ≡ Some (record { source = Folder (codes "d"); ask = Routes None; limits = record { rounds = 7; workers = 64; nodes = 1048576 } })
their_numbers = refl

pub one_router : plain_request routes (codes "../d") (record { option = router; value = codes "R 1" } ∷ record { option = nodes; value = codes "16" } ∷ [])
    ≡ Some (record { source = Folder (codes "../d"); ask = Routes (Some (codes "R 1")); limits = record { rounds = 1000; workers = 4; nodes = 16 } })
one_router = refl

pub least_trace : plain_request trace (codes "d") (record { option = field Dst; value = codes "10.0.0.1" } ∷ record { option = from; value = codes "R1" } ∷ [])
    ≡ Some (record {
      source = Folder (codes "d");
      ask = Trace (record { router = codes "R1"; interface = None }) (record zeros { dst = 167772161 });
      limits = record { rounds = 1000; workers = 4; nodes = 1048576 };
    })
least_trace = refl

pub its_words : plain_words trace (codes "d") (record { option = field Dst; value = codes "10.0.0.1" } ∷ record { option = from; value = codes "R1" } ∷ [])
    ≡ codes "trace" ∷ codes "d" ∷ codes "--dst" ∷ codes "10.0.0.1" ∷ codes "--from" ∷ codes "R1" ∷ []
its_words = refl

pub whole_header : plain_request trace (codes "d") (record { option = from; value = codes "R1:e0" } ∷ record { option = field Src; value = codes "0.0.1.0" } ∷ record { option = field Dport; value = codes "80" }
    ∷ record { option = field Dst; value = codes "0.0.0.9" } ∷ record { option = field Proto; value = codes "6" } ∷ record { option = field Sport; value = codes "65535" } ∷ record { option = field Rst; value = codes "1" } ∷ record { option = field IcmpCode; value = codes "2" }
    ∷ record { option = field IcmpType; value = codes "1" } ∷ [])
    ≡ Some (record {
      source = Folder (codes "d");
      ask = Trace (record { router = codes "R1"; interface = Some (codes "e0") }) (record zeros { dst = 9; src = 256; proto = 6; sport = 65535; dport = 80; icmp_type = 1; icmp_code = 2; rst = true });
      limits = record { rounds = 1000; workers = 4; nodes = 1048576 };
    })
whole_header = refl

pub unread_place : plain_request trace (codes "d") (record { option = field Dst; value = codes "10.0.0.1" } ∷ record { option = from; value = codes "R1:" } ∷ []) ≡ None
unread_place = refl

pub unread_address : plain_request trace (codes "d") (record { option = field Dst; value = codes "10.0.0" } ∷ record { option = from; value = codes "R1" } ∷ []) ≡ None
unread_address = refl

pub unread_source : plain_request trace (codes "d") (record { option = field Dst; value = codes "10.0.0.1" } ∷ record { option = from; value = codes "R1" } ∷ record { option = field Src; value = codes "me" } ∷ []) ≡ None
unread_source = refl

-- a packet without each link, with and without an ending
pub least_failures : plain_request failures (codes "d") (record { option = field Dst; value = codes "10.0.0.1" } ∷ record { option = from; value = codes "R1" } ∷ [])
    ≡ Some (record {
      source = Folder (codes "d");
      ask = Failures (record { router = codes "R1"; interface = None }) (record zeros { dst = 167772161 }) (record no_endings { accepted = true; delivered = true });
      limits = record { rounds = 1000; workers = 4; nodes = 1048576 };
    })
least_failures = refl

pub failures_to_an_ending : plain_request failures (codes "d") (record { option = end; value = codes "no-route" } ∷ record { option = field Dst; value = codes "0.0.0.9" } ∷ record { option = field Rst; value = codes "1" }
    ∷ record { option = from; value = codes "R1:e0" } ∷ record { option = workers; value = codes "2" } ∷ [])
    ≡ Some (record {
      source = Folder (codes "d");
      ask = Failures (record { router = codes "R1"; interface = Some (codes "e0") }) (record zeros { dst = 9; rst = true }) (record no_endings { no_route = true });
      limits = record { rounds = 1000; workers = 2; nodes = 1048576 };
    })
failures_to_an_ending = refl

pub unread_ending : plain_request failures (codes "d") (record { option = end; value = codes "nowhere" } ∷ record { option = field Dst; value = codes "0.0.0.9" } ∷ record { option = from; value = codes "R1" } ∷ []) ≡ None
unread_ending = refl

pub unread_destination : plain_request failures (codes "d") (record { option = field Dst; value = codes "10.0.0" } ∷ record { option = from; value = codes "R1" } ∷ []) ≡ None
unread_destination = refl
