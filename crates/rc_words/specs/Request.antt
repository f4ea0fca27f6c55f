-- The request that the words of a command line make.
use Rattle.std.specs.Prelude.{ℕ, ◌+◌, ◌≤◌, ◌^◌, ◌==◌, Bool, true, false, ◌&&◌, nat_lt, if◌then◌else◌, List, [], ◌∷◌, codes, take, drop, Option, Some, None, is_some, option_and_then, option_map}
use Rattle.std.specs.Option.{option_map_or}
use Rattle.std.specs.List.{position}
use Rattle.std.specs.Str.{bytes_eq}
use Rattle.std.specs.Str.Parse.{digits_value, without_leading_plus}
use Rattle.clap.specs.ValueTests.{is_numeral}
use Rattle.clap.specs.Words.{Kinds, Row, Text, fault_of, subcommand_of, first_of, one_of}
use Rattle.rc_base.specs.Fields.{name}
use Rattle.rc_base.specs.Header.{IsHeader}
use Rattle.rc_base.specs.Name.{name_of}
use Rattle.rc_base.specs.declared.field.Field.{Field}
use Rattle.rc_base.specs.declared.field.Field.TheVariants.{Dst, Src}
use Rattle.rc_base.specs.declared.header.Header.{Header}
use Rattle.rc_openings.specs.Values.{address_of, at_most}
use Rattle.rc_base.specs.declared.ending.Ends.{Ends}
use Rattle.rc_words.specs.App.{netcheck_app}
use Rattle.rc_base.specs.Endings.{kind_named}
use Rattle.rc_words.specs.Endings.{endings_of}
use Rattle.rc_words.specs.HeaderOptions.{greatest, header_of}
use Rattle.rc_words.specs.declared.request.Ask.{Ask}
use Rattle.rc_words.specs.declared.request.Ask.TheVariants.{Routes, Trace, Reach, Loops, Uneven, Lines, Failures, Summary}
use Rattle.rc_words.specs.declared.request.Limits.{Limits}
use Rattle.rc_words.specs.declared.request.PlaceName.{PlaceName}
use Rattle.rc_words.specs.declared.request.Request.{Request}
use Rattle.rc_words.specs.declared.request.Source.{Source}
use Rattle.rc_words.specs.declared.request.Source.TheVariants.{Folder, Made}

-- ---- texts

-- the number that decimal digits write, where it fits so many bits; a plus may stand first
abbrev pub number_read : ℕ → Text → Option ℕ
number_read bits text =
    let digits = without_leading_plus text in
    if is_numeral digits && nat_lt (digits_value 10 digits) (2 ^ bits) then Some (digits_value 10 digits) else None

-- a text with its first colon at this place, if it has one
abbrev pub place_cut : Option ℕ → Text → Option PlaceName
place_cut None text = option_map (λ router. record { router = router; interface = None }) (name_of text)
place_cut (Some colon) text = option_and_then (λ router. option_map (λ interface. record { router = router; interface = Some interface })
    (name_of (drop (colon + 1) text))) (name_of (take colon text))

-- ROUTER, or ROUTER:INTERFACE, which is cut at its first colon (58); each part is a name
abbrev pub place_of : Text → Option PlaceName
place_of text = place_cut (position (λ b. b == 58) text) text

-- ---- what clap found

-- the number of an option
abbrev pub number_at : ℕ → Text → List Row → Option ℕ
number_at bits name rows = option_and_then (number_read bits) (one_of name rows)

abbrev pub address_at : Text → List Row → Option ℕ
address_at name rows = option_and_then address_of (first_of name rows)

abbrev pub place_at : Text → List Row → Option PlaceName
place_at name rows = option_and_then place_of (first_of name rows)

abbrev pub limits_at : List Row → Option Limits
limits_at rows = option_and_then (λ rounds. option_and_then (λ workers. option_map (λ nodes. record { rounds = rounds; workers = workers; nodes = nodes })
    (number_at 32 (codes "nodes") rows)) (number_at 32 (codes "workers") rows)) (number_at 32 (codes "rounds") rows)

-- the number of a header's field: that of an address, and else one that isn't above the field's greatest
abbrev pub field_at : List Row → Field → Option ℕ
field_at rows Dst = address_at (name Dst) rows
field_at rows Src = address_at (name Src) rows
field_at rows f = at_most (greatest f) (number_at 32 (name f) rows)

abbrev pub header_at : List Row → Option Header
header_at rows = header_of (field_at rows)

-- the network that is asked about: `sample` makes one of N routers, and every other command reads the folder DIR
abbrev pub source_at : Text → List Row → Option Source
source_at name rows = if bytes_eq name (codes "sample") then option_map Made (number_at 32 (codes "N") rows) else option_map Folder (first_of (codes "DIR") rows)

-- what is asked by `trace`
abbrev pub trace_at : List Row → Option Ask
trace_at rows = option_and_then (λ place. option_map (λ header. Trace place header) (header_at rows)) (place_at (codes "from") rows)

abbrev pub ends_at : List Row → Option Ends
ends_at rows = endings_of (first_of (codes "end") rows)

-- what is asked by `reach`
abbrev pub reach_at : List Row → Option Ask
reach_at rows = option_and_then (λ place. option_and_then (λ ends. option_map (λ examples. Reach place ends examples)
    (number_at 32 (codes "examples") rows)) (ends_at rows)) (place_at (codes "from") rows)

-- what is asked of the packets from a place, with so many examples
abbrev pub packets_at : (PlaceName → ℕ → Ask) → List Row → Option Ask
packets_at ask rows = option_and_then (λ place. option_map (λ examples. ask place examples) (number_at 32 (codes "examples") rows)) (place_at (codes "from") rows)

-- what is asked by `failures`
abbrev pub failures_at : List Row → Option Ask
failures_at rows = option_and_then (λ place. option_and_then (λ header. option_map (λ ends. Failures place header ends)
    (ends_at rows)) (header_at rows)) (place_at (codes "from") rows)

-- what is asked by the command of this name: of routers, of packets, or of a made network
abbrev pub ask_at : Text → List Row → Option Ask
ask_at name rows =
    if bytes_eq name (codes "routes") then Some (Routes (first_of (codes "router") rows))
    else if bytes_eq name (codes "lines") then Some (Lines (first_of (codes "router") rows))
    else if bytes_eq name (codes "trace") then trace_at rows
    else if bytes_eq name (codes "reach") then reach_at rows
    else if bytes_eq name (codes "loops") then packets_at Loops rows
    else if bytes_eq name (codes "uneven") then packets_at Uneven rows
    else if bytes_eq name (codes "failures") then failures_at rows
    else if bytes_eq name (codes "sample") then Some Summary
    else None

-- the request of a command's name and what clap found for it
abbrev pub request_at : Option (Text × List Row) → Option Request
request_at None = None
request_at (Some (name, rows)) = option_and_then (λ source. option_and_then (λ ask. option_map (λ limits. record { source = source; ask = ask; limits = limits })
    (limits_at rows)) (ask_at name rows)) (source_at name rows)

-- what was found, where nothing is wrong
abbrev pub without_fault : Kinds → Option Request → Option Request
without_fault [] found = found
without_fault (kind ∷ kinds) found = None

-- the request of the values that clap finds in the words, and none where it refuses them or the text of a place, an address or an ending isn't read
unfoldable pub request_of : List Text → Option Request
request_of words = without_fault (fault_of netcheck_app words) (request_at (subcommand_of netcheck_app words))

-- ---- what holds of them

-- a text that isn't there, or is read
abbrev pub is_read : {A : Type 0} → (Text → Option A) → Option Text → Bool
is_read read found = option_map_or (λ text. is_some (read text)) found true

-- the texts of places, addresses and endings that clap found are read
abbrev pub texts_are_read : Option (Text × List Row) → Bool
texts_are_read None = true
texts_are_read (Some (name, rows)) = is_read place_of (first_of (codes "from") rows) && is_read address_of (first_of (codes "dst") rows) && is_read address_of (first_of (codes "src") rows)
    && is_read kind_named (first_of (codes "end") rows)

-- every number that bounds a run is in its option's range
pub record AreInRange (limits : Limits) : Type 0 where
  pub least_rounds : 1 ≤ limits.rounds
  pub most_rounds : limits.rounds ≤ 100000
  pub least_workers : 1 ≤ limits.workers
  pub most_workers : limits.workers ≤ 64
  pub least_nodes : 16 ≤ limits.nodes
  pub most_nodes : limits.nodes ≤ 16777216

-- the number of routers of a made network is in its range
abbrev pub IsSourceInRange : Source → Type 0
IsSourceInRange (Folder dir) = Unit {0}
IsSourceInRange (Made routers) = (4 ≤ routers) × (routers ≤ 512)

-- the numbers of what is asked are in their options' ranges, and a header's fit their bits
abbrev pub IsAskInRange : Ask → Type 0
IsAskInRange (Routes router) = Unit {0}
IsAskInRange (Trace place header) = IsHeader header
IsAskInRange (Reach place ends examples) = examples ≤ 1000
IsAskInRange (Loops place examples) = examples ≤ 1000
IsAskInRange (Uneven place examples) = examples ≤ 1000
IsAskInRange (Lines router) = Unit {0}
IsAskInRange (Failures place header ends) = IsHeader header
IsAskInRange Summary = Unit {0}

-- whether the network is a made one
abbrev pub is_made : Source → Bool
is_made (Folder dir) = false
is_made (Made routers) = true

-- whether it is what `sample` asks
abbrev pub is_summary : Ask → Bool
is_summary Summary = true
is_summary _ = false
