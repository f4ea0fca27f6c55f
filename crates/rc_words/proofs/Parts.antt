-- A request by its three parts.
use Rattle.std.proofs.Common.{refl, sym, subst, ap, true, false, codes}
use Rattle.std.specs.Prelude.{◌≡◌, ℕ, List, Option, Some, None, option_and_then, option_map}
use Rattle.clap.specs.Words.{Row, Text, first_of}
use Rattle.rc_base.specs.declared.ending.Ends.{Ends}
use Rattle.rc_base.specs.declared.header.Header.{Header}
use Rattle.rc_words.specs.Laws.{is_sample}
use Rattle.rc_words.specs.Plain.{CommandName, routes, trace, reach, loops, uneven, lines, failures, sample, command_word}
use Rattle.rc_words.specs.Request.{source_at, ask_at, limits_at, request_at, number_at, header_at, place_at, ends_at, is_made, is_summary}
use Rattle.rc_words.specs.declared.request.Ask.{Ask}
use Rattle.rc_words.specs.declared.request.Ask.TheVariants.{Routes, Trace, Reach, Loops, Uneven, Lines, Failures, Summary}
use Rattle.rc_words.specs.declared.request.Limits.{Limits}
use Rattle.rc_words.specs.declared.request.PlaceName.{PlaceName}
use Rattle.rc_words.specs.declared.request.Request.{Request}
use Rattle.rc_words.specs.declared.request.Source.{Source}
use Rattle.rc_words.specs.declared.request.Source.TheVariants.{Folder, Made}

abbrev pub of_parts : Option Source → Option Ask → Option Limits → Option Request
of_parts source ask limits = option_and_then (λ source. option_and_then (λ ask. option_map (λ limits. record { source = source; ask = ask; limits = limits }) limits) ask) source

-- where a limit isn't read, or nothing is asked, there is no request
without_limits : (source : Option Source) (ask : Option Ask) (limits : Option Limits) → limits ≡ None → of_parts source ask limits ≡ None
without_limits None ask limits none = refl
without_limits (Some source) None limits none = refl
without_limits (Some source) (Some ask) None none = refl
without_limits (Some source) (Some ask) (Some limits) none = cc

pub no_limits : (found : Option (Text × List Row)) (name : Text) (rows : List Row) → found ≡ Some (name, rows) → limits_at rows ≡ None → request_at found ≡ None
no_limits found name rows is none = subst (λ f. request_at f ≡ None) (sym is) (without_limits (source_at name rows) (ask_at name rows) (limits_at rows) none)

pub without_ask : (source : Option Source) (ask : Option Ask) (limits : Option Limits) → ask ≡ None → of_parts source ask limits ≡ None
without_ask None ask limits none = refl
without_ask (Some source) None limits none = refl
without_ask (Some source) (Some ask) limits none = cc

-- a request has the parts that it is made of
parts_of : (source : Option Source) (ask : Option Ask) (limits : Option Limits) (r : Request) → of_parts source ask limits ≡ Some r → (source ≡ Some r.source) × (ask ≡ Some r.ask)
parts_of None ask limits r e = absurd (cc)
parts_of (Some source) None limits r e = absurd (cc)
parts_of (Some source) (Some ask) None r e = absurd (cc)
parts_of (Some source) (Some ask) (Some limits) r e =
    let is : record { source = source; ask = ask; limits = limits } ≡ r = cc in
    (ap (λ (q : Request). Some q.source) is, ap (λ (q : Request). Some q.ask) is)

-- ---- what is made and what isn't, by the command

folder_found : (o : Option Text) (source : Source) → option_map Folder o ≡ Some source → is_made source ≡ false
folder_found None source e = absurd (cc)
folder_found (Some dir) source e = let is : Folder dir ≡ source = cc in ap is_made (sym is)

count_found : (o : Option ℕ) (source : Source) → option_map Made o ≡ Some source → is_made source ≡ true
count_found None source e = absurd (cc)
count_found (Some n) source e = let is : Made n ≡ source = cc in ap is_made (sym is)

source_found : (k : CommandName) (rows : List Row) (source : Source) → source_at (command_word k) rows ≡ Some source → is_made source ≡ is_sample k
source_found routes rows = folder_found _
source_found trace rows = folder_found _
source_found reach rows = folder_found _
source_found loops rows = folder_found _
source_found uneven rows = folder_found _
source_found lines rows = folder_found _
source_found failures rows = folder_found _
source_found sample rows = count_found _

other_ask : (this ask : Ask) → is_summary this ≡ false → Some this ≡ Some ask → is_summary ask ≡ false
other_ask this ask other e = let is : this ≡ ask = cc in subst (λ a. is_summary a ≡ false) is other

trace_found : (place : Option PlaceName) (header : Option Header) (ask : Ask) → option_and_then (λ p. option_map (λ h. Trace p h) header) place ≡ Some ask → is_summary ask ≡ false
trace_found None header ask e = absurd (cc)
trace_found (Some p) None ask e = absurd (cc)
trace_found (Some p) (Some h) ask e = other_ask (Trace p h) ask refl e

reach_found : (place : Option PlaceName) (ends : Option Ends) (examples : Option ℕ) (ask : Ask) → option_and_then (λ p. option_and_then (λ e. option_map (λ n. Reach p e n) examples) ends) place ≡ Some ask → is_summary ask ≡ false
reach_found None ends examples ask e = absurd (cc)
reach_found (Some p) None examples ask e = absurd (cc)
reach_found (Some p) (Some k) None ask e = absurd (cc)
reach_found (Some p) (Some k) (Some n) ask e = other_ask (Reach p k n) ask refl e

packets_found : (make : PlaceName → ℕ → Ask) → ((p : PlaceName) (n : ℕ) → is_summary (make p n) ≡ false) → (place : Option PlaceName) (examples : Option ℕ) (ask : Ask)
    → option_and_then (λ p. option_map (λ n. make p n) examples) place ≡ Some ask → is_summary ask ≡ false
packets_found make other None examples ask e = absurd (cc)
packets_found make other (Some p) None ask e = absurd (cc)
packets_found make other (Some p) (Some n) ask e = other_ask (make p n) ask (other p n) e

failures_found : (place : Option PlaceName) (header : Option Header) (ends : Option Ends) (ask : Ask) → option_and_then (λ p. option_and_then (λ h. option_map (λ e. Failures p h e) ends) header) place ≡ Some ask → is_summary ask ≡ false
failures_found None header ends ask e = absurd (cc)
failures_found (Some p) None ends ask e = absurd (cc)
failures_found (Some p) (Some h) None ask e = absurd (cc)
failures_found (Some p) (Some h) (Some k) ask e = other_ask (Failures p h k) ask refl e

ask_found : (k : CommandName) (rows : List Row) (ask : Ask) → ask_at (command_word k) rows ≡ Some ask → is_summary ask ≡ is_sample k
ask_found routes rows ask e = other_ask (Routes (first_of (codes "router") rows)) ask refl e
ask_found trace rows ask e = trace_found (place_at (codes "from") rows) (header_at rows) ask e
ask_found reach rows ask e = reach_found (place_at (codes "from") rows) (ends_at rows) (number_at 32 (codes "examples") rows) ask e
ask_found loops rows ask e = packets_found Loops (λ p n. refl) (place_at (codes "from") rows) (number_at 32 (codes "examples") rows) ask e
ask_found uneven rows ask e = packets_found Uneven (λ p n. refl) (place_at (codes "from") rows) (number_at 32 (codes "examples") rows) ask e
ask_found lines rows ask e = other_ask (Lines (first_of (codes "router") rows)) ask refl e
ask_found failures rows ask e = failures_found (place_at (codes "from") rows) (header_at rows) (ends_at rows) ask e
ask_found sample rows ask e = let is : Summary ≡ ask = cc in ap is_summary (sym is)

pub made_found : (k : CommandName) (rows : List Row) (r : Request) → request_at (Some (command_word k, rows)) ≡ Some r → (is_made r.source ≡ is_sample k) × (is_summary r.ask ≡ is_sample k)
made_found k rows r e =
    let (source_is, ask_is) = parts_of (source_at (command_word k) rows) (ask_at (command_word k) rows) (limits_at rows) r e in
    (source_found k rows r.source source_is, ask_found k rows r.ask ask_is)
