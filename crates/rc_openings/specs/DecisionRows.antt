-- What decides a line, and what words write, by computation.
use Rattle.std.specs.Prelude.{◌≡◌, ℕ, true, false, List, [], ◌∷◌, Some, None, Result, Ok, Err, codes, drop, refl}
use Rattle.rc_base.specs.Addr.{mask_len}
use Rattle.rc_base.specs.Prefix.{prefix_at}
use Rattle.rc_openings.specs.AccessListOpenings.{access_list, access_list_forms, access_list_refused, access_list_ignored}
use Rattle.rc_openings.specs.BgpOpenings.{bgp, bgp_forms, bgp_refused, bgp_ignored}
use Rattle.rc_openings.specs.Block.{begins_form_anywhere}
use Rattle.rc_openings.specs.Examples.{IsDecided}
use Rattle.rc_openings.specs.GlobalOpenings.{global, global_forms, global_refused, global_ignored}
use Rattle.rc_openings.specs.InterfaceOpenings.{interface, interface_forms, interface_refused, interface_ignored}
use Rattle.rc_openings.specs.Opening.{decisive_row}
use Rattle.rc_openings.specs.OspfOpenings.{ospf, ospf_forms, ospf_refused, ospf_ignored}
use Rattle.rc_openings.specs.Reading as Decided
use Rattle.rc_openings.specs.Reading.{OfForm, code_of, decided, judged, number_in_front, unopened}
use Rattle.rc_openings.specs.RouteMapOpenings.{route_map, route_map_forms, route_map_refused, route_map_ignored}
use Rattle.rc_openings.specs.Values.{address_of, mask_length_of, number_of, number_within, prefix_of}
use Rattle.rc_openings.specs.Words.{words_of}
use Rattle.rc_openings.specs.declared.block.Block.TheVariants as block
use Rattle.rc_openings.specs.declared.form.Form.TheVariants as form
use Rattle.rc_openings.specs.declared.form.AccessListForm.TheVariants as access
use Rattle.rc_openings.specs.declared.form.GeneralForm.TheVariants as general
use Rattle.rc_openings.specs.declared.opening.Verdict.TheVariants.{Form, Refused, Ignored}
use Rattle.rc_openings.specs.declared.reading.LineRefusal.{LineRefusal}
use Rattle.rc_openings.specs.declared.reading.LineRefusal.TheVariants.{Unknown, Unsupported, BadValue, OutOfPlace}

-- a line has the form of its opening, and none where it has no opening or one that isn't modelled
pub forms :
    (decided block.Global (words_of (codes "hostname R1")) ≡ OfForm (form.General general.Hostname) (codes "R1" ∷ []))
    × (decided block.AccessList (words_of (codes "10 permit any")) ≡ OfForm (form.AccessList access.Permit) (codes "any" ∷ []))
    × (decided block.Interface (words_of (codes "ip cef")) ≡ Decided.Refused Unknown)
    × (decided block.Global (words_of (codes "ip nat inside")) ≡ Decided.Refused Unsupported)
unfolding decided decisive_row global global_forms global_refused global_ignored interface interface_forms interface_refused interface_ignored access_list access_list_forms access_list_refused access_list_ignored route_map route_map_forms route_map_refused route_map_ignored ospf ospf_forms ospf_refused ospf_ignored bgp bgp_forms bgp_refused bgp_ignored words_of
forms = (refl, refl, refl, refl)

-- the opening with most words decides, whatever blanks stand between them
pub longest_opening :
    IsDecided block.Global (codes "hostname R1") (Some (Form (form.General general.Hostname)))
    × IsDecided block.Interface (9 ∷ codes "ip  address dhcp") (Some Refused)
    × IsDecided block.Global (codes "ip prefix-list X description y") (Some Ignored)
    × IsDecided block.AccessList (codes "shutdown") None
    × IsDecided block.Ignored (codes " 30820240") (Some Ignored)
unfolding decisive_row global global_forms global_refused global_ignored interface interface_forms interface_refused interface_ignored access_list access_list_forms access_list_refused access_list_ignored words_of
longest_opening = (refl, refl, refl, refl, refl)

-- a number from 1 to 2147483647 may stand in front
pub numbers_in_front :
    (number_in_front (words_of (codes "10 permit any")) ≡ Some 10)
    × (number_in_front (words_of (codes "permit any")) ≡ None)
    × (number_in_front (words_of (codes "0 permit any")) ≡ None)
    × (number_in_front (words_of (codes "2147483647")) ≡ Some 2147483647)
    × (number_in_front (words_of (codes "2147483648 permit any")) ≡ None)
unfolding words_of
numbers_in_front = (refl, refl, refl, refl, refl)

-- behind its number a line of an access list is a form, and out of place in other blocks; with the number it is of no form
abbrev numbered : List (List ℕ)
numbered = words_of (codes "10 permit any")

pub out_of_place :
    (begins_form_anywhere numbered ≡ false)
    × (begins_form_anywhere (drop 1 numbered) ≡ true)
    × (code_of (unopened numbered) ≡ 1)
    × (unopened (drop 1 numbered) ≡ OutOfPlace)
unfolding global global_forms global_refused global_ignored interface interface_forms interface_refused interface_ignored access_list access_list_forms access_list_refused access_list_ignored route_map route_map_forms route_map_refused route_map_ignored ospf ospf_forms ospf_refused ospf_ignored bgp bgp_forms bgp_refused bgp_ignored words_of
out_of_place = (refl, refl, refl, refl)

-- a wrong line with a refused word isn't modelled, one without such a word is wrong, and a right one is right with it too
abbrev Answer : Type 0
Answer = Result ℕ LineRefusal

abbrev wrong : Answer
wrong = Err BadValue

abbrev refused_words : List (List ℕ)
refused_words = codes "track" ∷ codes "permanent" ∷ []

pub refused_word :
    (judged refused_words (words_of (codes "10.0.0.1 track 3")) wrong ≡ Err Unsupported)
    × (judged refused_words (words_of (codes "10.0.0.1 3 3")) wrong ≡ wrong)
    × (judged {C = ℕ} refused_words (words_of (codes "track")) (Ok 7) ≡ Ok 7)
unfolding words_of
refused_word = (refl, refl, refl)

pub values :
    (number_of (codes "4294967295") ≡ Some 4294967295)
    × (number_within 1 99 (codes "100") ≡ None)
    × (mask_length_of (codes "255.255.255.252") ≡ Some 30)
    × (prefix_of (codes "10.1.2.3/08") ≡ Some (prefix_at 0x0a000000 8))
unfolding mask_len
values = (refl, refl, refl, refl)

-- an address is four numbers, each of one to three digits and at most 255; zeros in front are decimal and not octal
pub addresses :
    (address_of (codes "10.1.2.3") ≡ Some 167838211)
    × (address_of (codes "0.0.0.0") ≡ Some 0)
    × (address_of (codes "255.255.255.255") ≡ Some 4294967295)
    × (address_of (codes "001.002.003.004") ≡ Some 16909060)
    × (address_of (codes "010.0.0.08") ≡ Some 167772168)
addresses = (refl, refl, refl, refl, refl)

pub no_addresses :
    (address_of (codes "256.0.0.0") ≡ None)
    × (address_of (codes "1.2.3.0256") ≡ None)
    × (address_of (codes "1.2.3.0004") ≡ None)
    × (address_of (codes "1.2.3") ≡ None)
    × (address_of (codes "1.2.3.4.5") ≡ None)
    × (address_of (codes "1.2.3.4.") ≡ None)
    × (address_of (codes "1..3.4") ≡ None)
    × (address_of (codes ".2.3.4") ≡ None)
    × (address_of (codes "1.2.3.") ≡ None)
    × (address_of (codes "...") ≡ None)
    × (address_of [] ≡ None)
    × (address_of (codes "+1.2.3.4") ≡ None)
    × (address_of (codes "1.2.3.-4") ≡ None)
    × (address_of (codes "1.2.3.4/8") ≡ None)
    × (address_of (codes "1.2.3.4 ") ≡ None)
    × (address_of (codes "1.2.3.a") ≡ None)
    × (address_of (codes "0x1.2.3.4") ≡ None)
no_addresses = (refl, refl, refl, refl, refl, refl, refl, refl, refl, refl, refl, refl, refl, refl, refl, refl, refl)
