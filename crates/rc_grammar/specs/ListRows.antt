-- What lines of access lists make of a file, one behind the other, by computation.
use Rattle.std.specs.Fmt.{digits}
use Rattle.std.specs.Prelude.{◌≡◌, refl, ℕ, ◌+◌, List, [], ◌∷◌, map, Result, Ok, Err, codes}
use Rattle.rc_openings.specs.AccessListOpenings.{access_list, access_list_forms, access_list_refused, access_list_ignored}
use Rattle.rc_openings.specs.BgpOpenings.{bgp, bgp_forms, bgp_refused, bgp_ignored}
use Rattle.rc_openings.specs.GlobalOpenings.{global, global_forms, global_refused, global_ignored}
use Rattle.rc_openings.specs.InterfaceOpenings.{interface, interface_forms, interface_refused, interface_ignored}
use Rattle.rc_openings.specs.Opening.{decisive_row}
use Rattle.rc_openings.specs.OspfOpenings.{ospf, ospf_forms, ospf_refused, ospf_ignored}
use Rattle.rc_openings.specs.Reading.{decided}
use Rattle.rc_openings.specs.RouteMapOpenings.{route_map, route_map_forms, route_map_refused, route_map_ignored}
use Rattle.rc_openings.specs.Words.{words_of}
use Rattle.rc_openings.specs.declared.reading.LineRefusal.{LineRefusal}
use Rattle.rc_openings.specs.declared.reading.LineRefusal.TheVariants.{Unknown, Unsupported, BadValue, OutOfPlace}
use Rattle.rc_lines.specs.Lines.{TextLine}
use Rattle.rc_lines.specs.declared.banner.Part.TheVariants.{Plain}
use Rattle.rc_config.specs.declared.access_list.AccessList.{AccessList}
use Rattle.rc_config.specs.declared.access_list.AccessListLine.{AccessListLine}
use Rattle.rc_gram_acl.specs.NumberName.{icmp_type_names, protocol_names, port_names}
use Rattle.rc_gram_acl.specs.Refused.{refused_words}
use Rattle.rc_grammar.specs.File.{start, step, with_lines}
use Rattle.rc_grammar.specs.Grammars.{says}
use Rattle.rc_grammar.specs.declared.reading.Reading.{Reading}
use Rattle.rc_grammar.specs.declared.refusal.FileCause.TheVariants.{Line}
use Rattle.rc_grammar.specs.declared.refusal.FileRefusal.{FileRefusal}

-- the names of access lists in the order of first mention, each with the numbers of its lines
abbrev pub Numbers : Type 0
Numbers = Result (List (List ℕ × List ℕ)) FileRefusal

abbrev pub numbers_in : List ℕ × AccessList → List ℕ × List ℕ
numbers_in list = (list.0, map (λ (l : AccessListLine). l.sequence) list.1.lines)

abbrev pub numbers_of : Result Reading FileRefusal → Numbers
numbers_of (Ok reading) = Ok (map numbers_in reading.file.lists.access_lists)
numbers_of (Err refusal) = Err refusal

-- texts as lines outside banners, the first of them n
abbrev pub lines_from : ℕ → List (List ℕ) → List TextLine
lines_from n [] = []
lines_from n (text ∷ texts) = record { number = n; text = text; part = Plain } ∷ lines_from (n + 1) texts

-- these lines from a file's first on make such lists
abbrev pub Makes : List (List ℕ) → Numbers → Type 0
Makes texts lists = numbers_of (with_lines says (Ok start) (lines_from 1 texts)) ≡ lists

-- a line is refused
abbrev pub refused_at : ℕ → LineRefusal → Numbers
refused_at n refusal = Err (record { line = n; cause = Line refusal })

-- one list
abbrev pub one : List ℕ → List ℕ → Numbers
one name numbers = Ok ((name, numbers) ∷ [])

abbrev pub block : List ℕ
block = codes "ip access-list standard A"

-- 10 at first, and then 10 above the greatest number, which need not be that of the line before
pub unwritten_numbers :
    Makes (block ∷ codes " permit any" ∷ []) (one (codes "A") (10 ∷ []))
    × Makes (block ∷ codes " 50 permit any" ∷ codes " 20 deny any" ∷ codes " permit any" ∷ []) (one (codes "A") (20 ∷ 50 ∷ 60 ∷ []))
    × Makes (codes "access-list 5 permit any" ∷ codes "access-list 5 deny any" ∷ []) (one (codes "5") (10 ∷ 20 ∷ []))
unfolding step decided decisive_row global global_forms global_refused global_ignored access_list access_list_forms access_list_refused access_list_ignored words_of refused_words digits
unwritten_numbers = (refl, refl, refl)

-- the number in front of a line of a block is its own, also with zeros in front; one that stands there already is refused
pub written_numbers :
    Makes (block ∷ codes " 30 permit any" ∷ codes " 0007 deny any" ∷ []) (one (codes "A") (7 ∷ 30 ∷ []))
    × Makes (block ∷ codes " 10 permit any" ∷ codes " 10 permit any" ∷ []) (refused_at 3 BadValue)
    × Makes (block ∷ codes " permit any" ∷ codes " 10 deny any" ∷ []) (refused_at 3 BadValue)
    × Makes (codes "access-list 5 permit any" ∷ codes "ip access-list standard 5" ∷ codes " 10 deny any" ∷ []) (refused_at 3 BadValue)
unfolding step decided decisive_row global global_forms global_refused global_ignored access_list access_list_forms access_list_refused access_list_ignored words_of refused_words digits
written_numbers = (refl, refl, refl, refl)

-- numbers end at 2147483647; another number in front of a line is none of its own, and begins no line of a list
pub greatest_number :
    Makes (block ∷ codes " 2147483637 permit any" ∷ codes " deny any" ∷ []) (one (codes "A") (2147483637 ∷ 2147483647 ∷ []))
    × Makes (block ∷ codes " 2147483638 permit any" ∷ codes " deny any" ∷ []) (refused_at 3 BadValue)
    × Makes (block ∷ codes " 2147483647 permit any" ∷ []) (one (codes "A") (2147483647 ∷ []))
    × Makes (block ∷ codes " 2147483648 permit any" ∷ []) (refused_at 2 Unknown)
    × Makes (block ∷ codes " 0 permit any" ∷ []) (refused_at 2 Unknown)
    × Makes (block ∷ codes " 10" ∷ []) (refused_at 2 Unknown)
unfolding step decided decisive_row global global_forms global_refused global_ignored interface interface_forms interface_refused interface_ignored access_list access_list_forms access_list_refused access_list_ignored route_map route_map_forms route_map_refused route_map_ignored ospf ospf_forms ospf_refused ospf_ignored bgp bgp_forms bgp_refused bgp_ignored words_of refused_words digits
greatest_number = (refl, refl, refl, refl, refl, refl)

-- a list by number and one by that number as its name are one; behind `access-list` the number counts, and else the word
pub numbered_lists :
    Makes (codes "access-list 5 permit any" ∷ codes "ip access-list standard 5" ∷ codes " permit any" ∷ codes "access-list 005 deny any" ∷ []) (one (codes "5") (10 ∷ 20 ∷ 30 ∷ []))
    × Makes (codes "ip access-list standard 005" ∷ codes " permit any" ∷ codes "access-list 005 deny any" ∷ []) (Ok ((codes "005", 10 ∷ []) ∷ (codes "5", 10 ∷ []) ∷ []))
unfolding step decided decisive_row global global_forms global_refused global_ignored access_list access_list_forms access_list_refused access_list_ignored words_of refused_words digits
numbered_lists = (refl, refl)

-- a list keeps its kind, also without lines
pub other_kind :
    Makes (codes "ip access-list extended 5" ∷ codes "access-list 5 permit any" ∷ []) (refused_at 2 BadValue)
    × Makes (codes "access-list 5 permit any" ∷ codes "ip access-list extended 5" ∷ []) (refused_at 2 BadValue)
    × Makes (block ∷ codes "ip access-list extended A" ∷ []) (refused_at 2 BadValue)
    × Makes (block ∷ codes " permit any" ∷ block ∷ codes " permit any" ∷ []) (one (codes "A") (10 ∷ 20 ∷ []))
unfolding step decided decisive_row global global_forms global_refused global_ignored access_list access_list_forms access_list_refused access_list_ignored words_of refused_words digits
other_kind = (refl, refl, refl, refl)

-- a remark of any words makes no line and no list, and opens no block; behind `access-list` it takes every number
pub remarks :
    Makes (block ∷ codes " remark permit any" ∷ codes " 7 remark fragments" ∷ codes " remark" ∷ codes " permit any" ∷ []) (one (codes "A") (10 ∷ []))
    × Makes (codes "access-list 5 remark x" ∷ codes "access-list 100 remark" ∷ []) (Ok [])
    × Makes (codes "access-list 700 remark x" ∷ codes "access-list 0 remark" ∷ codes "access-list 4294967295 remark fragments" ∷ []) (Ok [])
    × Makes (codes "access-list x remark y" ∷ []) (refused_at 1 BadValue)
    × Makes (codes "access-list 4294967296 remark y" ∷ []) (refused_at 1 BadValue)
    × Makes (codes "access-list 5 remark x" ∷ codes "ip access-list extended 5" ∷ []) (one (codes "5") [])
    × Makes (codes "access-list 5 remark x" ∷ codes " permit any" ∷ []) (refused_at 2 OutOfPlace)
unfolding step decided decisive_row global global_forms global_refused global_ignored interface interface_forms interface_refused interface_ignored access_list access_list_forms access_list_refused access_list_ignored route_map route_map_forms route_map_refused route_map_ignored ospf ospf_forms ospf_refused ospf_ignored bgp bgp_forms bgp_refused bgp_ignored words_of refused_words digits
remarks = (refl, refl, refl, refl, refl, refl, refl)

-- what isn't modelled and what has no such number is refused, and a word that logs is taken
pub unsupported :
    Makes (codes "access-list 100 permit tcp any any fragments" ∷ []) (refused_at 1 Unsupported)
    × Makes (codes "access-list 100 permit icmp any any redirect" ∷ []) (refused_at 1 Unsupported)
    × Makes (codes "ip access-list extended A" ∷ codes " 10 permit igmp any any 17" ∷ []) (refused_at 2 Unsupported)
    × Makes (codes "ip access-list reflexive A" ∷ []) (refused_at 1 Unsupported)
    × Makes (codes "access-list 3000 permit any fragments" ∷ []) (refused_at 1 Unsupported)
    × Makes (codes "access-list 3000 permit any" ∷ []) (refused_at 1 BadValue)
    × Makes (codes "access-list dscp permit any" ∷ []) (refused_at 1 Unsupported)
    × Makes (codes "access-list x permit any" ∷ []) (refused_at 1 BadValue)
    × Makes (codes "access-list 100 permit icmp any any log" ∷ codes "access-list 5 permit any log" ∷ []) (Ok ((codes "100", 10 ∷ []) ∷ (codes "5", 10 ∷ []) ∷ []))
unfolding step decided decisive_row global global_forms global_refused global_ignored access_list access_list_forms access_list_refused access_list_ignored words_of protocol_names port_names icmp_type_names refused_words digits
unsupported = (refl, refl, refl, refl, refl, refl, refl, refl, refl)

-- what packets of one protocol carry is tested in its lines alone: ACK or RST in those of tcp, the type in those of icmp
pub tests_of_one_protocol :
    Makes (codes "access-list 100 permit tcp any any established log" ∷ codes "access-list 100 permit icmp any any echo" ∷ codes "access-list 100 permit 1 any any 3 1" ∷ []) (one (codes "100") (10 ∷ 20 ∷ 30 ∷ []))
    × Makes (codes "ip access-list extended A" ∷ codes " 10 permit icmp any any 255 255 log" ∷ codes " permit 6 any any established" ∷ []) (one (codes "A") (10 ∷ 20 ∷ []))
    × Makes (codes "access-list 100 permit udp any any established" ∷ []) (refused_at 1 BadValue)
    × Makes (codes "access-list 100 permit icmp any any 256" ∷ []) (refused_at 1 BadValue)
    × Makes (codes "access-list established permit any" ∷ []) (refused_at 1 BadValue)
unfolding step decided decisive_row global global_forms global_refused global_ignored access_list access_list_forms access_list_refused access_list_ignored words_of protocol_names port_names icmp_type_names refused_words digits
tests_of_one_protocol = (refl, refl, refl, refl, refl)

-- a line without indent closes the block of a list; `exit` and `!` don't
pub blocks_end :
    Makes (block ∷ codes "hostname X" ∷ codes " permit any" ∷ []) (refused_at 3 OutOfPlace)
    × Makes (block ∷ codes "line con 0" ∷ codes " permit any" ∷ []) (one (codes "A") [])
    × Makes (block ∷ codes " exit" ∷ codes "!" ∷ codes " permit any" ∷ []) (one (codes "A") (10 ∷ []))
    × Makes (block ∷ codes " hostname X" ∷ []) (refused_at 2 OutOfPlace)
unfolding step decided decisive_row global global_forms global_refused global_ignored interface interface_forms interface_refused interface_ignored access_list access_list_forms access_list_refused access_list_ignored route_map route_map_forms route_map_refused route_map_ignored ospf ospf_forms ospf_refused ospf_ignored bgp bgp_forms bgp_refused bgp_ignored words_of refused_words digits
blocks_end = (refl, refl, refl, refl)
