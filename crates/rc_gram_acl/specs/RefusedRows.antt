-- Lines of access lists that fit no row, with their refusals, by computation.
use Rattle.std.specs.Prelude.{◌≡◌, refl, [], ◌∷◌, map, replicate, Err, codes}
use Rattle.rc_openings.specs.Words.{words_of}
use Rattle.rc_openings.specs.declared.reading.LineRefusal.TheVariants.{Unsupported, BadValue}
use Rattle.rc_config.specs.declared.access_list.AccessListKind.TheVariants.{Standard}
use Rattle.rc_gram_acl.specs.LineRows.{SaysExtended, line_answer}
use Rattle.rc_gram_acl.specs.NumberName.{icmp_type_names, protocol_names, port_names}
use Rattle.rc_gram_acl.specs.Refused.{refused_words}

-- each of the words that make a line one that isn't modelled wherever they stand
pub anywhere :
    map (λ w. line_answer Standard (codes "permit" ∷ codes "any" ∷ w ∷ [])) (words_of (codes "ack dscp dynamic fin fragments match-all match-any object-group option precedence psh reflect rst syn time-range tos ttl urg"))
    ≡ replicate 18 (Err Unsupported)
unfolding words_of refused_words
anywhere = refl

-- such a word may stand at any place, also behind others that don't fit
pub words_at_places :
    SaysExtended (codes "permit tcp any any fragments") (Err Unsupported)
    × SaysExtended (codes "dscp any") (Err Unsupported)
    × SaysExtended (codes "permit 256 any any fragments") (Err Unsupported)
    × SaysExtended (codes "permit ip any any eq foo dscp") (Err Unsupported)
unfolding words_of protocol_names port_names icmp_type_names refused_words
words_at_places = (refl, refl, refl, refl)

-- a protocol that begins with a letter and isn't known; a word behind it doesn't count
pub unknown_protocols :
    SaysExtended (codes "permit any") (Err Unsupported)
    × SaysExtended (codes "permit foo any any") (Err Unsupported)
    × SaysExtended (codes "permit 8foo any any") (Err BadValue)
    × SaysExtended (codes "permit ip foo") (Err BadValue)
    × SaysExtended (codes "permit tcp foo any") (Err BadValue)
unfolding words_of protocol_names port_names icmp_type_names refused_words
unknown_protocols = (refl, refl, refl, refl, refl)

-- behind `eq` and `neq` the next word is a port, whatever it is, and so are those up to an address at the source
pub unknown_source_ports :
    SaysExtended (codes "permit tcp any eq any") (Err Unsupported)
    × SaysExtended (codes "permit tcp any neq foo any") (Err Unsupported)
    × SaysExtended (codes "permit tcp any eq 23 foo any") (Err Unsupported)
    × SaysExtended (codes "permit tcp any eq 23 established any") (Err Unsupported)
    × SaysExtended (codes "permit tcp any eq 23 foo") (Err Unsupported)
    × SaysExtended (codes "permit udp any eq 23 log any") (Err Unsupported)
    × SaysExtended (codes "permit tcp any eq 23 any foo") (Err BadValue)
    × SaysExtended (codes "permit tcp any eq 23 host foo") (Err BadValue)
    × SaysExtended (codes "permit tcp any eq 23 10.0.0.1 foo") (Err BadValue)
unfolding words_of protocol_names port_names icmp_type_names refused_words
unknown_source_ports = (refl, refl, refl, refl, refl, refl, refl, refl, refl)

-- and those up to `established`, `log` or `log-input` at the destination
pub unknown_destination_ports :
    SaysExtended (codes "permit udp any any eq 23 foo") (Err Unsupported)
    × SaysExtended (codes "permit tcp any any neq foo") (Err Unsupported)
    × SaysExtended (codes "permit tcp any any eq log") (Err Unsupported)
    × SaysExtended (codes "permit tcp any any eq established") (Err Unsupported)
    × SaysExtended (codes "permit tcp any any eq 23 foo established") (Err Unsupported)
    × SaysExtended (codes "permit tcp any any eq 23 established foo") (Err BadValue)
    × SaysExtended (codes "permit tcp any any eq 23 log foo") (Err BadValue)
    × SaysExtended (codes "permit tcp any any eq 23 log-input foo") (Err BadValue)
    × SaysExtended (codes "permit tcp any any foo") (Err BadValue)
unfolding words_of protocol_names port_names icmp_type_names refused_words
unknown_destination_ports = (refl, refl, refl, refl, refl, refl, refl, refl, refl)

-- one word behind `lt` and `gt`, two behind `range`
pub unknown_single_ports :
    SaysExtended (codes "permit tcp any lt foo any") (Err Unsupported)
    × SaysExtended (codes "permit tcp any any gt foo") (Err Unsupported)
    × SaysExtended (codes "permit tcp any any lt 5 foo") (Err BadValue)
    × SaysExtended (codes "permit 17 any range foo") (Err Unsupported)
    × SaysExtended (codes "permit tcp any any range 5 foo") (Err Unsupported)
    × SaysExtended (codes "permit tcp any any range 5 6 foo") (Err BadValue)
unfolding words_of protocol_names port_names icmp_type_names refused_words
unknown_single_ports = (refl, refl, refl, refl, refl, refl)

-- the destination is read only behind a source that is one; other protocols have no ports
pub read_as_far_as_it_fits :
    SaysExtended (codes "permit tcp any eq 65536 any eq foo") (Err BadValue)
    × SaysExtended (codes "permit tcp any range 5 4 any eq foo") (Err BadValue)
    × SaysExtended (codes "permit tcp any eq 5 any eq foo") (Err Unsupported)
    × SaysExtended (codes "permit ip any any eq foo") (Err BadValue)
    × SaysExtended (codes "permit ip any eq foo any") (Err BadValue)
    × SaysExtended (codes "permit 7 any any eq foo") (Err BadValue)
unfolding words_of protocol_names port_names icmp_type_names refused_words
read_as_far_as_it_fits = (refl, refl, refl, refl, refl, refl)

-- icmp: a name of no ICMP type anywhere behind the destination, where that was read
pub unknown_messages :
    SaysExtended (codes "permit icmp any any redirect") (Err Unsupported)
    × SaysExtended (codes "permit 1 any any redirect log") (Err Unsupported)
    × SaysExtended (codes "permit icmp any any log foo") (Err Unsupported)
    × SaysExtended (codes "permit icmp any any 3 1 foo") (Err Unsupported)
    × SaysExtended (codes "permit icmp any any 256 foo") (Err Unsupported)
    × SaysExtended (codes "permit icmp any any established") (Err Unsupported)
    × SaysExtended (codes "permit icmp any any Echo") (Err Unsupported)
    × SaysExtended (codes "permit icmp any any 8foo") (Err BadValue)
    × SaysExtended (codes "permit icmp any foo") (Err BadValue)
    × SaysExtended (codes "permit icmp any 10.0.0.1") (Err BadValue)
unfolding words_of protocol_names port_names icmp_type_names refused_words
unknown_messages = (refl, refl, refl, refl, refl, refl, refl, refl, refl, refl)

-- igmp: any word behind the destination, but for one that logs alone
pub igmp_messages :
    SaysExtended (codes "permit igmp any any 17") (Err Unsupported)
    × SaysExtended (codes "permit 2 any any foo") (Err Unsupported)
    × SaysExtended (codes "permit igmp any any echo") (Err Unsupported)
    × SaysExtended (codes "permit igmp any any established") (Err Unsupported)
    × SaysExtended (codes "permit igmp any any log log") (Err Unsupported)
    × SaysExtended (codes "permit 3 any any foo") (Err BadValue)
unfolding words_of protocol_names port_names icmp_type_names refused_words
igmp_messages = (refl, refl, refl, refl, refl, refl)
