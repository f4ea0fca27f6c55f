-- Files of made networks, byte for byte, by computation.
use Rattle.std.specs.Prelude.{◌≡◌, [], ◌∷◌, codes, length, refl, take}
use Rattle.std.specs.Fmt.{digits}
use Rattle.rc_base.specs.Addr.{dotted}
use Rattle.rc_outside.specs.Folder.{names_in}
use Rattle.rc_generate.specs.Files.{access_group, access_list, configuration, file_name, files, head, lan, link, ospf}
use Rattle.rc_generate.specs.Names.{number_in}

-- the first router of four begins a chord
pub first_of_four : configuration 4 0 ≡ codes "hostname r000\ninterface GigabitEthernet0/0\n ip address 10.0.0.1 255.255.255.252\ninterface GigabitEthernet0/1\n ip address 10.0.0.14 255.255.255.252\ninterface GigabitEthernet0/2\n ip address 10.1.0.1 255.255.255.252\ninterface GigabitEthernet0/3\n ip address 172.16.0.1 255.255.255.0\nrouter ospf 1\n passive-interface GigabitEthernet0/3\n network 0.0.0.0 255.255.255.255 area 0\n"
unfolding configuration head link lan access_group ospf access_list dotted digits
first_of_four = refl

-- the second one filters
pub second_of_four : configuration 4 1 ≡ codes "hostname r001\ninterface GigabitEthernet0/0\n ip address 10.0.0.5 255.255.255.252\ninterface GigabitEthernet0/1\n ip address 10.0.0.2 255.255.255.252\ninterface GigabitEthernet0/3\n ip address 172.16.1.1 255.255.255.0\n ip access-group 101 out\nrouter ospf 1\n passive-interface GigabitEthernet0/3\n network 0.0.0.0 255.255.255.255 area 0\naccess-list 101 deny tcp any any eq telnet\naccess-list 101 permit ip any any\n"
unfolding configuration head link lan access_group ospf access_list dotted digits
second_of_four = refl

-- and the third is at the other end of the chord
pub third_of_four : configuration 4 2 ≡ codes "hostname r002\ninterface GigabitEthernet0/0\n ip address 10.0.0.9 255.255.255.252\ninterface GigabitEthernet0/1\n ip address 10.0.0.6 255.255.255.252\ninterface GigabitEthernet0/2\n ip address 10.1.0.2 255.255.255.252\ninterface GigabitEthernet0/3\n ip address 172.16.2.1 255.255.255.0\nrouter ospf 1\n passive-interface GigabitEthernet0/3\n network 0.0.0.0 255.255.255.255 area 0\n"
unfolding configuration head link lan access_group ospf access_list dotted digits
third_of_four = refl

-- an odd ring: half of it, rounded down, is two
pub last_of_five : configuration 5 4 ≡ codes "hostname r004\ninterface GigabitEthernet0/0\n ip address 10.0.0.17 255.255.255.252\ninterface GigabitEthernet0/1\n ip address 10.0.0.14 255.255.255.252\ninterface GigabitEthernet0/3\n ip address 172.16.4.1 255.255.255.0\nrouter ospf 1\n passive-interface GigabitEthernet0/3\n network 0.0.0.0 255.255.255.255 area 0\n"
unfolding configuration head link lan access_group ospf access_list dotted digits
last_of_five = refl

-- a chord leads from the first router to the fourth
pub fourth_of_seven : configuration 7 3 ≡ codes "hostname r003\ninterface GigabitEthernet0/0\n ip address 10.0.0.13 255.255.255.252\ninterface GigabitEthernet0/1\n ip address 10.0.0.10 255.255.255.252\ninterface GigabitEthernet0/2\n ip address 10.1.0.2 255.255.255.252\ninterface GigabitEthernet0/3\n ip address 172.16.3.1 255.255.255.0\nrouter ospf 1\n passive-interface GigabitEthernet0/3\n network 0.0.0.0 255.255.255.255 area 0\n"
unfolding configuration head link lan access_group ospf access_list dotted digits
fourth_of_seven = refl

-- filters
pub sixth_of_nine : configuration 9 5 ≡ codes "hostname r005\ninterface GigabitEthernet0/0\n ip address 10.0.0.21 255.255.255.252\ninterface GigabitEthernet0/1\n ip address 10.0.0.18 255.255.255.252\ninterface GigabitEthernet0/3\n ip address 172.16.5.1 255.255.255.0\n ip access-group 101 out\nrouter ospf 1\n passive-interface GigabitEthernet0/3\n network 0.0.0.0 255.255.255.255 area 0\naccess-list 101 deny tcp any any eq telnet\naccess-list 101 permit ip any any\n"
unfolding configuration head link lan access_group ospf access_list dotted digits
sixth_of_nine = refl

-- a router of number 8 in a small ring begins no chord, and none ends there
pub last_of_nine : configuration 9 8 ≡ codes "hostname r008\ninterface GigabitEthernet0/0\n ip address 10.0.0.33 255.255.255.252\ninterface GigabitEthernet0/1\n ip address 10.0.0.30 255.255.255.252\ninterface GigabitEthernet0/3\n ip address 172.16.8.1 255.255.255.0\nrouter ospf 1\n passive-interface GigabitEthernet0/3\n network 0.0.0.0 255.255.255.255 area 0\n"
unfolding configuration head link lan access_group ospf access_list dotted digits
last_of_nine = refl

-- every eighth router of the first half begins a chord
pub ninth_of_64 : configuration 64 8 ≡ codes "hostname r008\ninterface GigabitEthernet0/0\n ip address 10.0.0.33 255.255.255.252\ninterface GigabitEthernet0/1\n ip address 10.0.0.30 255.255.255.252\ninterface GigabitEthernet0/2\n ip address 10.1.0.33 255.255.255.252\ninterface GigabitEthernet0/3\n ip address 172.16.8.1 255.255.255.0\nrouter ospf 1\n passive-interface GigabitEthernet0/3\n network 0.0.0.0 255.255.255.255 area 0\n"
unfolding configuration head link lan access_group ospf access_list dotted digits
ninth_of_64 = refl

-- and one ends as far on in the second half
pub fortyfirst_of_64 : configuration 64 40 ≡ codes "hostname r040\ninterface GigabitEthernet0/0\n ip address 10.0.0.161 255.255.255.252\ninterface GigabitEthernet0/1\n ip address 10.0.0.158 255.255.255.252\ninterface GigabitEthernet0/2\n ip address 10.1.0.34 255.255.255.252\ninterface GigabitEthernet0/3\n ip address 172.16.40.1 255.255.255.0\nrouter ospf 1\n passive-interface GigabitEthernet0/3\n network 0.0.0.0 255.255.255.255 area 0\n"
unfolding configuration head link lan access_group ospf access_list dotted digits
fortyfirst_of_64 = refl

-- the last chord
pub last_chord_of_512 : configuration 512 504 ≡ codes "hostname r504\ninterface GigabitEthernet0/0\n ip address 10.0.7.225 255.255.255.252\ninterface GigabitEthernet0/1\n ip address 10.0.7.222 255.255.255.252\ninterface GigabitEthernet0/2\n ip address 10.1.3.226 255.255.255.252\ninterface GigabitEthernet0/3\n ip address 172.17.248.1 255.255.255.0\nrouter ospf 1\n passive-interface GigabitEthernet0/3\n network 0.0.0.0 255.255.255.255 area 0\n"
unfolding configuration head link lan access_group ospf access_list dotted digits
last_chord_of_512 = refl

-- the last router: its LAN goes on in 172.17
pub last_of_512 : configuration 512 511 ≡ codes "hostname r511\ninterface GigabitEthernet0/0\n ip address 10.0.7.253 255.255.255.252\ninterface GigabitEthernet0/1\n ip address 10.0.7.250 255.255.255.252\ninterface GigabitEthernet0/3\n ip address 172.17.255.1 255.255.255.0\nrouter ospf 1\n passive-interface GigabitEthernet0/3\n network 0.0.0.0 255.255.255.255 area 0\n"
unfolding configuration head link lan access_group ospf access_list dotted digits
last_of_512 = refl

-- the last of four: no chord, and no filter
pub fourth_of_four : configuration 4 3 ≡ codes "hostname r003\ninterface GigabitEthernet0/0\n ip address 10.0.0.13 255.255.255.252\ninterface GigabitEthernet0/1\n ip address 10.0.0.10 255.255.255.252\ninterface GigabitEthernet0/3\n ip address 172.16.3.1 255.255.255.0\nrouter ospf 1\n passive-interface GigabitEthernet0/3\n network 0.0.0.0 255.255.255.255 area 0\n"
unfolding configuration head link lan access_group ospf access_list dotted digits
fourth_of_four = refl

-- an odd ring: the chord ends half the ring further, rounded down
pub third_of_five : configuration 5 2 ≡ codes "hostname r002\ninterface GigabitEthernet0/0\n ip address 10.0.0.9 255.255.255.252\ninterface GigabitEthernet0/1\n ip address 10.0.0.6 255.255.255.252\ninterface GigabitEthernet0/2\n ip address 10.1.0.2 255.255.255.252\ninterface GigabitEthernet0/3\n ip address 172.16.2.1 255.255.255.0\nrouter ospf 1\n passive-interface GigabitEthernet0/3\n network 0.0.0.0 255.255.255.255 area 0\n"
unfolding configuration head link lan access_group ospf access_list dotted digits
third_of_five = refl

-- half of an even ring
pub fifth_of_eight : configuration 8 4 ≡ codes "hostname r004\ninterface GigabitEthernet0/0\n ip address 10.0.0.17 255.255.255.252\ninterface GigabitEthernet0/1\n ip address 10.0.0.14 255.255.255.252\ninterface GigabitEthernet0/2\n ip address 10.1.0.2 255.255.255.252\ninterface GigabitEthernet0/3\n ip address 172.16.4.1 255.255.255.0\nrouter ospf 1\n passive-interface GigabitEthernet0/3\n network 0.0.0.0 255.255.255.255 area 0\n"
unfolding configuration head link lan access_group ospf access_list dotted digits
fifth_of_eight = refl

-- the last router that begins a chord
pub last_to_begin : configuration 512 248 ≡ codes "hostname r248\ninterface GigabitEthernet0/0\n ip address 10.0.3.225 255.255.255.252\ninterface GigabitEthernet0/1\n ip address 10.0.3.222 255.255.255.252\ninterface GigabitEthernet0/2\n ip address 10.1.3.225 255.255.255.252\ninterface GigabitEthernet0/3\n ip address 172.16.248.1 255.255.255.0\nrouter ospf 1\n passive-interface GigabitEthernet0/3\n network 0.0.0.0 255.255.255.255 area 0\n"
unfolding configuration head link lan access_group ospf access_list dotted digits
last_to_begin = refl

-- and the first one at which a chord ends: its LAN is the first of 172.17
pub first_to_end : configuration 512 256 ≡ codes "hostname r256\ninterface GigabitEthernet0/0\n ip address 10.0.4.1 255.255.255.252\ninterface GigabitEthernet0/1\n ip address 10.0.3.254 255.255.255.252\ninterface GigabitEthernet0/2\n ip address 10.1.0.2 255.255.255.252\ninterface GigabitEthernet0/3\n ip address 172.17.0.1 255.255.255.0\nrouter ospf 1\n passive-interface GigabitEthernet0/3\n network 0.0.0.0 255.255.255.255 area 0\n"
unfolding configuration head link lan access_group ospf access_list dotted digits
first_to_end = refl

-- each file stands under the empty folder text, by a name of three digits
pub names_of_four : names_in [] (files 4) ≡ codes "r000.cfg" ∷ codes "r001.cfg" ∷ codes "r002.cfg" ∷ codes "r003.cfg" ∷ []
unfolding file_name digits
names_of_four = refl

pub nothing_elsewhere : names_in (codes "sample") (files 4) ≡ []
unfolding file_name digits
nothing_elsewhere = refl

pub the_last_name : file_name 511 ≡ codes "r511.cfg"
unfolding file_name digits
the_last_name = refl

pub number_of_a_name : number_in (codes "r072.cfg") ≡ 72
number_of_a_name = refl

-- a network of 512 routers has so many files, and none in another folder
pub names_of_512 : (length (names_in [] (files 512)) ≡ 512) × (names_in (codes "sample") (files 512) ≡ [])
unfolding file_name digits
names_of_512 = (refl, refl)

-- the front of a file
pub front_of_a_file : take 10 (configuration 4 3) ≡ codes "hostname r"
unfolding configuration head link lan access_group ospf access_list dotted digits
front_of_a_file = refl
