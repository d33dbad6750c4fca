-- The UDP datagrams over IPv4 of a capture file in pcap form (pcap-savefile(5)).
use Rattle.std.specs.Prelude.{◌≡◌, ◌≤◌, ◌+◌, ◌*◌, ◌%◌, ℕ, ◌==◌, ◌||◌, if◌then◌else◌, List, [], ◌++◌, length, drop, slice_index, Option, None, Some}
use Rattle.std.specs.List.{slice_range}
use Rattle.ntp_clerk.specs.declared.capture.{Order.Order, Link.Link}
use Rattle.ntp_clerk.specs.declared.capture.Order.TheVariants.{BigEndian, LittleEndian}
use Rattle.ntp_clerk.specs.declared.capture.Link.TheVariants.{Ethernet, Cooked, CookedSecond, Packet}

-- the number of two octets from a place on, the most significant first
abbrev pub two_octets : List ℕ → ℕ → ℕ
two_octets octets at = slice_index octets at * 256 + slice_index octets (at + 1)

-- the type of link by its number, whose lower 16 bits count (pcap-savefile(5), pcap-linktype(7))
abbrev pub link_of : ℕ → Option Link
link_of number =
    let type = number % 65536 in
    if type == 1 then Some Ethernet
    else if type == 113 then Some Cooked
    else if type == 276 then Some CookedSecond
    else if (type == 12) || (type == 101) || (type == 228) then Some Packet
    else None

-- the order of the octets in a file's numbers, by its first four: a1b2c3d4, or a1b23c4d where stamps are in nanoseconds
-- (pcap-savefile(5))
abbrev pub order_of : ℕ → Option Order
order_of magic =
    if (magic == 2712847316) || (magic == 2712812621) then Some BigEndian
    else if (magic == 3569595041) || (magic == 1295823521) then Some LittleEndian
    else None

-- the number of four octets from a place on
abbrev pub number_at : Order → List ℕ → ℕ → ℕ
number_at BigEndian octets at = two_octets octets at * 65536 + two_octets octets (at + 2)
number_at LittleEndian octets at =
    slice_index octets at + slice_index octets (at + 1) * 256 + slice_index octets (at + 2) * 65536 + slice_index octets (at + 3) * 16777216

-- a file's header of 24 octets: its order, its type of link, and the records behind it (pcap-savefile(5))
pub record HasHead (octets : List ℕ) (order : Order) (link : Link) (records : List ℕ) : Type 0 where
  pub whole : 24 ≤ length octets
  pub magic : order_of (number_at BigEndian octets 0) ≡ Some order
  pub type : link_of (number_at order octets 20) ≡ Some link
  pub behind : records ≡ drop 24 octets

-- a record: a header of 16 octets, which has the number of those that were captured at octet 8, then these (pcap-savefile(5))
pub record IsRecord (order : Order) (octets : List ℕ) (frame : List ℕ) (behind : List ℕ) : Type 0 where
  pub head : List ℕ
  pub parts : octets ≡ head ++ (frame ++ behind)
  pub head_length : length head ≡ 16
  pub captured : number_at order octets 8 ≡ length frame

-- what stands before an IPv4 packet, whose type of protocol is 0x0800: 14 octets with it at the end, 16 with it at the end, 20 with it in
-- front, and nothing (pcap-linktype(7))
abbrev pub IsLinkHead : Link → List ℕ → Type 0
IsLinkHead Ethernet head = (length head ≡ 14) × (two_octets head 12 ≡ 2048)
IsLinkHead Cooked head = (length head ≡ 16) × (two_octets head 14 ≡ 2048)
IsLinkHead CookedSecond head = (length head ≡ 20) × (two_octets head 0 ≡ 2048)
IsLinkHead Packet head = head ≡ []

-- an IPv4 packet in a frame
pub record IsPacketOf (link : Link) (frame : List ℕ) (packet : List ℕ) : Type 0 where
  pub head : List ℕ
  pub parts : frame ≡ head ++ packet
  pub form : IsLinkHead link head

-- a header of IPv4 of a whole UDP datagram: it says version 4 and of how many words of four octets it is, no fragment, and protocol 17
-- (RFC 791, 3.1)
pub record IsIpHead (ip : List ℕ) : Type 0 where
  pub words : ℕ
  pub version : slice_index ip 0 ≡ 64 + words
  pub least : 5 ≤ words
  pub most : words ≤ 15
  pub ip_length : length ip ≡ words * 4
  pub no_fragment : (slice_index ip 6 % 64 ≡ 0) × (slice_index ip 7 ≡ 0)
  pub protocol : slice_index ip 9 ≡ 17

-- a header of UDP to a port, with a payload of `payload` octets (RFC 768)
pub record IsUdpHead (udp : List ℕ) (port : ℕ) (payload : ℕ) : Type 0 where
  pub udp_length : length udp ≡ 8
  pub to_port : two_octets udp 2 ≡ port
  pub with_payload : two_octets udp 4 ≡ 8 + payload

-- a packet that is a datagram from an address to a port: its two headers, the payload, and what may pad the frame
pub record IsDatagram (packet : List ℕ) (source : List ℕ) (port : ℕ) (payload : List ℕ) : Type 0 where
  pub ip : List ℕ
  pub udp : List ℕ
  pub padding : List ℕ
  pub parts : packet ≡ ip ++ (udp ++ (payload ++ padding))
  pub ip_head : IsIpHead ip
  pub source_octets : source ≡ slice_range ip 12 16
  pub udp_head : IsUdpHead udp port (length payload)
