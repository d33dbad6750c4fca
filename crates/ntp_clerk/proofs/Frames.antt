-- Packets have one reading.
use Rattle.std.proofs.Common.{◌≡◌, ℕ, ◌+◌, ◌<◌, List, ◌++◌, length, take, drop, ap, sym, ◌∙◌, arith}
use Rattle.std.specs.List.{IsSplitAt}
use Rattle.std.proofs.{lemmas.Grind.common_steps, Math.Seq.take-append_seam, Math.Seq.drop-append_seam, lemmas.List.length-append}
use Rattle.std.proofs.lemmas.List.{take-append-drop}
use Rattle.ntp_clerk.specs.Capture.{IsIpHead, IsUdpHead, IsDatagram}

-- ---- lists that are taken apart at one place

-- their fronts are one
same-front : (xs ys zs ws : List ℕ) → xs ++ ys ≡ zs ++ ws → length xs ≡ length zs → xs ≡ zs
same-front xs ys zs ws same long =
    sym (take-append_seam xs ys) ∙ ap (take (length xs)) same ∙ ap (λ n. take n (zs ++ ws)) long ∙ take-append_seam zs ws

-- so is what stands behind them
same-rest : (xs ys zs ws : List ℕ) → xs ++ ys ≡ zs ++ ws → length xs ≡ length zs → ys ≡ ws
same-rest xs ys zs ws same long =
    sym (drop-append_seam xs ys) ∙ ap (drop (length xs)) same ∙ ap (λ n. drop n (zs ++ ws)) long ∙ drop-append_seam zs ws

-- what is split there has two parts, the first as long as is said
pub split-parts : (xs front back : List ℕ) (count : ℕ) → IsSplitAt xs count front back → (xs ≡ front ++ back) × (length front ≡ count)
split-parts xs front back count is =
    (rw (is.1, is.2) (sym (take-append-drop count xs)), is.3)

-- ---- datagrams

-- the header of a packet is as long as its first octet says
same-length : (ip rest other behind : List ℕ) → ip ++ rest ≡ other ++ behind → IsIpHead ip → IsIpHead other → length ip ≡ length other
same-length ip rest other behind e f g = grind (arith, common_steps)

-- what stands behind the header of a datagram is its header of UDP, and then its payload
pub read-on : (packet source payload : List ℕ) (port : ℕ) (ip rest udp behind : List ℕ) → packet ≡ ip ++ rest → IsIpHead ip → rest ≡ udp ++ behind
    → length udp ≡ 8 → (d : IsDatagram packet source port payload) → IsUdpHead udp port (length payload) × (behind ≡ payload ++ d.padding)
read-on packet source payload port ip rest udp behind first is second eight d = grind (arith, same-rest, same-length, same-front)

-- there are no fewer octets than the header says
pub long-enough : (packet source payload : List ℕ) (port octets : ℕ) (ip rest udp behind : List ℕ) → packet ≡ ip ++ rest → IsIpHead ip
    → rest ≡ udp ++ behind → length udp ≡ 8 → IsUdpHead udp port octets → length behind < octets → IsDatagram packet source port payload → ⊥
long-enough packet source payload port octets ip rest udp behind first is second eight says fewer d =
    let read = read-on packet source payload port ip rest udp behind first is second eight d in
    let long : length behind ≡ length payload + length d.padding = ap length read.1 ∙ length-append payload d.padding in
    omega (arith, fewer, long, says.with_payload, read.0.with_payload)
