-- A header, fields and a tail, one behind another, are a request.
use Rattle.std.proofs.Common.{ℕ, ◌+◌, ◌≤◌, List, [], ◌∷◌, ◌++◌, length, arith}
use Rattle.std.specs.List.{flat_map, All, AllByRecursion}
use Rattle.std.proofs.{lemmas.List.length-append, lemmas.List.Elements.recursion_from_All}
use Rattle.ntp_packet.specs.Header.{HeaderFields, IsHeader}
use Rattle.ntp_packet.specs.Field.{Field, field_octets, IsField, AreFields}
use Rattle.ntp_packet.specs.Tail.{TailValue, tail_octets, IsTail}
use Rattle.ntp_packet.specs.Request.{IsRequest, request_of, signed_octets}
use Rattle.ntp_packet.proofs.Spelling.{length-field_octets}

pub composed : (h : HeaderFields) (fs : List Field) (t : TailValue) → IsHeader h → AreFields fs (length (tail_octets t)) → IsTail t
    → length (signed_octets h fs) + length (tail_octets t) ≤ 1024 → IsRequest (signed_octets h fs ++ tail_octets t) (request_of h fs t)
composed h fs t is-header are is-tail fits = grind arith

-- before 20 octets or more each field begins with more than 24 octets left
AreFields-mac : (fs : List Field) (after : ℕ) → 20 ≤ after → AllByRecursion IsField fs → AreFields fs after
AreFields-mac [] after mac all = tt
AreFields-mac (f ∷ fs) after mac all =
    let least = all.0.least in
    let size = length-field_octets f in
    let len = length-append (field_octets f) (flat_map field_octets fs) in
    (all.0, omega arith, AreFields-mac fs after mac all.1)

pub composed_mac : (h : HeaderFields) (fs : List Field) (t : TailValue) → IsHeader h → All IsField fs → IsTail t
    → 20 ≤ length (tail_octets t) → length (signed_octets h fs) + length (tail_octets t) ≤ 1024
    → IsRequest (signed_octets h fs ++ tail_octets t) (request_of h fs t)
composed_mac h fs t is-header all is-tail mac fits = grind (arith, composed, AreFields-mac, recursion_from_All)
