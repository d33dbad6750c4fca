-- What octets are read as.
use Rattle.std.proofs.Common.{◌≡◌, ℕ, suc, ◌%◌, List, [], ◌∷◌, Result, Ok, Err, ◌⊎◌, refl, ap, ◌∙◌, arith}
use Rattle.ntp_packet.specs.{Request.RequestValue, Request.IsRequest, Faults.Fails, declared.malformed.Malformed.Malformed}
use Rattle.ntp_packet.proofs.PublicLaws.{AreOctets, HasOneReading, HasOneFault, one-answer, low, AreOctets-low, the_one}
use Rattle.ntp_mac.specs.Reading.{reading_of}

-- the octets are this request, or have this fault
abbrev pub Reads : List ℕ → Result RequestValue Malformed → Type 0
Reads octets (Ok request) = IsRequest octets request
Reads octets (Err fault) = Fails octets fault

-- octets are their own low bits
low-same : (octets : List ℕ) → AreOctets octets → low octets ≡ octets
low-same [] are = refl
low-same (o ∷ os) are =
    let first : o % 256 ≡ o = let lt = are 0 in omega arith in
    ap (λ x. x ∷ low os) first ∙ ap (λ xs. o ∷ xs) (low-same os (λ i. are (suc i)))

Reads-the_one : (octets : List ℕ) (a : HasOneReading octets ⊎ HasOneFault octets) → Reads octets (the_one octets a)
Reads-the_one octets a = grind arith

-- octets are what they are read as
pub Reads-reading_of : (octets : List ℕ) → AreOctets octets → Reads octets (reading_of octets)
unfolding reading_of
Reads-reading_of octets are = grind (arith, one-answer, low, AreOctets-low, the_one, low-same, Reads-the_one)

-- a result that is each request that the octets are, and each fault that they have, is what they are read as
pub answers-so : (octets : List ℕ) (result : Result RequestValue Malformed) → AreOctets octets
    → ((r : RequestValue) → IsRequest octets r → result ≡ Ok r)
    → ((f : Malformed) → Fails octets f → result ≡ Err f) → result ≡ reading_of octets
answers-so octets result are only exact = chosen (reading_of octets) (Reads-reading_of octets are)
  where
    chosen : (a : Result RequestValue Malformed) → Reads octets a → result ≡ a
    chosen a e = grind arith

only-the_one : (octets : List ℕ) (a : HasOneReading octets ⊎ HasOneFault octets) (r : Result RequestValue Malformed)
    → Reads octets r → r ≡ the_one octets a
only-the_one octets a r e = grind arith

-- and they are nothing else
pub only-reading_of : (octets : List ℕ) (r : Result RequestValue Malformed) → AreOctets octets → Reads octets r → r ≡ reading_of octets
unfolding reading_of
only-reading_of octets r are is = grind (arith, only-the_one, low, one-answer, AreOctets-low, low-same)
