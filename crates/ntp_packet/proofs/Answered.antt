-- Octets have a reading or a fault.
use Rattle.std.proofs.Common.{◌≡◌, ℕ, zero, suc, ◌+◌, ◌%◌, ◌^◌, ◌<◌, ◌≤◌, ◌⊎◌, List, length, take, drop, refl, sym, arith, inl, inr}
use Rattle.std.specs.Int.{w32, to_be_bytes, from_be_bytes}
use Rattle.std.proofs.{lemmas.Bool.cases_lt, lemmas.Bool.cases_eq, lemmas.Nat.be_bytes_4}
use Rattle.std.proofs.lemmas.List.{length-append, length-take, length-drop, nil_from_length}
use Rattle.ntp_packet.specs.{Field.written_length, declared.digests.Digest.Digest}
use Rattle.ntp_packet.specs.declared.digests.Digest.TheVariants.{Md5, Sha1}
use Rattle.ntp_packet.specs.{Faults.Stands, Faults.Fails, declared.malformed.Malformed.Malformed}
use Rattle.ntp_packet.specs.Tail.{TailValue, NoTail, BareTail, MacTail, digest_octets, tail_octets, IsTail}
use Rattle.ntp_packet.specs.Request.{RequestValue, IsRequest}
use Rattle.ntp_packet.proofs.RestFaults.{IsFieldShort, IsFieldUnaligned, IsFieldPastEnd, IsNoTail}
use Rattle.ntp_packet.proofs.{OneAnswer.HasOneReading, OneAnswer.HasOneFault, Octets.AreOctets, Octets.AreOctets-take}
use Rattle.ntp_packet.proofs.{Headers.header-there, Tails.number-alone, Tails.number-and-digest, Composed.composed}
use Rattle.ntp_packet.specs.declared.malformed.Malformed.TheVariants.{Short, Long, FieldShort, FieldUnaligned, FieldPastEnd, Rest}
use Rattle.ntp_packet.proofs.Places.{Stands-first, Stands-next, Stands-octets, fails_at}
use Rattle.ntp_packet.proofs.Unique.{one-reading, one-fault, no-fault}

-- the tail that a rest of octets is
record TailThere (rest : List ℕ) : Type 0 where
  pub tail : TailValue
  pub is : IsTail tail
  pub spelled : tail_octets tail ≡ rest

module _ (rest : List ℕ) (are : AreOctets rest) where
  number : ℕ
  number = from_be_bytes w32 (take 4 rest)

  number-fits : number < 2 ^ 32
  unfolding number
  number-fits = let h = AreOctets-take 4 rest are in omega (arith, h 0, h 1, h 2, h 3)

  number-octets : 4 ≤ length rest → to_be_bytes w32 number ≡ take 4 rest
  unfolding number
  number-octets long = be_bytes_4 (take 4 rest) _ (omega (arith, length-take 4 rest)) (AreOctets-take 4 rest are) refl

  none-there : length rest ≡ 0 → TailThere rest
  unfolding tail_octets
  none-there e = record { tail = NoTail; is = tt; spelled = sym (nil_from_length rest e) }

  bare-there : length rest ≡ 4 → TailThere rest
  unfolding tail_octets
  bare-there e = record {
    tail = BareTail number;
    is = number-fits;
    spelled = number-alone rest (to_be_bytes w32 number) e (number-octets (omega arith));
  }

  mac-there : (digest : Digest) → digest_octets digest ≡ drop 4 rest → IsTail (MacTail number digest) → 4 ≤ length rest → TailThere rest
  unfolding tail_octets
  mac-there digest same is long = record {
    tail = MacTail number digest;
    is = is;
    spelled = number-and-digest rest (to_be_bytes w32 number) (digest_octets digest) (number-octets long) same;
  }

  md5-there : length rest ≡ 20 → TailThere rest
  md5-there e = mac-there (Md5 (drop 4 rest)) refl (number-fits, omega (arith, length-drop 4 rest)) (omega arith)

  sha1-there : length rest ≡ 24 → TailThere rest
  sha1-there e = mac-there (Sha1 (drop 4 rest)) refl (number-fits, omega (arith, length-drop 4 rest)) (omega arith)

abbrev Answered : List ℕ → Type 0
Answered octets = ((r : RequestValue) × IsRequest octets r) ⊎ ((fault : Malformed) × Fails octets fault)

module _ (octets : List ℕ) (are : AreOctets octets) (fits : length octets ≤ 1024) where
  with-tail : (place : ℕ) (rest : List ℕ) → Stands octets place rest → TailThere rest → Answered octets
  with-tail place rest s t = grind (arith, length-append, composed)

  at-end : (place : ℕ) (rest : List ℕ) → Stands octets place rest → length rest ≤ 24 → Answered octets
  at-end place rest s end =
      let mine = Stands-octets octets place rest s are in
      elim (cases_eq (length rest) 0) [
        | inl e ↦ with-tail place rest s (none-there rest mine e)
        | inr a ↦ elim (cases_eq (length rest) 4) [
          | inl e ↦ with-tail place rest s (bare-there rest mine e)
          | inr b ↦ elim (cases_eq (length rest) 20) [
            | inl e ↦ with-tail place rest s (md5-there rest mine e)
            | inr c ↦ elim (cases_eq (length rest) 24) [
              | inl e ↦ with-tail place rest s (sha1-there rest mine e)
              | inr d ↦ inr (Rest place, fails_at IsNoTail octets place rest fits s (end, a, b, c, d))
            ]
          ]
        ]
      ]

  from-place : (fuel : ℕ) (place : ℕ) (rest : List ℕ) → Stands octets place rest → length rest ≤ fuel → Answered octets
  from-place zero place rest s room = at-end place rest s (omega arith)
  from-place (suc fuel) place rest s room =
      elim (cases_lt 24 (length rest)) [
        | inr end ↦ at-end place rest s end
        | inl more ↦ elim (cases_lt (written_length rest) 16) [
          | inl least ↦ inr (FieldShort place, fails_at IsFieldShort octets place rest fits s (more, least))
          | inr least ↦ elim (cases_eq (written_length rest % 4) 0) [
            | inr odd ↦ inr (FieldUnaligned place, fails_at IsFieldUnaligned octets place rest fits s (more, (least, odd)))
            | inl aligned ↦ elim (cases_lt (length rest) (written_length rest)) [
              | inl past ↦ inr (FieldPastEnd place, fails_at IsFieldPastEnd octets place rest fits s (more, (least, aligned, past)))
              | inr whole ↦ from-place fuel (place + written_length rest) (drop (written_length rest) rest)
                  (Stands-next octets place rest s are more (record { least = least; aligned = aligned; whole = whole }))
                  (omega (arith, length-drop (written_length rest) rest))
            ]
          ]
        ]
      ]

answered : (octets : List ℕ) → AreOctets octets → Answered octets
answered octets are =
    elim (cases_lt (length octets) 48) [
      | inl fewer ↦ inr (Short, fewer)
      | inr least ↦ elim (cases_lt 1024 (length octets)) [
        | inl long ↦ inr (Long, long)
        | inr most ↦
            let h = header-there octets are least in
            from-place octets are most (length (drop 48 octets)) 48 (drop 48 octets)
            (Stands-first octets h.header h.is h.spelled least) (omega arith)
      ]
    ]

-- and only one
pub one-answer : (octets : List ℕ) → AreOctets octets → HasOneReading octets ⊎ HasOneFault octets
one-answer octets are = grind (arith, answered, one-reading, no-fault, one-fault)
