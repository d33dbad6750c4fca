-- Octets have one reading or one fault, and not both.
use Rattle.std.proofs.Common.{◌≡◌, ℕ, ◌%◌, ◌<◌, ◌≤◌, ◌⊎◌, cond, leb, ltb, eqb, List, length, refl, sym, ap, ◌∙◌, arith, inl, inr}
use Rattle.std.proofs.lemmas.Bool.{cond-true, cond-false, lt-ltb, le-ltb, le-leb, lt-leb, eq-eqb, ne_eqb}
use Rattle.std.proofs.{lemmas.List.length-append, lemmas.Result.err_from_is_err_and}
use Rattle.ntp_packet.specs.{Header.HeaderFields, Field.Field, Field.written_length}
use Rattle.ntp_packet.specs.declared.digests.Digest.TheVariants.{Md5, Sha1}
use Rattle.ntp_packet.specs.{Request.RequestValue, Request.IsRequest, declared.malformed.Malformed.Malformed}
use Rattle.ntp_packet.specs.Tail.{TailValue, NoTail, BareTail, MacTail, tail_octets, IsTail}
use Rattle.ntp_packet.specs.Faults.{Stands, FailsAt, Fails}
use Rattle.ntp_packet.proofs.RestFaults.{IsFieldShort, IsFieldUnaligned, IsFieldPastEnd, IsNoTail}
use Rattle.ntp_packet.specs.declared.malformed.Malformed.TheVariants.{Short, Long, FieldShort, FieldUnaligned, FieldPastEnd, Rest}
use Rattle.ntp_packet.proofs.{Places.Stands-long, Tails.length-tail, Tails.same-tail, Ends.Begins, Ends.same-end}

-- behind its fields stands the tail of a request
pub IsRequest-stands : (octets : List ℕ) (r : RequestValue) → IsRequest octets r → Stands octets (length r.signed) (tail_octets r.tail)
IsRequest-stands octets r is = grind arith

tail-ends : (octets : List ℕ) (r : RequestValue) → IsRequest octets r → Begins (tail_octets r.tail) → ⊥
tail-ends octets r is b = let most = length-tail r.tail is.reading.tail in let more = b.more in omega arith

same-parts : (h i : HeaderFields) (fs gs : List Field) (a b : List ℕ) (s t : TailValue) → h ≡ i → fs ≡ gs → a ≡ b → s ≡ t
    → record { header = h; fields = fs; signed = a; tail = s }
    ≡ (let r : RequestValue = record { header = i; fields = gs; signed = b; tail = t } in r)
same-parts h i fs gs a b s t p q e u = rw (p, q, e, u) refl

-- there is one reading at most
pub one-reading : (octets : List ℕ) (r s : RequestValue) → IsRequest octets r → IsRequest octets s → r ≡ s
unfolding IsRequest-stands
one-reading octets r s is is' =
    let end =
    same-end octets _ _ _ _ (IsRequest-stands octets r is) (IsRequest-stands octets s is')
    (tail-ends octets r is) (tail-ends octets s is') in
    same-parts r.header s.header r.fields s.fields r.signed s.signed r.tail s.tail end.header end.fields
    (is.reading.signed ∙ rw (end.header, end.fields) (sym is'.reading.signed))
    (same-tail r.tail s.tail is.reading.tail is'.reading.tail end.rest)

-- the fault of what is left from a place on, where it has one
fault_at : ℕ → List ℕ → Malformed
fault_at place rest =
    cond (leb (length rest) 24) (Rest place)
    (cond (ltb (written_length rest) 16) (FieldShort place)
    (cond (eqb (written_length rest % 4) 0) (FieldPastEnd place) (FieldUnaligned place)))

-- the octets have this fault behind the header
record Located (octets : List ℕ) (fault : Malformed) : Type 0 where
  pub most : length octets ≤ 1024
  pub least : 48 ≤ length octets
  pub place : ℕ
  pub rest : List ℕ
  pub stands : Stands octets place rest
  pub end : Begins rest → ⊥
  pub is : fault ≡ fault_at place rest
  pub unread : (t : TailValue) → IsTail t → tail_octets t ≡ rest → ⊥

-- what a rest with a fault shows
record Shows (place : ℕ) (rest : List ℕ) (fault : Malformed) : Type 0 where
  pub end : Begins rest → ⊥
  pub is : fault ≡ fault_at place rest
  pub unread : (t : TailValue) → IsTail t → tail_octets t ≡ rest → ⊥

no-tail : (t : TailValue) → IsTail t → IsNoTail (tail_octets t) → ⊥
unfolding tail_octets
no-tail NoTail is not-one = not-one.1 refl
no-tail (BareTail number) is not-one = not-one.2 refl
no-tail (MacTail number (Md5 digest)) is not-one = not-one.3 (let len = is.1 in omega arith)
no-tail (MacTail number (Sha1 digest)) is not-one = not-one.4 (let len = is.1 in omega arith)

no-longer-tail : (rest : List ℕ) → 24 < length rest → (t : TailValue) → IsTail t → tail_octets t ≡ rest → ⊥
no-longer-tail rest more t is e = let most = length-tail t is in omega (arith, ap length e)

module _ (place : ℕ) (rest : List ℕ) where
  shows-field-short : IsFieldShort rest → Shows place rest (FieldShort place)
  unfolding fault_at
  shows-field-short f = record {
    end = λ b. let least = b.whole.least in let h = f.1 in omega arith;
    is = sym (cond-false _ _ _ (lt-leb (length rest) 24 f.0) ∙ cond-true _ _ _ (lt-ltb (written_length rest) 16 f.1));
    unread = no-longer-tail rest f.0;
  }

  shows-unaligned : IsFieldUnaligned rest → Shows place rest (FieldUnaligned place)
  unfolding fault_at
  shows-unaligned f = record {
    end = λ b. f.1.1 b.whole.aligned;
    is = sym
        (cond-false _ _ _ (lt-leb (length rest) 24 f.0) ∙ cond-false _ _ _ (le-ltb (written_length rest) 16 f.1.0)
        ∙ cond-false _ _ _ (ne_eqb (written_length rest % 4) 0 f.1.1));
    unread = no-longer-tail rest f.0;
  }

  shows-past-end : IsFieldPastEnd rest → Shows place rest (FieldPastEnd place)
  unfolding fault_at
  shows-past-end f = record {
    end = λ b. let whole = b.whole.whole in let h = f.1.2 in omega arith;
    is = sym
        (cond-false _ _ _ (lt-leb (length rest) 24 f.0) ∙ cond-false _ _ _ (le-ltb (written_length rest) 16 f.1.0)
        ∙ cond-true _ _ _ (eq-eqb (written_length rest % 4) 0 f.1.1));
    unread = no-longer-tail rest f.0;
  }

  shows-rest : IsNoTail rest → Shows place rest (Rest place)
  unfolding fault_at
  shows-rest f = grind (arith, cond-true, le-leb, no-tail, IsNoTail)

locate : {fault : List ℕ → Type 0} (octets : List ℕ) (place : ℕ) (is : Malformed) → FailsAt octets place fault
    → ((rest : List ℕ) → fault rest → Shows place rest is) → Located octets is
locate octets place is f shows = grind arith

located : (octets : List ℕ) (fault : Malformed) → Fails octets fault
    → ((fault ≡ Short) × (length octets < 48)) ⊎ (((fault ≡ Long) × (1024 < length octets)) ⊎ Located octets fault)
located octets Short f = inl (refl, f)
located octets Long f = inr (inl (refl, f))
located octets (FieldShort at) f = inr (inr (locate octets at (FieldShort at) f (shows-field-short at)))
located octets (FieldUnaligned at) f = inr (inr (locate octets at (FieldUnaligned at) f (shows-unaligned at)))
located octets (FieldPastEnd at) f = inr (inr (locate octets at (FieldPastEnd at) f (shows-past-end at)))
located octets (Rest at) f = inr (inr (locate octets at (Rest at) f (shows-rest at)))

same-fault : (octets : List ℕ) (f g : Malformed) → Located octets f → Located octets g → f ≡ g
same-fault octets f g x y =
    let end = same-end octets _ _ _ _ x.stands y.stands x.end y.end in
    x.is ∙ rw (end.place, end.rest) (sym y.is)

-- there is one fault at most
pub one-fault : (octets : List ℕ) (f g : Malformed) → Fails octets f → Fails octets g → f ≡ g
one-fault octets f g x y =
    elim (located octets f x) [
      | inl a ↦ elim (located octets g y) [
        | inl b ↦ a.0 ∙ sym b.0
        | inr b ↦ elim b [ inl c ↦ absurd (omega arith) | inr c ↦ absurd (omega arith) ]
      ]
      | inr d ↦ elim d [
        | inl a ↦ elim (located octets g y) [
          | inl b ↦ absurd (omega arith)
          | inr b ↦ elim b [ inl c ↦ a.0 ∙ sym c.0 | inr c ↦ absurd (omega arith) ]
        ]
        | inr a ↦ elim (located octets g y) [
          | inl b ↦ absurd (omega arith)
          | inr b ↦ elim b [ inl c ↦ absurd (omega arith) | inr c ↦ same-fault octets f g a c ]
        ]
      ]
    ]

-- octets with a reading have no fault
pub no-fault : (octets : List ℕ) (r : RequestValue) (fault : Malformed) → IsRequest octets r → Fails octets fault → ⊥
no-fault octets r fault is f =
    let stands = IsRequest-stands octets r is in
    let long = Stands-long octets _ _ stands in
    let fits : length octets ≤ 1024 = rw is.spelled (rw (length-append r.signed (tail_octets r.tail)) is.reading.fits) in
    elim (located octets fault f) [
      | inl a ↦ omega arith
      | inr d ↦ elim d [
        | inl a ↦ omega arith
        | inr a ↦ a.unread r.tail is.reading.tail (same-end octets _ _ _ _ stands a.stands (tail-ends octets r is) a.end).rest
      ]
    ]

-- of a datagram there is one reading or one fault, which an error passes on
pub ruleset unique = (one-fault, no-fault, err_from_is_err_and)
