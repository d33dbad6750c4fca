-- Parts of a file that are read as pieces.
use Rattle.std.proofs.Common.{◌≡◌, ◌≢◌, ℕ, ◌+◌, ◌-◌, ◌≤◌, ◌<◌, List, [], ◌∷◌, length, take, drop, get_or, ap, sym, ◌++◌, ◌∙◌, inl, inr, arith}
use Rattle.std.specs.Prelude.{Option, None, Some, IfSome, slice_index, slice_range, min}
use Rattle.std.proofs.{lemmas.List.take-take, lemmas.List.take-append-le, lemmas.List.take_all, lemmas.List.Edits.get_or-between}
use Rattle.std.proofs.lemmas.Bool.{cases_lt, Decides.nat_tests}
use Rattle.ntp_host.specs.declared.progress.Progress.{Progress}
use Rattle.ntp_host.specs.Looking.{next_from, StandsAt, HasNoEnd, GivesPart, GivesEach}

-- a place in a file, and the place in a piece where the same octet stands
pub octet_at : (file octets : List ℕ) (from j k : ℕ) → StandsAt file from octets → j ≡ from + k → k < length octets
    → slice_index file j ≡ slice_index octets k
octet_at file octets from j k stands there below =
    ap (slice_index file) there ∙ sym (ap (λ o. get_or o k 0) stands ∙ get_or-between file from (from + length octets) k 0 (omega arith))

-- the first octets of a piece are those of the file behind what stands in front of it
pub front_of : (file octets : List ℕ) (from n : ℕ) → StandsAt file from octets → n ≤ length octets → take n octets ≡ take n (drop from file)
front_of file octets from n stands within =
    let all : from + length octets - from ≡ length octets = omega arith in
    ap (take n) stands ∙ ap (λ m. take n (take m (drop from file))) all ∙ take-take n (length octets) (drop from file) within

-- they are a part of the file
pub part_of : (file octets : List ℕ) (from n : ℕ) → StandsAt file from octets → n ≤ length octets
    → take n octets ≡ slice_range file from (from + n)
part_of file octets from n stands within =
    let some : from + n - from ≡ n = omega arith in
    front_of file octets from n stands within ∙ ap (λ m. take m (drop from file)) (sym some)

-- where nothing is given, nothing of the file is
pub nothing_of : (file : List ℕ) (at : ℕ) → GivesPart file at at []
nothing_of file at =
    let none : at - at ≡ 0 = omega arith in
    (λ some. absurd (omega arith), inl (omega arith, ap (λ m. take m (drop at file)) (sym none)))

-- where a part of a piece has no line feed, the file has none there
pub no_end_in : (file octets : List ℕ) (from low high a b : ℕ) → StandsAt file from octets → high ≤ length octets → from + low ≤ a → b ≤ from + high
    → ((k : ℕ) → low ≤ k → k < high → slice_index octets k ≢ 10) → HasNoEnd file a b
no_end_in file octets from low high a b stands within from_a to_b none k above below is =
    none (k - from) (omega arith) (omega arith) (sym (octet_at file octets from k (k - from) stands (omega arith) (omega arith)) ∙ is)

-- two parts of a file beside each other
pub no_end_joined : (file : List ℕ) (from mid to : ℕ) → HasNoEnd file from mid → HasNoEnd file mid to → HasNoEnd file from to
no_end_joined file from mid to first second k above below is =
    elim (cases_lt k mid) [ inl before ↦ first k above before is | inr behind ↦ second k behind below is ]

-- it begins behind what was given only if no line ends in a piece
pub long_of : (p : Progress) (from : ℕ) → from ≡ next_from p → p.given < from → (p.given + 65536 ≤ p.searched) × (from ≡ p.searched)
long_of p from is behind = (grind (arith, nat_tests), grind (arith, nat_tests))

pub short_of : (p : Progress) (from : ℕ) → from ≡ next_from p → from ≤ p.given → (p.searched < p.given + 65536) × (from ≡ p.given)
short_of p from is within = (grind (arith, nat_tests), grind (arith, nat_tests))

-- ---- a piece in the memory that was taken for it
pub filled : (room rest : List ℕ) (len : ℕ) → length room ≡ len → take len (room ++ rest) ≡ room
filled room rest len long = grind (arith, take-append-le, take_all)

-- what follows of a file that is told
pub told_so : (told : Option (List ℕ)) (A B C : List ℕ → Type 0) → IfSome told A → IfSome told B → ((file : List ℕ) → A file → B file → C file)
    → IfSome told C
told_so None A B C a b f = tt
told_so (Some file) A B C a b f = f file a b

-- the octets that were read, as a value
pub stands_so : (told : Option (List ℕ)) (at from len : ℕ) (octets room rest : List ℕ) → at ≡ from → octets ≡ take len (room ++ rest)
    → length room ≡ len → IfSome told (λ file. StandsAt file at room) → (octets ≡ room) × IfSome told (λ file. StandsAt file from octets)
stands_so told at from len octets room rest where_ value long stands =
    let same = value ∙ filled room rest len long in
    (same, rw (same, ← where_) stands)

-- each line in reach is given, where the piece is the next one
pub each_told : (told : Option (List ℕ)) (p q : Progress) (at len end count : ℕ) (octets room rest : List ℕ) → at ≡ next_from p
    → octets ≡ take len (room ++ rest) → (length room ≡ len) × (length room ≡ count) → IfSome told (λ file. StandsAt file at room)
    → (count ≡ 0 → end ≤ p.searched) → (0 < count → count ≡ min (end - next_from p) 65536)
    → IfSome told (λ file. HasNoEnd file p.given p.searched)
    → ((file : List ℕ) (end : ℕ) → HasNoEnd file p.given p.searched → StandsAt file (next_from p) octets → 0 < length octets
    → length octets ≡ min (end - next_from p) 65536 → GivesEach file end p q)
    → IfSome told (λ file. p.searched < end → GivesEach file end p q)
each_told told p q at len end count octets room rest where_ value long stands none reach knows each =
    let read = stands_so told at (next_from p) len octets room rest where_ value long.0 stands in
    told_so told _ _ _ knows read.1 (λ file known there more.
    let some : 0 < count = elim (cases_lt 0 count) [ inl some ↦ some | inr zero ↦ absurd (omega (arith, none (omega arith))) ] in
    let count_read : length octets ≡ count = ap length read.0 ∙ long.1 in
    each file end known there (omega arith) (count_read ∙ reach some))

-- a line that has no room in a piece is cut
pub cut_of : (file room items : List ℕ) (from to : ℕ) → StandsAt file from room → length room ≡ 4097 → items ≡ room ++ 10 ∷ [] → from + 65536 < to
    → HasNoEnd file from (to - 1) × (slice_index file (to - 1) ≡ 10) → GivesPart file from to items
cut_of file room items from to stands long is more line =
    let all : from + length room - from ≡ 4097 = omega arith in
    (λ some. line.1, inr (line.0, more, is ∙ ap (λ o. o ++ 10 ∷ []) (stands ∙ ap (λ m. take m (drop from file)) all)))

-- ---- each line in reach
-- a place behind what is given, up to which no line ends
in_reach : (file : List ℕ) (given from to k : ℕ) → HasNoEnd file from to → from ≤ given → k < to → slice_index file k ≡ 10 → k < given
in_reach file given from to k none begins below is =
    elim (cases_lt k given) [ inl less ↦ less | inr more ↦ absurd (none k (omega arith) below is) ]

-- nothing was read: all was searched
pub each-none : (file : List ℕ) (p : Progress) (end : ℕ) → HasNoEnd file p.given p.searched → end ≤ p.searched → GivesEach file end p p
each-none file p end none all =
    (λ k below near feed. in_reach file p.given p.given p.searched k none (omega arith) (omega arith) feed, λ more. absurd (omega arith))

-- a piece was searched for the end of a line that has no room
pub each-long : (file : List ℕ) (p q : Progress) (end : ℕ) → HasNoEnd file p.given p.searched → p.given + 65536 ≤ p.searched → p.given ≤ q.given
    → p.searched < q.searched → GivesEach file end p q
each-long file p q end none long on further =
    (λ k below near feed. in_reach file q.given p.given p.searched k none (omega arith) (omega arith) feed, λ more. omega arith)

-- a piece was taken
pub each-short : (file : List ℕ) (p : Progress) (given searched end n : ℕ) → HasNoEnd file given searched → p.searched < p.given + 65536
    → p.given ≤ given → searched ≡ p.given + n → 0 < n → n ≡ min (end - p.given) 65536
    → ((k : ℕ) → k < end → k < p.given + 65536 → slice_index file k ≡ 10 → k < given) × (p.searched < end → p.given + p.searched < given + searched)
each-short file p given searched end n none short on all some reach =
    (λ k below near feed. in_reach file given given searched k none (omega arith) (omega arith) feed, λ more. omega arith)
