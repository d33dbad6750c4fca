-- The call of `refuses`: what it is handed, and what its caller then has. Assumes `Logic`.
use Rattle.std.proofs.Common.{◌≡◌, ℕ, List, [], ◌∷◌, refl, ap}
use Rattle.std.specs.Prelude.{Bool}
use seplogic.Ra.Ura.{Ura}
use mir.Val.{Val, vbool, vptr}
use base.Logic.{SProp, ent, sep, ex, guard, id⊢}
use base.Fml.{Fml, Lft, Share, ftrue, fsep, flft}
use prog.Memory.{Memory}
use prog.Routine.{Routine}
use types.Logic.{Logic, sem}
use contract.Monad.{Fun}
use types.Kit.{Item, raw, ‵, ◌⊛◌, some, later, given, ◌$◌, ◌∵◌, !, qed, done}
use types.Kit.{move, keep, use1, split, join, pick, fjoin, feq_i, feq_l, check, show, await, updating, now as at_once}
use denote.RattleType.{RattleType}
use denote.Memory.{hidden_shr}
use denote.Builtin.{bool}
use denote.Steps.{nothing, only}
use denote.Triple.Statement.{Contract}
use denote.Triple.Spec.{triple_of}
use Rattle.std.specs.contracts.cell.Cell as cell
use Rattle.test_support.specs.contracts.refusing.Tally as tally
use Rattle.test_support.specs.contracts.refusing.refuses as asked

-- the cell that is behind the reference
abbrev pub Counts : RattleType
Counts = cell.the_row tally.the_row

module _ {M : Type 1} {𝓤 : Ura M} (𝓛 : Logic 𝓤) (at_mem : Memory → SProp 𝓤) (run : Routine → Fun 𝓤) where
  abbrev pub Asks : Contract 𝓤
  Asks = triple_of 𝓛 asked.signature (asked.spec 𝓛 at_mem run)

  abbrev pub at_asks : Lft → Share → ℕ × ℕ → Asks.Ghost
  at_asks κ q c = (((κ, tt), (q, tt), tt, (record { ref_ptr = c; now = record { value = tt } }, tt), (vptr c.0 c.1 ∷ [], tt)), tt)

module _ {M : Type 1} {𝓤 : Ura M} (𝓛 : Logic 𝓤) (at_mem : Memory → SProp 𝓤) (run : Routine → Fun 𝓤)
    (κ : Lft) (q : Share) (c : ℕ × ℕ) where
  open 𝓛 use {H}

  -- the shared cell
  abbrev pub shared : Fml
  shared = hidden_shr Counts κ (record { value = tt }) c.0 c.1

  -- that, and the token of its lifetime, are all that the call takes
  pub Asks-taken : ent 𝓤 (sep 𝓤 (sem 𝓛 shared) (sem 𝓛 (flft κ q))) ((Asks 𝓛 at_mem run).pre (at_asks 𝓛 at_mem run κ q c))
  Asks-taken =
      qed 𝓛 (‵ shared ∷ ‵ (flft κ q) ∷ []) ∵ feq_i ! (List Val) (vptr c.0 c.1 ∷ []) (vptr c.0 c.1 ∷ []) refl $ fjoin ! $
      nothing ! $ move ! (1 ∷ []) $ fjoin ! $ nothing ! $ move ! (2 ∷ []) $ join ! $ join ! $ nothing ! $ move ! (1 ∷ []) $ done !

  -- what a call has answered: a `bool`, and the token is back
  abbrev pub Asked : Val → Item 𝓤
  Asked v = some (λ (b : Bool). given (v ≡ vbool b) (‵ (flft κ q)))

  pub Asks-given : (v : Val) → ent 𝓤 ((Asks 𝓛 at_mem run).post (at_asks 𝓛 at_mem run κ q c) v)
      (H.⇛ (ex 𝓤 (λ (b : Bool). guard 𝓤 (v ≡ vbool b) (sem 𝓛 (flft κ q)))))
  Asks-given v =
      qed 𝓛 (raw ((Asks 𝓛 at_mem run).post (at_asks 𝓛 at_mem run κ q c) v) ∷ []) ∵ updating ! $
      use1 𝓛 (later (some (λ (b : Bool). ((‵ (flft κ q) ⊛ ‵ ftrue) ⊛ ‵ (bool.own_val b (v ∷ [])))
      ⊛ some (λ (ws : Unit {0} × Unit {0}). ‵ (fsep ftrue ftrue) ⊛ ‵ ftrue)))) (id⊢ 𝓤 _) $ await ! tt $ pick ! (λ b.
      split ! $ split ! $ move ! (1 ∷ []) $ feq_l ! (λ is. split ! $ at_once ! $
      show ! (λ (x : Bool). guard 𝓤 (v ≡ vbool x) (sem 𝓛 (flft κ q))) b $ check ! (ap only is) $ keep ! (0 ∷ []) $ done !))
