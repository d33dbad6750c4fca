-- What a call of the allocator is handed, at an inner allocator. Assumes `Logic`.
use Rattle.std.proofs.Common.{[], ◌∷◌}
use mir.MapTy.{inst_fn}
use mir.Syntax.{Args, Fn, a_type, dnil, dcons}
use denote.Builtin.{usize, RawPtr, RefOf}
use denote.Param.{bounded, param}
use denote.Signature.{Slot, plain}
use Rattle.std.proofs.alloc.Calls.{Al}
use Rattle.test_support.specs.contracts.refusing.Refusing as refusing

module _ (Z : Al) where
  -- the inner allocator's type, with its methods and its drop
  abbrev pub args : Args
  args = bounded (a_type ∷ []) (Z.row, tt) (dcons Z.d (dcons Z.drops dnil))

  -- a method's code at that type
  abbrev pub at_inner : Fn → Fn
  at_inner = inst_fn args

  abbrev pub self : Slot 2
  self = RefOf (0 ∷ []) tt (plain (λ _. refusing.the_row (param 0 Z.row))) (λ _. tt)

abbrev pub pointer : Slot 2
pointer = plain (λ _. RawPtr)

abbrev pub word : Slot 2
word = plain (λ _. usize)
