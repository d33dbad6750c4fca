-- A walk through the code of a method, taken to the method's contract. Assumes `Logic`.
use seplogic.Ra.Ura.{Ura}
use mir.Syntax.{Fn}
use base.Logic.{ent, sep}
use prog.Wp.{WpFn, Tables}
use types.Logic.{Logic}
use contract.Lifetimes.{Lfts, Shares, AllOutlive}
use contract.Monad.{Fun}
use sound.WpLaws.{WpFn-mono}
use denote.Laws.{Are, Ises, Spells, valss, Tellss}
use denote.RattleType.{flat}
use denote.Signature.{Signature, types_at}
use denote.Triple.Clauses.{Ended, Clauses, closing}
use denote.Triple.Entry.{Args, on_entry}
use denote.Triple.Spec.{Meets}
use denote.Triple.Walked.{Stays, AllGo, walk_of, walked, walk_Meets}

module _ {M : Type 1} {𝓤 : Ura M} (𝓛 : Logic 𝓤) (𝓣 : Tables 𝓤 𝓛.H) (f : Fn) (E : Ended) (hs : Stays E.signature.params E.kept)
    (c : Clauses 𝓤 E) where
  abbrev S : Signature
  S = E.signature

  abbrev run : Fun 𝓤
  run = WpFn 𝓤 𝓛.H 𝓣.C 𝓣.Λ f

  pub meets : AllGo 𝓛 S.lifetimes S.params E.kept hs
      → (sp : (κs : Lfts S.lifetimes) → Spells (types_at S.params κs))
      → ((κs : Lfts S.lifetimes) → Tellss (types_at S.params κs) (Ises (types_at S.params κs)) (sp κs))
      → ((κs : Lfts S.lifetimes) (qs : Shares S.lifetimes) (bounds : AllOutlive S.lifetimes S.outlives κs) (a : Args S κs) (g : (c κs a).ghost)
      → Are (types_at S.params κs) (Ises (types_at S.params κs)) a (valss (types_at S.params κs) (sp κs) a)
      → ent 𝓤 (sep 𝓤 (on_entry 𝓛 S κs qs a (valss (types_at S.params κs) (sp κs) a)) ((c κs a).requires g))
      (run (flat (types_at S.params κs) (valss (types_at S.params κs) (sp κs) a))
      ((walk_of 𝓛 E hs c).post ((κs, qs, bounds, a, valss (types_at S.params κs) (sp κs) a), g))))
      → Meets 𝓛 S run (closing 𝓛 E c)
  meets goes sp tells walk =
      walk_Meets 𝓛 E hs goes c run (WpFn-mono 𝓤 𝓛.H 𝓛.laws 𝓣 f) (walked 𝓛 E hs c run sp tells walk)
