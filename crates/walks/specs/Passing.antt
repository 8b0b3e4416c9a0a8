-- The frame of a walk. A function is lent a struct, or words alone, and passes them on to the one function that it calls: the struct by
-- value, the words as they are. What is known of the callee gives the function's contract, once the function's own code is walked.
use Rattle.std.specs.Prelude.{ℕ, suc, List, [], ◌∷◌}
use seplogic.Ra.Ura.{Ura}
use mir.Syntax.{Callee, Fn}
use mir.Val.{Val}
use base.Logic.{SProp, ent, emp}
use Rattle.std.specs.Borrow.{Fml}
use prog.Wp.{Calls, Loops, WpFn, Tables}
use types.Logic.{Logic}
use contract.Lifetimes.{Lfts, Shares}
use types.Kit.{Item, raw, ◌$◌, Step, step, prop, suffices, use1}
use sound.WpLaws.{FmC, fm_of}
use denote.Laws.{valss}
use denote.RattleType.{Denots, owns}
use denote.Signature.{Slot, types_at}
use denote.Triple.Clauses.{Ended, Clauses, Lasts, at_exit, closing}
use denote.Triple.End.{Kepts, Fins}
use denote.Triple.Entry.{Args, Vals, Res}
use denote.Triple.Spec.{Meets}
use denote.Triple.Statement.{Triple}
use denote.Triple.Walked.{Stays, Ending, walk_of, ends_at, fits_of}
use Rattle.walks.specs.Walks.{all_told, Agreed, Walk, meets}
use Rattle.walks.specs.Calls.{firsts, shares, parts, said}
use Rattle.walks.specs.Params.{Header, keeping, spells, tells}

-- the way down to the callee's lifetimes and shares: those behind the first, those before the last, and those between the two
pub record Way (n m : ℕ) : Type 0 where
  pub lifetimes : Lfts n → Lfts m
  pub shares : Shares n → Shares m

abbrev pub behind_first : (n : ℕ) → Way (suc n) n
behind_first n = record { lifetimes = λ κs. κs.1; shares = λ qs. qs.1 }

abbrev pub before_last : (n : ℕ) → Way (suc n) n
before_last n = record { lifetimes = firsts n; shares = shares n }

abbrev pub between : (n : ℕ) → Way (suc (suc n)) n
between n = record { lifetimes = λ κs. firsts n κs.1; shares = λ qs. shares n qs.1 }

-- the two signatures, what the callee is passed, what the function returns, and the last values: those that the callee leaves, and what
-- is stored
pub record Passing : Type 2 where
  pub own : Header
  pub inner : Header
  pub down : Way own.lifetimes inner.lifetimes
  pub passed : (κs : Lfts own.lifetimes) → Args (keeping own).signature κs → Args (keeping inner).signature (down.lifetimes κs)
  pub answer : (κs : Lfts own.lifetimes) → Res (keeping inner).signature (down.lifetimes κs) → Res (keeping own).signature κs
  pub left : (κs : Lfts own.lifetimes) (a : Args (keeping own).signature κs) → Res (keeping inner).signature (down.lifetimes κs)
      → Lasts (keeping inner) (down.lifetimes κs) (passed κs a) → Lasts (keeping own) κs a

fits : {n : ℕ} (κs : Lfts n) (ss : List (Slot n)) (ks : Kepts ss) (a : Denots (types_at ss κs)) (ws : Fins κs ss ks a) → fits_of κs ss ks (all_told ss ks) a ws
fits κs [] ks a ws = tt
fits κs (s ∷ ss) ks a ws = (tt, fits κs ss ks.1 a.1 ws.1)

module _ (P : Passing) where
  abbrev pub lent : Ended
  lent = keeping P.own

  abbrev pub callee : Ended
  callee = keeping P.inner

  abbrev stays : Stays lent.signature.params lent.kept
  stays = all_told lent.signature.params lent.kept

  module _ (κs : Lfts P.own.lifetimes) where
    abbrev below : Lfts P.inner.lifetimes
    below = P.down.lifetimes κs

    module _ (a : Args lent.signature κs) where
      abbrev given : Args callee.signature below
      given = P.passed κs a

      -- the machine values of the arguments and of what the callee is passed
      abbrev spelt : Vals lent.signature κs
      spelt = valss (types_at lent.signature.params κs) (spells P.own.params κs) a

      abbrev spelt_in : Vals callee.signature below
      spelt_in = valss (types_at callee.signature.params below) (spells P.inner.params below) given

      -- what is owned at entry, what each parameter of the callee owns, and what is said of each one's last value
      abbrev pub held : Fml
      held = owns (types_at lent.signature.params κs) a spelt

      abbrev pub parts_in : List Fml
      parts_in = parts (types_at callee.signature.params below) given spelt_in

      abbrev pub said_out : Lasts callee below given → List Fml
      said_out = said below callee.signature.params callee.kept given

  module _ {M : Type 1} {𝓤 : Ura M} (𝓛 : Logic 𝓤) (c : Clauses 𝓤 lent) (k : Clauses 𝓤 callee) where
    -- what is known of the callee
    open 𝓛 use {H}

    abbrev pub Known : Calls 𝓤 H → Callee → Type 1
    Known C n = Triple 𝓤 (C n) (Agreed 𝓛 callee k)

    module _ (κs : Lfts P.own.lifetimes) (a : Args lent.signature κs) where
      abbrev pub Ghost : Type 0
      Ghost = (k (below κs) (given κs a)).ghost

      -- all that the callee is called with
      abbrev pub sent : Shares P.own.lifetimes → Ghost → (Agreed 𝓛 callee k).Ghost
      sent qs g' = ((below κs, P.down.shares qs, tt, given κs a, spelt_in κs a), g')

      -- the callee asks for nothing
      abbrev pub Free : Ghost → Type 1
      Free g' = ent 𝓤 (emp 𝓤) ((k (below κs) (given κs a)).requires g')

      -- what the callee ensures gives what the function ensures
      abbrev promised : Ghost → Res callee.signature (below κs) → Lasts callee (below κs) (given κs a) → SProp 𝓤
      promised g' r ws = (k (below κs) (given κs a)).ensures g' r (at_exit callee (below κs) (given κs a) ws)

      abbrev owed : (c κs a).ghost → Res callee.signature (below κs) → Lasts callee (below κs) (given κs a) → SProp 𝓤
      owed g r ws = (c κs a).ensures g (P.answer κs r) (at_exit lent κs a (P.left κs a r ws))

      abbrev pub Enough : (c κs a).ghost → Ghost → Type 1
      Enough g g' = (r : Res callee.signature (below κs)) (ws : Lasts callee (below κs) (given κs a)) → ent 𝓤 (promised g' r ws) (owed g r ws)

    -- what a walk shows, and what it comes to
    abbrev pub Walks : (Callee → Fn) → Type 2
    Walks f =
        (κs : Lfts P.own.lifetimes) (qs : Shares P.own.lifetimes) (a : Args lent.signature κs) (g : (c κs a).ghost) (g' : Ghost κs a)
        (n : Callee) (C : Calls 𝓤 H) (Λ : Loops 𝓤 H) → FmC 𝓤 H 𝓛.laws C → Known C n → Free κs a g' → Enough κs a g g'
        → Walk 𝓛 lent c (spells P.own.params) C Λ (f n) κs qs tt a g

    abbrev pub Passes : (Callee → Fn) → Type 2
    Passes f =
        (n : Callee) (𝓣 : Tables 𝓤 H) → Known 𝓣.C n
        → (g' : (κs : Lfts P.own.lifetimes) (a : Args lent.signature κs) → Ghost κs a)
        → ((κs : Lfts P.own.lifetimes) (a : Args lent.signature κs) → Free κs a (g' κs a))
        → ((κs : Lfts P.own.lifetimes) (a : Args lent.signature κs) (g : (c κs a).ghost) → Enough κs a g (g' κs a))
        → Meets 𝓛 lent.signature (WpFn 𝓤 H 𝓣.C 𝓣.Λ (f n)) (closing 𝓛 lent c)

    pub passes : (f : Callee → Fn) → Walks f → Passes f
    passes f walk n 𝓣 known g' free enough =
        meets 𝓛 lent c (f n) 𝓣 (spells P.own.params) (tells P.own.params)
        (λ κs qs bounds a g are. walk κs qs a g (g' κs a) n 𝓣.C 𝓣.Λ (fm_of 𝓤 H 𝓛.laws 𝓣) known (free κs a) (enough κs a g) are)

    -- how a walk ends: what the callee ensures is turned into what the function ensures, beside what stands at exit
    pub ends : {K : Type 0} {Γ : List (Item 𝓤)} → K → (v : Val) (κs : Lfts P.own.lifetimes) (qs : Shares P.own.lifetimes)
        (a : Args lent.signature κs) (g : (c κs a).ghost) (g' : Ghost κs a) → Enough κs a g g'
        → (r : Res callee.signature (below κs)) (ws : Lasts callee (below κs) (given κs a))
        → Step K 𝓛 (raw (owed κs a g r ws) ∷ Γ)
        (prop (Ending 𝓛 lent stays c ((κs, qs, tt, a, spelt κs a), g) v (P.answer κs r) (P.left κs a r ws)))
        (raw (promised κs a g' r ws) ∷ Γ) (prop ((walk_of 𝓛 lent stays c).post ((κs, qs, tt, a, spelt κs a), g) v))
    ends t v κs qs a g g' enough r ws = step (λ s.
        suffices t _ (ends_at 𝓛 lent stays c ((κs, qs, tt, a, spelt κs a), g) v (P.answer κs r) (P.left κs a r ws)
        (fits κs lent.signature.params lent.kept a (P.left κs a r ws))) $
        use1 𝓛 (raw (owed κs a g r ws)) (enough r ws) $ s)
