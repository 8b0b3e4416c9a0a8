-- What the walks have in common: the first parameter is a lent struct, the words stand behind it, and in the functions for C the last
-- parameter is a lent struct too.
--     firsts, shares, last, last-share     a signature's lifetimes and shares but for the last, and the last
--     beside           formulas in a row, and one more
--     parts, said      what each parameter owns, and what is said of each one's last value.        words_of  but for the first's
--     apart, apart-shared     what stands at entry, taken apart, where the first struct is lent by `&mut` and by `&`
--     given_back, given-back-shared     what stands at exit, put together. A struct that was lent by `&mut` is handed back as its last value
--                      and its closed borrow
--     …-alone          where there is no last struct.        …-last     where there is no first one
use Rattle.std.specs.Prelude.{refl, ℕ, zero, suc, List, [], ◌∷◌}
use seplogic.Ra.Ura.{Ura}
use mir.Syntax.{Lifetime, named}
use mir.Val.{Val, vunit}
use base.Logic.{SProp, ent, sep, emp, via, assoc∗, assoc', comm∗, mono_r}
use base.Stored.{Gv}
use base.Fml.{GName, Lft, Share, Fml, ftrue, fsep, feq, flft, fobs, fres, fbor}
use types.Logic.{Logic, sem}
use contract.Lifetimes.{Lfts, Shares, toks}
use types.Kit.{Item, ‵, raw, ◌⊛◌, ◌$◌, Goal, Seq, Step, step, prop, move, drop, use1, use2, split, join, fsplit, fsplit3, fjoin, feq_i, frame, done}
use types.SemTy.{Body}
use denote.Steps.{nothing}
use denote.RattleType.{RattleType, Denots, Valss}
use denote.Exit.{left}
use denote.Signature.{Slot, types_at}
use denote.Triple.End.{Kepts, Fins}
use denote.Memory.{mem, hidden_shr}
use denote.Ref.{Bor, MutBor, MutRef, ShrRef, shr_vals, mut_vals}

abbrev pub firsts : (n : ℕ) → Lfts (suc n) → Lfts n
firsts zero κs = tt
firsts (suc n) κs = (κs.0, firsts n κs.1)

abbrev pub shares : (n : ℕ) → Shares (suc n) → Shares n
shares zero qs = tt
shares (suc n) qs = (qs.0, shares n qs.1)

abbrev pub last : (n : ℕ) → Lfts (suc n) → Lft
last zero κs = κs.0
last (suc n) κs = last n κs.1

abbrev pub last_share : (n : ℕ) → Shares (suc n) → Share
last_share zero qs = qs.0
last_share (suc n) qs = last_share n qs.1

abbrev pub beside : List Fml → Fml → Fml
beside [] Q = Q
beside (P ∷ Ps) Q = fsep P (beside Ps Q)

abbrev pub words_of : List Fml → List Fml
words_of [] = []
words_of (P ∷ Ps) = Ps

abbrev pub parts : (Ts : List RattleType) → Denots Ts → Valss Ts → List Fml
parts [] a vss = []
parts (T ∷ Ts) a vss = T.own_val a.0 vss.0 ∷ parts Ts a.1 vss.1

abbrev pub said : {n : ℕ} (κs : Lfts n) (ss : List (Slot n)) (ks : Kepts ss) (a : Denots (types_at ss κs)) → Fins κs ss ks a → List Fml
said κs [] ks a ws = []
said κs (s ∷ ss) ks a ws = left ((s.row κs).exit ks.0) a.0 ws.0 ∷ said κs ss ks.1 a.1 ws.1

module _ {M : Type 1} {𝓤 : Ura M} (𝓛 : Logic 𝓤) where
  open 𝓛 use {A}

  abbrev tokens : (n : ℕ) → Lfts (suc n) → Shares (suc n) → SProp 𝓤
  tokens n κs qs = toks 𝓛 n (firsts n κs) (shares n qs)

  abbrev token : (n : ℕ) → Lfts (suc n) → Shares (suc n) → SProp 𝓤
  token n κs qs = A.lft (last n κs) (last_share n qs)

  last-token : (n : ℕ) (κs : Lfts (suc n)) (qs : Shares (suc n)) → ent 𝓤 (toks 𝓛 (suc n) κs qs) (sep 𝓤 (tokens n κs qs) (token n κs qs))
  last-token zero κs qs = comm∗ 𝓤 (A.lft κs.0 qs.0) (emp 𝓤)
  last-token (suc n) κs qs =
      via 𝓤 (sep 𝓤 (A.lft κs.0 qs.0) (sep 𝓤 (tokens n κs.1 qs.1) (token n κs.1 qs.1)))
      (mono_r 𝓤 (A.lft κs.0 qs.0) (last-token n κs.1 qs.1))
      (assoc' 𝓤 (A.lft κs.0 qs.0) (tokens n κs.1 qs.1) (token n κs.1 qs.1))

  token-last : (n : ℕ) (κs : Lfts (suc n)) (qs : Shares (suc n)) → ent 𝓤 (sep 𝓤 (tokens n κs qs) (token n κs qs)) (toks 𝓛 (suc n) κs qs)
  token-last zero κs qs = comm∗ 𝓤 (emp 𝓤) (A.lft κs.0 qs.0)
  token-last (suc n) κs qs =
      via 𝓤 (sep 𝓤 (A.lft κs.0 qs.0) (sep 𝓤 (tokens n κs.1 qs.1) (token n κs.1 qs.1)))
      (assoc∗ 𝓤 (A.lft κs.0 qs.0) (tokens n κs.1 qs.1) (token n κs.1 qs.1))
      (mono_r 𝓤 (A.lft κs.0 qs.0) (token-last n κs.1 qs.1))

  abbrev ⟦◌⟧ : Fml → SProp 𝓤
  ⟦ P ⟧ = sem 𝓛 P

  last_out : (Ps : List Fml) (Q : Fml) → ent 𝓤 ⟦ beside Ps (fsep Q ftrue) ⟧ (sep 𝓤 ⟦ beside Ps ftrue ⟧ ⟦ Q ⟧)
  last_out [] Q = comm∗ 𝓤 ⟦ Q ⟧ ⟦ ftrue ⟧
  last_out (P ∷ Ps) Q =
      via 𝓤 (sep 𝓤 ⟦ P ⟧ (sep 𝓤 ⟦ beside Ps ftrue ⟧ ⟦ Q ⟧)) (mono_r 𝓤 ⟦ P ⟧ (last_out Ps Q)) (assoc' 𝓤 ⟦ P ⟧ ⟦ beside Ps ftrue ⟧ ⟦ Q ⟧)

  last-in : (Ps : List Fml) (Q : Fml) → ent 𝓤 (sep 𝓤 ⟦ beside Ps ftrue ⟧ ⟦ Q ⟧) ⟦ beside Ps (fsep Q ftrue) ⟧
  last-in [] Q = comm∗ 𝓤 ⟦ ftrue ⟧ ⟦ Q ⟧
  last-in (P ∷ Ps) Q =
      via 𝓤 (sep 𝓤 ⟦ P ⟧ (sep 𝓤 ⟦ beside Ps ftrue ⟧ ⟦ Q ⟧)) (assoc∗ 𝓤 ⟦ P ⟧ ⟦ beside Ps ftrue ⟧ ⟦ Q ⟧) (mono_r 𝓤 ⟦ P ⟧ (last-in Ps Q))

module _ {M : Type 1} {𝓤 : Ura M} {𝓛 : Logic 𝓤} {K : Type 0} where
  open 𝓛 use {H, A}

  pub apart-last : K → {Γ : List (Item 𝓤)} {G : Goal 𝓤 H} (R' : RattleType) (ℓ : Lifetime)
      (n : ℕ) (κs : Lfts (suc n)) (qs : Shares (suc n)) (Ps : List Fml) (y : MutBor R'.Denot)
      → Step K 𝓛 (‵ (beside Ps ftrue) ∷ raw (toks 𝓛 n (firsts n κs) (shares n qs)) ∷ ‵ (fobs y.ghost_name (R'.coded.code y.now))
      ∷ ‵ (fbor (last n κs) (Body (mem R') y.ref_ptr.0 y.ref_ptr.1 y.ghost_name)) ∷ ‵ (flft (last n κs) (last_share n qs)) ∷ Γ) G
      (raw (toks 𝓛 (suc n) κs qs) ∷ ‵ (beside Ps (fsep ((MutRef ℓ (last n κs) R').own_val y (mut_vals y)) ftrue)) ∷ Γ) G
  apart-last t R' ℓ n κs qs Ps y = step (λ s.
      use1 𝓛 (raw (toks 𝓛 n (firsts n κs) (shares n qs)) ⊛ ‵ (flft (last n κs) (last_share n qs))) (last-token 𝓛 n κs qs) $
      split t $ move t (2 ∷ []) $
      use1 𝓛 (‵ (beside Ps ftrue) ⊛ ‵ ((MutRef ℓ (last n κs) R').own_val y (mut_vals y))) (last_out 𝓛 Ps ((MutRef ℓ (last n κs) R').own_val y (mut_vals y))) $
      split t $ move t (1 ∷ []) $ fsplit3 t $ drop t $ move t (2 ∷ 3 ∷ 0 ∷ 1 ∷ []) $ s)

  -- the last struct's part, put behind the words'
  behind : K → {Γ : List (Item 𝓤)} {G : Goal 𝓤 H} {γ' : GName} {v' : Gv} {P' : Fml} (n : ℕ) (κs : Lfts (suc n)) (qs : Shares (suc n)) (Ps : List Fml)
      → Step K 𝓛 (‵ (beside Ps (fsep (fsep (fres γ' v') P') ftrue)) ∷ raw (toks 𝓛 (suc n) κs qs) ∷ Γ) G
      (‵ (fobs γ' v') ∷ ‵ P' ∷ ‵ (flft (last n κs) (last_share n qs)) ∷ raw (toks 𝓛 n (firsts n κs) (shares n qs)) ∷ ‵ (beside Ps ftrue) ∷ Γ) G
  behind t {γ' = γ'} {v' = v'} {P' = P'} n κs qs Ps = step (λ s.
      use1 𝓛 (‵ (fres γ' v')) (𝓛.names.obs-res γ' v') $ fjoin t $ move t (3 ∷ 0 ∷ []) $
      use2 𝓛 (‵ (beside Ps (fsep (fsep (fres γ' v') P') ftrue))) (last-in 𝓛 Ps (fsep (fres γ' v') P')) $ move t (2 ∷ 1 ∷ []) $
      use2 𝓛 (raw (toks 𝓛 (suc n) κs qs)) (token-last 𝓛 n κs qs) $ move t (1 ∷ []) $ s)

  pub given-back-last : K → {γ' : GName} {v' : Gv} {P' : Fml} {Y : SProp 𝓤}
      (n : ℕ) (κs : Lfts (suc n)) (qs : Shares (suc n)) (Ps : List Fml)
      → Seq K 𝓛 (‵ (fobs γ' v') ∷ ‵ P' ∷ ‵ (flft (last n κs) (last_share n qs)) ∷ raw (toks 𝓛 n (firsts n κs) (shares n qs)) ∷ ‵ (beside Ps ftrue)
      ∷ raw Y ∷ [])
      (prop (sep 𝓤 (sep 𝓤 (toks 𝓛 (suc n) κs qs)
      (sep 𝓤 (sem 𝓛 (beside Ps (fsep (fsep (fres γ' v') P') ftrue))) (sem 𝓛 (feq (List Val) (vunit ∷ []) (vunit ∷ []))))) Y))
  given-back-last t n κs qs Ps =
      behind t n κs qs Ps $ feq_i t (List Val) (vunit ∷ []) (vunit ∷ []) refl $ move t (1 ∷ 0 ∷ []) $ join t $
      move t (1 ∷ 0 ∷ []) $ join t $ frame t $ done t

  pub apart : K → {Γ : List (Item 𝓤)} {G : Goal 𝓤 H} {κ : Lft} {q : Share} (R R' : RattleType) (ℓ : Lifetime)
      (n : ℕ) (κs : Lfts (suc n)) (qs : Shares (suc n)) (Ps : List Fml) (x : MutBor R.Denot) (y : MutBor R'.Denot)
      → Step K 𝓛 (‵ (fobs x.ghost_name (R.coded.code x.now)) ∷ ‵ (fbor κ (Body (mem R) x.ref_ptr.0 x.ref_ptr.1 x.ghost_name)) ∷ ‵ (flft κ q)
      ∷ ‵ (beside Ps ftrue) ∷ raw (toks 𝓛 n (firsts n κs) (shares n qs)) ∷ ‵ (fobs y.ghost_name (R'.coded.code y.now))
      ∷ ‵ (fbor (last n κs) (Body (mem R') y.ref_ptr.0 y.ref_ptr.1 y.ghost_name)) ∷ ‵ (flft (last n κs) (last_share n qs)) ∷ Γ) G
      ((‵ (flft κ q) ⊛ raw (toks 𝓛 (suc n) κs qs))
      ∷ ‵ (fsep ((MutRef (named 0) κ R).own_val x (mut_vals x)) (beside Ps (fsep ((MutRef ℓ (last n κs) R').own_val y (mut_vals y)) ftrue))) ∷ Γ) G
  apart t R R' ℓ n κs qs Ps x y = step (λ s.
      split t $ move t (2 ∷ []) $ fsplit t $ fsplit3 t $ drop t $ move t (4 ∷ 2 ∷ []) $ apart-last t R' ℓ n κs qs Ps y $ move t (5 ∷ 6 ∷ 7 ∷ []) $ s)

  pub given_back : K → {κ : Lft} {q : Share} {γ γ' : GName} {v v' : Gv} {P P' Q : Fml} {Y : SProp 𝓤}
      (n : ℕ) (κs : Lfts (suc n)) (qs : Shares (suc n)) (Ps : List Fml)
      → Seq K 𝓛 (‵ (fobs γ v) ∷ ‵ P ∷ ‵ (flft κ q) ∷ ‵ (fobs γ' v') ∷ ‵ P' ∷ ‵ (flft (last n κs) (last_share n qs))
      ∷ raw (toks 𝓛 n (firsts n κs) (shares n qs)) ∷ ‵ (fsep Q (beside Ps ftrue)) ∷ raw Y ∷ [])
      (prop (sep 𝓤 (sep 𝓤 (sep 𝓤 (A.lft κ q) (toks 𝓛 (suc n) κs qs))
      (sep 𝓤 (sem 𝓛 (fsep (fsep (fres γ v) P) (beside Ps (fsep (fsep (fres γ' v') P') ftrue)))) (sem 𝓛 (feq (List Val) (vunit ∷ []) (vunit ∷ []))))) Y))
  given_back t {γ = γ} {v = v} n κs qs Ps =
      use1 𝓛 (‵ (fres γ v)) (𝓛.names.obs-res γ v) $ fjoin t $ move t (6 ∷ []) $ fsplit t $ drop t $ move t (3 ∷ 4 ∷ 5 ∷ 6 ∷ 0 ∷ []) $ behind t n κs qs Ps $
      move t (2 ∷ 0 ∷ []) $ fjoin t $ feq_i t (List Val) (vunit ∷ []) (vunit ∷ []) refl $ move t (1 ∷ 0 ∷ []) $ join t $
      move t (2 ∷ 1 ∷ []) $ join t $ join t $ frame t $ done t

  pub apart-shared : K → {Γ : List (Item 𝓤)} {G : Goal 𝓤 H} {κ : Lft} {q : Share} (R R' : RattleType) (ℓ : Lifetime)
      (n : ℕ) (κs : Lfts (suc n)) (qs : Shares (suc n)) (Ps : List Fml) (x : Bor R.Denot) (y : MutBor R'.Denot)
      → Step K 𝓛 (‵ (hidden_shr R κ x.now x.ref_ptr.0 x.ref_ptr.1) ∷ ‵ (flft κ q)
      ∷ ‵ (beside Ps ftrue) ∷ raw (toks 𝓛 n (firsts n κs) (shares n qs)) ∷ ‵ (fobs y.ghost_name (R'.coded.code y.now))
      ∷ ‵ (fbor (last n κs) (Body (mem R') y.ref_ptr.0 y.ref_ptr.1 y.ghost_name)) ∷ ‵ (flft (last n κs) (last_share n qs)) ∷ Γ) G
      ((‵ (flft κ q) ⊛ raw (toks 𝓛 (suc n) κs qs))
      ∷ ‵ (fsep ((ShrRef (named 0) κ R).own_val x (shr_vals x)) (beside Ps (fsep ((MutRef ℓ (last n κs) R').own_val y (mut_vals y)) ftrue))) ∷ Γ) G
  apart-shared t R R' ℓ n κs qs Ps x y = step (λ s.
      split t $ move t (2 ∷ []) $ fsplit t $ fsplit t $ drop t $ move t (3 ∷ 1 ∷ []) $ apart-last t R' ℓ n κs qs Ps y $ move t (5 ∷ 6 ∷ []) $ s)

  pub given-back-shared : K → {κ : Lft} {q : Share} {γ' : GName} {v' : Gv} {P P' Q : Fml} {Y : SProp 𝓤}
      (n : ℕ) (κs : Lfts (suc n)) (qs : Shares (suc n)) (Ps : List Fml)
      → Seq K 𝓛 (‵ (flft κ q) ∷ ‵ P ∷ ‵ (fobs γ' v') ∷ ‵ P' ∷ ‵ (flft (last n κs) (last_share n qs))
      ∷ raw (toks 𝓛 n (firsts n κs) (shares n qs)) ∷ ‵ (fsep Q (beside Ps ftrue)) ∷ raw Y ∷ [])
      (prop (sep 𝓤 (sep 𝓤 (sep 𝓤 (A.lft κ q) (toks 𝓛 (suc n) κs qs))
      (sep 𝓤 (sem 𝓛 (fsep ftrue (beside Ps (fsep (fsep (fres γ' v') P') ftrue)))) (sem 𝓛 (feq (List Val) (vunit ∷ []) (vunit ∷ []))))) Y))
  given-back-shared t n κs qs Ps =
      move t (6 ∷ []) $ fsplit t $ drop t $ move t (3 ∷ 4 ∷ 5 ∷ 6 ∷ 0 ∷ []) $ behind t n κs qs Ps $
      nothing t $ fjoin t $ feq_i t (List Val) (vunit ∷ []) (vunit ∷ []) refl $ move t (1 ∷ 0 ∷ []) $ join t $
      move t (2 ∷ 1 ∷ []) $ join t $ join t $ frame t $ drop t $ done t

  pub apart-alone : K → {Γ : List (Item 𝓤)} {G : Goal 𝓤 H} {κ : Lft} {q : Share} (R : RattleType) (x : MutBor R.Denot) {P : Fml} {i : Item 𝓤}
      → Step K 𝓛 (‵ (fobs x.ghost_name (R.coded.code x.now)) ∷ ‵ (fbor κ (Body (mem R) x.ref_ptr.0 x.ref_ptr.1 x.ghost_name)) ∷ ‵ (flft κ q)
      ∷ ‵ P ∷ i ∷ Γ) G
      ((‵ (flft κ q) ⊛ i) ∷ ‵ (fsep ((MutRef (named 0) κ R).own_val x (mut_vals x)) P) ∷ Γ) G
  apart-alone t R x = step (λ s. split t $ move t (2 ∷ []) $ fsplit t $ fsplit3 t $ drop t $ move t (0 ∷ 1 ∷ 3 ∷ []) $ s)

  pub given-back-alone : K → {κ : Lft} {q : Share} {γ : GName} {v : Gv} {P Q Q₀ R : Fml} {X Y : SProp 𝓤}
      → Seq K 𝓛 (‵ R ∷ ‵ (fobs γ v) ∷ ‵ P ∷ ‵ (flft κ q) ∷ raw X ∷ ‵ (fsep Q₀ Q) ∷ raw Y ∷ [])
      (prop (sep 𝓤 (sep 𝓤 (sep 𝓤 (A.lft κ q) X) (sep 𝓤 (sem 𝓛 (fsep (fsep (fres γ v) P) Q)) (sem 𝓛 R))) Y))
  given-back-alone t {κ} {q} {γ} {v} =
      move t (1 ∷ 2 ∷ []) $ use1 𝓛 (‵ (fres γ v)) (𝓛.names.obs-res γ v) $ fjoin t $ move t (4 ∷ []) $ fsplit t $ drop t $ move t (1 ∷ 0 ∷ []) $ fjoin t $ join t $
      move t (1 ∷ 2 ∷ []) $ join t $ join t $ frame t $ done t

  pub apart-shared-alone : K → {Γ : List (Item 𝓤)} {G : Goal 𝓤 H} {κ : Lft} {q : Share} (R : RattleType) (x : Bor R.Denot) {P : Fml} {i : Item 𝓤}
      → Step K 𝓛 (‵ (hidden_shr R κ x.now x.ref_ptr.0 x.ref_ptr.1) ∷ ‵ (flft κ q) ∷ ‵ P ∷ i ∷ Γ) G
      ((‵ (flft κ q) ⊛ i) ∷ ‵ (fsep ((ShrRef (named 0) κ R).own_val x (shr_vals x)) P) ∷ Γ) G
  apart-shared-alone t R x = step (λ s. split t $ move t (2 ∷ []) $ fsplit t $ fsplit t $ drop t $ move t (0 ∷ 2 ∷ []) $ s)

  pub given-back-shared-alone : K → {κ : Lft} {q : Share} {P Q Q₀ R : Fml} {X Y : SProp 𝓤}
      → Seq K 𝓛 (‵ R ∷ ‵ (flft κ q) ∷ ‵ P ∷ raw X ∷ ‵ (fsep Q₀ Q) ∷ raw Y ∷ [])
      (prop (sep 𝓤 (sep 𝓤 (sep 𝓤 (A.lft κ q) X) (sep 𝓤 (sem 𝓛 (fsep ftrue Q)) (sem 𝓛 R))) Y))
  given-back-shared-alone t =
      move t (4 ∷ []) $ fsplit t $ drop t $ nothing t $ fjoin t $ move t (0 ∷ 1 ∷ []) $ join t $ move t (1 ∷ 3 ∷ []) $ join t $ join t $ frame t $
      drop t $ done t
