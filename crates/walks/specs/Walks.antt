-- What all walks of this crate have in common.
--     told, all_told   at exit a parameter is had as what the contract says of it, so what a callee says of a last value is passed on as it is
--     Agreed           a contract, of its signature and clauses
--     Walk             what a walk shows: from the arguments' machine values, what the contract says of its exit
--     meets            a walk from the arguments' machine values meets the contract
--     called           a call: the result, the tokens, what is said of the last values, and what the callee ensures
--     landed           a call's result, a struct, lands in an empty local, with what is known of its fields
--     copied, field-of     a local is read, and a field of one.        sets     an empty local is given a value
--     freed            a local is freed, whatever it holds
--     handed           what stands at the exit of a call that is passed on, put together
use Rattle.std.specs.Prelude.{◌≡◌, refl, ℕ, suc, ◌+◌, List, [], ◌∷◌, T as Holds}
use Rattle.std.proofs.Common.{ap, sym, subst}
use Rattle.std.proofs.Math.Option.{some as some-field}
use seplogic.Ra.Ura.{Ura}
use base.Fraction.{full_share}
use mir.Syntax.{Callee, Place, place, field, Opd as Operand, copy, Rv as RValue, Body, seq, assign, call, Ty, Fn}
use mir.Val.{Val, WT, has_ty}
use base.Logic.{SProp, ent, sep, emp, via, fst∗, id⊢}
use base.Fml.{Share, Fml, fat, froom, fdies}
use prog.Memory.{field_of}
use prog.Wp.{Env, Spot, spot_of, Calls, Loops, WpFn, Tables}
use types.Logic.{Logic, sem}
use contract.Lifetimes.{Lfts, Shares, AllOutlive}
use types.Kit.{Item, mean, ⋆, nth, del, put, pull, push, ‵, raw, ◌⊛◌, some, later, ◌$◌, Goal, Seq, Step, step, Post, prop, runs, lands, frees, move, drop, use0, use1, split, join, pick, frame, await, done}
use types.Run.{Reads, Finds, Opd, Opds, Rv, look, init, stop, fld, from, load, land, assigns, forget, free1}
use sound.WpLaws.{FmC, WpFn-mono}
use denote.RattleType.{owns, flat}
use denote.Exit.{Kept, left}
use denote.Laws.{Is, Are, Ises, Spells, Tellss, Typed, valss, shows}
use denote.Signature.{Slot, type_at, types_at}
use denote.Steps.{only, peeks}
use denote.Struct.Declared.{Declared, fields, row, shape}
use denote.Struct.Laws as LL
use denote.Struct.Struct.{AreAll, layout}
use denote.Triple.Statement.{Contract, Triple}
use denote.Triple.Call.{calls_at}
use denote.Triple.Clauses.{Ended, Clauses, Lasts, at_exit, lasts, closing}
use denote.Triple.End.{Kepts}
use denote.Triple.Entry.{Args, Res, alive, on_entry}
use denote.Triple.Spec.{Meets, triple_of}
use denote.Triple.Walked.{Stay, Stays, AllGo, walk_of, walked, walk_Meets}

abbrev pub told : {n : ℕ} (s : Slot n) (k : Kept) → Stay s k
told s k = record { fit = λ κs x f. Unit {0}; has = λ κs x f vs. left ((s.row κs).exit k) x f }

abbrev pub all_told : {n : ℕ} (ss : List (Slot n)) (ks : Kepts ss) → Stays ss ks
all_told [] ks = tt
all_told (s ∷ ss) ks = (told s ks.0, all_told ss ks.1)

module _ {M : Type 1} {𝓤 : Ura M} (𝓛 : Logic 𝓤) (E : Ended) (c : Clauses 𝓤 E) where
  open 𝓛 use {H}

  abbrev pub Agreed : Contract 𝓤
  Agreed = triple_of 𝓛 E.signature (closing 𝓛 E c)

  abbrev pub Walk : ((κs : Lfts E.signature.lifetimes) → Spells (types_at E.signature.params κs)) → Calls 𝓤 H → Loops 𝓤 H → Fn
      → (κs : Lfts E.signature.lifetimes) → Shares E.signature.lifetimes → AllOutlive E.signature.lifetimes E.signature.outlives κs
      → (a : Args E.signature κs) → (c κs a).ghost → Type 1
  Walk sp C Λ f κs qs bounds a g =
      Are (types_at E.signature.params κs) (Ises (types_at E.signature.params κs)) a (valss (types_at E.signature.params κs) (sp κs) a)
      → ent 𝓤 (on_entry 𝓛 E.signature κs qs a (valss (types_at E.signature.params κs) (sp κs) a))
      (WpFn 𝓤 H C Λ f (flat (types_at E.signature.params κs) (valss (types_at E.signature.params κs) (sp κs) a))
      ((walk_of 𝓛 E (all_told E.signature.params E.kept) c).post
      ((κs, qs, bounds, a, valss (types_at E.signature.params κs) (sp κs) a), g)))

module _ {M : Type 1} {𝓤 : Ura M} (𝓛 : Logic 𝓤) where
  open 𝓛 use {H}

  goes : (n : ℕ) (ss : List (Slot n)) (ks : Kepts ss) → AllGo 𝓛 n ss ks (all_told ss ks)
  goes n [] ks = tt
  goes n (s ∷ ss) ks = ((λ κs x f vs fits. 𝓛.laws.⇛_intro _), goes n ss ks.1)

  module _ (E : Ended) (c : Clauses 𝓤 E) where
    abbrev stays : Stays E.signature.params E.kept
    stays = all_told E.signature.params E.kept

    pub meets : (f : Fn) (𝓣 : Tables 𝓤 H) (sp : (κs : Lfts E.signature.lifetimes) → Spells (types_at E.signature.params κs))
        → ((κs : Lfts E.signature.lifetimes) → Tellss (types_at E.signature.params κs) (Ises (types_at E.signature.params κs)) (sp κs))
        → ((κs : Lfts E.signature.lifetimes) (qs : Shares E.signature.lifetimes)
        (bounds : AllOutlive E.signature.lifetimes E.signature.outlives κs) (a : Args E.signature κs) (g : (c κs a).ghost)
        → Walk 𝓛 E c sp 𝓣.C 𝓣.Λ f κs qs bounds a g)
        → Meets 𝓛 E.signature (WpFn 𝓤 H 𝓣.C 𝓣.Λ f) (closing 𝓛 E c)
    meets f 𝓣 sp tl k =
        walk_Meets 𝓛 E stays (goes E.signature.lifetimes E.signature.params E.kept) c (WpFn 𝓤 H 𝓣.C 𝓣.Λ f)
        (WpFn-mono 𝓤 H 𝓛.laws 𝓣 f)
        (walked 𝓛 E stays c (WpFn 𝓤 H 𝓣.C 𝓣.Λ f) sp tl (λ κs qs bounds a g are. via 𝓤 _ (fst∗ 𝓤 _ ((c κs a).requires g))
        (k κs qs bounds a g are)))

module _ {M : Type 1} {𝓤 : Ura M} {𝓛 : Logic 𝓤} {K : Type 0} where
  -- an item is put first
  open 𝓛 use {H}

  drawn : K → {Γ : List (Item 𝓤)} (n : ℕ) {i : Item 𝓤} {G : Goal 𝓤 H} → nth 𝓛 n Γ ≡ i → Step K 𝓛 (i ∷ del 𝓛 n Γ) G Γ G
  drawn t {Γ} n {i} e = step (λ s. record {
    prf = via 𝓤 (sep 𝓤 (mean 𝓛 i) (⋆ 𝓛 (del 𝓛 n Γ)))
        (subst (λ (j : Item 𝓤). ent 𝓤 (⋆ 𝓛 Γ) (sep 𝓤 (mean 𝓛 j) (⋆ 𝓛 (del 𝓛 n Γ)))) e (pull 𝓛 n Γ))
        (via 𝓤 (⋆ 𝓛 (i ∷ del 𝓛 n Γ)) (push 𝓛 i (del 𝓛 n Γ)) s.prf);
  })

module _ {M : Type 1} {𝓤 : Ura M} {𝓛 : Logic 𝓤} {K : Type 0} {Γ : List (Item 𝓤)} where
  -- what whoever owns a struct's value knows: its type, its spelling, and each field's relation
  open 𝓛 use {H}

  learnt : K → {G : Goal 𝓤 H} (D : Declared) (L : LL.Laws D) (r : D.D) (v : Val)
      → (Typed (row D).mir (v ∷ []) → v ≡ LL.val D L r → AreAll (fields D) (D.to r) (valss (fields D) (LL.spells D.parts L) (D.to r))
      → Seq K 𝓛 (‵ ((row D).own_val r (v ∷ [])) ∷ Γ) G)
      → Seq K 𝓛 (‵ ((row D).own_val r (v ∷ [])) ∷ Γ) G
  learnt t D L r v k =
      peeks t (row D) (Is (row D)) (shows 𝓛 (row D)) r (v ∷ []) (λ is. k ((LL.lawful D L 𝓛).typed r (v ∷ []) is)
      (ap only (LL.tells D L r (v ∷ []) is)) (LL.owed D L r (v ∷ []) is))

  module _ {E : Env 𝓤 H} where
    pub called : K → {C : Calls 𝓤 H} → FmC 𝓤 H 𝓛.laws C → {Λ : Loops 𝓤 H} {q : Post 𝓤 H} {f : Callee} {xs : List Operand} {d : Place} {rest : Body}
        (D : Ended) (c : Clauses 𝓤 D) → Triple 𝓤 (C f) (triple_of 𝓛 D.signature (closing 𝓛 D c))
        → (y : (triple_of 𝓛 D.signature (closing 𝓛 D c)).Ghost)
        → ent 𝓤 (emp 𝓤) ((c y.0.0 y.0.3).requires y.1)
        → Opds K 𝓛 (raw ((triple_of 𝓛 D.signature (closing 𝓛 D c)).pre y) ∷ Γ) E xs
        ((triple_of 𝓛 D.signature (closing 𝓛 D c)).args y)
        → ((v : Val) (r : Res D.signature y.0.0) (ws : Lasts D y.0.0 y.0.3)
        → Seq K 𝓛 (‵ ((type_at D.signature.result y.0.0).own_val r (v ∷ [])) ∷ raw (alive 𝓛 D.signature y.0.0 y.0.1)
        ∷ ‵ (lasts D y.0.0 y.0.3 ws)
        ∷ raw ((c y.0.0 y.0.3).ensures y.1 r (at_exit D y.0.0 y.0.3 ws)) ∷ Γ) (lands C Λ E d v rest q))
        → Seq K 𝓛 (‵ (owns (types_at D.signature.params y.0.0) y.0.3 y.0.4)
        ∷ raw (alive 𝓛 D.signature y.0.0 y.0.1) ∷ Γ) (runs C Λ E (seq (call f xs d) rest) q)
    called t fm D c met y free os k =
        use0 𝓛 (raw ((c y.0.0 y.0.3).requires y.1)) free $ move t (2 ∷ 1 ∷ 0 ∷ []) $ join t $ join t $
        use1 𝓛 (raw ((triple_of 𝓛 D.signature (closing 𝓛 D c)).pre y)) (id⊢ 𝓤 _) $
        calls_at t fm (triple_of 𝓛 D.signature (closing 𝓛 D c)) met y os (λ v.
        use1 𝓛 (later (some (λ (r : Res D.signature y.0.0). (raw (alive 𝓛 D.signature y.0.0 y.0.1)
        ⊛ ‵ ((type_at D.signature.result y.0.0).own_val r (v ∷ [])))
        ⊛ some (λ (ws : Lasts D y.0.0 y.0.3). ‵ (lasts D y.0.0 y.0.3 ws)
        ⊛ raw ((c y.0.0 y.0.3).ensures y.1 r (at_exit D y.0.0 y.0.3 ws)))))) (id⊢ 𝓤 _) $ await t tt $
        pick t (λ r. split t $ move t (1 ∷ []) $ pick t (λ ws. split t $ move t (2 ∷ []) $ split t $ move t (1 ∷ 0 ∷ []) $ k v r ws)))

    pub landed : K → {C : Calls 𝓤 H} {Λ : Loops 𝓤 H} {q : Post 𝓤 H} {i : ℕ} {rest : Body} (D : Declared) (L : LL.Laws D) (r : D.D) (v : Val)
        (b n : ℕ) → nth 𝓛 n Γ ≡ ‵ (froom (layout (shape D)) b 0) → spot_of 𝓤 H E i ≡ (layout (shape D), b, 0)
        → (AreAll (fields D) (D.to r) (valss (fields D) (LL.spells D.parts L) (D.to r))
        → Seq K 𝓛 (put 𝓛 n (‵ (fat full_share (layout (shape D)) b 0 (LL.val D L r))) Γ) (runs C Λ E rest q))
        → Seq K 𝓛 (‵ ((row D).own_val r (v ∷ [])) ∷ Γ) (lands C Λ E (place i []) v rest q)
    landed t {C} {Λ} {q} {i} {rest} D L r v b n e at k =
        learnt t D L r v (λ typed spelled made.
        subst (λ (w : Val). Seq K 𝓛 (‵ ((row D).own_val r (w ∷ [])) ∷ Γ) (lands C Λ E (place i []) w rest q)) (sym spelled)
        (land t (subst (λ (sp : Spot 𝓤 H). Finds K 𝓛 (‵ ((row D).own_val r (LL.val D L r ∷ [])) ∷ Γ) E (place i []) sp) at (from t (stop t)))
        (init t (suc n) e (subst (λ (w : Val). Typed (row D).mir (w ∷ [])) spelled typed).0) $ drop t $ k made))

    -- a local is read, and a field of one
    pub copied : K → {i : ℕ} (n : ℕ) {q : Share} {v : Val} → nth 𝓛 n Γ ≡ ‵ (fat q (spot_of 𝓤 H E i).0 (spot_of 𝓤 H E i).1 0 v)
        → Opd K 𝓛 Γ E (copy (place i [])) v
    copied t n e = load t (from t (stop t)) (look t n e)

    pub field-of : K → {i k : ℕ} {τ : Ty} {d : ℕ} {v : Val} → field_of (spot_of 𝓤 H E i).0 k ≡ some-field (τ, d)
        → Reads K 𝓛 Γ τ (spot_of 𝓤 H E i).1 (0 + d) v
        → Opd K 𝓛 Γ E (copy (place i (field k ∷ []))) v
    field-of t e r = load t (from t (fld t e (stop t))) r

    -- an empty local is given a value
    pub sets : K → {C : Calls 𝓤 H} {Λ : Loops 𝓤 H} {q : Post 𝓤 H} {i : ℕ} {rv : RValue} {rest : Body} {v : Val} → Rv K 𝓛 Γ E rv v
        → (n : ℕ) → nth 𝓛 n Γ ≡ ‵ (froom (spot_of 𝓤 H E i).0 (spot_of 𝓤 H E i).1 0) → Holds (has_ty (spot_of 𝓤 H E i).0 v) × WT v
        → Step K 𝓛 (put 𝓛 n (‵ (fat full_share (spot_of 𝓤 H E i).0 (spot_of 𝓤 H E i).1 0 v)) Γ) (runs C Λ E rest q) Γ
        (runs C Λ E (seq (assign (place i []) rv) rest) q)
    sets t r n e wt = assigns t r (from t (stop t)) (init t n e wt)

    pub freed : K → (n : ℕ) {τ : Ty} {b : ℕ} {v : Val} {G : Goal 𝓤 H} → nth 𝓛 (suc n) Γ ≡ ‵ (fdies τ b)
        → nth 𝓛 n (del 𝓛 (suc n) Γ) ≡ ‵ (fat full_share τ b 0 v)
        → Step K 𝓛 (del 𝓛 n (del 𝓛 (suc n) Γ)) (frees E G) Γ (frees ((τ, b) ∷ E) G)
    freed t n e e' = step (λ s. drawn t (suc n) e $ drawn t (suc n) e' $ forget t 0 refl $ free1 t $ s)

module _ {M : Type 1} {𝓤 : Ura M} {𝓛 : Logic 𝓤} {K : Type 0} where
  pub handed : K → {P R : Fml} {X Y : SProp 𝓤} → Seq K 𝓛 (‵ R ∷ raw X ∷ ‵ P ∷ raw Y ∷ [])
      (prop (sep 𝓤 (sep 𝓤 X (sep 𝓤 (sem 𝓛 P) (sem 𝓛 R))) Y))
  handed t = move t (2 ∷ 0 ∷ []) $ join t $ move t (1 ∷ 0 ∷ []) $ join t $ frame t $ done t
