-- A struct of plain data that is lent: the borrow is opened for one statement, and closed.
--     loads, reads     the struct is read into an empty local, from a `&mut` and from a `&`
--     stores           a field of a local is stored there.        stores-whole     a local is
--     stores-if        a field of a local is stored there if a test holds
use Rattle.std.specs.Prelude.{◌≡◌, refl, Bool, true, false, ℕ, suc, ◌+◌, List, [], ◌∷◌, T as Holds}
use Rattle.std.proofs.Common.{sym, subst}
use Rattle.std.proofs.Math.Option.{some}
use seplogic.Ra.Ura.{Ura}
use base.Fraction.{full_share}
use mir.Syntax.{Ty, place, deref, field, copy, rv_opd, Body, seq, assign, cond, skip}
use mir.Val.{Val, WT, has_ty, vptr, vbool}
use base.Fml.{Lft, Share, flft, fobs, fbor, fat, froom}
use prog.Memory.{field_of}
use prog.Wp.{Env, spot_of, Calls, Loops}
use types.Logic.{Logic}
use types.Kit.{Item, nth, put, ‵, ◌$◌, Seq, Step, step, Post, runs, move, drop}
use types.Run.{look, look_raw, store_raw, stop, hop, from, load, of_opd, assigns, assigns_last, first, branches, skips, exec}
use types.Part.{Part, look_in}
use types.SemTy.{Body as Held}
use denote.Laws.{Is, shows}
use denote.Memory.{mem, hidden_shr}
use denote.Ref.{Bor, MutBor}
use denote.Steps.{opens, closes, looks, shuts, owned, peeks}
use denote.Struct.Declared.{Declared, fields, row, shape}
use denote.Struct.Steps.{spelt}
use denote.Struct.Laws as LL
use denote.Struct.Struct.{Plains, layout}
use Rattle.session.specs.Choice.{chosen}
use Rattle.walks.specs.Walks.{copied, field-of, sets}

module _ {M : Type 1} {𝓤 : Ura M} {𝓛 : Logic 𝓤} {K : Type 0} {Γ : List (Item 𝓤)} {E : Env 𝓤 𝓛.H} {C : Calls 𝓤 𝓛.H}
    {Λ : Loops 𝓤 𝓛.H} {q : Post 𝓤 𝓛.H} {rest : Body} {κ : Lft} {s : Share} where
  open 𝓛 use {H}

  pub loads : K → (D : Declared) (L : LL.Laws D) (x : MutBor D.D) {i j : ℕ} (n m : ℕ)
      → nth 𝓛 n Γ ≡ ‵ (fat full_share (spot_of 𝓤 H E j).0 (spot_of 𝓤 H E j).1 0 (vptr x.ref_ptr.0 x.ref_ptr.1))
      → nth 𝓛 m Γ ≡ ‵ (froom (spot_of 𝓤 H E i).0 (spot_of 𝓤 H E i).1 0) → (spot_of 𝓤 H E i).0 ≡ layout (shape D)
      → (Is (row D) x.now (LL.vals D L x.now) → Seq K 𝓛 (‵ (fobs x.ghost_name ((row D).coded.code x.now))
      ∷ ‵ (fbor κ (Held (mem (row D)) x.ref_ptr.0 x.ref_ptr.1 x.ghost_name)) ∷ ‵ (flft κ s)
      ∷ put 𝓛 m (‵ (fat full_share (spot_of 𝓤 H E i).0 (spot_of 𝓤 H E i).1 0 (LL.val D L x.now))) Γ) (runs C Λ E rest q))
      → Seq K 𝓛 (‵ (fobs x.ghost_name ((row D).coded.code x.now))
      ∷ ‵ (fbor κ (Held (mem (row D)) x.ref_ptr.0 x.ref_ptr.1 x.ghost_name)) ∷ ‵ (flft κ s) ∷ Γ)
      (runs C Λ E (seq (assign (place i []) (rv_opd (copy (place j (deref (layout (shape D)) ∷ []))))) rest) q)
  loads t D L x {i} n m e e' τ k =
      opens t tt (row D) {h = x.now} x.ref_ptr.0 x.ref_ptr.1 (λ vs.
      spelt t (row D) (Is (row D)) (shows 𝓛 (row D)) (LL.vals D L) (LL.tells D L) full_share x.now vs x.ref_ptr.0 x.ref_ptr.1 $
      move t (1 ∷ []) $ peeks t (row D) (Is (row D)) (shows 𝓛 (row D)) x.now (LL.vals D L x.now) (λ was. move t (1 ∷ 0 ∷ []) $
      sets t (of_opd t (load t (from t (hop t (look t (suc (suc (suc (suc (suc n))))) e) (stop t))) (look_raw t 0 refl)))
      (suc (suc (suc (suc (suc m))))) e'
      (subst (λ (σ : Ty). Holds (has_ty σ (LL.val D L x.now)) × WT (LL.val D L x.now)) (sym τ)
      ((LL.lawful D L 𝓛).typed x.now (LL.vals D L x.now) was).0) $
      closes t tt (row D) x.now (LL.vals D L x.now) x.ref_ptr.0 x.ref_ptr.1 $ k was))

  pub stores : K → (D : Declared) (L : LL.Laws D) → Plains (fields D) → (x : MutBor D.D) (d : D.D) → Is (row D) d (LL.vals D L d)
      → {i j k δ : ℕ} {p : Share} {back : Val → Item 𝓤} (n m : ℕ)
      → nth 𝓛 n Γ ≡ ‵ (fat full_share (spot_of 𝓤 H E j).0 (spot_of 𝓤 H E j).1 0 (vptr x.ref_ptr.0 x.ref_ptr.1))
      → field_of (spot_of 𝓤 H E i).0 k ≡ some (layout (shape D), δ)
      → Part K 𝓛 (nth 𝓛 m Γ) p (layout (shape D)) (spot_of 𝓤 H E i).1 (0 + δ) (LL.val D L d) back
      → Step K 𝓛 (‵ (fobs x.ghost_name ((row D).coded.code d)) ∷ ‵ (fbor κ (Held (mem (row D)) x.ref_ptr.0 x.ref_ptr.1 x.ghost_name)) ∷ ‵ (flft κ s) ∷ Γ)
      (runs C Λ E rest q)
      (‵ (fobs x.ghost_name ((row D).coded.code x.now)) ∷ ‵ (fbor κ (Held (mem (row D)) x.ref_ptr.0 x.ref_ptr.1 x.ghost_name)) ∷ ‵ (flft κ s) ∷ Γ)
      (runs C Λ E (seq (assign (place j (deref (layout (shape D)) ∷ [])) (rv_opd (copy (place i (field k ∷ []))))) rest) q)
  stores t D L plain x d is n m e f r = step (λ next.
      opens t tt (row D) {h = x.now} x.ref_ptr.0 x.ref_ptr.1 (λ vs.
      spelt t (row D) (Is (row D)) (shows 𝓛 (row D)) (LL.vals D L) (LL.tells D L) full_share x.now vs x.ref_ptr.0 x.ref_ptr.1 $
      move t (1 ∷ []) $ drop t $
      assigns t (of_opd t (field-of t f (look_in t (suc (suc (suc (suc m)))) r))) (from t (hop t (look t (suc (suc (suc (suc n)))) e) (stop t)))
      (store_raw t 0 refl ((LL.lawful D L 𝓛).typed d (LL.vals D L d) is).0) $
      owned t (row D) (Is (row D)) (LL.makes D plain 𝓛) d (LL.vals D L d) is $ move t (1 ∷ 0 ∷ []) $
      closes t tt (row D) d (LL.vals D L d) x.ref_ptr.0 x.ref_ptr.1 $ next))

  pub stores-whole : K → (D : Declared) (L : LL.Laws D) → Plains (fields D) → (x : MutBor D.D) (d : D.D) → Is (row D) d (LL.vals D L d)
      → {i j : ℕ} (n m : ℕ)
      → nth 𝓛 n Γ ≡ ‵ (fat full_share (spot_of 𝓤 H E j).0 (spot_of 𝓤 H E j).1 0 (vptr x.ref_ptr.0 x.ref_ptr.1))
      → nth 𝓛 m Γ ≡ ‵ (fat full_share (spot_of 𝓤 H E i).0 (spot_of 𝓤 H E i).1 0 (LL.val D L d))
      → Step K 𝓛 (‵ (fobs x.ghost_name ((row D).coded.code d)) ∷ ‵ (fbor κ (Held (mem (row D)) x.ref_ptr.0 x.ref_ptr.1 x.ghost_name)) ∷ ‵ (flft κ s) ∷ Γ)
      (runs C Λ E rest q)
      (‵ (fobs x.ghost_name ((row D).coded.code x.now)) ∷ ‵ (fbor κ (Held (mem (row D)) x.ref_ptr.0 x.ref_ptr.1 x.ghost_name)) ∷ ‵ (flft κ s) ∷ Γ)
      (runs C Λ E (seq (assign (place j (deref (layout (shape D)) ∷ [])) (rv_opd (copy (place i [])))) rest) q)
  stores-whole t D L plain x d is n m e f = step (λ next.
      opens t tt (row D) {h = x.now} x.ref_ptr.0 x.ref_ptr.1 (λ vs.
      spelt t (row D) (Is (row D)) (shows 𝓛 (row D)) (LL.vals D L) (LL.tells D L) full_share x.now vs x.ref_ptr.0 x.ref_ptr.1 $
      move t (1 ∷ []) $ drop t $
      assigns t (of_opd t (copied t (suc (suc (suc (suc m)))) f)) (from t (hop t (look t (suc (suc (suc (suc n)))) e) (stop t)))
      (store_raw t 0 refl ((LL.lawful D L 𝓛).typed d (LL.vals D L d) is).0) $
      owned t (row D) (Is (row D)) (LL.makes D plain 𝓛) d (LL.vals D L d) is $ move t (1 ∷ 0 ∷ []) $
      closes t tt (row D) d (LL.vals D L d) x.ref_ptr.0 x.ref_ptr.1 $ next))

  pub stores-if : K → (D : Declared) (L : LL.Laws D) → Plains (fields D) → (x : MutBor D.D) (d : D.D) → Is (row D) d (LL.vals D L d)
      → (y : Bool) {i j k l δ : ℕ} {p : Share} {back : Val → Item 𝓤} (n m o : ℕ)
      → nth 𝓛 n Γ ≡ ‵ (fat full_share (spot_of 𝓤 H E j).0 (spot_of 𝓤 H E j).1 0 (vptr x.ref_ptr.0 x.ref_ptr.1))
      → field_of (spot_of 𝓤 H E i).0 k ≡ some (layout (shape D), δ)
      → Part K 𝓛 (nth 𝓛 m Γ) p (layout (shape D)) (spot_of 𝓤 H E i).1 (0 + δ) (LL.val D L d) back
      → nth 𝓛 o Γ ≡ ‵ (fat full_share (spot_of 𝓤 H E l).0 (spot_of 𝓤 H E l).1 0 (vbool y))
      → Step K 𝓛 (‵ (fobs x.ghost_name ((row D).coded.code (chosen y d x.now)))
      ∷ ‵ (fbor κ (Held (mem (row D)) x.ref_ptr.0 x.ref_ptr.1 x.ghost_name)) ∷ ‵ (flft κ s) ∷ Γ)
      (runs C Λ E rest q)
      (‵ (fobs x.ghost_name ((row D).coded.code x.now)) ∷ ‵ (fbor κ (Held (mem (row D)) x.ref_ptr.0 x.ref_ptr.1 x.ghost_name)) ∷ ‵ (flft κ s) ∷ Γ)
      (runs C Λ E (seq (cond (copy (place l [])) (assign (place j (deref (layout (shape D)) ∷ [])) (rv_opd (copy (place i (field k ∷ []))))) skip) rest) q)
  stores-if t D L plain x d is true n m o e f r b = step (λ next.
      first t $ branches t (copied t (suc (suc (suc o))) b) (λ _.
      opens t tt (row D) {h = x.now} x.ref_ptr.0 x.ref_ptr.1 (λ vs.
      spelt t (row D) (Is (row D)) (shows 𝓛 (row D)) (LL.vals D L) (LL.tells D L) full_share x.now vs x.ref_ptr.0 x.ref_ptr.1 $
      move t (1 ∷ []) $ drop t $
      assigns_last t (of_opd t (field-of t f (look_in t (suc (suc (suc (suc m)))) r))) (from t (hop t (look t (suc (suc (suc (suc n)))) e) (stop t)))
      (store_raw t 0 refl ((LL.lawful D L 𝓛).typed d (LL.vals D L d) is).0) $
      exec t C Λ E rest q $
      owned t (row D) (Is (row D)) (LL.makes D plain 𝓛) d (LL.vals D L d) is $ move t (1 ∷ 0 ∷ []) $
      closes t tt (row D) d (LL.vals D L d) x.ref_ptr.0 x.ref_ptr.1 $ next)) (λ z. absurd z))
  stores-if t D L plain x d is false n m o e f r b = step (λ next.
      first t $ branches t (copied t (suc (suc (suc o))) b) (λ z. absurd z) (λ _. skips t $ exec t C Λ E rest q $ next))

  pub reads : K → (D : Declared) (L : LL.Laws D) → LL.Copyables D.parts → (x : Bor D.D) {i j : ℕ} (n m : ℕ)
      → nth 𝓛 n Γ ≡ ‵ (fat full_share (spot_of 𝓤 H E j).0 (spot_of 𝓤 H E j).1 0 (vptr x.ref_ptr.0 x.ref_ptr.1))
      → nth 𝓛 m Γ ≡ ‵ (froom (spot_of 𝓤 H E i).0 (spot_of 𝓤 H E i).1 0) → (spot_of 𝓤 H E i).0 ≡ layout (shape D)
      → (Is (row D) x.now (LL.vals D L x.now) → Seq K 𝓛 (‵ (flft κ s) ∷ ‵ (hidden_shr (row D) κ x.now x.ref_ptr.0 x.ref_ptr.1)
      ∷ put 𝓛 m (‵ (fat full_share (spot_of 𝓤 H E i).0 (spot_of 𝓤 H E i).1 0 (LL.val D L x.now))) Γ) (runs C Λ E rest q))
      → Seq K 𝓛 (‵ (hidden_shr (row D) κ x.now x.ref_ptr.0 x.ref_ptr.1) ∷ ‵ (flft κ s) ∷ Γ)
      (runs C Λ E (seq (assign (place i []) (rv_opd (copy (place j (deref (layout (shape D)) ∷ []))))) rest) q)
  reads t D L cs x {i} n m e e' τ k =
      looks t tt (row D) (LL.copied D cs 𝓛).opens x.now x.ref_ptr.0 x.ref_ptr.1
      (λ r vs.
      spelt t (row D) (Is (row D)) (shows 𝓛 (row D)) (LL.vals D L) (LL.tells D L) r x.now vs x.ref_ptr.0 x.ref_ptr.1 $
      move t (1 ∷ []) $ peeks t (row D) (Is (row D)) (shows 𝓛 (row D)) x.now (LL.vals D L x.now) (λ was. move t (1 ∷ 0 ∷ []) $
      sets t (of_opd t (load t (from t (hop t (look t (suc (suc (suc (suc n)))) e) (stop t))) (look_raw t 0 refl)))
      (suc (suc (suc (suc m)))) e'
      (subst (λ (σ : Ty). Holds (has_ty σ (LL.val D L x.now)) × WT (LL.val D L x.now)) (sym τ)
      ((LL.lawful D L 𝓛).typed x.now (LL.vals D L x.now) was).0) $
      shuts t tt (row D) r x.now (LL.vals D L x.now) x.ref_ptr.0 x.ref_ptr.1 $ k was))
