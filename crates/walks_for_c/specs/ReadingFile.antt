-- For C, a call that writes a slice of words: the record and a file are lent to be read.
use Rattle.std.specs.Prelude.{refl, [], ◌∷◌}
use Rattle.walks.specs.Tools.{Ura, Callee, Fn, named, erased, mut, imm, w8, w64, place, opd_unit, rv_opd, seq, assign, call, return, flft, toks, ‵, raw, ◌⊛◌, ◌$◌, ◌∵◌, !, qed, move, fjoin, look, init, stop, hop, fld, from, addr, of_opd, unit_lit, and_then, no_more, returns, enter, alloc1, alloc0, params1, pass1, pass0, free0, agg, whole, sub, look_in, Is, u8, u64, unit, shr_slice_Lawful, mut_slice_Lawful, plain, owned, row, Clauses, called, landed, copied, field-of, sets, freed, reads, stores-whole, words_of, apart-shared, given-back-shared, Lendable, nothing, function, lent_struct, struct, words, bytes, pointer, whole_of, reads_struct, takes_address, makes_slice, stores_local, mut_struct, shr_struct, own_struct, mut_slice, shr_slice, between, Passing, lent, callee, held, parts_in, said_out, sent, Walks, Passes, passes, ends}
use denote.Struct.Laws as LL
use types.Logic.{Logic}

module _ (T N : Lendable) where
  -- the function, and the one that it calls
  abbrev pub passing : Passing
  passing = record {
    own = record { lifetimes = 4; params = shr_struct 0 tt T ∷ shr_slice 1 tt w8 ∷ mut_slice 2 tt w64 ∷ mut_struct 3 tt N ∷ []; result = plain (λ κs. unit) };
    inner = record { lifetimes = 2; params = own_struct T ∷ shr_slice 0 tt w8 ∷ mut_slice 1 tt w64 ∷ []; result = plain (λ κs. row N.type) };
    down = between 2;
    passed = λ κs a. (a.0.now, (a.1.0, (a.1.1.0, tt)));
    answer = λ κs r. tt;
    left = λ κs a r ws. (tt, (ws.1.0, (ws.1.1.0, (r, tt))));
  }

  -- the code, with the name of the one that it calls
  abbrev pub reading : Callee → Fn
  reading n = function 4 4 (nothing ∷ lent_struct 0 imm T.type ∷ bytes (named 1) ∷ words (named 2) mut ∷ lent_struct 3 mut N.type ∷ struct T.type ∷ struct N.type ∷ pointer ∷ words erased mut ∷ [])
      (seq (reads_struct 5 1 T.type)
      (seq (takes_address 7 3)
      (seq (makes_slice 8 7 3)
      (seq (call n (whole_of 5 ∷ whole_of 2 ∷ whole_of 8 ∷ []) (place 6 []))
      (seq (stores_local 4 N.type 6)
      (seq (assign (place 0 []) (rv_opd opd_unit)) return))))))

  module _ {M : Type 1} {𝓤 : Ura M} (𝓛 : Logic 𝓤) (c : Clauses 𝓤 (lent passing)) (k : Clauses 𝓤 (callee passing)) where
    walk : Walks passing 𝓛 c k reading
    walk κs qs a g g' n C Λ fm known free enough are =
        qed 𝓛 ((‵ (flft κs.0 qs.0) ⊛ raw (toks 𝓛 3 κs.1 qs.1)) ∷ ‵ (held passing κs a) ∷ []) ∵
        apart-shared ! (row T.type) (row N.type) (named 3) 2 κs.1 qs.1 (words_of (parts_in passing κs a))
        a.0 a.1.1.1.0 $
        -- [the record's borrow, token; what the words own; their tokens; the answer's obs, borrow, token]
        enter ! C Λ (reading n) _ _ $
        alloc1 ! (λ l0. alloc1 ! (λ l1. alloc1 ! (λ l2. alloc1 ! (λ l3. alloc1 ! (λ l4. alloc1 ! (λ l5. alloc1 ! (λ l6. alloc1 ! (λ l7. alloc1 ! (λ l8. alloc0 ! $ params1 ! $
        pass1 ! (init ! 14 refl (tt, tt)) $
        pass1 ! (init ! 12 refl ((shr_slice_Lawful 𝓛 (named 1) κs.1.0 u8).typed a.1.0 _ are.1.0).0) $
        pass1 ! (init ! 10 refl ((mut_slice_Lawful 𝓛 (named 2) κs.1.1.0 u64).typed a.1.1.0 _ are.1.1.0).0) $
        pass1 ! (init ! 8 refl (tt, tt)) $ pass0 ! $
        move ! (18 ∷ 19 ∷ []) $ reads ! T.type T.laws T.copies a.0 14 6 refl refl refl (λ was.
        -- [the record's; the locals, the last first; what the words own; their tokens; the answer's]
        sets ! (addr ! (from ! (fld ! refl (hop ! (look_in ! 12 (sub ! 0 refl (whole !))) (stop !))))) 4 refl (tt, tt) $
        sets ! (agg ! (and_then ! (copied ! 4 refl) (and_then ! (field-of ! refl (look_in ! 12 (sub ! 1 refl (whole !)))) (no_more !)))) 2 refl
        ((mut_slice_Lawful 𝓛 erased κs.1.1.0 u64).typed a.1.1.0 _ are.1.1.0).0 $
        owned ! (row T.type) (Is (row T.type)) (LL.makes T.type T.plain 𝓛) a.0.now _ was $
        move ! (0 ∷ 21 ∷ 22 ∷ []) $ fjoin ! $ called ! fm (callee passing) k known (sent passing 𝓛 c k κs a qs g') free
        (and_then ! (copied ! 9 refl) (and_then ! (copied ! 15 refl) (and_then ! (copied ! 3 refl) (no_more !)))) (λ v r ws.
        -- [the result; the tokens of the words; what is said of them; what the callee ensures; the record's; the locals; the answer's]
        landed ! N.type N.laws r v l6 9 refl refl (λ made.
        move ! (23 ∷ 24 ∷ 25 ∷ []) $
        stores-whole ! N.type N.laws N.plain a.1.1.1.0 r (LL.owes N.type N.laws r made) 13 9 refl refl $
        -- [the answer's; the tokens of the words; what is said of them; what the callee ensures; the record's; the locals]
        sets ! (of_opd ! (unit_lit !)) 24 refl (tt, tt) $ returns ! (look ! 24 refl) $
        freed ! 24 refl refl $ freed ! 22 refl refl $ freed ! 20 refl refl $ freed ! 18 refl refl $ freed ! 16 refl refl $ freed ! 14 refl refl $ freed ! 12 refl refl $ freed ! 10 refl refl $
        freed ! 8 refl refl $ free0 ! $
        move ! (5 ∷ []) $ ends passing 𝓛 c k ! _ κs qs a g g' enough r ws $
        move ! (6 ∷ 7 ∷ 1 ∷ 2 ∷ 3 ∷ 4 ∷ 5 ∷ 0 ∷ []) $ given-back-shared ! 2 κs.1 qs.1 (words_of (said_out passing κs a ws))))))))))))))

    pub reads-file : Passes passing 𝓛 c k reading
    reads-file = passes passing 𝓛 c k reading walk
