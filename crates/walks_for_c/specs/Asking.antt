-- For C, a call that only reads: the record and three slices of words are lent to be read, with two words.
use Rattle.std.specs.Prelude.{refl, [], ◌∷◌}
use Rattle.walks.specs.Tools.{Ura, Callee, Fn, named, mut, imm, w64, place, opd_unit, rv_opd, seq, assign, call, return, flft, toks, ‵, raw, ◌⊛◌, ◌$◌, ◌∵◌, !, qed, move, fjoin, look, init, of_opd, unit_lit, and_then, no_more, returns, enter, alloc1, alloc0, params1, pass1, pass0, free0, Is, u64, unit, uint_Lawful, shr_slice_Lawful, plain, owned, row, Clauses, called, landed, copied, sets, freed, reads, stores-whole, words_of, apart-shared, given-back-shared, Lendable, nothing, function, lent_struct, struct, words, word, whole_of, reads_struct, stores_local, mut_struct, shr_struct, own_struct, shr_slice, number, between, Passing, lent, callee, held, parts_in, said_out, sent, Walks, Passes, passes, ends}
use denote.Struct.Laws as LL
use types.Logic.{Logic}

module _ (T N : Lendable) where
  -- the function, and the one that it calls
  abbrev pub passing : Passing
  passing = record {
    own = record { lifetimes = 5; params = shr_struct 0 tt T ∷ shr_slice 1 tt w64 ∷ shr_slice 2 tt w64 ∷ shr_slice 3 tt w64 ∷ number w64 ∷ number w64 ∷ mut_struct 4 tt N ∷ []; result = plain (λ κs. unit) };
    inner = record { lifetimes = 3; params = own_struct T ∷ shr_slice 0 tt w64 ∷ shr_slice 1 tt w64 ∷ shr_slice 2 tt w64 ∷ number w64 ∷ number w64 ∷ []; result = plain (λ κs. row N.type) };
    down = between 3;
    passed = λ κs a. (a.0.now, (a.1.0, (a.1.1.0, (a.1.1.1.0, (a.1.1.1.1.0, (a.1.1.1.1.1.0, tt))))));
    answer = λ κs r. tt;
    left = λ κs a r ws. (tt, (ws.1.0, (ws.1.1.0, (ws.1.1.1.0, (ws.1.1.1.1.0, (ws.1.1.1.1.1.0, (r, tt)))))));
  }

  -- the code, with the name of the one that it calls
  abbrev pub asking : Callee → Fn
  asking n = function 5 7 (nothing ∷ lent_struct 0 imm T.type ∷ words (named 1) imm ∷ words (named 2) imm ∷ words (named 3) imm ∷ word ∷ word ∷ lent_struct 4 mut N.type ∷ struct N.type ∷ struct T.type ∷ [])
      (seq (reads_struct 9 1 T.type)
      (seq (call n (whole_of 9 ∷ whole_of 2 ∷ whole_of 3 ∷ whole_of 4 ∷ whole_of 5 ∷ whole_of 6 ∷ []) (place 8 []))
      (seq (stores_local 7 N.type 8)
      (seq (assign (place 0 []) (rv_opd opd_unit)) return))))

  module _ {M : Type 1} {𝓤 : Ura M} (𝓛 : Logic 𝓤) (c : Clauses 𝓤 (lent passing)) (k : Clauses 𝓤 (callee passing)) where
    walk : Walks passing 𝓛 c k asking
    walk κs qs a g g' n C Λ fm known free enough are =
        qed 𝓛 ((‵ (flft κs.0 qs.0) ⊛ raw (toks 𝓛 4 κs.1 qs.1)) ∷ ‵ (held passing κs a) ∷ []) ∵
        apart-shared ! (row T.type) (row N.type) (named 4) 3 κs.1 qs.1 (words_of (parts_in passing κs a))
        a.0 a.1.1.1.1.1.1.0 $
        -- [the record's borrow, token; what the words own; their tokens; the answer's obs, borrow, token]
        enter ! C Λ (asking n) _ _ $
        alloc1 ! (λ l0. alloc1 ! (λ l1. alloc1 ! (λ l2. alloc1 ! (λ l3. alloc1 ! (λ l4. alloc1 ! (λ l5. alloc1 ! (λ l6. alloc1 ! (λ l7. alloc1 ! (λ l8. alloc1 ! (λ l9. alloc0 ! $ params1 ! $
        pass1 ! (init ! 16 refl (tt, tt)) $
        pass1 ! (init ! 14 refl ((shr_slice_Lawful 𝓛 (named 1) κs.1.0 u64).typed a.1.0 _ are.1.0).0) $
        pass1 ! (init ! 12 refl ((shr_slice_Lawful 𝓛 (named 2) κs.1.1.0 u64).typed a.1.1.0 _ are.1.1.0).0) $
        pass1 ! (init ! 10 refl ((shr_slice_Lawful 𝓛 (named 3) κs.1.1.1.0 u64).typed a.1.1.1.0 _ are.1.1.1.0).0) $
        pass1 ! (init ! 8 refl ((uint_Lawful 𝓛 w64).typed a.1.1.1.1.0 _ are.1.1.1.1.0).0) $
        pass1 ! (init ! 6 refl ((uint_Lawful 𝓛 w64).typed a.1.1.1.1.1.0 _ are.1.1.1.1.1.0).0) $
        pass1 ! (init ! 4 refl (tt, tt)) $ pass0 ! $
        move ! (20 ∷ 21 ∷ []) $ reads ! T.type T.laws T.copies a.0 16 0 refl refl refl (λ was.
        -- [the record's; the locals, the last first; what the words own; their tokens; the answer's]
        owned ! (row T.type) (Is (row T.type)) (LL.makes T.type T.plain 𝓛) a.0.now _ was $
        move ! (0 ∷ 23 ∷ 24 ∷ []) $ fjoin ! $ called ! fm (callee passing) k known (sent passing 𝓛 c k κs a qs g') free
        (and_then ! (copied ! 3 refl) (and_then ! (copied ! 17 refl) (and_then ! (copied ! 15 refl) (and_then ! (copied ! 13 refl) (and_then ! (copied ! 11 refl) (and_then ! (copied ! 9 refl) (no_more !))))))) (λ v r ws.
        -- [the result; the tokens of the words; what is said of them; what the callee ensures; the record's; the locals; the answer's]
        landed ! N.type N.laws r v l8 7 refl refl (λ made.
        move ! (25 ∷ 26 ∷ 27 ∷ []) $
        stores-whole ! N.type N.laws N.plain a.1.1.1.1.1.1.0 r (LL.owes N.type N.laws r made) 9 7 refl refl $
        -- [the answer's; the tokens of the words; what is said of them; what the callee ensures; the record's; the locals]
        sets ! (of_opd ! (unit_lit !)) 26 refl (tt, tt) $ returns ! (look ! 26 refl) $
        freed ! 26 refl refl $ freed ! 24 refl refl $ freed ! 22 refl refl $ freed ! 20 refl refl $ freed ! 18 refl refl $ freed ! 16 refl refl $ freed ! 14 refl refl $ freed ! 12 refl refl $
        freed ! 10 refl refl $ freed ! 8 refl refl $ free0 ! $
        move ! (5 ∷ []) $ ends passing 𝓛 c k ! _ κs qs a g g' enough r ws $
        move ! (6 ∷ 7 ∷ 1 ∷ 2 ∷ 3 ∷ 4 ∷ 5 ∷ 0 ∷ []) $ given-back-shared ! 3 κs.1 qs.1 (words_of (said_out passing κs a ws)))))))))))))))

    pub asks : Passes passing 𝓛 c k asking
    asks = passes passing 𝓛 c k asking walk
