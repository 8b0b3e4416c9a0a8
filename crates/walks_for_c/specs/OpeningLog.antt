-- For C, a call that writes the record, the first two of five slices of words and the last, with two numbers.
use Rattle.std.specs.Prelude.{refl, [], ◌∷◌}
use Rattle.walks.specs.Tools.{Ura, Callee, Fn, named, erased, mut, imm, w64, place, opd_unit, rv_opd, seq, assign, call, cond, skip, return, flft, toks, ‵, raw, ◌⊛◌, ◌$◌, ◌∵◌, !, qed, move, fjoin, look, init, stop, hop, fld, from, addr, of_opd, unit_lit, and_then, no_more, returns, enter, alloc1, alloc0, params1, pass1, pass0, free0, agg, whole, sub, look_in, Is, u64, unit, uint_Lawful, shr_slice_Lawful, mut_slice_Lawful, plain, owned, row, Clauses, called, landed, copied, field-of, sets, freed, chosen, loads, stores, stores-if, words_of, apart, given_back, Lendable, Turned, turn, turn_laws, nothing, function, lent_struct, struct, words, word, pointer, flag, whole_of, reads_struct, takes_address, makes_slice, takes_field, stores_field, mut_struct, own_struct, mut_slice, shr_slice, number, between, Passing, lent, callee, held, parts_in, said_out, sent, Walks, Passes, passes, ends}
use denote.Struct.Laws as LL
use types.Logic.{Logic}

module _ (T N : Lendable) (S : Turned N T) where
  -- the function, and the one that it calls
  abbrev pub passing : Passing
  passing = record {
    own = record { lifetimes = 7; params = mut_struct 0 tt T ∷ number w64 ∷ number w64 ∷ mut_slice 1 tt w64 ∷ mut_slice 2 tt w64 ∷ shr_slice 3 tt w64 ∷ shr_slice 4 tt w64 ∷ mut_slice 5 tt w64 ∷ mut_struct 6 tt N ∷ []; result = plain (λ κs. unit) };
    inner = record { lifetimes = 5; params = own_struct T ∷ number w64 ∷ number w64 ∷ mut_slice 0 tt w64 ∷ mut_slice 1 tt w64 ∷ shr_slice 2 tt w64 ∷ shr_slice 3 tt w64 ∷ mut_slice 4 tt w64 ∷ []; result = plain (λ κs. row (turn S)) };
    down = between 5;
    passed = λ κs a. (a.0.now, (a.1.0, (a.1.1.0, (a.1.1.1.0, (a.1.1.1.1.0, (a.1.1.1.1.1.0, (a.1.1.1.1.1.1.0, (a.1.1.1.1.1.1.1.0, tt))))))));
    answer = λ κs r. tt;
    left = λ κs a r ws. (chosen (S.changed r) (S.kept r) a.0.now, (ws.1.0, (ws.1.1.0, (ws.1.1.1.0, (ws.1.1.1.1.0, (ws.1.1.1.1.1.0, (ws.1.1.1.1.1.1.0, (ws.1.1.1.1.1.1.1.0, (S.answer r, tt)))))))));
  }

  -- the code, with the name of the one that it calls
  abbrev pub opening : Callee → Fn
  opening n = function 7 9 (nothing ∷ lent_struct 0 mut T.type ∷ word ∷ word ∷ words (named 1) mut ∷ words (named 2) mut ∷ words (named 3) imm ∷ words (named 4) imm ∷ words (named 5) mut ∷ lent_struct 6 mut N.type ∷ struct T.type ∷ struct (turn S) ∷ pointer ∷ words erased mut ∷ pointer ∷ words erased mut ∷ pointer ∷ words erased mut ∷ flag ∷ [])
      (seq (reads_struct 10 1 T.type)
      (seq (takes_address 12 4)
      (seq (makes_slice 13 12 4)
      (seq (takes_address 14 5)
      (seq (makes_slice 15 14 5)
      (seq (takes_address 16 8)
      (seq (makes_slice 17 16 8)
      (seq (call n (whole_of 10 ∷ whole_of 2 ∷ whole_of 3 ∷ whole_of 13 ∷ whole_of 15 ∷ whole_of 6 ∷ whole_of 7 ∷ whole_of 17 ∷ []) (place 11 []))
      (seq (takes_field 18 11 2)
      (seq (cond (whole_of 18) (stores_field 1 T.type 11 1) skip)
      (seq (stores_field 9 N.type 11 0)
      (seq (assign (place 0 []) (rv_opd opd_unit)) return))))))))))))

  module _ {M : Type 1} {𝓤 : Ura M} (𝓛 : Logic 𝓤) (c : Clauses 𝓤 (lent passing)) (k : Clauses 𝓤 (callee passing)) where
    walk : Walks passing 𝓛 c k opening
    walk κs qs a g g' n C Λ fm known free enough are =
        qed 𝓛 ((‵ (flft κs.0 qs.0) ⊛ raw (toks 𝓛 6 κs.1 qs.1)) ∷ ‵ (held passing κs a) ∷ []) ∵
        apart ! (row T.type) (row N.type) (named 6) 5 κs.1 qs.1 (words_of (parts_in passing κs a))
        a.0 a.1.1.1.1.1.1.1.1.0 $
        -- [the record's obs, borrow, token; what the words own; their tokens; the answer's obs, borrow, token]
        enter ! C Λ (opening n) _ _ $
        alloc1 ! (λ l0. alloc1 ! (λ l1. alloc1 ! (λ l2. alloc1 ! (λ l3. alloc1 ! (λ l4. alloc1 ! (λ l5. alloc1 ! (λ l6. alloc1 ! (λ l7. alloc1 ! (λ l8. alloc1 ! (λ l9. alloc1 ! (λ l10. alloc1 ! (λ l11. alloc1 ! (λ l12. alloc1 ! (λ l13. alloc1 ! (λ l14. alloc1 ! (λ l15. alloc1 ! (λ l16. alloc1 ! (λ l17. alloc1 ! (λ l18. alloc0 ! $ params1 ! $
        pass1 ! (init ! 34 refl (tt, tt)) $
        pass1 ! (init ! 32 refl ((uint_Lawful 𝓛 w64).typed a.1.0 _ are.1.0).0) $
        pass1 ! (init ! 30 refl ((uint_Lawful 𝓛 w64).typed a.1.1.0 _ are.1.1.0).0) $
        pass1 ! (init ! 28 refl ((mut_slice_Lawful 𝓛 (named 1) κs.1.0 u64).typed a.1.1.1.0 _ are.1.1.1.0).0) $
        pass1 ! (init ! 26 refl ((mut_slice_Lawful 𝓛 (named 2) κs.1.1.0 u64).typed a.1.1.1.1.0 _ are.1.1.1.1.0).0) $
        pass1 ! (init ! 24 refl ((shr_slice_Lawful 𝓛 (named 3) κs.1.1.1.0 u64).typed a.1.1.1.1.1.0 _ are.1.1.1.1.1.0).0) $
        pass1 ! (init ! 22 refl ((shr_slice_Lawful 𝓛 (named 4) κs.1.1.1.1.0 u64).typed a.1.1.1.1.1.1.0 _ are.1.1.1.1.1.1.0).0) $
        pass1 ! (init ! 20 refl ((mut_slice_Lawful 𝓛 (named 5) κs.1.1.1.1.1.0 u64).typed a.1.1.1.1.1.1.1.0 _ are.1.1.1.1.1.1.1.0).0) $
        pass1 ! (init ! 18 refl (tt, tt)) $ pass0 ! $
        move ! (38 ∷ 39 ∷ 40 ∷ []) $ loads ! T.type T.laws a.0 34 16 refl refl refl (λ was.
        -- [the record's; the locals, the last first; what the words own; their tokens; the answer's]
        sets ! (addr ! (from ! (fld ! refl (hop ! (look_in ! 31 (sub ! 0 refl (whole !))) (stop !))))) 15 refl (tt, tt) $
        sets ! (agg ! (and_then ! (copied ! 15 refl) (and_then ! (field-of ! refl (look_in ! 31 (sub ! 1 refl (whole !)))) (no_more !)))) 13 refl
        ((mut_slice_Lawful 𝓛 erased κs.1.0 u64).typed a.1.1.1.0 _ are.1.1.1.0).0 $
        sets ! (addr ! (from ! (fld ! refl (hop ! (look_in ! 29 (sub ! 0 refl (whole !))) (stop !))))) 11 refl (tt, tt) $
        sets ! (agg ! (and_then ! (copied ! 11 refl) (and_then ! (field-of ! refl (look_in ! 29 (sub ! 1 refl (whole !)))) (no_more !)))) 9 refl
        ((mut_slice_Lawful 𝓛 erased κs.1.1.0 u64).typed a.1.1.1.1.0 _ are.1.1.1.1.0).0 $
        sets ! (addr ! (from ! (fld ! refl (hop ! (look_in ! 23 (sub ! 0 refl (whole !))) (stop !))))) 7 refl (tt, tt) $
        sets ! (agg ! (and_then ! (copied ! 7 refl) (and_then ! (field-of ! refl (look_in ! 23 (sub ! 1 refl (whole !)))) (no_more !)))) 5 refl
        ((mut_slice_Lawful 𝓛 erased κs.1.1.1.1.1.0 u64).typed a.1.1.1.1.1.1.1.0 _ are.1.1.1.1.1.1.1.0).0 $
        owned ! (row T.type) (Is (row T.type)) (LL.makes T.type T.plain 𝓛) a.0.now _ was $
        move ! (0 ∷ 42 ∷ 43 ∷ []) $ fjoin ! $ called ! fm (callee passing) k known (sent passing 𝓛 c k κs a qs g') free
        (and_then ! (copied ! 20 refl) (and_then ! (copied ! 36 refl) (and_then ! (copied ! 34 refl) (and_then ! (copied ! 14 refl) (and_then ! (copied ! 10 refl) (and_then ! (copied ! 28 refl) (and_then ! (copied ! 26 refl) (and_then ! (copied ! 6 refl) (no_more !))))))))) (λ v r ws.
        -- [the result; the tokens of the words; what is said of them; what the callee ensures; the record's; the locals; the answer's]
        landed ! (turn S) (turn_laws S) r v l11 20 refl refl (λ made.
        sets ! (of_opd ! (field-of ! refl (look_in ! 20 (sub ! 2 refl (whole !))))) 6 refl (tt, tt) $
        move ! (3 ∷ 4 ∷ 5 ∷ []) $
        stores-if ! T.type T.laws T.plain a.0 (S.kept r) made.1.0 (S.changed r) 37 17 3 refl refl (sub ! 1 refl (whole !)) refl $
        move ! (44 ∷ 45 ∷ 46 ∷ []) $
        stores ! N.type N.laws N.plain a.1.1.1.1.1.1.1.1.0 (S.answer r) made.0 24 20 refl refl (sub ! 0 refl (whole !)) $
        -- [the answer's; the record's; the tokens of the words; what is said of them; what the callee ensures; the locals]
        sets ! (of_opd ! (unit_lit !)) 45 refl (tt, tt) $ returns ! (look ! 45 refl) $
        freed ! 45 refl refl $ freed ! 43 refl refl $ freed ! 41 refl refl $ freed ! 39 refl refl $ freed ! 37 refl refl $ freed ! 35 refl refl $ freed ! 33 refl refl $ freed ! 31 refl refl $
        freed ! 29 refl refl $ freed ! 27 refl refl $ freed ! 25 refl refl $ freed ! 23 refl refl $ freed ! 21 refl refl $ freed ! 19 refl refl $ freed ! 17 refl refl $ freed ! 15 refl refl $
        freed ! 13 refl refl $ freed ! 11 refl refl $ freed ! 9 refl refl $ free0 ! $
        move ! (8 ∷ []) $ ends passing 𝓛 c k ! _ κs qs a g g' enough r ws $
        move ! (4 ∷ 5 ∷ 6 ∷ 1 ∷ 2 ∷ 3 ∷ 7 ∷ 8 ∷ 0 ∷ []) $ given_back ! 5 κs.1 qs.1 (words_of (said_out passing κs a ws))))))))))))))))))))))))

    pub opens : Passes passing 𝓛 c k opening
    opens = passes passing 𝓛 c k opening walk
