-- For C, a call that writes the record alone, with two numbers: three slices of words are lent to be read.
use Rattle.std.specs.Prelude.{refl, [], ◌∷◌}
use Rattle.walks.specs.Tools.{Ura, Callee, Fn, named, mut, imm, w64, place, opd_unit, rv_opd, seq, assign, call, cond, skip, return, flft, toks, ‵, raw, ◌⊛◌, ◌$◌, ◌∵◌, !, qed, move, fjoin, look, init, of_opd, unit_lit, and_then, no_more, returns, enter, alloc1, alloc0, params1, pass1, pass0, free0, whole, sub, look_in, Is, u64, unit, uint_Lawful, shr_slice_Lawful, plain, owned, row, Clauses, called, landed, copied, field-of, sets, freed, chosen, loads, stores, stores-if, words_of, apart, given_back, Lendable, Turned, turn, turn_laws, nothing, function, lent_struct, struct, words, word, flag, whole_of, reads_struct, takes_field, stores_field, mut_struct, own_struct, shr_slice, number, between, Passing, lent, callee, held, parts_in, said_out, sent, Walks, Passes, passes, ends}
use denote.Struct.Laws as LL
use types.Logic.{Logic}

module _ (T N : Lendable) (S : Turned N T) where
  -- the function, and the one that it calls
  abbrev pub passing : Passing
  passing = record {
    own = record { lifetimes = 5; params = mut_struct 0 tt T ∷ number w64 ∷ number w64 ∷ shr_slice 1 tt w64 ∷ shr_slice 2 tt w64 ∷ shr_slice 3 tt w64 ∷ mut_struct 4 tt N ∷ []; result = plain (λ κs. unit) };
    inner = record { lifetimes = 3; params = own_struct T ∷ number w64 ∷ number w64 ∷ shr_slice 0 tt w64 ∷ shr_slice 1 tt w64 ∷ shr_slice 2 tt w64 ∷ []; result = plain (λ κs. row (turn S)) };
    down = between 3;
    passed = λ κs a. (a.0.now, (a.1.0, (a.1.1.0, (a.1.1.1.0, (a.1.1.1.1.0, (a.1.1.1.1.1.0, tt))))));
    answer = λ κs r. tt;
    left = λ κs a r ws. (chosen (S.changed r) (S.kept r) a.0.now, (ws.1.0, (ws.1.1.0, (ws.1.1.1.0, (ws.1.1.1.1.0, (ws.1.1.1.1.1.0, (S.answer r, tt)))))));
  }

  -- the code, with the name of the one that it calls
  abbrev pub opening : Callee → Fn
  opening n = function 5 7 (nothing ∷ lent_struct 0 mut T.type ∷ word ∷ word ∷ words (named 1) imm ∷ words (named 2) imm ∷ words (named 3) imm ∷ lent_struct 4 mut N.type ∷ struct T.type ∷ struct (turn S) ∷ flag ∷ [])
      (seq (reads_struct 8 1 T.type)
      (seq (call n (whole_of 8 ∷ whole_of 2 ∷ whole_of 3 ∷ whole_of 4 ∷ whole_of 5 ∷ whole_of 6 ∷ []) (place 9 []))
      (seq (takes_field 10 9 2)
      (seq (cond (whole_of 10) (stores_field 1 T.type 9 1) skip)
      (seq (stores_field 7 N.type 9 0)
      (seq (assign (place 0 []) (rv_opd opd_unit)) return))))))

  module _ {M : Type 1} {𝓤 : Ura M} (𝓛 : Logic 𝓤) (c : Clauses 𝓤 (lent passing)) (k : Clauses 𝓤 (callee passing)) where
    walk : Walks passing 𝓛 c k opening
    walk κs qs a g g' n C Λ fm known free enough are =
        qed 𝓛 ((‵ (flft κs.0 qs.0) ⊛ raw (toks 𝓛 4 κs.1 qs.1)) ∷ ‵ (held passing κs a) ∷ []) ∵
        apart ! (row T.type) (row N.type) (named 4) 3 κs.1 qs.1 (words_of (parts_in passing κs a))
        a.0 a.1.1.1.1.1.1.0 $
        -- [the record's obs, borrow, token; what the words own; their tokens; the answer's obs, borrow, token]
        enter ! C Λ (opening n) _ _ $
        alloc1 ! (λ l0. alloc1 ! (λ l1. alloc1 ! (λ l2. alloc1 ! (λ l3. alloc1 ! (λ l4. alloc1 ! (λ l5. alloc1 ! (λ l6. alloc1 ! (λ l7. alloc1 ! (λ l8. alloc1 ! (λ l9. alloc1 ! (λ l10. alloc0 ! $ params1 ! $
        pass1 ! (init ! 18 refl (tt, tt)) $
        pass1 ! (init ! 16 refl ((uint_Lawful 𝓛 w64).typed a.1.0 _ are.1.0).0) $
        pass1 ! (init ! 14 refl ((uint_Lawful 𝓛 w64).typed a.1.1.0 _ are.1.1.0).0) $
        pass1 ! (init ! 12 refl ((shr_slice_Lawful 𝓛 (named 1) κs.1.0 u64).typed a.1.1.1.0 _ are.1.1.1.0).0) $
        pass1 ! (init ! 10 refl ((shr_slice_Lawful 𝓛 (named 2) κs.1.1.0 u64).typed a.1.1.1.1.0 _ are.1.1.1.1.0).0) $
        pass1 ! (init ! 8 refl ((shr_slice_Lawful 𝓛 (named 3) κs.1.1.1.0 u64).typed a.1.1.1.1.1.0 _ are.1.1.1.1.1.0).0) $
        pass1 ! (init ! 6 refl (tt, tt)) $ pass0 ! $
        move ! (22 ∷ 23 ∷ 24 ∷ []) $ loads ! T.type T.laws a.0 18 4 refl refl refl (λ was.
        -- [the record's; the locals, the last first; what the words own; their tokens; the answer's]
        owned ! (row T.type) (Is (row T.type)) (LL.makes T.type T.plain 𝓛) a.0.now _ was $
        move ! (0 ∷ 26 ∷ 27 ∷ []) $ fjoin ! $ called ! fm (callee passing) k known (sent passing 𝓛 c k κs a qs g') free
        (and_then ! (copied ! 8 refl) (and_then ! (copied ! 20 refl) (and_then ! (copied ! 18 refl) (and_then ! (copied ! 16 refl) (and_then ! (copied ! 14 refl) (and_then ! (copied ! 12 refl) (no_more !))))))) (λ v r ws.
        -- [the result; the tokens of the words; what is said of them; what the callee ensures; the record's; the locals; the answer's]
        landed ! (turn S) (turn_laws S) r v l9 8 refl refl (λ made.
        sets ! (of_opd ! (field-of ! refl (look_in ! 8 (sub ! 2 refl (whole !))))) 6 refl (tt, tt) $
        move ! (3 ∷ 4 ∷ 5 ∷ []) $
        stores-if ! T.type T.laws T.plain a.0 (S.kept r) made.1.0 (S.changed r) 21 5 3 refl refl (sub ! 1 refl (whole !)) refl $
        move ! (28 ∷ 29 ∷ 30 ∷ []) $
        stores ! N.type N.laws N.plain a.1.1.1.1.1.1.0 (S.answer r) made.0 12 8 refl refl (sub ! 0 refl (whole !)) $
        -- [the answer's; the record's; the tokens of the words; what is said of them; what the callee ensures; the locals]
        sets ! (of_opd ! (unit_lit !)) 29 refl (tt, tt) $ returns ! (look ! 29 refl) $
        freed ! 29 refl refl $ freed ! 27 refl refl $ freed ! 25 refl refl $ freed ! 23 refl refl $ freed ! 21 refl refl $ freed ! 19 refl refl $ freed ! 17 refl refl $ freed ! 15 refl refl $
        freed ! 13 refl refl $ freed ! 11 refl refl $ freed ! 9 refl refl $ free0 ! $
        move ! (8 ∷ []) $ ends passing 𝓛 c k ! _ κs qs a g g' enough r ws $
        move ! (4 ∷ 5 ∷ 6 ∷ 1 ∷ 2 ∷ 3 ∷ 7 ∷ 8 ∷ 0 ∷ []) $ given_back ! 3 κs.1 qs.1 (words_of (said_out passing κs a ws))))))))))))))))

    pub opens : Passes passing 𝓛 c k opening
    opens = passes passing 𝓛 c k opening walk
