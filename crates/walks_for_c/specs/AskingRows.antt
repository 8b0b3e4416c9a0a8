-- For C, a call that only reads, with four numbers: a slice of words is lent to be read, and no record.
use Rattle.std.specs.Prelude.{refl, [], ◌∷◌}
use Rattle.walks.specs.Tools.{Ura, Callee, Fn, named, mut, imm, w64, place, opd_unit, rv_opd, seq, assign, call, return, toks, ‵, raw, ◌$◌, ◌∵◌, !, qed, move, look, init, of_opd, unit_lit, and_then, no_more, returns, enter, alloc1, alloc0, params1, pass1, pass0, free0, u64, unit, uint_Lawful, shr_slice_Lawful, plain, row, Clauses, called, landed, copied, sets, freed, stores-whole, apart-last, given-back-last, Lendable, nothing, function, lent_struct, struct, words, word, whole_of, stores_local, mut_struct, shr_slice, number, before_last, Passing, lent, callee, held, parts_in, said_out, sent, Walks, Passes, passes, ends}
use denote.Struct.Laws as LL
use types.Logic.{Logic}

module _ (N : Lendable) where
  -- the function, and the one that it calls
  abbrev pub passing : Passing
  passing = record {
    own = record { lifetimes = 2; params = number w64 ∷ number w64 ∷ shr_slice 0 tt w64 ∷ number w64 ∷ number w64 ∷ mut_struct 1 tt N ∷ []; result = plain (λ κs. unit) };
    inner = record { lifetimes = 1; params = number w64 ∷ number w64 ∷ shr_slice 0 tt w64 ∷ number w64 ∷ number w64 ∷ []; result = plain (λ κs. row N.type) };
    down = before_last 1;
    passed = λ κs a. (a.0, (a.1.0, (a.1.1.0, (a.1.1.1.0, (a.1.1.1.1.0, tt)))));
    answer = λ κs r. tt;
    left = λ κs a r ws. (ws.0, (ws.1.0, (ws.1.1.0, (ws.1.1.1.0, (ws.1.1.1.1.0, (r, tt))))));
  }

  -- the code, with the name of the one that it calls
  abbrev pub asking : Callee → Fn
  asking n = function 2 6 (nothing ∷ word ∷ word ∷ words (named 0) imm ∷ word ∷ word ∷ lent_struct 1 mut N.type ∷ struct N.type ∷ [])
      (seq (call n (whole_of 1 ∷ whole_of 2 ∷ whole_of 3 ∷ whole_of 4 ∷ whole_of 5 ∷ []) (place 7 []))
      (seq (stores_local 6 N.type 7)
      (seq (assign (place 0 []) (rv_opd opd_unit)) return)))

  module _ {M : Type 1} {𝓤 : Ura M} (𝓛 : Logic 𝓤) (c : Clauses 𝓤 (lent passing)) (k : Clauses 𝓤 (callee passing)) where
    walk : Walks passing 𝓛 c k asking
    walk κs qs a g g' n C Λ fm known free enough are =
        qed 𝓛 (raw (toks 𝓛 2 κs qs) ∷ ‵ (held passing κs a) ∷ []) ∵
        apart-last ! (row N.type) (named 1) 1 κs qs (parts_in passing κs a) a.1.1.1.1.1.0 $
        -- [what the words own; their token; the answer's obs, borrow, token]
        enter ! C Λ (asking n) _ _ $
        alloc1 ! (λ l0. alloc1 ! (λ l1. alloc1 ! (λ l2. alloc1 ! (λ l3. alloc1 ! (λ l4. alloc1 ! (λ l5. alloc1 ! (λ l6. alloc1 ! (λ l7. alloc0 ! $ params1 ! $
        pass1 ! (init ! 12 refl ((uint_Lawful 𝓛 w64).typed a.0 _ are.0).0) $
        pass1 ! (init ! 10 refl ((uint_Lawful 𝓛 w64).typed a.1.0 _ are.1.0).0) $
        pass1 ! (init ! 8 refl ((shr_slice_Lawful 𝓛 (named 0) κs.0 u64).typed a.1.1.0 _ are.1.1.0).0) $
        pass1 ! (init ! 6 refl ((uint_Lawful 𝓛 w64).typed a.1.1.1.0 _ are.1.1.1.0).0) $
        pass1 ! (init ! 4 refl ((uint_Lawful 𝓛 w64).typed a.1.1.1.1.0 _ are.1.1.1.1.0).0) $
        pass1 ! (init ! 2 refl (tt, tt)) $ pass0 ! $
        -- [the locals, the last first; what the words own; their token; the answer's]
        move ! (16 ∷ 17 ∷ []) $ called ! fm (callee passing) k known (sent passing 𝓛 c k κs a qs g') free
        (and_then ! (copied ! 13 refl) (and_then ! (copied ! 11 refl) (and_then ! (copied ! 9 refl) (and_then ! (copied ! 7 refl) (and_then ! (copied ! 5 refl) (no_more !)))))) (λ v r ws.
        -- [the result; the token of the words; what is said of them; what the callee ensures; the locals; the answer's]
        landed ! N.type N.laws r v l7 3 refl refl (λ made.
        move ! (19 ∷ 20 ∷ 21 ∷ []) $
        stores-whole ! N.type N.laws N.plain a.1.1.1.1.1.0 r (LL.owes N.type N.laws r made) 5 3 refl refl $
        -- [the answer's; the token of the words; what is said of them; what the callee ensures; the locals]
        sets ! (of_opd ! (unit_lit !)) 20 refl (tt, tt) $ returns ! (look ! 20 refl) $
        freed ! 20 refl refl $ freed ! 18 refl refl $ freed ! 16 refl refl $ freed ! 14 refl refl $ freed ! 12 refl refl $ freed ! 10 refl refl $ freed ! 8 refl refl $ freed ! 6 refl refl $ free0 ! $
        move ! (5 ∷ []) $ ends passing 𝓛 c k ! _ κs qs a g g' enough r ws $
        move ! (1 ∷ 2 ∷ 3 ∷ 4 ∷ 5 ∷ 0 ∷ []) $ given-back-last ! 1 κs qs (said_out passing κs a ws)))))))))))

    pub asks : Passes passing 𝓛 c k asking
    asks = passes passing 𝓛 c k asking walk
