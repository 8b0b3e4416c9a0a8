-- For C, a call that writes a file, with two numbers: a slice of words and one of bytes are lent to be read, and no record.
use Rattle.std.specs.Prelude.{refl, [], ◌∷◌}
use Rattle.walks.specs.Tools.{Ura, Callee, Fn, named, erased, mut, imm, w8, w64, place, opd_unit, rv_opd, seq, assign, call, return, toks, ‵, raw, ◌$◌, ◌∵◌, !, qed, move, look, init, stop, hop, fld, from, addr, of_opd, unit_lit, and_then, no_more, returns, enter, alloc1, alloc0, params1, pass1, pass0, free0, agg, whole, sub, look_in, u8, u64, unit, uint_Lawful, shr_slice_Lawful, mut_slice_Lawful, plain, row, Clauses, called, landed, copied, field-of, sets, freed, stores-whole, apart-last, given-back-last, Lendable, nothing, function, lent_struct, struct, slice_of, words, bytes, word, pointer_to, whole_of, takes_address_of, makes_slice, stores_local, mut_struct, mut_slice, shr_slice, number, before_last, Passing, lent, callee, held, parts_in, said_out, sent, Walks, Passes, passes, ends}
use denote.Struct.Laws as LL
use types.Logic.{Logic}

module _ (N : Lendable) where
  -- the function, and the one that it calls
  abbrev pub passing : Passing
  passing = record {
    own = record { lifetimes = 4; params = number w64 ∷ number w64 ∷ shr_slice 0 tt w64 ∷ shr_slice 1 tt w8 ∷ mut_slice 2 tt w8 ∷ mut_struct 3 tt N ∷ []; result = plain (λ κs. unit) };
    inner = record { lifetimes = 3; params = number w64 ∷ number w64 ∷ shr_slice 0 tt w64 ∷ shr_slice 1 tt w8 ∷ mut_slice 2 tt w8 ∷ []; result = plain (λ κs. row N.type) };
    down = before_last 3;
    passed = λ κs a. (a.0, (a.1.0, (a.1.1.0, (a.1.1.1.0, (a.1.1.1.1.0, tt)))));
    answer = λ κs r. tt;
    left = λ κs a r ws. (ws.0, (ws.1.0, (ws.1.1.0, (ws.1.1.1.0, (ws.1.1.1.1.0, (r, tt))))));
  }

  -- the code, with the name of the one that it calls
  abbrev pub writing : Callee → Fn
  writing n = function 4 6 (nothing ∷ word ∷ word ∷ words (named 0) imm ∷ bytes (named 1) ∷ slice_of w8 (named 2) mut ∷ lent_struct 3 mut N.type ∷ struct N.type ∷ pointer_to w8 ∷ slice_of w8 erased mut ∷ [])
      (seq (takes_address_of w8 8 5)
      (seq (makes_slice 9 8 5)
      (seq (call n (whole_of 1 ∷ whole_of 2 ∷ whole_of 3 ∷ whole_of 4 ∷ whole_of 9 ∷ []) (place 7 []))
      (seq (stores_local 6 N.type 7)
      (seq (assign (place 0 []) (rv_opd opd_unit)) return)))))

  module _ {M : Type 1} {𝓤 : Ura M} (𝓛 : Logic 𝓤) (c : Clauses 𝓤 (lent passing)) (k : Clauses 𝓤 (callee passing)) where
    walk : Walks passing 𝓛 c k writing
    walk κs qs a g g' n C Λ fm known free enough are =
        qed 𝓛 (raw (toks 𝓛 4 κs qs) ∷ ‵ (held passing κs a) ∷ []) ∵
        apart-last ! (row N.type) (named 3) 3 κs qs (parts_in passing κs a) a.1.1.1.1.1.0 $
        -- [what the words own; their tokens; the answer's obs, borrow, token]
        enter ! C Λ (writing n) _ _ $
        alloc1 ! (λ l0. alloc1 ! (λ l1. alloc1 ! (λ l2. alloc1 ! (λ l3. alloc1 ! (λ l4. alloc1 ! (λ l5. alloc1 ! (λ l6. alloc1 ! (λ l7. alloc1 ! (λ l8. alloc1 ! (λ l9. alloc0 ! $ params1 ! $
        pass1 ! (init ! 16 refl ((uint_Lawful 𝓛 w64).typed a.0 _ are.0).0) $
        pass1 ! (init ! 14 refl ((uint_Lawful 𝓛 w64).typed a.1.0 _ are.1.0).0) $
        pass1 ! (init ! 12 refl ((shr_slice_Lawful 𝓛 (named 0) κs.0 u64).typed a.1.1.0 _ are.1.1.0).0) $
        pass1 ! (init ! 10 refl ((shr_slice_Lawful 𝓛 (named 1) κs.1.0 u8).typed a.1.1.1.0 _ are.1.1.1.0).0) $
        pass1 ! (init ! 8 refl ((mut_slice_Lawful 𝓛 (named 2) κs.1.1.0 u8).typed a.1.1.1.1.0 _ are.1.1.1.1.0).0) $
        pass1 ! (init ! 6 refl (tt, tt)) $ pass0 ! $
        -- [the locals, the last first; what the words own; their tokens; the answer's]
        sets ! (addr ! (from ! (fld ! refl (hop ! (look_in ! 8 (sub ! 0 refl (whole !))) (stop !))))) 2 refl (tt, tt) $
        sets ! (agg ! (and_then ! (copied ! 2 refl) (and_then ! (field-of ! refl (look_in ! 8 (sub ! 1 refl (whole !)))) (no_more !)))) 0 refl
        ((mut_slice_Lawful 𝓛 erased κs.1.1.0 u8).typed a.1.1.1.1.0 _ are.1.1.1.1.0).0 $
        move ! (20 ∷ 21 ∷ []) $ called ! fm (callee passing) k known (sent passing 𝓛 c k κs a qs g') free
        (and_then ! (copied ! 17 refl) (and_then ! (copied ! 15 refl) (and_then ! (copied ! 13 refl) (and_then ! (copied ! 11 refl) (and_then ! (copied ! 1 refl) (no_more !)))))) (λ v r ws.
        -- [the result; the tokens of the words; what is said of them; what the callee ensures; the locals; the answer's]
        landed ! N.type N.laws r v l7 7 refl refl (λ made.
        move ! (23 ∷ 24 ∷ 25 ∷ []) $
        stores-whole ! N.type N.laws N.plain a.1.1.1.1.1.0 r (LL.owes N.type N.laws r made) 9 7 refl refl $
        -- [the answer's; the tokens of the words; what is said of them; what the callee ensures; the locals]
        sets ! (of_opd ! (unit_lit !)) 24 refl (tt, tt) $ returns ! (look ! 24 refl) $
        freed ! 24 refl refl $ freed ! 22 refl refl $ freed ! 20 refl refl $ freed ! 18 refl refl $ freed ! 16 refl refl $ freed ! 14 refl refl $ freed ! 12 refl refl $ freed ! 10 refl refl $
        freed ! 8 refl refl $ freed ! 6 refl refl $ free0 ! $
        move ! (5 ∷ []) $ ends passing 𝓛 c k ! _ κs qs a g g' enough r ws $
        move ! (1 ∷ 2 ∷ 3 ∷ 4 ∷ 5 ∷ 0 ∷ []) $ given-back-last ! 3 κs qs (said_out passing κs a ws)))))))))))))

    pub writes-file : Passes passing 𝓛 c k writing
    writes-file = passes passing 𝓛 c k writing walk
