-- A call that writes the record and the second of three slices of words.
use Rattle.std.specs.Prelude.{refl, [], ◌∷◌}
use Rattle.walks.specs.Tools.{Ura, Callee, Fn, named, erased, mut, imm, w64, place, seq, call, cond, skip, return, flft, toks, ‵, raw, ◌⊛◌, ◌$◌, ◌∵◌, !, qed, move, fjoin, look, init, stop, hop, fld, from, addr, of_opd, and_then, no_more, returns, enter, alloc1, alloc0, params1, pass1, pass0, free0, agg, whole, sub, look_in, Is, u64, shr_slice_Lawful, mut_slice_Lawful, plain, owned, row, Clauses, called, landed, copied, field-of, sets, freed, chosen, loads, stores-if, apart-alone, given-back-alone, Lendable, Enumerated, TurnedEnum, enum_turn, enum_turn_laws, variants, function, lent_struct, struct, words, pointer, flag, whole_of, reads_struct, takes_address, makes_slice, takes_field, stores_field, mut_struct, own_struct, mut_slice, shr_slice, behind_first, Passing, lent, callee, held, sent, Walks, Passes, passes, ends}
use denote.Struct.Laws as LL
use denote.Enum.Declared as ED
use denote.Enum.Laws as EL
use types.Logic.{Logic}

module _ (T : Lendable) (N : Enumerated) (S : TurnedEnum N T) where
  -- the function, and the one that it calls
  abbrev pub passing : Passing
  passing = record {
    own = record { lifetimes = 4; params = mut_struct 0 tt T ∷ shr_slice 1 tt w64 ∷ mut_slice 2 tt w64 ∷ shr_slice 3 tt w64 ∷ []; result = plain (λ κs. ED.row N.type) };
    inner = record { lifetimes = 3; params = own_struct T ∷ shr_slice 0 tt w64 ∷ mut_slice 1 tt w64 ∷ shr_slice 2 tt w64 ∷ []; result = plain (λ κs. row (enum_turn S)) };
    down = behind_first 3;
    passed = λ κs a. (a.0.now, a.1);
    answer = λ κs r. S.answer r;
    left = λ κs a r ws. (chosen (S.changed r) (S.kept r) a.0.now, ws.1);
  }

  -- the code, with the name of the one that it calls
  abbrev pub accepting : Callee → Fn
  accepting n = function 4 4 (variants N.type ∷ lent_struct 0 mut T.type ∷ words (named 1) imm ∷ words (named 2) mut ∷ words (named 3) imm ∷ struct T.type ∷ struct (enum_turn S) ∷ pointer ∷ words erased mut ∷ flag ∷ [])
      (seq (reads_struct 5 1 T.type)
      (seq (takes_address 7 3)
      (seq (makes_slice 8 7 3)
      (seq (call n (whole_of 5 ∷ whole_of 2 ∷ whole_of 8 ∷ whole_of 4 ∷ []) (place 6 []))
      (seq (takes_field 9 6 2)
      (seq (cond (whole_of 9) (stores_field 1 T.type 6 1) skip)
      (seq (takes_field 0 6 0) return)))))))

  module _ {M : Type 1} {𝓤 : Ura M} (𝓛 : Logic 𝓤) (c : Clauses 𝓤 (lent passing)) (k : Clauses 𝓤 (callee passing)) where
    walk : Walks passing 𝓛 c k accepting
    walk κs qs a g g' n C Λ fm known free enough are =
        qed 𝓛 ((‵ (flft κs.0 qs.0) ⊛ raw (toks 𝓛 3 κs.1 qs.1)) ∷ ‵ (held passing κs a) ∷ []) ∵
        apart-alone ! (row T.type) a.0 $
        -- [the record's obs, borrow, token; what the words own; their tokens]
        enter ! C Λ (accepting n) _ _ $
        alloc1 ! (λ l0. alloc1 ! (λ l1. alloc1 ! (λ l2. alloc1 ! (λ l3. alloc1 ! (λ l4. alloc1 ! (λ l5. alloc1 ! (λ l6. alloc1 ! (λ l7. alloc1 ! (λ l8. alloc1 ! (λ l9. alloc0 ! $ params1 ! $
        pass1 ! (init ! 16 refl (tt, tt)) $
        pass1 ! (init ! 14 refl ((shr_slice_Lawful 𝓛 (named 1) κs.1.0 u64).typed a.1.0 _ are.1.0).0) $
        pass1 ! (init ! 12 refl ((mut_slice_Lawful 𝓛 (named 2) κs.1.1.0 u64).typed a.1.1.0 _ are.1.1.0).0) $
        pass1 ! (init ! 10 refl ((shr_slice_Lawful 𝓛 (named 3) κs.1.1.1.0 u64).typed a.1.1.1.0 _ are.1.1.1.0).0) $
        pass0 ! $
        move ! (20 ∷ 21 ∷ 22 ∷ []) $ loads ! T.type T.laws a.0 16 8 refl refl refl (λ was.
        -- [the record's; the locals, the last first; what the words own; their tokens]
        sets ! (addr ! (from ! (fld ! refl (hop ! (look_in ! 15 (sub ! 0 refl (whole !))) (stop !))))) 7 refl (tt, tt) $
        sets ! (agg ! (and_then ! (copied ! 7 refl) (and_then ! (field-of ! refl (look_in ! 15 (sub ! 1 refl (whole !)))) (no_more !)))) 5 refl
        ((mut_slice_Lawful 𝓛 erased κs.1.1.0 u64).typed a.1.1.0 _ are.1.1.0).0 $
        owned ! (row T.type) (Is (row T.type)) (LL.makes T.type T.plain 𝓛) a.0.now _ was $
        move ! (0 ∷ 24 ∷ 25 ∷ []) $ fjoin ! $ called ! fm (callee passing) k known (sent passing 𝓛 c k κs a qs g') free
        (and_then ! (copied ! 12 refl) (and_then ! (copied ! 18 refl) (and_then ! (copied ! 6 refl) (and_then ! (copied ! 14 refl) (no_more !))))) (λ v r ws.
        -- [the result; the tokens of the words; what is said of them; what the callee ensures; the record's; the locals]
        landed ! (enum_turn S) (enum_turn_laws S) r v l6 12 refl refl (λ made.
        sets ! (of_opd ! (field-of ! refl (look_in ! 12 (sub ! 2 refl (whole !))))) 6 refl (tt, tt) $
        move ! (3 ∷ 4 ∷ 5 ∷ []) $
        stores-if ! T.type T.laws T.plain a.0 (S.kept r) made.1.0 (S.changed r) 19 9 3 refl refl (sub ! 1 refl (whole !)) refl $
        sets ! (of_opd ! (field-of ! refl (look_in ! 12 (sub ! 0 refl (whole !))))) 24 refl
        ((N.as_field.lawful 𝓛).typed (N.type.to (S.answer r)) _ made.0).0 $
        returns ! (look ! 24 refl) $
        freed ! 24 refl refl $ freed ! 22 refl refl $ freed ! 20 refl refl $ freed ! 18 refl refl $ freed ! 16 refl refl $ freed ! 14 refl refl $ freed ! 12 refl refl $ freed ! 10 refl refl $
        freed ! 8 refl refl $ freed ! 6 refl refl $ free0 ! $
        move ! (5 ∷ []) $ ends passing 𝓛 c k ! _ κs qs a g g' enough r ws $ move ! (1 ∷ 2 ∷ 3 ∷ 4 ∷ 5 ∷ 0 ∷ []) $
        owned ! (ED.row N.type) (Is (ED.row N.type)) (EL.makes N.type N.plain 𝓛) (S.answer r) _ made.0 $ given-back-alone !)))))))))))))

    pub accepts : Passes passing 𝓛 c k accepting
    accepts = passes passing 𝓛 c k accepting walk
