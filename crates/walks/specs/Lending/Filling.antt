-- A call that writes the first of three slices of words, with three words; the record is lent to be written and stays.
use Rattle.std.specs.Prelude.{refl, [], ◌∷◌}
use Rattle.walks.specs.Tools.{Ura, Callee, Fn, named, erased, mut, imm, w64, place, seq, call, return, flft, toks, ‵, raw, ◌⊛◌, ◌$◌, ◌∵◌, !, qed, move, drop, fjoin, look, init, stop, hop, fld, from, addr, and_then, no_more, land, returns, enter, alloc1, alloc0, params1, pass1, pass0, free0, agg, whole, sub, look_in, Is, shows, u64, uint_Lawful, shr_slice_Lawful, mut_slice_Lawful, plain, owned, peeks, row, Clauses, called, copied, field-of, sets, freed, loads, apart-alone, given-back-alone, Lendable, Enumerated, variants, function, lent_struct, struct, words, word, pointer, whole_of, reads_struct, takes_address, makes_slice, mut_struct, own_struct, mut_slice, shr_slice, number, behind_first, Passing, lent, callee, held, sent, Walks, Passes, passes, ends}
use denote.Struct.Laws as LL
use denote.Enum.Declared as ED
use denote.Enum.Laws as EL
use types.Logic.{Logic}

module _ (T : Lendable) (N : Enumerated) where
  -- the function, and the one that it calls
  abbrev pub passing : Passing
  passing = record {
    own = record { lifetimes = 4; params = mut_struct 0 tt T ∷ mut_slice 1 tt w64 ∷ shr_slice 2 tt w64 ∷ shr_slice 3 tt w64 ∷ number w64 ∷ number w64 ∷ number w64 ∷ []; result = plain (λ κs. ED.row N.type) };
    inner = record { lifetimes = 3; params = own_struct T ∷ mut_slice 0 tt w64 ∷ shr_slice 1 tt w64 ∷ shr_slice 2 tt w64 ∷ number w64 ∷ number w64 ∷ number w64 ∷ []; result = plain (λ κs. ED.row N.type) };
    down = behind_first 3;
    passed = λ κs a. (a.0.now, a.1);
    answer = λ κs r. r;
    left = λ κs a r ws. (a.0.now, ws.1);
  }

  -- the code, with the name of the one that it calls
  abbrev pub filling : Callee → Fn
  filling n = function 4 7 (variants N.type ∷ lent_struct 0 mut T.type ∷ words (named 1) mut ∷ words (named 2) imm ∷ words (named 3) imm ∷ word ∷ word ∷ word ∷ struct T.type ∷ pointer ∷ words erased mut ∷ [])
      (seq (reads_struct 8 1 T.type)
      (seq (takes_address 9 2)
      (seq (makes_slice 10 9 2)
      (seq (call n (whole_of 8 ∷ whole_of 10 ∷ whole_of 3 ∷ whole_of 4 ∷ whole_of 5 ∷ whole_of 6 ∷ whole_of 7 ∷ []) (place 0 [])) return))))

  module _ {M : Type 1} {𝓤 : Ura M} (𝓛 : Logic 𝓤) (c : Clauses 𝓤 (lent passing)) (k : Clauses 𝓤 (callee passing)) where
    walk : Walks passing 𝓛 c k filling
    walk κs qs a g g' n C Λ fm known free enough are =
        qed 𝓛 ((‵ (flft κs.0 qs.0) ⊛ raw (toks 𝓛 3 κs.1 qs.1)) ∷ ‵ (held passing κs a) ∷ []) ∵
        apart-alone ! (row T.type) a.0 $
        -- [the record's obs, borrow, token; what the words own; their tokens]
        enter ! C Λ (filling n) _ _ $
        alloc1 ! (λ l0. alloc1 ! (λ l1. alloc1 ! (λ l2. alloc1 ! (λ l3. alloc1 ! (λ l4. alloc1 ! (λ l5. alloc1 ! (λ l6. alloc1 ! (λ l7. alloc1 ! (λ l8. alloc1 ! (λ l9. alloc1 ! (λ l10. alloc0 ! $ params1 ! $
        pass1 ! (init ! 18 refl (tt, tt)) $
        pass1 ! (init ! 16 refl ((mut_slice_Lawful 𝓛 (named 1) κs.1.0 u64).typed a.1.0 _ are.1.0).0) $
        pass1 ! (init ! 14 refl ((shr_slice_Lawful 𝓛 (named 2) κs.1.1.0 u64).typed a.1.1.0 _ are.1.1.0).0) $
        pass1 ! (init ! 12 refl ((shr_slice_Lawful 𝓛 (named 3) κs.1.1.1.0 u64).typed a.1.1.1.0 _ are.1.1.1.0).0) $
        pass1 ! (init ! 10 refl ((uint_Lawful 𝓛 w64).typed a.1.1.1.1.0 _ are.1.1.1.1.0).0) $
        pass1 ! (init ! 8 refl ((uint_Lawful 𝓛 w64).typed a.1.1.1.1.1.0 _ are.1.1.1.1.1.0).0) $
        pass1 ! (init ! 6 refl ((uint_Lawful 𝓛 w64).typed a.1.1.1.1.1.1.0 _ are.1.1.1.1.1.1.0).0) $
        pass0 ! $
        move ! (22 ∷ 23 ∷ 24 ∷ []) $ loads ! T.type T.laws a.0 18 4 refl refl refl (λ was.
        -- [the record's; the locals, the last first; what the words own; their tokens]
        sets ! (addr ! (from ! (fld ! refl (hop ! (look_in ! 19 (sub ! 0 refl (whole !))) (stop !))))) 5 refl (tt, tt) $
        sets ! (agg ! (and_then ! (copied ! 5 refl) (and_then ! (field-of ! refl (look_in ! 19 (sub ! 1 refl (whole !)))) (no_more !)))) 3 refl
        ((mut_slice_Lawful 𝓛 erased κs.1.0 u64).typed a.1.0 _ are.1.0).0 $
        owned ! (row T.type) (Is (row T.type)) (LL.makes T.type T.plain 𝓛) a.0.now _ was $
        move ! (0 ∷ 26 ∷ 27 ∷ []) $ fjoin ! $ called ! fm (callee passing) k known (sent passing 𝓛 c k κs a qs g') free
        (and_then ! (copied ! 8 refl) (and_then ! (copied ! 4 refl) (and_then ! (copied ! 18 refl) (and_then ! (copied ! 16 refl) (and_then ! (copied ! 14 refl) (and_then ! (copied ! 12 refl) (and_then ! (copied ! 10 refl) (no_more !)))))))) (λ v r ws.
        -- [the result; the tokens of the words; what is said of them; what the callee ensures; the record's; the locals]
        peeks ! (ED.row N.type) (Is (ED.row N.type)) (shows 𝓛 (ED.row N.type)) r (v ∷ []) (λ made.
        land ! (from ! (stop !)) (init ! 27 refl ((N.as_field.lawful 𝓛).typed (N.type.to r) _ made).0) $ drop ! $
        returns ! (look ! 26 refl) $
        freed ! 26 refl refl $ freed ! 24 refl refl $ freed ! 22 refl refl $ freed ! 20 refl refl $ freed ! 18 refl refl $ freed ! 16 refl refl $ freed ! 14 refl refl $ freed ! 12 refl refl $
        freed ! 10 refl refl $ freed ! 8 refl refl $ freed ! 6 refl refl $ free0 ! $
        move ! (2 ∷ []) $ ends passing 𝓛 c k ! _ κs qs a g g' enough r ws $ move ! (3 ∷ 4 ∷ 5 ∷ 1 ∷ 2 ∷ 0 ∷ []) $
        owned ! (ED.row N.type) (Is (ED.row N.type)) (EL.makes N.type N.plain 𝓛) r _ made $ given-back-alone !))))))))))))))

    pub fills : Passes passing 𝓛 c k filling
    fills = passes passing 𝓛 c k filling walk
