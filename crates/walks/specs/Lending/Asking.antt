-- A call that only reads: the record and three slices of words are lent to be read, with two words.
use Rattle.std.specs.Prelude.{refl, [], ◌∷◌}
use Rattle.walks.specs.Tools.{Ura, Callee, Fn, named, imm, w64, place, seq, call, return, flft, toks, ‵, raw, ◌⊛◌, ◌$◌, ◌∵◌, !, qed, move, drop, fjoin, look, init, stop, from, and_then, no_more, land, returns, enter, alloc1, alloc0, params1, pass1, pass0, free0, Is, shows, u64, uint_Lawful, shr_slice_Lawful, plain, owned, peeks, row, Clauses, called, copied, freed, reads, apart-shared-alone, given-back-shared-alone, Lendable, Enumerated, variants, function, lent_struct, struct, words, word, whole_of, reads_struct, shr_struct, own_struct, shr_slice, number, behind_first, Passing, lent, callee, held, sent, Walks, Passes, passes, ends}
use denote.Struct.Laws as LL
use denote.Enum.Declared as ED
use denote.Enum.Laws as EL
use types.Logic.{Logic}

module _ (T : Lendable) (N : Enumerated) where
  -- the function, and the one that it calls
  abbrev pub passing : Passing
  passing = record {
    own = record { lifetimes = 4; params = shr_struct 0 tt T ∷ shr_slice 1 tt w64 ∷ shr_slice 2 tt w64 ∷ shr_slice 3 tt w64 ∷ number w64 ∷ number w64 ∷ []; result = plain (λ κs. ED.row N.type) };
    inner = record { lifetimes = 3; params = own_struct T ∷ shr_slice 0 tt w64 ∷ shr_slice 1 tt w64 ∷ shr_slice 2 tt w64 ∷ number w64 ∷ number w64 ∷ []; result = plain (λ κs. ED.row N.type) };
    down = behind_first 3;
    passed = λ κs a. (a.0.now, a.1);
    answer = λ κs r. r;
    left = λ κs a r ws. (tt, ws.1);
  }

  -- the code, with the name of the one that it calls
  abbrev pub asking : Callee → Fn
  asking n = function 4 6 (variants N.type ∷ lent_struct 0 imm T.type ∷ words (named 1) imm ∷ words (named 2) imm ∷ words (named 3) imm ∷ word ∷ word ∷ struct T.type ∷ [])
      (seq (reads_struct 7 1 T.type)
      (seq (call n (whole_of 7 ∷ whole_of 2 ∷ whole_of 3 ∷ whole_of 4 ∷ whole_of 5 ∷ whole_of 6 ∷ []) (place 0 [])) return))

  module _ {M : Type 1} {𝓤 : Ura M} (𝓛 : Logic 𝓤) (c : Clauses 𝓤 (lent passing)) (k : Clauses 𝓤 (callee passing)) where
    walk : Walks passing 𝓛 c k asking
    walk κs qs a g g' n C Λ fm known free enough are =
        qed 𝓛 ((‵ (flft κs.0 qs.0) ⊛ raw (toks 𝓛 3 κs.1 qs.1)) ∷ ‵ (held passing κs a) ∷ []) ∵
        apart-shared-alone ! (row T.type) a.0 $
        -- [the record's borrow, token; what the words own; their tokens]
        enter ! C Λ (asking n) _ _ $
        alloc1 ! (λ l0. alloc1 ! (λ l1. alloc1 ! (λ l2. alloc1 ! (λ l3. alloc1 ! (λ l4. alloc1 ! (λ l5. alloc1 ! (λ l6. alloc1 ! (λ l7. alloc0 ! $ params1 ! $
        pass1 ! (init ! 12 refl (tt, tt)) $
        pass1 ! (init ! 10 refl ((shr_slice_Lawful 𝓛 (named 1) κs.1.0 u64).typed a.1.0 _ are.1.0).0) $
        pass1 ! (init ! 8 refl ((shr_slice_Lawful 𝓛 (named 2) κs.1.1.0 u64).typed a.1.1.0 _ are.1.1.0).0) $
        pass1 ! (init ! 6 refl ((shr_slice_Lawful 𝓛 (named 3) κs.1.1.1.0 u64).typed a.1.1.1.0 _ are.1.1.1.0).0) $
        pass1 ! (init ! 4 refl ((uint_Lawful 𝓛 w64).typed a.1.1.1.1.0 _ are.1.1.1.1.0).0) $
        pass1 ! (init ! 2 refl ((uint_Lawful 𝓛 w64).typed a.1.1.1.1.1.0 _ are.1.1.1.1.1.0).0) $
        pass0 ! $
        move ! (16 ∷ 17 ∷ []) $ reads ! T.type T.laws T.copies a.0 12 0 refl refl refl (λ was.
        -- [the record's; the locals, the last first; what the words own; their tokens]
        owned ! (row T.type) (Is (row T.type)) (LL.makes T.type T.plain 𝓛) a.0.now _ was $
        move ! (0 ∷ 19 ∷ 20 ∷ []) $ fjoin ! $ called ! fm (callee passing) k known (sent passing 𝓛 c k κs a qs g') free
        (and_then ! (copied ! 3 refl) (and_then ! (copied ! 13 refl) (and_then ! (copied ! 11 refl) (and_then ! (copied ! 9 refl) (and_then ! (copied ! 7 refl) (and_then ! (copied ! 5 refl) (no_more !))))))) (λ v r ws.
        -- [the result; the tokens of the words; what is said of them; what the callee ensures; the record's; the locals]
        peeks ! (ED.row N.type) (Is (ED.row N.type)) (shows 𝓛 (ED.row N.type)) r (v ∷ []) (λ made.
        land ! (from ! (stop !)) (init ! 20 refl ((N.as_field.lawful 𝓛).typed (N.type.to r) _ made).0) $ drop ! $
        returns ! (look ! 19 refl) $
        freed ! 19 refl refl $ freed ! 17 refl refl $ freed ! 15 refl refl $ freed ! 13 refl refl $ freed ! 11 refl refl $ freed ! 9 refl refl $ freed ! 7 refl refl $ freed ! 5 refl refl $ free0 ! $
        move ! (2 ∷ []) $ ends passing 𝓛 c k ! _ κs qs a g g' enough r ws $ move ! (3 ∷ 4 ∷ 1 ∷ 2 ∷ 0 ∷ []) $
        owned ! (ED.row N.type) (Is (ED.row N.type)) (EL.makes N.type N.plain 𝓛) r _ made $ given-back-shared-alone !)))))))))))

    pub asks : Passes passing 𝓛 c k asking
    asks = passes passing 𝓛 c k asking walk
