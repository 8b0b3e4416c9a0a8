-- One call of a log, by its kind and three arguments: which call of the machine it is, and what making it promises. An unknown kind gets a code
-- of its own and changes nothing.
use Rattle.std.specs.Prelude.{◌≡◌, true, false, List, ℕ, eqb}
use Rattle.std.proofs.Math.Option.{Option, none, some}
use Rattle.implication.specs.Closure.{implication}
use Rattle.context.specs.Objects.{object}
use Rattle.machine.specs.Machine.{Call, step, accept, reject, follow, refute, test, file, fill}
use Rattle.machine.specs.Calls.{Words, MadeFrom}
use Rattle.session.specs.declared.Session.{Session}
use Rattle.answer_words.specs.Codes.{coded, code_of}
use Rattle.answer_words.specs.declared.Answer.{Answer as Coded}
use Rattle.logged_calls.specs.declared.CallKind.{CallKind}
use Rattle.logged_calls.specs.declared.CallKind.TheVariants.{Step, Yes, No, Follows, Refuted, Test, File, Fill}

-- the number of a kind in a log
abbrev pub number_of : CallKind → ℕ
number_of Step = 0
number_of Yes = 1
number_of No = 2
number_of Follows = 3
number_of Refuted = 4
number_of Test = 5
number_of File = 6
number_of Fill = 7

-- the kinds: 0 step, 1 yes, 2 no, 3 follows, 4 refuted, 5 test, 6 filing, 7 filling (row number, yes marks, no marks); an argument that a kind does not use may be
-- any word
unfoldable pub call_of : ℕ → ℕ → ℕ → ℕ → Option Call
call_of k a b c =
    elim (eqb k 0) [
      | true ↦ some step
      | false ↦ elim (eqb k 1) [
        | true ↦ some accept
        | false ↦ elim (eqb k 2) [
          | true ↦ some (reject (object a b))
          | false ↦ elim (eqb k 3) [
            | true ↦ some (follow (implication a b))
            | false ↦ elim (eqb k 4) [
              | true ↦ some (refute (implication a b))
              | false ↦ elim (eqb k 5) [
                | true ↦ some (test (object a b))
                | false ↦ elim (eqb k 6) [
                  | true ↦ some (file (object a b))
                  | false ↦ elim (eqb k 7) [ true ↦ some (fill a (object b c)) | false ↦ none ]
                ]
              ]
            ]
          ]
        ]
      ]
    ]

-- What one call of a log promises: it is that call of the plain machine; a call of unknown kind changes nothing.
abbrev pub ReplaysFrom : Option Call → Session → List ℕ → List ℕ → List ℕ → Coded → Session → List ℕ → List ℕ → Type 0
ReplaysFrom none s rows list background x after rows' list' = (x ≡ coded 107 0 0) × ((after ≡ s) × ((rows' ≡ rows) × (list' ≡ list)))
ReplaysFrom (some c) s rows list background x after rows' list' = MadeFrom code_of c s rows list background x after rows' list'

abbrev pub ReplaysOne : Option Call → Session → Words → Words → Words → Coded → Session → Type 0
ReplaysOne c s rows list background x after =
    ReplaysFrom c s rows.entry.now list.entry.now background.entry.now x after rows.exit.now list.exit.now
