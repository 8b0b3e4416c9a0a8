-- How what a reply or a test finds follows from its checks and from what was found before.
use Rattle.std.proofs.Math.Path.{◌≡◌}
use Rattle.std.specs.Prelude.{refl, Bool, true, false, not, List, [], ◌∷◌, ◌++◌, drop, Result, Ok, Err}
use Rattle.std.proofs.Common.{sym, ap, ◌∙◌}
use Rattle.std.proofs.Math.Option.{Option, none, some}
use Rattle.session.specs.declared.Refusal.{Refusal}
use Rattle.context.specs.Objects.{Object}
use Rattle.machine.specs.Checks.{State, Check, check, first_failing, session_checks, yes_checks, test_checks, Standing, whole, tight, open-question, standing, question_stands}
use Rattle.machine.proofs.Checks.Laws.{passed, failing-first, failing-append}
use Rattle.machine.specs.Machine.{Call, accept, test, checks_of}
use Rattle.standing.specs.declared.Question.{Question}
use Rattle.standing.specs.declared.Standing.{Standing as Found}
use Rattle.standing.specs.declared.Standing.TheVariants.{Full, Tight, Open}
use Rattle.standing.specs.Standings.{question_of, stood, found_after, found}
use Rattle.standing.proofs.Standings.Laws.{seen}
use Rattle.reply_checks.specs.Outcomes.{asking_after, asking, standing_question, unasked}

-- what it finds, by what was found before; the checks behind check 8 are those of tail
abbrev pub asking_from : List Check → Result Found Refusal → Result Question Refusal
asking_from tail (Err r) = Err r
asking_from tail (Ok Full) = unasked
asking_from tail (Ok Tight) = unasked
asking_from tail (Ok (Open q)) = asking_after q (first_failing tail)

-- where checks 1 to 7 pass, check 8 and those of tail decide
after-7 : (s : State) (tail : List Check)
    → asking_after (question_of s) (first_failing (check 8 (not (question_stands s)) 0 ∷ tail)) ≡ asking_from tail (Ok (stood s))
unfolding first_failing question_stands stood
after-7 s tail = by (standing s)
  where
    by : (x : Standing)
        → asking_after (question_of s) (first_failing (check 8 (not (elim x as (λ y. Bool) [ whole ↦ false | tight ↦ false | open-question ↦ true ])) 0 ∷ tail))
        ≡ asking_from tail (Ok (seen s x))
    by whole = refl
    by tight = refl
    by open-question = refl

-- checks 1 to 7, check 8, and those of tail
found-tail : (s : State) (tail : List Check)
    → asking_after (question_of s) (first_failing (session_checks s [] ++ (check 8 (not (question_stands s)) 0 ∷ tail))) ≡ asking_from tail (found s)
unfolding found
found-tail s tail = go (first_failing (session_checks s [])) refl
  where
    cs : List Check
    cs = session_checks s [] ++ (check 8 (not (question_stands s)) 0 ∷ tail)

    go : (v : Option Refusal) → first_failing (session_checks s []) ≡ v
        → asking_after (question_of s) (first_failing cs) ≡ asking_from tail (found_after s (first_failing (session_checks s [])))
    go none e =
        ap (asking_after (question_of s)) (failing-append (session_checks s []) _ (passed (session_checks s []) e)) ∙ after-7 s tail
        ∙ sym (ap (λ v. asking_from tail (found_after s v)) e)
    go (some r) e =
        ap (asking_after (question_of s)) (failing-first (session_checks s []) _ r e) ∙ sym (ap (λ v. asking_from tail (found_after s v)) e)

pub yes-found : (s : State) → asking s accept ≡ asking_from (drop 1 (yes_checks s)) (found s)
unfolding asking checks_of yes_checks
yes-found s = found-tail s (drop 1 (yes_checks s))

pub test-found : (s : State) (o : Object) → asking s (test o) ≡ asking_from (drop 1 (test_checks s o)) (found s)
unfolding asking checks_of test_checks
test-found s o = found-tail s (drop 1 (test_checks s o))

-- the standing question is the machine's; a refusal of checks 1 to 8 is the call's, and where they pass those of tail decide
module _ (s : State) where
  pub found-standing : standing_question s ≡ asking_from [] (found s)
  unfolding standing_question
  found-standing = found-tail s []

  pub question-standing : (q : Question) → Ok q ≡ standing_question s → q ≡ question_of s
  unfolding standing_question
  question-standing q = go (first_failing (session_checks s [] ++ (check 8 (not (question_stands s)) 0 ∷ [])))
    where
      go : (v : Option Refusal) → Ok q ≡ asking_after (question_of s) v → q ≡ question_of s
      go none h = cc
      go (some r) h = cc

  module _ (tail : List Check) {x : Result Question Refusal} (is : x ≡ asking_from tail (found s)) where
    pub refused-before : (r : Refusal) → Err r ≡ standing_question s → Err r ≡ x
    unfolding first_failing
    refused-before r h = go (found s) (h ∙ found-standing) ∙ sym is
      where
        go : (f : Result Found Refusal) → Err r ≡ asking_from [] f → Err r ≡ asking_from tail f
        go (Err r') e = e
        go (Ok Full) e = e
        go (Ok Tight) e = e
        go (Ok (Open q)) e = cc

    decided-behind : (q : Question) (v : Option Refusal) → Ok q ≡ standing_question s → v ≡ first_failing tail → asking_after q v ≡ x
    unfolding first_failing
    decided-behind q v h d = ap (asking_after q) d ∙ go (found s) (h ∙ found-standing) ∙ sym is
      where
        go : (f : Result Found Refusal) → Ok q ≡ asking_from [] f → asking_after q (first_failing tail) ≡ asking_from tail f
        go (Err r) e = cc
        go (Ok Full) e = cc
        go (Ok Tight) e = cc
        go (Ok (Open q')) e = let same : q ≡ q' = cc in ap (λ q. asking_after q (first_failing tail)) same

    pub refused-behind : (q : Question) (r : Refusal) → Ok q ≡ standing_question s → some r ≡ first_failing tail → Err r ≡ x
    refused-behind q r h d = decided-behind q (some r) h d

    pub passed-behind : (q : Question) → Ok q ≡ standing_question s → none ≡ first_failing tail → Ok q ≡ x
    passed-behind q h d = decided-behind q none h d

-- the question found is the machine's, and the checks pass; a refusal is that of its checks
module _ (s : State) (c : Call) where
  pub asking-question : (q : Question) → Ok q ≡ asking s c → (q ≡ question_of s) × (first_failing (checks_of s c) ≡ none)
  unfolding asking
  asking-question q = go (first_failing (checks_of s c))
    where
      go : (v : Option Refusal) → Ok q ≡ asking_after (question_of s) v → (q ≡ question_of s) × (v ≡ none)
      go none h = (cc, refl)
      go (some r) h = cc

  pub asking-refused : (r : Refusal) → Err r ≡ asking s c → first_failing (checks_of s c) ≡ some r
  unfolding asking
  asking-refused r = go (first_failing (checks_of s c))
    where
      go : (v : Option Refusal) → Err r ≡ asking_after (question_of s) v → v ≡ some r
      go none h = cc
      go (some x) h = cc
