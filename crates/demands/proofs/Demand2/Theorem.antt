-- Demand 2, contradiction: a reply or a filing that passes the checks before 11 is refused with 11 just if no complete table agrees with
-- all rows in use, all rules in force and the reply, or the offered row; a filling, just if none agrees with all rows, its own filled, and all
-- rules. One direction builds a table, the completed closure of each row's yes
-- marks; the other shows that a row of an agreeing table extends each row.
use Rattle.std.specs.Prelude.{◌≡◌, refl, ◌↔◌, Bool, true, false, List, [], ◌∷◌, ◌++◌, map, ℕ, ◌/◌, ◌<◌, take, length, leb}
use Rattle.std.proofs.Common.{sym, ap, ◌∙◌, true≢false, append_assoc, arith, leb-false}
use Rattle.std.proofs.Math.Path.{subst}
use mathlib.Core.List.Memᴰ
use Rattle.std.proofs.Math.Option.{Option, none, some}
use Rattle.theory.specs.Lists.{All}
use Rattle.theory.proofs.Lists.Laws.{all_nil, all_cons, all_take, all_snoc}
use Rattle.theory.specs.Implications.{Implication, Over}
use Rattle.attribute_set.specs.Sets.{full}
use Rattle.attribute_set.proofs.Sets.Laws.{sub_trans, without_sub}
use Rattle.attribute_set.proofs.Words.{words}
use Rattle.implication.specs.Closure.{closure}
use Rattle.implication.proofs.Closure.Laws.{closure-least, closure-inside}
use Rattle.context.specs.Places.{lowest, anywhere}
use Rattle.context.proofs.Places.Laws.{anywhere-false, anywhere-true}
use Rattle.context.specs.Objects.{Object, refutes_written, contradicts}
use Rattle.context.specs.Filling.{joined, object_at, filled_at}
use Rattle.context.proofs.Filling.Laws.{all-filled, object-member, filled_in}
use Rattle.reach.proofs.Reach.Laws.{reach-inside}
use Rattle.context.specs.Tables.{Complete, Table, AgreesObject, AgreesImplication, completed}
use Rattle.context.proofs.Tables.Laws.{completed-complete, completes, completed-agrees, no-contradiction}
use Rattle.session.specs.declared.Refusal.{Refusal}
use Rattle.machine.specs.Checks.{State, Check, check, first_failing, session_checks, yes_checks, test_checks, filing_checks, fill_checks, force, reach_of, question, with_question, strange_object}
use Rattle.machine.proofs.Checks.Laws.{Passed, passed, none-failing, passed-append, append-passed, failing-append, failing-here, failing-later, or-false, InM, joined_in, familiar-object, Valid, valid}
use Rattle.machine.specs.Machine.{Call, accept, reject, file, fill, taken, refused, Turn, after_fill, performed, checks_of}
use Rattle.machine.proofs.Machine.Laws.{perform-refused, perform-accepted}
use Rattle.demands.proofs.InTurn.Theorem.{test-passed}
use Rattle.demands.specs.Replies.{agreed, offered}
use Rattle.demands.proofs.Facts.Kept.{failing-number}
use Rattle.demands.specs.Demand2.{Refused11, Agrees, Contradictory, AgreesAll, ContradictoryFilled, YesUpTo11, NoUpTo11, FilingUpTo11, FillUpTo11, Demand2}

-- ---- refused with 11: where the checks before 11 pass and none behind it has that number

not_taken : (r : Refusal) → taken ≡ refused r → ⊥
not_taken r e = let z : ◌≡◌ {A = ℕ} 0 1 = cc in omega arith

other-number : (a b p q : ℕ) → refused (record { number = a; place = p }) ≡ refused (record { number = b; place = q }) → a ≡ b
other-number a b p q e =
    let f : ◌≡◌ {A = Refusal} (record { number = a; place = p }) (record { number = b; place = q }) = cc in
    ap (λ (r : Refusal). r.number) f

module _ (s : State) (c : Call) (before : List Check) (b : Bool) (p : ℕ) (behind : List Check) (others : All (λ x. x.number ≡ 11 → ⊥) behind)
    (is : checks_of s c ≡ before ++ (check 11 b p ∷ behind)) (ok : Passed before) (takes : (performed s c).answer ≡ taken) where
  verdict : first_failing (checks_of s c) ≡ first_failing (check 11 b p ∷ behind)
  verdict = ap first_failing is ∙ failing-append before _ ok

  refused-fails : Refused11 s c → b ≡ true
  refused-fails (k, e) = go b refl (first_failing behind) refl
    where
      go : (x : Bool) → b ≡ x → (v : Option Refusal) → first_failing behind ≡ v → b ≡ true
      go true f v g = f
      go false f (some r) g =
          let v = verdict ∙ failing-later (check 11 b p) _ f ∙ g in
          let same = other-number r.number 11 r.place k (sym (ap (λ (t : Turn). t.answer) (perform-refused s c r v)) ∙ e) in
          absurd (failing-number (λ i. i ≡ 11 → ⊥) behind others r g same)
      go false f none g =
          let v = verdict ∙ failing-later (check 11 b p) _ f ∙ g in
          absurd (not_taken _ (sym takes ∙ sym (ap (λ (t : Turn). t.answer) (perform-accepted s c v)) ∙ e))

  fails-refused : b ≡ true → Refused11 s c
  fails-refused e = (p, ap (λ (t : Turn). t.answer) (perform-refused s c _ (verdict ∙ failing-here (check 11 b p) _ e)))

  refused-iff : Refused11 s c ↔ (b ≡ true)
  refused-iff = (refused-fails, fails-refused)

-- ---- tables that agree

-- where no row contradicts the implications, the completed closures of the rows agree with both
complete : ℕ → List (Implication ℕ) → Object → Object
complete n rs o = completed n (closure rs o.yes_marks)

closures : ℕ → List (Implication ℕ) → List Object → List Object
closures n rs rows = map (complete n rs) rows

module _ (n : ℕ) (rs : List (Implication ℕ)) (rows : List Object) (over : All (Over words (full n)) rs) (inM : All (InM n) rows)
    (ok : All (λ o. contradicts rs o ≡ false) rows) where
  closures-table : Table n (closures n rs rows)
  unfolding closures complete
  closures-table c m =
      let t = Memᴰ.of_map (complete n rs) rows m in
      subst (λ x. Complete n x) t.2 (completed-complete n (closure-inside rs n over (inM t.0 t.1).yes_marks))

  closures-rows : All (AgreesObject (closures n rs rows)) rows
  unfolding closures complete
  closures-rows o m = record { by = complete n rs o; member = Memᴰ.map (complete n rs) m; extends = completes n rs o (inM o m).no_marks (ok o m) }

  closures-rules : All (AgreesImplication (closures n rs rows)) rs
  unfolding closures complete
  closures-rules r m c k =
      let t = Memᴰ.of_map (complete n rs) rows k in
      subst (λ x. refutes_written x r ≡ false) t.2 (completed-agrees n rs (closure-least rs t.0.yes_marks).member r m)

-- behind 11 stands nothing, or 12
only-12 : (full' : Bool) → All (λ x. x.number ≡ 11 → ⊥) (check 12 full' 0 ∷ [])
only-12 full' = all_cons (λ e. omega arith) (all_nil _)

-- ---- a yes, a filing, a no, a filling

decide : (b : Bool) → ((b ≡ false) → ⊥) → b ≡ true
decide true h = refl
decide false h = absurd (h refl)

yes_call : (s : State) → YesUpTo11 s → Refused11 s accept ↔ Contradictory s (agreed (question s))
unfolding yes_checks checks_of performed
yes_call s up =
    let p = passed (session_checks s [] ++ take 1 (yes_checks s)) up in
    let v = valid s [] (passed-append (session_checks s []) (take 1 (yes_checks s)) up).0 in
    let ask = anywhere (contradicts (with_question s)) s.rows in
    let i = refused-iff s accept (session_checks s [] ++ take 1 (yes_checks s)) ask (lowest (contradicts (with_question s)) s.rows)
    _ (only-12 (leb (s.lent.list / 2) (length s.list))) (sym (append_assoc (session_checks s []) (take 1 (yes_checks s)) _)) p refl in
    (λ e. against v (i.0 e), λ e. i.1 (decide ask (λ f. e (closures s.n (with_question s) s.rows) (agrees v f))))
  where
    question-over : Valid s → Over words (full s.n) (question s)
    question-over v = record {
      premise = v.current;
      conclusion = sub_trans (without_sub (reach_of s) s.current) (reach-inside (force s) s.n s.rows s.current);
    }

    with-question : force s ++ (question s ∷ []) ≡ with_question s
    with-question = append_assoc s.background s.list (question s ∷ [])

    over : Valid s → All (Over words (full s.n)) (with_question s)
    over v = subst (λ l. All (Over words (full s.n)) l) with-question (all_snoc (force s) (question s) v.over (question-over v))

    against : Valid s → anywhere (contradicts (with_question s)) s.rows ≡ true → Contradictory s (agreed (question s))
    against v e t a =
        let x = anywhere-true _ s.rows e in
        let all = subst (λ l. All (AgreesImplication t) l) with-question (all_snoc (force s) (question s) a.all.rules a.reply) in
        true≢false (sym x.2 ∙ no-contradiction s.n t (with_question s) x.0 a.all.complete (over v) all (a.all.rows x.0 x.1))

    agrees : Valid s → anywhere (contradicts (with_question s)) s.rows ≡ false → Agrees s (agreed (question s)) (closures s.n (with_question s) s.rows)
    agrees v f =
        let ok = anywhere-false _ s.rows f in
        let rules = subst (λ l. All (AgreesImplication (closures s.n (with_question s) s.rows)) l) (sym with-question)
        (closures-rules s.n (with_question s) s.rows (over v) v.rows ok) in
        record {
          all = record {
            complete = closures-table s.n (with_question s) s.rows (over v) v.rows ok;
            rows = closures-rows s.n (with_question s) s.rows (over v) v.rows ok;
            rules = all_take (force s) (question s ∷ []) rules;
          };
          reply = rules (question s) (Memᴰ.append_right (force s) (Memᴰ.head refl));
        }

filing : (s : State) (o : Object) → FilingUpTo11 s o → Refused11 s (file o) ↔ Contradictory s (offered o)
unfolding filing_checks checks_of performed
filing s o up =
    let p = passed (session_checks s [] ++ take 1 (filing_checks s o)) up in
    let q = passed-append (session_checks s []) (take 1 (filing_checks s o)) up in
    let v = valid s [] q.0 in
    let inM = familiar-object s.n o (or-false (strange_object s.n o) _ q.1.0).0 in
    let i = refused-iff s (file o) (session_checks s [] ++ take 1 (filing_checks s o)) (contradicts (force s) o) 0
    _ (only-12 (leb (s.lent.rows / 2) (length s.rows))) (sym (append_assoc (session_checks s []) (take 1 (filing_checks s o)) _)) p refl in
    (λ e. against v (i.0 e), λ e. i.1 (decide (contradicts (force s) o) (λ f. e (closures s.n (force s) rows) (agrees v inM f))))
  where
    rows : List Object
    rows = s.rows ++ (o ∷ [])

    against : Valid s → contradicts (force s) o ≡ true → Contradictory s (offered o)
    against v e t a = true≢false (sym e ∙ no-contradiction s.n t (force s) o a.all.complete v.over a.all.rules a.reply)

    agrees : Valid s → InM s.n o → contradicts (force s) o ≡ false → Agrees s (offered o) (closures s.n (force s) rows)
    agrees v inM f =
        let all = all_snoc s.rows o v.rows inM in
        let ok = all_snoc s.rows o v.consistent f in
        let found = closures-rows s.n (force s) rows v.over all ok in
        record {
          all = record {
            complete = closures-table s.n (force s) rows v.over all ok;
            rows = all_take s.rows (o ∷ []) found;
            rules = closures-rules s.n (force s) rows v.over all ok;
          };
          reply = found o (Memᴰ.append_right s.rows (Memᴰ.head refl));
        }

-- where the test passes, a no is the filing
no_call : (s : State) (o : Object) → NoUpTo11 s o → Refused11 s (reject o) ↔ Contradictory s (offered o)
unfolding checks_of filing_checks test_checks
no_call s o up =
    let p = passed-append (session_checks s []) (test_checks s o) up in
    let nine = none-failing _ (append-passed (session_checks s []) (take 1 (filing_checks s o)) p.0 (p.1.1.0, tt)) in
    subst (λ t. ((k : ℕ) × (t.answer ≡ refused (record { number = 11; place = k }))) ↔ Contradictory s (offered o)) (sym (test-passed s o up)) (filing s o nine)

filling : (s : State) (k : ℕ) (m : Object) → FillUpTo11 s k m → Refused11 s (fill k m) ↔ ContradictoryFilled s k m
unfolding fill_checks checks_of performed
filling s k m up =
    let p = passed (session_checks s [] ++ take 3 (fill_checks s k m)) up in
    let q = passed-append (session_checks s []) (take 3 (fill_checks s k m)) up in
    let v = valid s [] q.0 in
    let used = leb-false _ _ q.1.0 in
    let inM = familiar-object s.n m (or-false (strange_object s.n m) _ q.1.1.0).0 in
    let i = refused-iff s (fill k m) (session_checks s [] ++ take 3 (fill_checks s k m)) (contradicts (force s) row) 0
    [] (all_nil _) (sym (append_assoc (session_checks s []) (take 3 (fill_checks s k m)) _)) p refl in
    (λ e. against v used (i.0 e), λ e. i.1 (decide (contradicts (force s) row) (λ f. e (closures s.n (force s) rows) (agrees v used inM f))))
  where
    row : Object
    row = joined (object_at s.rows k) m

    rows : List Object
    rows = filled_at k m s.rows

    against : Valid s → k < length s.rows → contradicts (force s) row ≡ true → ContradictoryFilled s k m
    against v used e t a = true≢false (sym e ∙ no-contradiction s.n t (force s) row a.complete v.over a.rules (a.rows row (filled_in k m s.rows used)))

    agrees : Valid s → k < length s.rows → InM s.n m → contradicts (force s) row ≡ false → AgreesAll (after_fill s k m) (closures s.n (force s) rows)
    agrees v used inM f =
        let was = v.rows (object_at s.rows k) (object-member k s.rows used) in
        let all = all-filled m k s.rows v.rows (joined_in s.n (object_at s.rows k) m was inM) in
        let ok = all-filled m k s.rows v.consistent f in
        record {
          complete = closures-table s.n (force s) rows v.over all ok;
          rows = closures-rows s.n (force s) rows v.over all ok;
          rules = closures-rules s.n (force s) rows v.over all ok;
        }

pub demand-2 : Demand2
demand-2 = record { yes_call = yes_call; no_call = no_call; filing = filing; filling = filling }
