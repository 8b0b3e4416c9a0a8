-- A session once opened never goes bad. After an accepted opening and any list of calls checks 1 to 7 pass (`never-bad`), so that a step is
-- not refused, a reply is refused with 8 to 12 alone, a test with 8 to 10, a filing with 9, 11 and 12, a filling with 32, 9, 33 and 11, and a
-- read-only call about a rule with 4 alone, where the rule is not over M (`late-refusals`). From it: a step answers Finished just where the current set is M
-- (`finished-at-full`, `full-finished`), and Asked just where a question stands (`asked-stands`, `stands-asked`). A finished interview stays
-- finished, whatever is called then (`stays_finished`), with the list it has (`list_stays`). At the opening, 7 and the list's part of 3 and 4
-- cannot fail (`opening-closed`, `opening-list`).
use Rattle.std.specs.Prelude.{◌≡◌, Bool, true, false, ℕ, ◌/◌, ◌≤◌, length, ltb}
use Rattle.std.proofs.Math.Path.{refl}
use Rattle.std.proofs.Common.{sym, ap, ◌∙◌, subst, arith, le-ltb}
use mathlib.Core.List.{List, [], ◌∷◌, ◌++◌, Memᴰ, append-nil}
use Rattle.std.proofs.Math.Option.{Option, none, some, some-ne-none}
use Rattle.std.proofs.Math.ListN.{length-append}
use Rattle.theory.specs.Lists.{All}
use Rattle.theory.proofs.Lists.Laws.{all_nil, all_cons, all_append, all_drop, all_snoc}
use Rattle.theory.specs.Implications.{Implication, Over}
use Rattle.attribute_set.specs.Sets.{Apart, full}
use Rattle.attribute_set.proofs.Words.{words}
use Rattle.implication.specs.Closure.{closure}
use Rattle.implication.proofs.Closure.Laws.{closure-idempotent, closed-closure}
use Rattle.context.specs.Places.{anywhere}
use Rattle.context.proofs.Places.Laws.{anywhere-false, all-anywhere}
use Rattle.context.specs.Objects.{Object}
use Rattle.context.proofs.Objects.Laws.{contradicts-apart}
use Rattle.context.specs.Filling.{object_at}
use Rattle.context.proofs.Filling.Laws.{joined_once, all-filled, length-filled, object-member}
use Rattle.session.specs.declared.Refusal.{Refusal}
use Rattle.session.specs.Refusals.{refusal}
use Rattle.session.specs.Limits.{most_attributes, most_objects, most_implications}
use Rattle.machine.specs.Checks.{Lent, State, Check, first_failing, strange_object, strange_implication, outside_m, session_checks, yes_checks, test_checks, filing_checks, fill_checks, no_checks, force, question}
use Rattle.machine.proofs.Checks.Laws.{or-false, passed, none-failing, failing-here, failing-later, failing-append, passed-append, no_both, InM, joined_in, familiar-implication, Stands}
use Rattle.machine.specs.Machine.{Call, step, accept, reject, follow, refute, test, file, fill, finished, asked, refused, after_yes, after_filing, after_fill, perform_step, performed, checks_of, perform, run, opening, opened, opening_state}
use Rattle.machine.proofs.Machine.Laws.{perform-cases, perform-accepted, step-cases, no-refusal, performed-answers, opened-is, finished-full}
use Rattle.demands.proofs.Demand3.Invariant.{Reached, current_in, perform-reached, run-reached, opened-reached}
use Rattle.demands.specs.Facts.{Places, Fine}
use Rattle.demands.proofs.Facts.Laws.{checks-fine, fine-checks, checks-yes, checks-filing, checks-fill}

-- ---- the calls keep it

-- the current set is closed
closed-here : (s : State) → Reached s → closure (force s) s.current ≡ s.current
closed-here s h =
    let here = h.explored.here in
    closed-closure (force s) (all_append s.background s.list here.base.closed here.closed)

-- a row over M that marks no attribute both ways
abbrev Row : ℕ → Object → Type 0
Row n o = InM n o × Apart o.yes_marks o.no_marks

-- the invariant of the walk says checks 4, 6 and 7; the rest is had of the state before, and of the rows
fine-again : (s s' : State) → Fine s → s'.n ≡ s.n → s'.lent ≡ s.lent → Reached s'
    → length s'.rows ≤ s.lent.rows / 2 → length s'.list ≤ s.lent.list / 2 → All (Row s.n) s'.rows → Fine s'
fine-again s s' f en el h rows_fit list-fits marks = record {
  some_attribute = subst (λ k. 1 ≤ k) (sym en) f.some_attribute;
  attributes = subst (λ k. k ≤ most_attributes) (sym en) f.attributes;
  row_words = subst (λ (l : Lent). Places most_objects l.rows) (sym el) f.row_words;
  list_words = subst (λ (l : Lent). Places most_implications l.list) (sym el) f.list_words;
  background_words = subst (λ (l : Lent). Places most_implications l.background) (sym el) f.background_words;
  row_places = subst (λ (l : Lent). length s'.rows ≤ l.rows / 2) (sym el) rows_fit;
  list_places = subst (λ (l : Lent). length s'.list ≤ l.list / 2) (sym el) list-fits;
  rows_in = λ o m. subst (λ k. InM k o) (sym en) (marks o m).0;
  rules_in = h.over;
  current_in = current_in s' h;
  once = λ o m. (marks o m).1;
  consistent = λ o m. contradicts-apart (force s') o (h.consistent o m);
  closed = closed-here s' h;
}

module _ (s : State) (f : Fine s) where
  rows-fine : All (Row s.n) s.rows
  rows-fine o m = (f.rows_in o m, f.once o m)

  filed-fine : (o : Object) → first_failing (filing_checks s o) ≡ none → Reached (after_filing s o) → Fine (after_filing s o)
  filed-fine o e h =
      let y = checks-filing s o e in
      fine-again s (after_filing s o) f refl refl h (omega (arith, y.place, length-append s.rows (o ∷ []))) f.list_places
      (all_snoc s.rows o rows-fine (y.inside, y.once))

  -- the filled row is a row over M that marks no attribute both ways
  filled-fine : (k : ℕ) (m : Object) → first_failing (fill_checks s k m) ≡ none → Reached (after_fill s k m) → Fine (after_fill s k m)
  filled-fine k m e h =
      let y = checks-fill s m k e in
      let was = rows-fine (object_at s.rows k) (object-member k s.rows y.used) in
      let inside = joined_in s.n (object_at s.rows k) m was.0 y.inside in
      fine-again s (after_fill s k m) f refl refl h (rw length-filled f.row_places) f.list_places
      (all-filled m k s.rows rows-fine (inside, joined_once (object_at s.rows k) m was.1 y.once y.yes_stays y.no_stays))

  performed-fine : (c : Call) → first_failing (checks_of s c) ≡ none → Reached (performed s c).after → Fine (performed s c).after
  unfolding performed checks_of
  performed-fine step e g = step-cases s (λ t. Reached t.after → Fine t.after) (λ d h. f)
      (λ n d h. fine-again s _ f refl refl h f.row_places f.list_places rows-fine) (λ n d h. f) g
  performed-fine accept e h =
      let y = checks-yes s (none-failing _ (passed-append (session_checks s []) (yes_checks s) e).1) in
      fine-again s (after_yes s) f refl refl h f.row_places (omega (arith, y.place, length-append s.list (question s ∷ []))) rows-fine
  performed-fine (reject o) e h = filed-fine o (no_both s o e).1 h
  performed-fine (follow r) e h = f
  performed-fine (refute r) e h = f
  performed-fine (test o) e h = f
  performed-fine (file o) e h = filed-fine o (none-failing _ (passed-append (session_checks s []) (filing_checks s o) e).1) h
  performed-fine (fill k m) e h = filled-fine k m (none-failing _ (passed-append (session_checks s []) (fill_checks s k m) e).1) h

pub perform-fine : (s : State) (c : Call) → Reached s → Fine s → Fine (perform s c).after
perform-fine s c h f =
    perform-cases s c (λ t. Reached t.after → Fine t.after) (performed-fine s f c) (λ r e g. f) (perform-reached s c h)

run-fine : (s : State) (calls : List Call) → Reached s → Fine s → Fine (run s calls)
unfolding run
run-fine s [] h f = f
run-fine s (c ∷ calls) h f = run-fine (perform s c).after calls (perform-reached s c h) (perform-fine s c h f)

pub never-bad : (n : ℕ) (lent : Lent) (background : List (Implication ℕ)) (rows : List Object) (start : State)
    → opening n lent background rows ≡ opened start → (calls : List Call) → Fine (run start calls)
never-bad n lent background rows start e calls =
    let t = opened-is n lent background rows start e in
    run-fine start calls (opened-reached n lent background rows start e)
    (subst (λ x. Fine x) (sym t.0) (checks-fine (opening_state n lent background rows) [] t.1).0)

-- ---- what is refused then

-- the numbers of a filling's own checks
abbrev pub FillNumber : ℕ → Type 0
FillNumber k = Memᴰ k (32 ∷ 9 ∷ 33 ∷ 11 ∷ [])

-- the refusals that are left: none of a step, 8 to 12 of a reply, 4 of a rule asked about that is not over M, 8 to 10 of a test, of a filing 9,
-- 11 and 12, and of a filling 32, 9, 33 and 11
abbrev pub LateRefusal : State → Call → Refusal → Type 0
LateRefusal s step r = ⊥
LateRefusal s accept r = 8 ≤ r.number
LateRefusal s (reject o) r = 8 ≤ r.number
LateRefusal s (follow q) r = (r ≡ refusal 4 0) × (Over words (full s.n) q → ⊥)
LateRefusal s (refute q) r = (r ≡ refusal 4 0) × (Over words (full s.n) q → ⊥)
LateRefusal s (test o) r = (8 ≤ r.number) × (r.number ≤ 10)
LateRefusal s (file o) r = (9 ≤ r.number) × (r.number ≤ 12) × (r.number ≡ 10 → ⊥)
LateRefusal s (fill k m) r = FillNumber r.number

-- a refusal has the number of one of the checks
pub failing-number : (P : ℕ → Type 0) (cs : List Check) → All (λ c. P c.number) cs → (r : Refusal) → first_failing cs ≡ some r → P r.number
unfolding first_failing
failing-number P [] all r e = absurd (some-ne-none _ (sym e))
failing-number P (c ∷ cs) all r e = go c.fails (failing-number P cs (λ x m. all x (Memᴰ.tail m)) r) e
  where
    go : (b : Bool) → (first_failing cs ≡ some r → P r.number)
        → ◌≡◌ {A = Option Refusal} (elim b [ true ↦ some (refusal c.number c.place) | false ↦ first_failing cs ]) (some r) → P r.number
    go true ih h =
        let same : refusal c.number c.place ≡ r = cc in
        subst (λ (x : Refusal). P x.number) same (all c (Memᴰ.head refl))
    go false ih h = ih h

-- the numbers of a test are 8 to 10, those of a filing 9, 11 and 12
pub test-numbers : (s : State) (o : Object) → All (λ x. (8 ≤ x.number) × (x.number ≤ 10)) (test_checks s o)
unfolding test_checks
test-numbers s o = all_cons (omega arith, omega arith) (all_cons (omega arith, omega arith) (all_cons (omega arith, omega arith) (all_nil _)))

pub filing-numbers : (s : State) (o : Object) → All (λ x. (9 ≤ x.number) × (x.number ≤ 12) × (x.number ≡ 10 → ⊥)) (filing_checks s o)
unfolding filing_checks
filing-numbers s o =
    all_cons (omega arith, omega arith, λ e. omega arith) (all_cons (omega arith, omega arith, λ e. omega arith)
    (all_cons (omega arith, omega arith, λ e. omega arith) (all_nil _)))

pub fill-numbers : (s : State) (k : ℕ) (m : Object) → All (λ x. FillNumber x.number) (fill_checks s k m)
unfolding fill_checks
fill-numbers s k m =
    all_cons (Memᴰ.head refl) (all_cons (Memᴰ.tail (Memᴰ.head refl)) (all_cons (Memᴰ.tail (Memᴰ.tail (Memᴰ.head refl)))
    (all_cons (Memᴰ.tail (Memᴰ.tail (Memᴰ.tail (Memᴰ.head refl)))) (all_nil _))))

module _ (s : State) (f : Fine s) where
  yes-late : (r : Refusal) → first_failing (yes_checks s) ≡ some r → 8 ≤ r.number
  unfolding yes_checks
  yes-late = failing-number (λ k. 8 ≤ k) (yes_checks s) (all_cons (omega arith) (all_cons (omega arith) (all_cons (omega arith) (all_nil _))))

  no-late : (o : Object) (r : Refusal) → first_failing (no_checks s o) ≡ some r → 8 ≤ r.number
  no-late o = failing-number (λ k. 8 ≤ k) (no_checks s o)
      (all_append (test_checks s o) (filing_checks s o) (λ x m. (test-numbers s o x m).0) (λ x m. let h = (filing-numbers s o x m).0 in omega arith))

  fine-passed : first_failing (session_checks s []) ≡ none
  fine-passed = fine-checks s [] f (all_nil _)

  -- asking about a rule: 4 just where it is not over M
  asked-late : (q : Implication ℕ) (r : Refusal) → first_failing (session_checks s (q ∷ [])) ≡ some r → (r ≡ refusal 4 0) × (Over words (full s.n) q → ⊥)
  unfolding session_checks outside_m
  asked-late q r e = (four (outside_m s (q ∷ [])) refl, stranger)
    where
      stranger : Over words (full s.n) q → ⊥
      stranger h = some-ne-none _ (sym e ∙ fine-checks s (q ∷ []) f (all_cons h (all_nil _)))

      familiar : outside_m s (q ∷ []) ≡ false → Over words (full s.n) q
      familiar h =
          let rest = or-false (anywhere (strange_implication s.n) (force s ++ (q ∷ []))) _ (or-false (anywhere (strange_object s.n) s.rows) _ h).1 in
          familiar-implication s.n q
          (all_drop (force s) (q ∷ []) (anywhere-false _ (force s ++ (q ∷ [])) rest.0) q (Memᴰ.head refl))

      four : (b : Bool) → outside_m s (q ∷ []) ≡ b → r ≡ refusal 4 0
      four false h = absurd (stranger (familiar h))
      four true h =
          let p = passed (session_checks s []) fine-passed in
          let v = failing-later _ _ p.0 ∙ failing-later _ _ p.1.0 ∙ failing-later _ _ p.1.1.0 ∙ failing-here _ _ h in
          let same : some r ≡ some (refusal 4 0) = sym e ∙ v in
          cc

  late-by-call : (c : Call) (r : Refusal) → first_failing (checks_of s c) ≡ some r → LateRefusal s c r
  unfolding checks_of
  late-by-call step r e = some-ne-none _ (sym e ∙ fine-passed)
  late-by-call accept r e = yes-late r (sym (failing-append (session_checks s []) (yes_checks s) (passed _ fine-passed)) ∙ e)
  late-by-call (reject o) r e = no-late o r (sym (failing-append (session_checks s []) (no_checks s o) (passed _ fine-passed)) ∙ e)
  late-by-call (follow q) r e = asked-late q r e
  late-by-call (refute q) r e = asked-late q r e
  late-by-call (test o) r e =
      failing-number (λ k. (8 ≤ k) × (k ≤ 10)) (test_checks s o) (test-numbers s o) r
      (sym (failing-append (session_checks s []) (test_checks s o) (passed _ fine-passed)) ∙ e)
  late-by-call (file o) r e =
      failing-number (λ k. (9 ≤ k) × (k ≤ 12) × (k ≡ 10 → ⊥)) (filing_checks s o) (filing-numbers s o) r
      (sym (failing-append (session_checks s []) (filing_checks s o) (passed _ fine-passed)) ∙ e)
  late-by-call (fill k m) r e =
      failing-number FillNumber (fill_checks s k m) (fill-numbers s k m) r
      (sym (failing-append (session_checks s []) (fill_checks s k m) (passed _ fine-passed)) ∙ e)

  pub late-refusals : (c : Call) (r : Refusal) → (perform s c).answer ≡ refused r → LateRefusal s c r
  late-refusals c r =
      perform-cases s c (λ t. t.answer ≡ refused r → LateRefusal s c r) (λ e h. absurd (no-refusal _ r (performed-answers s c) h))
      (λ x e h. let same : x ≡ r = cc in subst (λ y. LateRefusal s c y) same (late-by-call c x e))

  -- ---- a step

  step_is : perform s step ≡ perform_step s
  unfolding checks_of performed
  step_is = perform-accepted s step fine-passed

  pub full-finished : s.current ≡ full s.n → (perform s step).answer ≡ finished
  full-finished e =
      ap (λ t. t.answer) step_is
      ∙ step-cases s (λ t. t.answer ≡ finished) (λ d. refl) (λ n d. absurd (n e)) (λ n d. absurd (n e))

  pub finished-at-full : (perform s step).answer ≡ finished → s.current ≡ full s.n
  finished-at-full = finished-full s

  pub stands-asked : Stands s → (perform s step).answer ≡ asked (question s)
  stands-asked t =
      ap (λ t. t.answer) step_is
      ∙ step-cases s (λ t. t.answer ≡ asked (question s)) (λ d. absurd (t.below d)) (λ n d. absurd (t.differs d)) (λ n d. refl)

  -- what is asked is the question
  pub asked-stands : (q : Implication ℕ) → (perform s step).answer ≡ asked q → Stands s × (q ≡ question s)
  asked-stands q h =
      step-cases s (λ t. t.answer ≡ asked q → Stands s × (q ≡ question s))
      (λ d e. absurd (let z : ◌≡◌ {A = ℕ} 0 1 = cc in omega arith)) (λ n d e. absurd (let z : ◌≡◌ {A = ℕ} 0 1 = cc in omega arith))
      (λ n d e. (record { below = n; differs = d }, cc)) (sym (ap (λ t. t.answer) step_is) ∙ h)

-- ---- once finished

-- at M no call moves and none adds a rule: a step finishes, a yes is refused, and a row more or a filled one leaves current set and list
full-stays : (s : State) (c : Call) → s.current ≡ full s.n
    → ((perform s c).after.current ≡ full (perform s c).after.n) × ((perform s c).after.list ≡ s.list)
unfolding performed checks_of
full-stays s c d = perform-cases s c (λ t. (t.after.current ≡ full t.after.n) × (t.after.list ≡ s.list)) (at-full c) (λ r e. (d, refl))
  where
    at-full : (x : Call) → first_failing (checks_of s x) ≡ none
        → ((performed s x).after.current ≡ full (performed s x).after.n) × ((performed s x).after.list ≡ s.list)
    at-full step e = step-cases s (λ t. (t.after.current ≡ full t.after.n) × (t.after.list ≡ s.list)) (λ _. (d, refl)) (λ n _. absurd (n d)) (λ _ _. (d, refl))
    at-full accept e = absurd ((checks-yes s (none-failing _ (passed-append (session_checks s []) (yes_checks s) e).1)).stands.below d)
    at-full (reject o) e = (d, refl)
    at-full (follow r) e = (d, refl)
    at-full (refute r) e = (d, refl)
    at-full (test o) e = (d, refl)
    at-full (file o) e = (d, refl)
    at-full (fill k m) e = (d, refl)

run-finished : (s : State) (calls : List Call) → Reached s → Fine s → (perform s step).answer ≡ finished → (perform (run s calls) step).answer ≡ finished
unfolding run
run-finished s [] h f d = d
run-finished s (c ∷ calls) h f d =
    let f' = perform-fine s c h f in
    run-finished (perform s c).after calls (perform-reached s c h) f' (full-finished (perform s c).after f' (full-stays s c (finished-full s d)).0)

-- an interview that is finished stays finished, whatever is called then: filings and fillings after Finished too
pub stays_finished : (n : ℕ) (lent : Lent) (background : List (Implication ℕ)) (rows : List Object) (start : State)
    → opening n lent background rows ≡ opened start → (calls more : List Call)
    → (perform (run start calls) step).answer ≡ finished → (perform (run (run start calls) more) step).answer ≡ finished
stays_finished n lent background rows start e calls more =
    run-finished (run start calls) more (run-reached start calls (opened-reached n lent background rows start e))
    (never-bad n lent background rows start e calls)

-- and its list stays
pub list_stays : (s : State) (calls : List Call) → s.current ≡ full s.n → (run s calls).list ≡ s.list
unfolding run
list_stays s [] d = refl
list_stays s (c ∷ calls) d = let t = full-stays s c d in list_stays (perform s c).after calls t.0 ∙ t.1

-- ---- the opening

module _ (n : ℕ) (lent : Lent) (background : List (Implication ℕ)) (rows : List Object) where
  -- the current set is a closure: 7 cannot fail
  pub opening-closed : closure (force (opening_state n lent background rows)) (opening_state n lent background rows).current
      ≡ (opening_state n lent background rows).current
  opening-closed = rw append-nil (closure-idempotent background 0)

  -- no rule of the list is in use: the list's part of 3 and 4 cannot fail
  pub opening-list : (ltb (lent.list / 2) (length (opening_state n lent background rows).list) ≡ false)
      × (anywhere (strange_implication n) (opening_state n lent background rows).list ≡ false)
  opening-list = (le-ltb (lent.list / 2) 0 (omega arith), all-anywhere _ [] (all_nil _))
