-- The five places where an attribute outside M can stand (`outside-parts`), in the order in which the code looks.
use Rattle.std.specs.Prelude.{◌≡◌, refl, Bool, true, false, not, ◌||◌, List, [], ◌∷◌, ◌++◌, ℕ, ◌/◌, length}
use Rattle.std.proofs.Common.{ap, ap₂, ◌∙◌}
use Rattle.session.specs.declared.Session.{Session}
use Rattle.attribute_set.specs.Sets.{inside, full}
use Rattle.implication.specs.Pairs.{pairs}
use Rattle.implication.specs.Closure.{implication, implications_of, all_implications}
use Rattle.context.specs.Places.{anywhere}
use Rattle.context.proofs.Places.Search.{anywhere-one, anywhere-append, anywhere-pairs}
use Rattle.context.specs.Objects.{object}
use Rattle.machine.specs.Checks.{strange, strange_object, strange_implication, outside_m}
use Rattle.machine.specs.Calls.{state_of}

or-regroup : (a b c d : Bool) → (((a || b) || (c || false)) || d) ≡ (a || (b || (c || d)))
or-regroup true b c d = refl
or-regroup false true c d = refl
or-regroup false false true d = refl
or-regroup false false false d = refl

pub outside-parts : (s : Session) (rows list background : List ℕ) (p c : ℕ)
    → (m k l : ℕ) → m ≡ full s.n → k ≡ s.rows → l ≡ s.rules → outside_m (state_of s rows list background) (implication p c ∷ [])
    ≡ (anywhere (λ b. b) (pairs (strange m) k rows)
    || (anywhere (λ b. b) (pairs (strange m) (length background / 2) background)
    || (anywhere (λ b. b) (pairs (strange m) l list) || (strange m p c || not (inside s.current m)))))
unfolding outside_m
outside-parts s rows list background p c m k l e used rules =
    let f = strange_implication s.n in
    let bs = all_implications background in
    let ls = implications_of s.rules list in
    rw (e, used, rules)
    (ap₂ ◌||◌ (anywhere-pairs (strange_object s.n) object s.rows rows)
    (ap (λ b. b || not (inside s.current (full s.n)))
    (anywhere-append f (bs ++ ls) _ ∙ ap₂ ◌||◌ (anywhere-append f bs ls) (anywhere-one f (implication p c)))
    ∙ or-regroup (anywhere f bs) (anywhere f ls) (f (implication p c)) _
    ∙ ap₂ ◌||◌ (anywhere-pairs f implication (length background / 2) background)
    (ap (λ b. b || (f (implication p c) || not (inside s.current (full s.n)))) (anywhere-pairs f implication s.rules list))))
