-- The object has no no marks and lacks nothing, or it has not the premise, or it contradicts and lacks everything, or what it lacks is told.
use mathlib.Core.Path.{◌≡◌, sym, ap, subst, ◌∙◌}
use mathlib.Core.List.{List}
use Prim.Native.Nat.{ℕ}
use lib.Bits.{bit_and}
use borrow.Author.Rules.{rules}
use Rattle.theory.specs.Implications.{Implication}
use Rattle.attribute_set.specs.Sets.{Sub}
use Rattle.attribute_set.proofs.Sets.Laws.{and→sub, sub→and}
use Rattle.implication.specs.Closure.{implication, in_force}
use Rattle.context.specs.Objects.{Object, object, has, lacks}
use Rattle.context.proofs.Objects.Laws.{met-contradicts}
use Rattle.context.proofs.Parts.Laws.{part_left, part-taken, part-unmarked, part-contradicting}
use Rattle.refuted_parts.proofs.refuted_part.Statement.{statement}
use Rattle.refuted_parts.proofs.refuted_part.Tie as tie

-- the implications in force, the object, and the implication
abbrev force : tie.After-closure_of-has → List (Implication ℕ)
force c = let a = c.args in in_force a.background.now a.list.now a.rules

abbrev row : tie.After-closure_of-has → Object
row c = let a = c.args in object a.yes a.no

abbrev rule : tie.After-closure_of-has → Implication ℕ
rule c = let a = c.args in implication a.premise a.conclusion

had : (c : tie.After-closure_of-has) → c.closure_of-has.result ≡ has (force c) (row c)
unfolding has
had c = c.closure_of-has.ensures

-- the premise is had
taken : (c : tie.Else-premise-has) → Sub (rule c.before).premise (has (force c.before) (row c.before))
taken c = subst (λ h. Sub (rule c.before).premise h) (had c.before) (and→sub _ _ c.if-premise-has.false)

returns : tie.Need-returns-then-no-eq0
returns c =
    let a = c.args in
    let rs = in_force a.background.now a.list.now a.rules in
    sym (part-unmarked rs (object a.yes a.no) (implication a.premise a.conclusion) c.if-no-eq0.true)

returns-2 : tie.Need-returns-then-premise-has
returns-2 c =
    sym (part_left (force c.before) (row c.before) (rule c.before) (λ h. c.if-premise-has.true (ap (bit_and (rule c.before).premise) (had c.before) ∙ sub→and h)))

returns-3 : tie.Need-returns-then-has-no-ne0
returns-3 c =
    let k = met-contradicts (force c.before.before) (row c.before.before) (λ e. c.if-has-no-ne0.true (ap (λ (x : ℕ). bit_and x (row c.before.before).no_marks) c.closure_of-has.ensures ∙ e)) in
    sym (part-taken (force c.before.before) (row c.before.before) (rule c.before.before) (taken c.before) ∙ part-contradicting (force c.before.before) (row c.before.before) (rule c.before.before) k c.ranges.conclusion.fits)

returns-4 : tie.Need-returns
returns-4 c =
    let e : c.lacked_among.result ≡ bit_and (rule c.before.before.before).conclusion (lacks (force c.before.before.before) (row c.before.before.before)) = c.lacked_among.ensures in
    e ∙ sym (part-taken (force c.before.before.before) (row c.before.before.before) (rule c.before.before.before) (taken c.before.before))

pub refuted_part_spec : {M : Type 1} → statement M
refuted_part_spec =
    tie.close (tie.spec
    returns
    (λ c κs. search rules)
    returns-2
    returns-3
    (λ c κs. (c.closure_of-has.ensures, c.if-has-no-ne0.false))
    returns-4)
