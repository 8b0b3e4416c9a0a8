-- The search finds the first row behind the place.
use Rattle.std.proofs.Common.{◌+◌, ◌*◌, ◌-◌, ℕ, sym, ap, subst, ◌∙◌, w64, Fits, arith, length, get_or, take, drop, length-drop}
use Rattle.std.proofs.lemmas.List.{get_or-drop, take_rest}
use Rattle.context.specs.Places.{lowest}
use Rattle.context.specs.Objects.{object, objects_of, marked_twice}
use Rattle.word_pairs.proofs.Lowest.{first-whole}
use Rattle.mark_checks.proofs.first_double.Goals as goal

pub returns : goal.returns
returns c =
    let a = c.args in
    let from = a.from * 2 in
    let rest = take_rest a.rows.now from in
    ap (λ k. a.from + k)
    (first-whole marked_twice object (take (length a.rows.now - from) (drop from a.rows.now)) (a.count - a.from) _
    (subst (λ ws. (i : ℕ) → Fits w64 (get_or ws i 0)) (sym rest) (λ i. subst (Fits w64) (sym (get_or-drop from a.rows.now i 0)) (c.type_inv.rows (from + i))))
    (λ y n h k b e. e) _ c.first_that.ensures (omega (arith, ap length rest, length-drop from a.rows.now))
    ∙ ap (λ ws. lowest marked_twice (objects_of (a.count - a.from) ws)) rest)
