-- One line more, and the last one.
use Rattle.std.specs.Prelude.{◌≡◌, ℕ, suc, ◌+◌, ◌-◌, ◌<◌, List, [], ◌∷◌, replicate, Result, Ok}
use Rattle.std.proofs.Common.{sym, ap, ◌∙◌, arith}
use Rattle.std.proofs.lemmas.Result.{err_from_is_err_and}
use Rattle.session.specs.declared.Refusal.{Refusal}
use Rattle.table_kinds.specs.declared.Kind.{Kind}
use Rattle.line_walk.specs.Walk.{walk}
use Rattle.table_walk.specs.Walk.{walk_on}
use Rattle.table_walk.proofs.Walk.Laws.{walk-on-none, walk-replicate-suc}
use Rattle.table_walk.proofs.walk_lines.Goals as goal

-- the line walked, and the lines not yet read, are those that were left
one-more : (file : List ℕ) (k : Kind) (count at i : ℕ) (v : Result ℕ Refusal) → i < count → v ≡ walk (k ∷ []) file at
    → walk_on v (replicate (count - (i + 1)) k) file ≡ walk_on (Ok at) (replicate (count - i) k) file
one-more file k count at i v h e =
    let n = count - (i + 1) in
    let s : suc n ≡ count - i = omega arith in
    rw e (sym (walk-replicate-suc file (Ok at) k n) ∙ ap (λ m. walk_on (Ok at) (replicate m k) file) s)

pub returns-in_err-at-2 : goal.returns-in_err-at-2
returns-in_err-at-2 c =
    let a = c.args in
    let l = c.loop in
    let p = err_from_is_err_and c.from_residual-in_err-at-2.result c.from_residual-in_err-at-2.ensures.1 in
    rw (p.1, p.2) (one-more a.file.now a.kind a.count l.at l.counter _ (omega arith) c.in_err-at-2.ensures ∙ l.invariant)

pub loop-preserved : goal.loop-preserved
loop-preserved c =
    let a = c.args in
    let l = c.loop in
    one-more a.file.now a.kind a.count l.at l.counter _ (omega arith) c.in_ok-at-2.ensures ∙ l.invariant

pub returns : goal.returns
returns c =
    let a = c.args in
    let l = c.loop in
    let e : 0 ≡ a.count - l.counter = omega arith in
    sym (walk-on-none a.file.now (Ok l.at)) ∙ ap (λ m. walk_on (Ok l.at) (replicate m a.kind) a.file.now) e ∙ l.invariant
