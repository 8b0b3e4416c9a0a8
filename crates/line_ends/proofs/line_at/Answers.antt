-- Where an end stands, the line ends; the line at another byte is one longer than the line behind it; past the last byte there is none.
use Rattle.std.specs.Prelude.{◌≡◌, refl, Bool, true, false, List, ◌∷◌, ℕ, ◌+◌, ◌-◌, ◌≤◌, ◌<◌, length, get_or, drop, leb}
use Rattle.std.proofs.Common.{sym, ap, ◌∙◌, add-one, arith, leb-true, leb-false, drop_of_length-le, drop-cons}
use Rattle.table_lines.specs.declared.Line.{Line}
use Rattle.table_lines.specs.Lines.{end_of, line, longer, line_of}
use Rattle.table_lines.proofs.Lines.Laws.{line_same, line-none, line-end, line_on}
use Rattle.line_ends.proofs.line_at.Goals as goal

abbrev size_of : Line → ℕ
size_of l = l.size

abbrev step_of : Line → ℕ
step_of l = l.step

module _ (file : List ℕ) (i : ℕ) where
  ended : (k : ℕ) → k ≡ end_of (drop i file) → (k ≡ 0 → ⊥) → line_of (drop i file) ≡ line 0 k
  ended k e some = line-end _ (λ z. some (e ∙ z)) ∙ ap (line 0) (sym e)

  next : i < length file → end_of (drop i file) ≡ 0 → line_of (drop i file) ≡ longer (line_of (drop (i + 1) file))
  next h e =
      let b : drop i file ≡ get_or file i 0 ∷ drop (i + 1) file = rw add-one (drop-cons file i 0 h) in
      ap line_of b ∙ line_on _ _ (sym (ap end_of b) ∙ e)

  none : length file ≤ i → line_of (drop i file) ≡ line 0 0
  none h = ap line_of (drop_of_length-le file {i = i} h) ∙ line-none

-- no line ends in the file: its bytes from `at` on are the line
unended : (file : List ℕ) (at i : ℕ) → length file ≤ i → (at ≤ length file → i ≤ length file)
    → (line_of (drop at file)).size ≡ (line_of (drop i file)).size + (i - at)
    → (line_of (drop at file)).step ≡ (line_of (drop i file)).step + (i - at)
    → line (length file - at) (length file - at) ≡ line_of (drop at file)
unended file at i past inside s t = line_same _ _ _ (go (leb at (length file)) refl).0 (go (leb at (length file)) refl).1
  where
    e : line_of (drop i file) ≡ line 0 0
    e = none file i past

    go : (b : Bool) → leb at (length file) ≡ b
        → (length file - at ≡ (line_of (drop at file)).size) × (length file - at ≡ (line_of (drop at file)).step)
    go true h =
        let l : i ≤ length file = inside (leb-true _ _ h) in
        (omega (arith, s, past, ap size_of e), omega (arith, t, past, ap step_of e))
    go false h =
        let l : length file ≤ at = omega (arith, leb-false _ _ h) in
        let f = none file at l in
        (omega (arith, ap size_of f), omega (arith, ap step_of f))

pub returns-then-end-ne0 : goal.returns-then-end-ne0
returns-then-end-ne0 c =
    let l = ended c.args.file.now c.loop-i.i c.end_at-end.result c.end_at-end.ensures c.if-end-ne0.true in
    line_same _ _ _ (omega (arith, ap size_of l)) (omega (arith, ap step_of l))

pub loop-i-preserved : goal.loop-i-preserved
loop-i-preserved c =
    let l = next c.args.file.now c.loop-i.i c.loop-i-test.true (sym c.end_at-end.ensures ∙ c.if-end-ne0.false) in
    record { size = omega (arith, ap size_of l); step = omega (arith, ap step_of l) }

pub returns : goal.returns
returns c =
    let l = c.loop-i in
    let e = c.saturating_sub-size.ensures in
    ap (λ n. line n n) e ∙ unended c.args.file.now c.args.at l.i c.loop-i-test.false l.auto.i-end l.invariant.size l.invariant.step
