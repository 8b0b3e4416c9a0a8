-- Each mark read is the last of the bytes that were left, and makes each word one bit longer.
use mir.Val.{bool_byte}
use Rattle.std.proofs.Common.{Bool, ◌≡◌, ◌≤◌, ◌+◌, ◌*◌, length, sym, ap, ◌∙◌, arith, take_all, ℕ}
use Rattle.table_bytes.specs.Bytes.{is_yes, is_no}
use Rattle.table_rows.specs.Rows.{bit_of}
use Rattle.table_rows.proofs.Rows.Laws.{bit-byte, front-before, front-length, word_none, word-front, word-front_small}
use Rattle.table_rows.proofs.row_of_marks.Goals as goal

pub loop-mark-init : goal.loop-mark-init
loop-mark-init c =
    let line = c.args.line.now in
    let first = c.into_iter-mark-iterator.result.iter.rest.now in
    let e : first ≡ line = cc in
    let h : length line ≤ length first = omega (arith, ap length e) in
    record {
      in_front = e ∙ sym (take_all (length first) line h);
      inside = omega (arith, ap length e);
      yes = sym (word_none is_yes line (length first) h);
      no = sym (word_none is_no line (length first) h);
    }

-- a test as a number, behind the word twice
add : (w k : ℕ) (t u : Bool) → k ≡ bool_byte t → t ≡ u → w + k ≡ w + bit_of u
add w k t u e f = ap (λ n. w + n) (e ∙ ap bool_byte f ∙ bit-byte u)

pub overflow_mul-yes : goal.overflow_mul-yes
overflow_mul-yes c =
    let l = c.loop-mark in
    let s = word-front_small is_yes _ _ _ _ l.invariant.in_front c.in-Some.ensures.steps l.invariant.inside c.requires in
    omega (arith, s)

pub overflow_add-yes : goal.overflow_add-yes
overflow_add-yes c =
    let l = c.loop-mark in
    let s = word-front_small is_yes _ _ _ _ l.invariant.in_front c.in-Some.ensures.steps l.invariant.inside c.requires in
    omega (arith, s, add (l.yes * 2) _ _ _ c.from.ensures c.is_yes.ensures)

pub overflow_mul-no : goal.overflow_mul-no
overflow_mul-no c =
    let l = c.loop-mark in
    let s = word-front_small is_no _ _ _ _ l.invariant.in_front c.in-Some.ensures.steps l.invariant.inside c.requires in
    omega (arith, s)

pub overflow_add-no : goal.overflow_add-no
overflow_add-no c =
    let l = c.loop-mark in
    let s = word-front_small is_no _ _ _ _ l.invariant.in_front c.in-Some.ensures.steps l.invariant.inside c.requires in
    omega (arith, s, add (l.no * 2) _ _ _ c.from-in-loop-mark.ensures c.is_no.ensures)

pub loop-mark-preserved : goal.loop-mark-preserved
loop-mark-preserved c =
    let line = c.args.line.now in
    let l = c.loop-mark in
    let left = l.mark-iterator.iter.rest.now in
    let behind = c.next.new.self.iter.rest.now in
    let b = c.in-Some.mark.now in
    let i = l.invariant in
    let last = c.in-Some.ensures.steps in
    record {
      in_front = front-before line left behind b i.in_front last;
      inside = omega (arith, i.inside, front-length line left behind b i.in_front last);
      yes =
          add (l.yes * 2) _ _ _ c.from.ensures c.is_yes.ensures
          ∙ ap (λ n. n * 2 + bit_of (is_yes b)) i.yes
          ∙ sym (word-front is_yes line left behind b i.in_front last i.inside);
      no =
          add (l.no * 2) _ _ _ c.from-in-loop-mark.ensures c.is_no.ensures
          ∙ ap (λ n. n * 2 + bit_of (is_no b)) i.no
          ∙ sym (word-front is_no line left behind b i.in_front last i.inside);
    }
