-- The loop that reads rows. Where i lines are read, the words so far with the rows of the lines left are those of all the lines, the
-- lines left pass, and every word past those written is as it was. This holds at the start, each line keeps it, and when no line
-- is left it says what is written.
use Rattle.std.specs.Prelude.{◌≡◌, refl, length, set, replicate}
use Rattle.std.proofs.Math.Path.{sym, ap}
use Rattle.std.proofs.Common.{◌∙◌, subst, take-append-drop, drop-drop, take-suc-set, drop-set-lt}
use mathlib.Core.List.{List, [], ◌∷◌, ◌++◌, append_assoc, append-nil}
use Prim.Native.Nat.{ℕ, suc, ◌+◌, ◌-◌, ◌*◌, ◌≤◌, ◌<◌}
use native.Mathlib.Omega.{arith}
use Rattle.std.proofs.Math.Nat.{sub-zero}
use Rattle.std.proofs.Math.ListN.{take, drop, length-set}
use Rattle.table_kinds.specs.declared.Kind.TheVariants.{Marks}
use Rattle.table_lines.specs.Lines.{bytes_at, after}
use Rattle.context.specs.Objects.{Object}
use Rattle.line_walk.specs.Walk.{walk}
use Rattle.table_walk.specs.Walk.{Passes}
use Rattle.table_rows.specs.Rows.{row_of, rows_from}
use Rattle.mark_reading.specs.Marks.{flat}
use Rattle.table_walk.proofs.Walk.Passed.{NextLine, next-line}

-- two stores at i * 2 make the words up to there two longer
take-stored : (ws : List ℕ) (i a b : ℕ) → (i + 1) * 2 ≤ length ws
    → take ((i + 1) * 2) (set (set ws (i * 2) a) (i * 2 + 1) b) ≡ take (i * 2) ws ++ (a ∷ b ∷ [])
take-stored ws i a b h =
    let l : (i + 1) * 2 ≡ suc (i * 2 + 1) = omega arith in
    let m : i * 2 + 1 ≡ suc (i * 2) = omega arith in
    ap (λ (j : ℕ). take j (set (set ws (i * 2) a) (i * 2 + 1) b)) l
    ∙ take-suc-set (set ws (i * 2) a) (i * 2 + 1) b (simp length-set (omega arith))
    ∙ ap (λ (j : ℕ). take j (set ws (i * 2) a) ++ (b ∷ [])) m
    ∙ ap (λ (t : List ℕ). t ++ (b ∷ [])) (take-suc-set ws (i * 2) a (omega arith))
    ∙ simp append_assoc

-- and leave those past them
drop-stored : (ws vs : List ℕ) (i a b : ℕ) → drop (i * 2) ws ≡ drop (i * 2) vs
    → drop ((i + 1) * 2) (set (set ws (i * 2) a) (i * 2 + 1) b) ≡ drop ((i + 1) * 2) vs
drop-stored ws vs i a b e =
    let k : i * 2 + 2 ≡ (i + 1) * 2 = omega arith in
    drop-set-lt ((i + 1) * 2) (set ws (i * 2) a) (i * 2 + 1) b (omega arith)
    ∙ drop-set-lt ((i + 1) * 2) ws (i * 2) a (omega arith)
    ∙ subst (λ (m : ℕ). drop m ws ≡ drop m vs) k (sym (drop-drop 2 (i * 2) ws) ∙ ap (drop 2) e ∙ drop-drop 2 (i * 2) vs)

-- i of the lines are read, and the next one begins at `at`
pub record Reads (part : List ℕ) (count n : ℕ) (before words : List ℕ) (at i : ℕ) : Type 0 where
  pub done : i ≤ count
  pub room : length words ≡ length before
  pub passes : Passes (walk (replicate (count - i) (Marks n)) part at)
  pub filled : take (i * 2) words ++ flat (rows_from (count - i) part at) ≡ flat (rows_from count part 0)
  pub past : drop (i * 2) words ≡ drop (i * 2) before

module _ (part : List ℕ) (count n : ℕ) (before : List ℕ) where
  pub reads-start : Passes (walk (replicate count (Marks n)) part 0) → Reads part count n before before 0 0
  reads-start p = record { done = omega arith; room = refl; passes = rw sub-zero p; filled = rw sub-zero; past = refl }

  module _ (words : List ℕ) (at i : ℕ) (r : Reads part count n before words at i) where
    module _ (h : i < count) where
      pub next : NextLine part count n at i
      next = next-line part count n at i h r.passes

      -- its row is stored
      pub reads_on : count * 2 ≤ length before → (o : Object) → o ≡ row_of (bytes_at part at)
          → Reads part count n before (set (set words (i * 2) o.yes_marks) (i * 2 + 1) o.no_marks) (after part at) (i + 1)
      unfolding rows_from flat
      reads_on fits o e =
          let m : suc (count - (i + 1)) ≡ count - i = omega arith in
          let left = rows_from (count - (i + 1)) part (after part at) in
          record {
            done = omega arith;
            room = simp length-set r.room;
            passes = next.passes;
            filled = ap (λ (t : List ℕ). t ++ flat left) (take-stored words i o.yes_marks o.no_marks (omega arith))
                ∙ append_assoc (take (i * 2) words) (o.yes_marks ∷ o.no_marks ∷ []) (flat left)
                ∙ ap (λ (x : Object). take (i * 2) words ++ flat (x ∷ left)) e
                ∙ ap (λ (k : ℕ). take (i * 2) words ++ flat (rows_from k part at)) m
                ∙ r.filled;
            past = drop-stored words before i o.yes_marks o.no_marks r.past;
          }

    -- no line is left
    pub reads_end : count ≤ i → words ≡ flat (rows_from count part 0) ++ drop (count * 2) before
    unfolding rows_from flat
    reads_end h =
        let e : count - i ≡ 0 = omega arith in
        let j : i ≡ count = omega arith in
        let o : take (i * 2) words ≡ flat (rows_from count part 0) =
        sym (append-nil _) ∙ ap (λ (k : ℕ). take (i * 2) words ++ flat (rows_from k part at)) (sym e) ∙ r.filled in
        sym (take-append-drop (i * 2) words)
        ∙ ap (λ (t : List ℕ). t ++ drop (i * 2) words) o
        ∙ ap (λ (t : List ℕ). flat (rows_from count part 0) ++ t) r.past
        ∙ ap (λ (m : ℕ). flat (rows_from count part 0) ++ drop (m * 2) before) j
