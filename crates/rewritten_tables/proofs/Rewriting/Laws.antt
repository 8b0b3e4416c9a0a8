-- What is read of a file into the row words of a session is what the file opens as (`read_opened`), so that the answer to the two calls, the
-- reader's and the writer's, is the one promised (`rewrites-refused`, `rewrites-found`).
use Rattle.std.specs.Prelude.{◌≡◌, List, ℕ, ◌*◌, length, Result, Err, Ok}
use Rattle.std.proofs.Common.{sym, ap, subst, ◌∙◌}
use Rattle.std.proofs.lemmas.List.{length-replicate}
use Rattle.session.specs.Limits.{most_objects}
use Rattle.session.specs.declared.Refusal.{Refusal}
use Rattle.table_layout.specs.declared.Layout.{Layout}
use Rattle.table_layout.specs.Layout.{opened_of}
use Rattle.table_layout.proofs.OfLayout.Passed.{table-objects}
use Rattle.mark_reading.specs.Marks.{reading, words_read}
use Rattle.mark_reading.proofs.Marks.Laws.{reading-all}
use Rattle.table_writing.specs.Writing.{WritesFrom}
use Rattle.written_tables.specs.Settled.{names_up_to, WritesAgain}
use Rattle.rewritten_tables.specs.Rewriting.{no_rows, RewritesAs, RewritesFrom}

pub read_opened : (file : List ℕ) → reading (length no_rows) file ≡ opened_of file
read_opened file =
    ap (λ (k : ℕ). reading k file) (length-replicate {A = ℕ} (most_objects * 2) 0)
    ∙ reading-all (opened_of file) (λ l e. table-objects file l e)

module _ (file out : List ℕ) (x : Result ℕ Refusal) (out' : List ℕ) where
  pub rewrites-found : (l : Layout) (ws : List ℕ) → opened_of file ≡ Ok l → ws ≡ words_read file no_rows
      → WritesFrom l.attributes l.objects ws (names_up_to file l (length file)) out x out' → RewritesFrom file out x out'
  rewrites-found l ws e read w =
      let again : WritesAgain file l no_rows (length file) out x out' =
      subst (λ words. WritesFrom l.attributes l.objects words (names_up_to file l (length file)) out x out') read w in
      subst (λ o. RewritesAs o file out x out') (sym e) again

  pub rewrites-refused : (r : Refusal) → opened_of file ≡ Err r → x ≡ Err r → out' ≡ out → RewritesFrom file out x out'
  rewrites-refused r e a b = subst (λ o. RewritesAs o file out x out') (sym e) (a, b)
