-- How the program ends, for every input: with the refusal of a file that is no complete table, and nothing before it (`program-refuses`);
-- or, for a complete table, in the L lines and the END line of a list that is decided and shortest for it, or in `E 12 0` behind the
-- Q line of a yes for which there is no place (`program-ends`). Other than the file's own, this is the only refusal: the program has
-- places for all rows of a file. Where other places are lent, the refused reply can be a no (`table-ends`). The program writes at
-- most 163,840 bytes (`output-size`).
use Rattle.std.specs.Prelude.{◌≡◌, refl, false, not, ◌||◌, ◌⊎◌, List, [], ℕ, ◌<◌, ◌≤◌, length, eqb, ltb, Result, Ok, Err}
use Rattle.std.proofs.Common.{subst, sym, ap, ◌∙◌, arith, ne_eqb, le-ltb}
use Rattle.attribute_set.specs.Sets.{inside, full}
use Rattle.attribute_set.proofs.Sets.Laws.{sub-inside, none-sub}
use Rattle.implication.specs.Closure.{close, closure}
use Rattle.context.specs.Places.{lowest, anywhere}
use Rattle.session.specs.Limits.{most_attributes, bad_length}
use Rattle.machine.specs.Checks.{Lent, State, outside_m, session_checks}
use Rattle.machine.proofs.Checks.Laws.{Passed, none-failing}
use Rattle.machine.specs.Machine.{Opening, opening, opened, rejected, opening_state}
use Rattle.table_layout.specs.Layout.{opened_of}
use Rattle.table_rows.proofs.Rows.Laws.{rows-count}
use Rattle.complete_tables.specs.Complete.{complete_of}
use Rattle.table_layout.proofs.OfLayout.Passed.{table-attributes, table-objects}
use Rattle.complete_tables.proofs.Complete.Laws.{complete-table, complete-layout}
use Rattle.table_layout.specs.declared.Layout.{Layout}
use Rattle.session.specs.declared.Refusal.{Refusal}
use Rattle.session.specs.Refusals.{refusal}
use Rattle.closing_lines.specs.Closing.{refusal_line}
use Rattle.closing_lines.proofs.Closing.Laws.{refusal-length}
use Rattle.transcript.specs.Output.{beats, enough, table_of, interviewed, written, output_with, places, output_most, output}
use Rattle.transcript.specs.Ending.{Concluded, Full, ListFull}
use Rattle.transcript.proofs.Core.Kept.{opened-along}
use Rattle.transcript.proofs.Core.Conclusion.{conclusion}
use Rattle.transcript.proofs.Core.Rows.{rows-suffice}
use Rattle.transcript.proofs.Core.Size.{size}

pub program-refuses : (lent : Lent) (file : List ℕ) (r : Refusal) → complete_of file (opened_of file) ≡ Err r
    → output_with lent file ≡ refusal_line (refusal r.number r.place)
unfolding output_with
program-refuses lent file r e = rw (output_with, e)

-- where these places are lent and accepted, the output is that of the interview
as-interviewed : (lent : Lent) (file : List ℕ) (l : Layout) (s : State) → complete_of file (opened_of file) ≡ Ok l
    → opening l.attributes lent [] [] ≡ opened s → output_with lent file ≡ beats (enough s) (table_of file l) s 0
unfolding output_with
as-interviewed lent file l s e o = ap (written lent file) e ∙ ap (interviewed (table_of file l)) o

pub table-ends : (lent : Lent) (file : List ℕ) (l : Layout) (s : State) → complete_of file (opened_of file) ≡ Ok l → opening l.attributes lent [] [] ≡ opened s
    → Concluded l.attributes (table_of file l) (output_with lent file) ⊎ Full l.attributes (output_with lent file)
table-ends lent file l s e o =
    subst (λ t. Concluded l.attributes (table_of file l) t ⊎ Full l.attributes t) (sym (as-interviewed lent file l s e o))
    (conclusion (table_of file l) l.attributes lent s (complete-table file l e) o)

-- the program's places are accepted for every number of attributes that a file can have
pub places-open : (n : ℕ) → 0 < n → n ≤ most_attributes → opening n places [] [] ≡ opened (opening_state n places [] [])
unfolding opening session_checks bad_length outside_m anywhere lowest closure close
places-open n l u =
    let passes : Passed (session_checks (opening_state n places [] []) []) = (attributes, (refl, (refl, (inside-m, (refl, (refl, (refl, tt))))))) in
    rw (opening, none-failing _ passes)
  where
    attributes : (eqb n 0 || ltb most_attributes n) ≡ false
    attributes = rw (ne_eqb n 0 (λ e. omega arith), le-ltb most_attributes n u)

    inside-m : not (inside 0 (full n)) ≡ false
    inside-m = rw (sub-inside (none-sub (full n)))

pub program-ends : (file : List ℕ) (l : Layout) → complete_of file (opened_of file) ≡ Ok l
    → Concluded l.attributes (table_of file l) (output file) ⊎ ListFull l.attributes (output file)
program-ends file l e =
    let k = complete-layout file l e in
    let t = table-attributes file l k in
    let o = places-open l.attributes t.0 t.1 in
    subst (λ t. Concluded l.attributes (table_of file l) t ⊎ ListFull l.attributes t) (sym (as-interviewed places file l _ e o))
    (rows-suffice (table_of file l) l.attributes places _ (complete-table file l e) o
    (omega (arith, table-objects file l k, rows-count l.objects file l.marks)))

-- only a reply writes a line before the end
pub output-size : (lent : Lent) (file : List ℕ) → length (output_with lent file) ≤ output_most
unfolding output_with
output-size lent file = go (complete_of file (opened_of file)) refl
  where
    held : (l : Layout) → complete_of file (opened_of file) ≡ Ok l → (o : Opening) → opening l.attributes lent [] [] ≡ o
        → length (interviewed (table_of file l) o) ≤ output_most
    held l e (opened s) f = size (enough s) (table_of file l) s 0 (opened-along (table_of file l) l.attributes lent s (complete-table file l e) f)
    held l e (rejected r) f = omega (arith, refusal-length r)

    go : (x : Result Layout Refusal) → complete_of file (opened_of file) ≡ x → length (written lent file x) ≤ output_most
    go (Ok l) e = held l e (opening l.attributes lent [] []) refl
    go (Err r) e = omega (arith, refusal-length (refusal r.number r.place))
