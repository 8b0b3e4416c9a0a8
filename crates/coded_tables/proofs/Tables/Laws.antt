-- The answer for a name by its cases (`no_name`, `name-found`); and an opening that found no layout leaves the one that it was given, so that
-- it is stored only where it changed (`table_kept`).
use Rattle.std.specs.Prelude.{◌≡◌, refl, Bool, true, false, Result, Ok, Err}
use Rattle.std.proofs.Common.{sym, ◌∙◌, true≢false, eq-eqb, ne_eqb}
use Rattle.session.specs.declared.Refusal.{Refusal}
use Rattle.session.specs.Choice.{chosen}
use Rattle.answer_words.specs.declared.Answer.{Answer as Coded}
use Rattle.answer_words.specs.Codes.{coded}
use Rattle.table_layout.specs.declared.Layout.{Layout}
use Rattle.name_spans.specs.declared.Span.{Span}
use Rattle.coded_tables.specs.Tables.{layout_after, is_found, OpensTable, FindsTable, code_of_span}

module _ (s : Span) where
  pub no_name : s.size ≡ 0 → coded 3 0 0 ≡ code_of_span s
  no_name e = rw (code_of_span, eq-eqb s.size 0 e)

  pub name-found : (s.size ≡ 0 → ⊥) → coded 103 s.at s.size ≡ code_of_span s
  name-found h = rw (code_of_span, ne_eqb s.size 0 h)

-- ---- the layout after an opening

left_alone : (o : Result Layout Refusal) (before : Layout) → is_found o ≡ false → before ≡ layout_after o before
left_alone (Ok l) before e = absurd (true≢false e)
left_alone (Err r) before e = refl

pub table_kept : {o : Result Layout Refusal} {before after : Layout} {x : Coded} {changed : Bool} → FindsTable o before x after changed
    → OpensTable o before x (chosen changed after before)
table_kept {o} {before} {after} {x} {changed} f = go changed refl
  where
    go : (b : Bool) → changed ≡ b → OpensTable o before x (chosen b after before)
    go true e = f.opens
    go false e = record { answer = f.opens.answer; layout = left_alone o before (sym f.change ∙ e) }
