-- An opening that changed no record leaves the one that it was given, so that it is stored only where it changed (`opens_kept`).
use Rattle.std.specs.Prelude.{◌≡◌, refl, Bool, true, false, List, ℕ}
use Rattle.std.proofs.Common.{sym, ◌∙◌, true≢false}
use Rattle.session.specs.declared.Session.{Session}
use Rattle.session.specs.Choice.{chosen}
use Rattle.machine.specs.Machine.{Opening, opened, rejected}
use Rattle.machine.specs.Calls.{opening_from}
use Rattle.answer_words.specs.declared.Answer.{Answer as Coded}
use Rattle.answer_words.specs.Codes.{is_opened}
use Rattle.coded_opening.specs.Openings.{OpeningLeaves, OpensFrom, OpensTo}

leaves_kept : (o : Opening) (before after : Session) (rows list background : List ℕ) → is_opened o ≡ false
    → OpeningLeaves before after rows list background o → OpeningLeaves before before rows list background o
leaves_kept (opened s) before after rows list background e l = absurd (true≢false e)
leaves_kept (rejected r) before after rows list background e l = refl

pub opens_kept : {n used : ℕ} {before : Session} {rows list background : List ℕ} {x : Coded} {after : Session} {changed : Bool}
    → OpensTo n used before rows list background x after changed → OpensFrom n used before rows list background x (chosen changed after before)
opens_kept {n} {used} {before} {rows} {list} {background} {x} {after} {changed} o = go changed refl
  where
    go : (b : Bool) → changed ≡ b → OpensFrom n used before rows list background x (chosen b after before)
    go true e = o.opens
    go false e = record {
      answer = o.opens.answer;
      record_left = leaves_kept (opening_from n used rows list background) before after rows list background (sym o.change ∙ e) o.opens.record_left;
    }
