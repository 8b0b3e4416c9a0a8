-- Writing a file anew settles, for every file and every output (`rewritten`). And a text that was written so, written anew, is the same bytes
-- (`same-again`): request 2/13, of the call that runs.
use Rattle.std.specs.Prelude.{◌≡◌, refl, true, false, List, ◌++◌, ℕ, length, take, drop, Result, Ok, Err}
use Rattle.std.proofs.Common.{sym, ap, subst, ◌∙◌, true≢false, inl, inr}
use Rattle.std.proofs.Math.Seq.{take-append_seam}
use Rattle.session.specs.declared.Refusal.{Refusal}
use Rattle.table_layout.specs.declared.Layout.{Layout}
use Rattle.table_layout.specs.Layout.{opened_of}
use Rattle.table_layout.proofs.OfLayout.Passed.{starts-inside}
use Rattle.written_tables.specs.Settled.{text_again, Settles}
use Rattle.written_tables.proofs.Settled.Theorem.{settled}
use Rattle.rewritten_tables.specs.Rewriting.{no_rows, RewritesAs, RewritesFrom, SettlesAs, SameAgain}
use Rattle.rewritten_tables.proofs.Rewriting.Laws.{read_opened}

pub rewritten : (file out : List ℕ) (x : Result ℕ Refusal) (out' : List ℕ) → RewritesFrom file out x out' → SettlesAs (opened_of file) file out x out'
rewritten file out x out' w = go (opened_of file) refl w
  where
    go : (o : Result Layout Refusal) → opened_of file ≡ o → RewritesAs o file out x out' → SettlesAs o file out x out'
    go (Ok l) e v = settled file no_rows l (length file) out x out' (read_opened file ∙ e) (starts-inside file l e).2 v
    go (Err r) e v = v

-- a text that settles, at the start of an output
settled-again : (file : List ℕ) (l : Layout) (text rest : List ℕ) → Settles file l text → SameAgain (length text) (text ++ rest)
settled-again file l text rest s out₂ x out' w room =
    let e = take-append_seam text rest in
    let v = subst (λ o. RewritesAs o text out₂ x out') s.opened (subst (λ t. RewritesFrom t out₂ x out') e w) in
    let again = s.again no_rows (length text) out₂ x out' (read_opened text ∙ s.opened) (starts-inside text s.table s.opened).2 v room in
    (again.0, ap (take (length text)) again.1 ∙ take-append_seam text (drop (length text) out₂) ∙ sym e)

bytes-size : (a b : ℕ) → ◌≡◌ {A = Result ℕ Refusal} (Ok a) (Ok b) → a ≡ b
bytes-size a b e = cc

pub same-again : (file out : List ℕ) (size : ℕ) (out' : List ℕ) → RewritesFrom file out (Ok size) out' → SameAgain size out'
same-again file out size out' w = go (opened_of file) (rewritten file out (Ok size) out' w)
  where
    never : {A : Type 0} {r : Refusal} → Ok size ≡ Err r → A
    never e = absurd (true≢false (ap (λ (w : Result ℕ Refusal). elim w [ Ok k ↦ true | Err r ↦ false ]) e))

    go : (o : Result Layout Refusal) → SettlesAs o file out (Ok size) out' → SameAgain size out'
    go (Ok l) (inl h) = never h.0
    go (Ok l) (inr h) =
        let text = text_again file l no_rows (length file) in
        subst (λ k. SameAgain k out') (sym (bytes-size size (length text) h.0))
        (subst (SameAgain (length text)) (sym h.1) (settled-again file l text (drop (length text) out) h.2))
    go (Err r) h = never h.0
