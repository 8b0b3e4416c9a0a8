-- The answers of listing in three words, a code and two values (02, request 3/13): the set is answered as an accepted reply is; a refusal
-- has its own number and its place.
use Rattle.std.specs.Prelude.{◌≡◌, ℕ, Result, Ok, Err}
use Rattle.session.specs.declared.Refusal.{Refusal}
use Rattle.machine.specs.Calls.{Words}
use Rattle.answer_words.specs.declared.Answer.{Answer as Coded}
use Rattle.answer_words.specs.Codes.{coded}
use Rattle.nearly_listing.specs.Listing.{listing}

abbrev pub code_of_nearly : Result ℕ Refusal → Coded
code_of_nearly (Ok set) = coded 103 set 0
code_of_nearly (Err r) = coded r.number r.place 0

-- the words say what listing answers, over the lent row words
abbrev pub ListsCoded : ℕ → ℕ → Words → ℕ → ℕ → Coded → Type 0
ListsCoded n used rows premise percent x = x ≡ code_of_nearly (listing n used rows.entry.now premise percent)
