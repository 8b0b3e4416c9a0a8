-- Cases at the edges of document 01's limits, for each refusal of a session, and with places above 0: one table below the marked
-- one. `Edges.Proof` proves the whole table by computing the definitions.
use Rattle.std.specs.Prelude.{◌≡◌, List, [], ◌∷◌, ℕ, ◌-◌, ◌^◌, replicate}
use Rattle.theory.specs.Implications.{Implication}
use Rattle.implication.specs.Closure.{implication}
use Rattle.context.specs.Objects.{Object, object}
use Rattle.session.specs.Refusals.{refusal}
use Rattle.machine.specs.Checks.{Lent, State}
use Rattle.machine.specs.Machine.{step, accept, reject, follow, refute, test, file, fill, finished, asked, taken, refuted, refuting, refused, turn, move_to, agreeing, after_yes, perform, rejected, opened, opening, opening_state}

-- lent lengths: row words, list words, background words
abbrev pub lent : ℕ → ℕ → ℕ → Lent
lent rows list background = record { rows = rows; list = list; background = background }

-- n = 3, background {0,1} → {2}, current set {0}
abbrev pub over : Lent → List Object → State
over l rows = record { n = 3; lent = l; background = implication 3 4 ∷ []; rows = rows; list = []; current = 1 }

-- n = 4, background {0,1,2} → {3}, current set {0}
abbrev pub wider : Lent → List Object → State
wider l rows = record { n = 4; lent = l; background = implication 7 8 ∷ []; rows = rows; list = []; current = 1 }

-- n = 4, one rule in force, places for four rows and four rules, current set {0}
abbrev pub under : Implication ℕ → List Object → State
under r rows = record { n = 4; lent = lent 8 8 2; background = r ∷ []; rows = rows; list = []; current = 1 }

-- so many rows that mark nothing
abbrev pub blank : ℕ → List Object
blank k = replicate k (object 0 0)

-- so many rules {} → {}, with n = 3 and the current set {}
abbrev pub listed : ℕ → State
listed k = record { n = 3; lent = lent 2 512 0; background = []; rows = []; list = replicate k (implication 0 0); current = 0 }

pub record Edges : Type 0 where
  -- 64 attributes pass, 65 and 0 do not
  pub attributes_at_most : opening 64 (lent 0 0 0) [] [] ≡ opened (opening_state 64 (lent 0 0 0) [] [])
  pub too_many_attributes : opening 65 (lent 0 0 0) [] [] ≡ rejected (refusal 1 0)
  pub no_attributes : opening 0 (lent 0 0 0) [] [] ≡ rejected (refusal 1 0)
  -- 1,024 row words pass, 1,026 and 1,023 do not; 512 and 514 for list and background
  pub most_words : opening 3 (lent 1024 512 512) [] [] ≡ opened (opening_state 3 (lent 1024 512 512) [] [])
  pub too_many_row_words : opening 3 (lent 1026 0 0) [] [] ≡ rejected (refusal 2 0)
  pub odd_row_words : opening 3 (lent 1023 0 0) [] [] ≡ rejected (refusal 2 0)
  pub too_many_list_words : opening 3 (lent 0 514 0) [] [] ≡ rejected (refusal 2 0)
  pub odd_list_words : opening 3 (lent 0 511 0) [] [] ≡ rejected (refusal 2 0)
  pub too_many_background_words : opening 3 (lent 0 0 514) [] [] ≡ rejected (refusal 2 0)
  pub odd_background_words : opening 3 (lent 0 0 1) [] [] ≡ rejected (refusal 2 0)
  -- 512 rows in use pass, 513 have no places
  pub most_rows : opening 3 (lent 1024 0 0) [] (blank 512) ≡ opened (opening_state 3 (lent 1024 0 0) [] (blank 512))
  pub too_many_rows : opening 3 (lent 1024 0 0) [] (blank 513) ≡ rejected (refusal 3 0)
  -- 256 rules in use pass, and a yes finds no place; with 255 it is taken
  pub most_rules : (perform (listed 256) step).answer ≡ asked (implication 0 7)
  pub no_place_for_a_rule : (perform (listed 256) accept).answer ≡ refused (refusal 12 0)
  pub last_place_for_a_rule : (perform (listed 255) accept).answer ≡ taken
  pub too_many_rules : (perform (listed 257) step).answer ≡ refused (refusal 3 0)
  -- attribute 3 in a row, in a rule, in the current set, in a rule asked about
  pub four_row : (perform (over (lent 2 2 2) (object 0 8 ∷ [])) step).answer ≡ refused (refusal 4 0)
  pub four_rule : opening 3 (lent 2 2 2) (implication 0 8 ∷ []) [] ≡ rejected (refusal 4 0)
  pub four_current : (perform (move_to (over (lent 2 2 2) []) 9) step).answer ≡ refused (refusal 4 0)
  pub four_asked : (perform (over (lent 2 2 2) []) (follow (implication 0 8))).answer ≡ refused (refusal 4 0)
  -- the third row marks attribute 1 both ways, and so does the fourth: 5 names the lowest
  pub five : (perform (over (lent 8 2 2) (object 1 0 ∷ object 1 2 ∷ object 2 2 ∷ object 2 2 ∷ [])) step).answer ≡ refused (refusal 5 2)
  -- the second row has 0 and 1 and lacks 2, and so does the third: 6 names the lowest
  pub six : (perform (over (lent 6 2 2) (object 1 0 ∷ object 3 4 ∷ object 3 4 ∷ [])) step).answer ≡ refused (refusal 6 1)
  -- under {} → {0} a row that lacks 0 contradicts, also without yes marks
  pub six_of_nothing : (perform (under (implication 0 1) (object 0 1 ∷ [])) step).answer ≡ refused (refusal 6 0)
  -- the first row contradicts and the second marks an attribute both ways: 5 comes before 6
  pub five_before_six : (perform (over (lent 4 2 2) (object 3 4 ∷ object 2 2 ∷ [])) step).answer ≡ refused (refusal 5 1)
  -- {0, 1} is not its own closure under the background, nor {0} under a list with {0} → {1, 2}
  pub seven : (perform (move_to (over (lent 2 2 2) []) 3) step).answer ≡ refused (refusal 7 0)
  pub seven_list : (perform (move_to (after_yes (over (lent 2 2 2) [])) 1) step).answer ≡ refused (refusal 7 0)
  -- no question stands at M, nor at a set that equals its reach
  pub eight_yes : (perform (move_to (over (lent 2 2 2) []) 7) accept).answer ≡ refused (refusal 8 0)
  pub eight_no : (perform (over (lent 4 2 2) (object 1 6 ∷ [])) (reject (object 1 6))).answer ≡ refused (refusal 8 0)
  -- an offered row with attribute 3, and one that marks attribute 1 both ways
  pub nine_outside : (perform (over (lent 4 2 2) []) (reject (object 9 2))).answer ≡ refused (refusal 9 0)
  pub nine_twice : (perform (over (lent 4 2 2) []) (reject (object 3 2))).answer ≡ refused (refusal 9 0)
  -- the question is {0} → {1, 2}: a row without 0, and a row that lacks neither 1 nor 2
  pub ten_premise : (perform (over (lent 4 2 2) []) (reject (object 0 2))).answer ≡ refused (refusal 10 0)
  pub ten_conclusion : (perform (over (lent 4 2 2) []) (reject (object 1 0))).answer ≡ refused (refusal 10 0)
  -- under {2} → {0} a row with 2 has the premise {0}
  pub ten_had : (perform (under (implication 4 1) []) (reject (object 4 2))).answer ≡ taken
  -- under {0,1,2} → {3} a row with 0 and 1 that lacks 3 lacks 2, of the question {0} → {1, 2}
  pub ten_lacked : (perform (wider (lent 6 2 2) (object 1 8 ∷ [])) (reject (object 3 8))).answer ≡ taken
  -- under {1} → {3} the question is {0} → {2}; an offered row that contradicts lacks every attribute, and 11 refuses it
  pub eleven_not_ten : (perform (under (implication 2 8) (object 1 8 ∷ [])) (reject (object 3 8))).answer ≡ refused (refusal 11 0)
  -- under {0,1} → {2} the row with 0 that lacks 2 lacks 1, and is the first that refutes {0} → {1}
  pub refuted_lacked : (perform (over (lent 6 2 2) (object 1 0 ∷ object 1 4 ∷ [])) (refute (implication 1 2))).answer ≡ refuted 1
  -- with {1} → {0} in the list a row with 1 has 0, and refutes {0} → {2} where it lacks 2
  pub refuted_had : (perform (agreeing (wider (lent 6 2 2) (object 2 4 ∷ [])) (implication 2 1)) (refute (implication 1 4))).answer ≡ refuted 0
  -- so at {0} a step asks of 1 and 3, and not of 2
  pub asked_had : (perform (move_to (agreeing (wider (lent 6 2 2) (object 2 4 ∷ [])) (implication 2 1)) 1) step).answer ≡ asked (implication 1 10)
  -- under {} → {0} a row offered without yes marks has the premise {0}; one that lacks 0 contradicts
  pub eleven_of_nothing : (perform (under (implication 0 1) []) (reject (object 0 1))).answer ≡ refused (refusal 11 0)
  -- a yes to {0} → {1, 2} contradicts the second row, which has 0 and lacks 3, and the third: 11 names the lowest
  pub eleven : (perform (wider (lent 6 2 2) (object 2 0 ∷ object 1 8 ∷ object 1 8 ∷ [])) accept).answer ≡ refused (refusal 11 1)
  -- 11 is tested before 12
  pub eleven_before_twelve : (perform (wider (lent 6 0 2) (object 2 0 ∷ object 1 8 ∷ object 1 8 ∷ [])) accept).answer ≡ refused (refusal 11 1)
  -- a no that contradicts has the place 0
  pub no_contradicts : (perform (over (lent 4 2 2) (object 2 0 ∷ [])) (reject (object 3 4))).answer ≡ refused (refusal 11 0)
  -- a row that fits finds the last place, or none
  pub last_place_for_a_row : (perform (over (lent 4 2 2) (object 2 0 ∷ [])) (reject (object 1 4))).answer ≡ taken
  pub no_place_for_a_row : (perform (over (lent 2 2 2) (object 2 0 ∷ [])) (reject (object 1 4))).answer ≡ refused (refusal 12 0)
  -- a test of a row that refutes the question {0} → {1, 2} says so and leaves the state; it needs no place, and does not ask whether the row
  -- contradicts
  pub test_refutes : perform (over (lent 2 2 2) (object 2 0 ∷ [])) (test (object 1 4)) ≡ turn refuting (over (lent 2 2 2) (object 2 0 ∷ []))
  pub test_contradicting : (perform (over (lent 4 2 2) []) (test (object 3 4))).answer ≡ refuting
  -- 8 of a test, before 9; then 9, and 10 of rows that do not refute
  pub test_eight : (perform (move_to (over (lent 2 2 2) []) 7) (test (object 9 0))).answer ≡ refused (refusal 8 0)
  pub test_nine : (perform (over (lent 4 2 2) []) (test (object 3 2))).answer ≡ refused (refusal 9 0)
  pub test_ten_premise : (perform (over (lent 4 2 2) []) (test (object 0 2))).answer ≡ refused (refusal 10 0)
  pub test_ten_conclusion : (perform (over (lent 4 2 2) []) (test (object 1 0))).answer ≡ refused (refusal 10 0)
  -- a filing of a row that refutes nothing, to a standing question: it is the last row, and the set stays
  pub filed : perform (over (lent 4 2 2) (object 2 0 ∷ [])) (file (object 0 2)) ≡ turn taken (over (lent 4 2 2) (object 2 0 ∷ object 0 2 ∷ []))
  -- with no question, at a set that equals its reach, and at M, where a step still answers Finished
  pub filed_unasked : (perform (over (lent 4 2 2) (object 1 6 ∷ [])) (file (object 0 0))).answer ≡ taken
  pub filed_at_M : perform (move_to (over (lent 2 2 2) []) 7) (file (object 1 4)) ≡ turn taken (move_to (over (lent 2 2 2) (object 1 4 ∷ [])) 7)
  pub finished_after : (perform (move_to (over (lent 2 2 2) (object 1 4 ∷ [])) 7) step).answer ≡ finished
  -- 9 of a filing; 11, also where no place is left; 12
  pub file_nine_outside : (perform (over (lent 4 2 2) []) (file (object 9 2))).answer ≡ refused (refusal 9 0)
  pub file_nine_twice : (perform (move_to (over (lent 4 2 2) []) 7) (file (object 3 2))).answer ≡ refused (refusal 9 0)
  pub file_eleven : (perform (over (lent 2 2 2) (object 2 0 ∷ [])) (file (object 3 4))).answer ≡ refused (refusal 11 0)
  pub file_twelve : (perform (over (lent 2 2 2) (object 2 0 ∷ [])) (file (object 0 2))).answer ≡ refused (refusal 12 0)
  -- a filling of the second of three rows: its marks are added, the other rows and the set stay; marks that are known may be offered again, all of
  -- them too
  pub filled : perform (over (lent 6 2 2) (object 2 0 ∷ object 0 4 ∷ object 1 0 ∷ [])) (fill 1 (object 1 2))
      ≡ turn taken (over (lent 6 2 2) (object 2 0 ∷ object 1 6 ∷ object 1 0 ∷ []))
  pub fill_again : perform (over (lent 6 2 2) (object 2 0 ∷ object 1 6 ∷ [])) (fill 1 (object 1 2)) ≡ turn taken (over (lent 6 2 2) (object 2 0 ∷ object 1 6 ∷ []))
  pub fill_nothing : perform (over (lent 6 2 2) (object 1 6 ∷ [])) (fill 0 (object 0 0)) ≡ turn taken (over (lent 6 2 2) (object 1 6 ∷ []))
  -- of the first row and of the last in use, also where no place is left
  pub fill_first : perform (over (lent 4 2 2) (object 1 0 ∷ object 2 0 ∷ [])) (fill 0 (object 0 4)) ≡ turn taken (over (lent 4 2 2) (object 1 4 ∷ object 2 0 ∷ []))
  pub fill_last : perform (over (lent 4 2 2) (object 1 0 ∷ object 2 0 ∷ [])) (fill 1 (object 0 4)) ≡ turn taken (over (lent 4 2 2) (object 1 0 ∷ object 2 4 ∷ []))
  -- with no question, and at M, where a step still answers Finished
  pub fill_unasked : (perform (over (lent 4 2 2) (object 1 6 ∷ object 0 0 ∷ [])) (fill 1 (object 2 0))).answer ≡ taken
  pub fill_at_M : perform (move_to (over (lent 2 2 2) (object 1 0 ∷ [])) 7) (fill 0 (object 0 4)) ≡ turn taken (move_to (over (lent 2 2 2) (object 1 4 ∷ [])) 7)
  -- 32: the number of rows in use, one of a place without a row, the largest word; before 9
  pub fill_next_number : (perform (over (lent 8 2 2) (object 1 0 ∷ object 2 0 ∷ [])) (fill 2 (object 0 4))).answer ≡ refused (refusal 32 0)
  pub fill_no_rows : (perform (over (lent 8 2 2) []) (fill 0 (object 0 0))).answer ≡ refused (refusal 32 0)
  pub fill_largest_number : (perform (over (lent 8 2 2) (object 1 0 ∷ [])) (fill (2 ^ 64 - 1) (object 3 2))).answer ≡ refused (refusal 32 0)
  -- 9 of the offered marks: an attribute outside M, one marked both ways; before 33
  pub fill_nine_outside : (perform (over (lent 2 2 2) (object 1 0 ∷ [])) (fill 0 (object 8 0))).answer ≡ refused (refusal 9 0)
  pub fill_nine_twice : (perform (over (lent 2 2 2) (object 1 0 ∷ [])) (fill 0 (object 2 3))).answer ≡ refused (refusal 9 0)
  -- 33: a yes would become a no, and a no a yes; before 11
  pub fill_yes_to_no : (perform (over (lent 4 2 2) (object 2 0 ∷ object 1 0 ∷ [])) (fill 1 (object 0 1))).answer ≡ refused (refusal 33 0)
  pub fill_no_to_yes : (perform (over (lent 4 2 2) (object 2 0 ∷ object 0 1 ∷ [])) (fill 1 (object 1 0))).answer ≡ refused (refusal 33 0)
  pub fill_33_before_11 : (perform (over (lent 2 2 2) (object 1 4 ∷ [])) (fill 0 (object 2 1))).answer ≡ refused (refusal 33 0)
  -- 11: with 1 the row has 2, which it lacks; and a row with 0 and 1 has 2 by what is in force, so that a no to 2 contradicts, and reverses no mark
  pub fill_eleven : (perform (over (lent 2 2 2) (object 1 4 ∷ [])) (fill 0 (object 2 0))).answer ≡ refused (refusal 11 0)
  pub fill_eleven_implied : (perform (over (lent 2 2 2) (object 3 0 ∷ [])) (fill 0 (object 0 4))).answer ≡ refused (refusal 11 0)
