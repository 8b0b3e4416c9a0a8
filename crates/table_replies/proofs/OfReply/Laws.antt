-- The reply by its cases, as the code takes them.
use Rattle.std.specs.Prelude.{◌≡◌, List, ℕ, ◌+◌, ◌*◌, ◌/◌, ◌<◌, ◌≤◌, min, get_or}
use Rattle.std.proofs.Math.Path.{ap}
use Rattle.std.proofs.Common.{◌∙◌}
use native.Mathlib.Omega.{arith}
use Rattle.std.proofs.Math.ListN.{length}
use borrow.Author.Tests.{lt-ltb, le-ltb}
use Rattle.implication.proofs.Pairs.Laws.{length_pairs, pairs-get}
use Rattle.implication.specs.Closure.{implication}
use Rattle.context.specs.Objects.{object, objects_of, first_written}
use Rattle.transcript.specs.Core.{core_no, core_yes, core_reply}
use Rattle.interview_replies.specs.declared.Interview.{Interview}
use Rattle.interview_replies.specs.Holding.{holding}
use Rattle.table_replies.specs.Reply.{Fits}

module _ (i : Interview) (rows list : List ℕ) (conclusion : ℕ) (objects : ℕ) (table : List ℕ) (fits : Fits i objects table rows list) (place whole : ℕ)
    (first : place ≡ first_written (objects_of objects table) (implication i.current conclusion)) (w : whole ≡ min objects (length table / 2)) where
  pub reply-no : place < whole
      → core_reply (objects_of objects table) (holding i rows list) i.changes (implication i.current conclusion)
      ≡ core_no (holding i rows list) i.changes (implication i.current conclusion) (place + 1) (object (get_or table (place * 2) 0) (get_or table (place * 2 + 1) 0))
  unfolding core_reply
  reply-no h =
      let q = implication i.current conclusion in
      let l : place < length (objects_of objects table) = omega (arith, length_pairs object objects table) in
      let r : place < objects = omega arith in
      let at : core_reply (objects_of objects table) (holding i rows list) i.changes q
      ≡ core_no (holding i rows list) i.changes q (place + 1) (get_or (objects_of objects table) place (object 0 0)) =
      rw (first, core_reply, lt-ltb _ _ (rw first at l)) in
      at ∙ ap (λ o. core_no (holding i rows list) i.changes q (place + 1) o) (pairs-get object objects place table (object 0 0) r)

  pub reply-yes : whole ≤ place
      → core_reply (objects_of objects table) (holding i rows list) i.changes (implication i.current conclusion)
      ≡ core_yes (holding i rows list) i.changes (implication i.current conclusion)
  unfolding core_reply
  reply-yes h =
      let l : length (objects_of objects table) ≤ place = omega (arith, fits.in_table, length_pairs object objects table) in
      rw (core_reply, le-ltb _ _ (rw first at l))
