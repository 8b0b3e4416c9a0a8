-- A search along the pairs of a slice: how it moves from pair to pair, what it says of the pairs before it, and when one test holds
-- wherever another does.
use Rattle.std.specs.Prelude.{◌≡◌, Bool, ◌||◌, ℕ, zero, suc, ◌+◌, ◌-◌, ◌*◌, ◌≤◌, ◌<◌, length, drop, get_or}
use Rattle.std.proofs.Math.Path.{refl, ap}
use Rattle.std.proofs.Common.{sym, ◌∙◌, true≢false, add-one, arith}
use Rattle.std.proofs.Math.Bool.{true, false}
use mathlib.Core.List.{List, [], ◌∷◌, ◌++◌}
use Rattle.std.proofs.Math.Nat.{sub-zero}
use Rattle.std.proofs.Math.Dec.{ltb, leb-suc-suc}
use borrow.Author.Tests.{lt-ltb, le-ltb}
use Rattle.implication.specs.Pairs.{pairs}
use Rattle.implication.proofs.Pairs.Laws.{length_pairs, pairs-at, pairs_end}
use Rattle.context.specs.Places.{lowest, anywhere}
use Rattle.context.proofs.Places.Laws.{lowest-found, lowest-passed, lowest-most}

or_assoc : (a b c : Bool) → (a || (b || c)) ≡ ((a || b) || c)
or_assoc true b c = refl
or_assoc false b c = refl

module _ {A : Type 0} (f : A → Bool) where
  -- the first member, or one behind it
  pub anywhere-cons : (x : A) (l : List A) → anywhere f (x ∷ l) ≡ (f x || anywhere f l)
  unfolding anywhere
  anywhere-cons x l = go (f x) refl
    where
      go : (b : Bool) → f x ≡ b → ltb (lowest f (x ∷ l)) (suc (length l)) ≡ (b || ltb (lowest f l) (length l))
      go true e = lt-ltb (lowest f (x ∷ l)) (suc (length l)) (omega (arith, lowest-found f x l e))
      go false e = ap (λ (k : ℕ). ltb k (suc (length l))) (lowest-passed f x l e) ∙ leb-suc-suc (suc (lowest f l)) (length l)

  pub anywhere-one : (x : A) → anywhere f (x ∷ []) ≡ (f x || false)
  unfolding anywhere lowest
  anywhere-one x = anywhere-cons x []

  pub anywhere-append : (k l : List A) → anywhere f (k ++ l) ≡ (anywhere f k || anywhere f l)
  unfolding anywhere lowest
  anywhere-append [] l = refl
  anywhere-append (x ∷ k) l =
      anywhere-cons x (k ++ l) ∙ ap (λ b. f x || b) (anywhere-append k l) ∙ or_assoc (f x) (anywhere f k) (anywhere f l)
      ∙ ap (λ b. b || anywhere f l) (sym (anywhere-cons x k))

  module _ (make : ℕ → ℕ → A) (ws : List ℕ) (count : ℕ) where
    -- the test holds at pair i, or it fails there and the search goes on behind it, or no pair is left
    pub pair_found : (i : ℕ) → i < count → f (make (get_or ws (i * 2) 0) (get_or ws (i * 2 + 1) 0)) ≡ true
        → lowest f (pairs make (count - i) (drop (i * 2) ws)) ≡ 0
    pair_found i h e = ap (lowest f) (pairs-at make ws count i h) ∙ lowest-found f _ _ e

    pub pair-passed : (i : ℕ) → i < count → f (make (get_or ws (i * 2) 0) (get_or ws (i * 2 + 1) 0)) ≡ false
        → lowest f (pairs make (count - i) (drop (i * 2) ws)) ≡ suc (lowest f (pairs make (count - (i + 1)) (drop ((i + 1) * 2) ws)))
    pair-passed i h e = ap (lowest f) (pairs-at make ws count i h) ∙ lowest-passed f _ _ e

    pub pair-none : (i : ℕ) → count ≤ i → lowest f (pairs make (count - i) (drop (i * 2) ws)) ≡ 0
    unfolding lowest
    pair-none i h = ap (lowest f) (pairs_end make (drop (i * 2) ws) count i h)

    -- where no place before i is the lowest, the search is that from pair i on
    pub lowest-from : (i : ℕ) → i ≤ lowest f (pairs make count ws)
        → lowest f (pairs make count ws) ≡ i + lowest f (pairs make (count - i) (drop (i * 2) ws))
    lowest-from zero h = rw sub-zero (omega arith)
    lowest-from (suc i) h =
        let k = lowest-from i (omega arith) in
        go (f (make (get_or ws (i * 2) 0) (get_or ws (i * 2 + 1) 0))) refl k
        (omega (arith, lowest-most f (pairs make count ws), length_pairs make count ws))
      where
        go : (b : Bool) → f (make (get_or ws (i * 2) 0) (get_or ws (i * 2 + 1) 0)) ≡ b
            → lowest f (pairs make count ws) ≡ i + lowest f (pairs make (count - i) (drop (i * 2) ws)) → i < count
            → lowest f (pairs make count ws) ≡ suc i + lowest f (pairs make (count - suc i) (drop (suc i * 2) ws))
        go true e k l = absurd (omega (arith, pair_found i l e))
        go false e k l = rw (← add-one i) (omega (arith, pair-passed i l e))

    -- somewhere among the pairs just if the lowest place is one of them
    pub anywhere-at : lowest f (pairs make count ws) < count → anywhere f (pairs make count ws) ≡ true
    unfolding anywhere
    anywhere-at h = rw length_pairs (lt-ltb (lowest f (pairs make count ws)) count h)

    pub anywhere-none : count ≤ lowest f (pairs make count ws) → anywhere f (pairs make count ws) ≡ false
    unfolding anywhere
    anywhere-none h = rw length_pairs (le-ltb (lowest f (pairs make count ws)) count h)

-- a test of made pairs is a test of their words
pub anywhere-pairs : {A : Type 0} (f : A → Bool) (make : ℕ → ℕ → A) (count : ℕ) (ws : List ℕ)
    → anywhere f (pairs make count ws) ≡ anywhere (λ b. b) (pairs (λ x y. f (make x y)) count ws)
unfolding pairs anywhere lowest
anywhere-pairs f make zero ws = refl
anywhere-pairs f make (suc count) ws =
    let x = make (get_or ws 0 0) (get_or ws 1 0) in
    let g : ℕ → ℕ → Bool = λ a b. f (make a b) in
    anywhere-cons f x (pairs make count (drop 2 ws)) ∙ ap (λ b. f x || b) (anywhere-pairs f make count (drop 2 ws))
    ∙ sym (anywhere-cons (λ b. b) (f x) (pairs g count (drop 2 ws)))

-- a test that holds wherever another does has no higher place
pub lowest-le : {A : Type 0} (f g : A → Bool) → ((x : A) → g x ≡ true → f x ≡ true) → (l : List A) → lowest f l ≤ lowest g l
unfolding lowest
lowest-le f g h [] = omega arith
lowest-le f g h (x ∷ l) = go (f x) refl (g x) refl (lowest-le f g h l)
  where
    go : (a : Bool) → f x ≡ a → (b : Bool) → g x ≡ b → lowest f l ≤ lowest g l → lowest f (x ∷ l) ≤ lowest g (x ∷ l)
    go true e b d k = omega (arith, lowest-found f x l e)
    go false e true d k = absurd (true≢false (sym (h x d) ∙ e))
    go false e false d k = omega (arith, lowest-passed f x l e, lowest-passed g x l d)
