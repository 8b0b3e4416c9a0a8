-- The place of the first whole chunk that passes a test, or the count where none does, is what `FirstThat` says.
use Rattle.std.specs.Prelude.{◌≡◌, Bool, true, false, List, [], ℕ, ◌*◌, ◌+◌, ◌/◌, ◌<◌, min, length, get_or, take}
use Rattle.std.specs.List.{AllWithin, HoldsAt}
use Rattle.std.specs.Simd.{first_chunks}
use Rattle.std.proofs.Common.{arith, subst₂}
use Rattle.word_pairs.specs.Walks.{FirstThat}
use Rattle.word_pairs.proofs.Chunks.{length_taken, first_word, second_word}

module _ (test : ℕ → ℕ → Bool) where
  -- the test of the two words of a chunk has this result
  abbrev pub Gives : Bool → List ℕ → Type 0
  Gives b chunk = b ≡ test (get_or chunk 0 0) (get_or chunk 1 0)

  module _ (ws : List ℕ) (cs : List (List ℕ)) (whole : cs ≡ first_chunks 2 (length ws / 2) ws) (count n : ℕ)
      (least : n ≡ min count (length ws / 2)) where
    of_pair : (b : Bool) (i : ℕ) → i < length (take n cs) → HoldsAt (Gives b) (take n cs) i
        → b ≡ test (get_or ws (i * 2) 0) (get_or ws (i * 2 + 1) 0)
    of_pair b i h at = subst₂ (λ x y. b ≡ test x y) (first_word ws cs whole n i h) (second_word ws cs whole n i h) (at [])

    pub none-found : AllWithin (Gives false) (take n cs) 0 (length (take n cs)) → FirstThat (λ a b r. r ≡ test a b) count ws count
    none-found none =
        let l = length_taken ws cs whole n in
        record {
          most = omega arith;
          before = λ i h j.
              let k : i < length (take n cs) = omega (arith, l, least) in
              of_pair false i k (λ d. none i d (omega arith) k);
          at = λ h. absurd (omega arith);
        }

    pub first-found : (k : ℕ) → (k < length (take n cs)) × HoldsAt (Gives true) (take n cs) k × AllWithin (Gives false) (take n cs) 0 k
        → FirstThat (λ a b r. r ≡ test a b) count ws k
    first-found k found =
        let l = length_taken ws cs whole n in
        record {
          most = omega (arith, l, least, found.0);
          before = λ i h j. of_pair false i (omega (arith, found.0)) (λ d. found.2 i d (omega arith) h);
          at = λ h. (omega (arith, l, least, found.0), of_pair true k found.0 found.1);
        }
