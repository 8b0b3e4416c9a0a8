-- One pass counts all rows: nothing at first (`counted_start`), a row more with each turn (`counts-has`, `counts-lacks`), and in the end no
-- row is left (`counted-end`). A count is at most the number of rows (`counted-small`). The counts decide what the definition's test does
-- (`exceeds-counted`), attribute by attribute (`passing-joined`).
use Rattle.std.specs.Prelude.{◌≡◌, refl, true, false, ◌⊎◌, List, [], ℕ, suc, ◌+◌, ◌*◌, ◌/◌, ◌%◌, ◌^◌, ◌≤◌, ◌<◌, length, get_or, set, replicate}
use Rattle.std.proofs.Common.{sym, ap, ◌∙◌, inl, inr, arith, div-one, mod-eq_of_lt, mul-le-mul, lt_of_le_of_lt, lt_of_lt_of_le, shr-shr, pow_mono, length-set, get_or-set_same, get_or-set_other, lit<, lt-ltb, le-ltb}
use Rattle.std.proofs.Math.Nat.{pow-zero}
use Rattle.std.proofs.lemmas.List.{get_or-replicate}
use Rattle.std.specs.Int.Bits.{bit_or}
use Rattle.session.specs.Limits.{most_attributes, most_objects}
use Rattle.attribute_set.specs.Sets.{digit, inside}
use Rattle.attribute_set.proofs.Sets.Laws.{lt-or-le}
use Rattle.attribute_set.specs.Lectic.{raise}
use Rattle.attribute_set.proofs.Lectic.Laws.{raise-lt}
use Rattle.context.specs.Objects.{Object, object}
use Rattle.attribute_set.specs.Passing.{passing}
use Rattle.attribute_set.proofs.Passing.Laws.{passing-same}
use Rattle.nearly_always.specs.Nearly.{exceeds, most_percent}
use Rattle.nearly_always.proofs.Nearly.Laws.{support-has, support-lacks, support-none, support-with, support-without, support-most}
use Rattle.nearly_always.specs.Nearly.Counting.{Zero, Small, Adds, Adding, Counted, CountedBut, CountsRow, exceeds_by, joined_by}

-- ---- the attributes of a row

pub adding-start : (marks : ℕ) (counts : List ℕ) → Adding marks 0 marks counts counts
adding-start marks counts = record {
  same_length = refl;
  rest = omega (arith, pow-zero 2, div-one marks);
  below = λ i h. absurd (omega arith);
  above = λ i h. refl;
}

pub adding-step : (marks j left : ℕ) (before now : List ℕ) → j < length now → Adding marks j left before now
    → Adding marks (j + 1) (left / 2) before (set now j (get_or now j 0 + left % 2))
adding-step marks j left before now l a = record {
  same_length = length-set now j _ ∙ a.same_length;
  rest = ap (λ (k : ℕ). k / 2) a.rest ∙ halved;
  below = λ i h. at i h (lt-or-le i j);
  above = λ i h. get_or-set_other now j i _ 0 (λ e. absurd (omega (arith, h, e))) ∙ a.above i (omega (arith, h));
}
  where
    halved : marks / 2 ^ j / 2 ≡ marks / 2 ^ (j + 1)
    halved = shr-shr marks j 1

    at : (i : ℕ) → i < j + 1 → (i < j) ⊎ (j ≤ i)
        → get_or (set now j (get_or now j 0 + left % 2)) i 0 ≡ get_or before i 0 + digit marks i
    at i h (inl m) = get_or-set_other now j i _ 0 (λ e. absurd (omega (arith, m, e))) ∙ a.below i m
    at i h (inr m) =
        let e : i ≡ j = omega (arith, h, m) in
        rw e (get_or-set_same now j _ 0 l ∙ rw (a.above j (omega arith), a.rest))

pub adding-end : (n marks j left : ℕ) (before now : List ℕ) → n ≤ j → Adding marks j left before now → Adds n marks before now
adding-end n marks j left before now h a = record {
  same_length = a.same_length;
  at = λ i l. a.below i (omega (arith, h, l));
}

-- ---- the rows

pub zero-counts : (n k : ℕ) → n ≤ k → Zero n (replicate k 0)
zero-counts n k l = record { at = λ j h. get_or-replicate k j 0 0 (omega (arith, h, l)) }

pub counted_start : (n : ℕ) (os : List Object) (premise : ℕ) (counts : List ℕ) → Zero n counts → CountedBut n os os premise 0 counts
counted_start n os premise counts z = record {
  with_premise = omega arith;
  one_attribute = λ j h. omega (arith, z.at j h);
}

pub counted-end : (n : ℕ) (os : List Object) (premise total : ℕ) (counts : List ℕ) → CountedBut n [] os premise total counts → Counted n os premise total counts
counted-end n os premise total counts c = record {
  with_premise = omega (arith, c.with_premise, support-none premise);
  one_attribute = λ j h. omega (arith, c.one_attribute j h, support-none (bit_or premise (2 ^ j)));
}

module _ (n premise yes total : ℕ) (before : List ℕ) where
  -- the row has the premise
  pub counts-has : (after : List ℕ) → inside premise yes ≡ true → Adds n yes before after → CountsRow n premise yes total before (total + 1) after
  counts-has after e adds = record {
    same_length = adds.same_length;
    counted = λ rest os no c. record {
      with_premise = omega (arith, c.with_premise, support-has premise (object yes no) rest e);
      one_attribute = λ j h. omega (arith, c.one_attribute j h, adds.at j h, support-with premise j (object yes no) rest e);
    };
  }

  -- it has not
  pub counts-lacks : inside premise yes ≡ false → CountsRow n premise yes total before total before
  counts-lacks e = record {
    same_length = refl;
    counted = λ rest os no c. record {
      with_premise = omega (arith, c.with_premise, support-lacks premise (object yes no) rest e);
      one_attribute = λ j h. omega (arith, c.one_attribute j h, support-without premise j (object yes no) rest e);
    };
  }

pub counted-small : (n : ℕ) (rest os : List Object) (premise total : ℕ) (counts : List ℕ) → CountedBut n rest os premise total counts
    → length os ≤ most_objects → Small n counts × (total ≤ most_objects)
counted-small n rest os premise total counts c fits = (
  record { at = λ j h. omega (arith, c.one_attribute j h, support-most (bit_or premise (2 ^ j)) os, fits) },
  omega (arith, c.with_premise, support-most premise os, fits),
)

pub all_small : (n : ℕ) (os : List Object) (premise total : ℕ) (counts : List ℕ) → Counted n os premise total counts → length os ≤ most_objects
    → Small n counts × (total ≤ most_objects)
all_small n os premise total counts c fits = (
  record { at = λ j h. omega (arith, c.one_attribute j h, support-most (bit_or premise (2 ^ j)) os, fits) },
  omega (arith, c.with_premise, support-most premise os, fits),
)

-- ---- counts that exceed

module _ (percent total counted j set : ℕ) where
  -- the attribute is raised above those below it
  pub joined-raised : percent * total < 100 * counted → j < most_attributes → set < 2 ^ j → raise set j % 2 ^ 64 ≡ joined_by percent total counted j set
  joined-raised h l s =
      mod-eq_of_lt (lt_of_lt_of_le (raise-lt set j) (pow_mono l)) ∙ ap (λ (k : ℕ). 2 ^ j + k) (mod-eq_of_lt s)
      ∙ sym (rw (joined_by, lt-ltb (percent * total) (100 * counted) h))

  pub joined-kept : 100 * counted ≤ percent * total → set ≡ joined_by percent total counted j set
  joined-kept h = rw (joined_by, le-ltb (percent * total) (100 * counted) h)

  -- the products fit a word
  pub product-fits : percent ≤ most_percent → total ≤ most_objects → percent * total < 2 ^ 64
  product-fits p t = lt_of_le_of_lt (mul-le-mul p t) (lit< tt)

pub passing-joined : (percent total : ℕ) (counts : List ℕ) (j : ℕ)
    → joined_by percent total (get_or counts j 0) j (passing (exceeds_by percent total counts) j) ≡ passing (exceeds_by percent total counts) (suc j)
unfolding passing
passing-joined percent total counts j = refl

pub exceeds-counted : (n percent total : ℕ) (os : List Object) (premise : ℕ) (counts : List ℕ) → Counted n os premise total counts
    → passing (exceeds_by percent total counts) n ≡ passing (exceeds percent os premise) n
unfolding exceeds
exceeds-counted n percent total os premise counts c =
    passing-same (exceeds_by percent total counts) (exceeds percent os premise) n
    (λ j h. rw (c.with_premise, c.one_attribute j h))
