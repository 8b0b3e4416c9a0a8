-- A text after another is the text of both; a text that fits stands in the buffer whole.
use Rattle.std.specs.Prelude.{◌≡◌, refl, Bool, true, false, List, [], ◌∷◌, ◌++◌, ℕ, ◌+◌, ◌<◌, ◌≤◌, length, set, take, drop, ltb}
use Rattle.std.proofs.Common.{sym, ap, ◌∙◌, append-nil, append_assoc, arith, add-one, length-set, take-append-drop, take-suc-set, drop-set-lt, lt-ltb, le-ltb, ltb-true}
use Rattle.text.specs.Page.{Page, page, put, text}

pub text-append : (p : Page) (xs ys : List ℕ) → text p (xs ++ ys) ≡ text (text p xs) ys
unfolding text
text-append p [] ys = refl
text-append p (x ∷ xs) ys = text-append (put p x) xs ys

put_in : (p : Page) (b : ℕ) → p.at < length p.bytes → put p b ≡ page (set p.bytes p.at b) (p.at + 1)
unfolding put
put_in p b h = rw (lt-ltb p.at (length p.bytes) h, put)

-- a byte in the buffer
pub put-inside : (bytes : List ℕ) (at b : ℕ) → at < length bytes → page (set bytes at b) (at + 1) ≡ text (page bytes at) (b ∷ [])
unfolding text
put-inside bytes at b h = sym (put_in (page bytes at) b h)

-- a byte past its end
pub put-past : (bytes : List ℕ) (at b : ℕ) → length bytes ≤ at → page bytes at ≡ text (page bytes at) (b ∷ [])
unfolding put text
put-past bytes at b h = rw (le-ltb at (length bytes) h, put, text)

-- one text, then the next
pub text-on : (p : Page) {q r : Page} (xs ys : List ℕ) → q ≡ text p xs → r ≡ text q ys → r ≡ text p (xs ++ ys)
text-on p xs ys e f = f ∙ ap (λ s. text s ys) e ∙ sym (text-append p xs ys)

-- a text of two parts, then the next
pub text-then : (p : Page) {q r : Page} (xs ys zs : List ℕ) → q ≡ text p (xs ++ ys) → r ≡ text q zs → r ≡ text p (xs ++ (ys ++ zs))
text-then p xs ys zs e f = text-on p (xs ++ ys) zs e f ∙ ap (text p) (append_assoc xs ys zs)

-- the first byte of a text, then the rest of it
pub text-step : (p : Page) {q : Page} (b : ℕ) (bs : List ℕ) → q ≡ text p (b ∷ []) → text q bs ≡ text p (b ∷ bs)
text-step p b bs e = text-on p (b ∷ []) bs e refl

-- nothing more to write
pub text-end : (p : Page) (bs : List ℕ) → bs ≡ [] → p ≡ text p bs
unfolding text
text-end p bs e = rw e

put-length : (p : Page) (b : ℕ) → length (put p b).bytes ≡ length p.bytes
unfolding put
put-length p b = go (ltb p.at (length p.bytes)) refl
  where
    go : (t : Bool) → ltb p.at (length p.bytes) ≡ t
        → length (elim t as (λ x. Page) [ true ↦ page (set p.bytes p.at b) (p.at + 1) | false ↦ p ]).bytes ≡ length p.bytes
    go true e = length-set p.bytes p.at b
    go false e = refl

-- the buffer keeps its length
pub text-length : (p : Page) (bs : List ℕ) → length (text p bs).bytes ≡ length p.bytes
unfolding text
text-length p [] = refl
text-length p (b ∷ bs) = text-length (put p b) bs ∙ put-length p b

-- two pages on the way to the same one have buffers of one length
pub same_size : (p q : Page) (xs ys : List ℕ) → text p xs ≡ text q ys → length p.bytes ≡ length q.bytes
same_size p q xs ys e = sym (text-length p xs) ∙ ap (λ (s : Page). length s.bytes) e ∙ text-length q ys

-- the offset behind a text that fits
pub text_at : (p : Page) (bs : List ℕ) → p.at + length bs ≤ length p.bytes → (text p bs).at ≡ p.at + length bs
unfolding text
text_at p [] h = omega arith
text_at p (b ∷ bs) h =
    let q = page (set p.bytes p.at b) (p.at + 1) in
    let r : q.at + length bs ≤ length q.bytes = omega (arith, length-set p.bytes p.at b) in
    ap (λ (s : Page). (text s bs).at) (put_in p b (omega arith)) ∙ text_at q bs r ∙ omega arith

-- a text that fits stands behind what was there before
pub text-fits : (p : Page) (bs : List ℕ) → p.at + length bs ≤ length p.bytes
    → take (p.at + length bs) (text p bs).bytes ≡ take p.at p.bytes ++ bs
unfolding text
text-fits p [] h =
    let z : p.at + 0 ≡ p.at = omega arith in
    ap (λ (k : ℕ). take k p.bytes) z ∙ sym (append-nil (take p.at p.bytes))
text-fits p (b ∷ bs) h =
    let q = page (set p.bytes p.at b) (p.at + 1) in
    let i : p.at < length p.bytes = omega arith in
    let r : q.at + length bs ≤ length q.bytes = omega (arith, length-set p.bytes p.at b) in
    let k : p.at + length (b ∷ bs) ≡ q.at + length bs = omega arith in
    let t : take q.at q.bytes ≡ take p.at p.bytes ++ (b ∷ []) = rw add-one (take-suc-set p.bytes p.at b i) in
    ap (λ (s : Page). take (p.at + length (b ∷ bs)) (text s bs).bytes) (put_in p b i)
    ∙ ap (λ (j : ℕ). take j (text q bs).bytes) k ∙ text-fits q bs r
    ∙ ap (λ l. l ++ bs) t ∙ append_assoc (take p.at p.bytes) (b ∷ []) bs

put_on : (p : Page) (b : ℕ) → p.at ≤ length p.bytes → (p.at ≤ (put p b).at) × ((put p b).at ≤ length p.bytes)
unfolding put
put_on p b h = go (ltb p.at (length p.bytes)) refl
  where
    go : (t : Bool) → ltb p.at (length p.bytes) ≡ t
        → let q = elim t as (λ x. Page) [ true ↦ page (set p.bytes p.at b) (p.at + 1) | false ↦ p ] in
        (p.at ≤ q.at) × (q.at ≤ length p.bytes)
    go true e = (omega arith, omega (arith, ltb-true p.at (length p.bytes) e))
    go false e = (omega arith, h)

-- writing goes on towards the end of the buffer, and not past it
pub text-inside : (p : Page) (bs : List ℕ) → p.at ≤ length p.bytes → (p.at ≤ (text p bs).at) × ((text p bs).at ≤ length p.bytes)
unfolding text
text-inside p [] h = (omega arith, h)
text-inside p (b ∷ bs) h =
    let l = put-length p b in
    let o = put_on p b h in
    let t = text-inside (put p b) bs (omega (arith, o.1, l)) in
    (omega (arith, o.0, t.0), omega (arith, t.1, l))

-- a text that fits leaves the bytes behind it
text-past : (p : Page) (bs : List ℕ) → p.at + length bs ≤ length p.bytes
    → drop (p.at + length bs) (text p bs).bytes ≡ drop (p.at + length bs) p.bytes
unfolding text
text-past p [] h = refl
text-past p (b ∷ bs) h =
    let q = page (set p.bytes p.at b) (p.at + 1) in
    let r : q.at + length bs ≤ length q.bytes = omega (arith, length-set p.bytes p.at b) in
    let k : p.at + length (b ∷ bs) ≡ q.at + length bs = omega arith in
    ap (λ (s : Page). drop (p.at + length (b ∷ bs)) (text s bs).bytes) (put_in p b (omega arith))
    ∙ ap (λ (j : ℕ). drop j (text q bs).bytes) k ∙ text-past q bs r
    ∙ drop-set-lt (q.at + length bs) p.bytes p.at b (omega arith)
    ∙ ap (λ (j : ℕ). drop j p.bytes) (sym k)

-- so from the start of a buffer on, it is the text and the bytes behind it
text-first : (bytes bs : List ℕ) → length bs ≤ length bytes → (text (page bytes 0) bs).bytes ≡ bs ++ drop (length bs) bytes
text-first bytes bs h =
    let t = (text (page bytes 0) bs).bytes in
    let z : 0 + length bs ≡ length bs = omega arith in
    let l : 0 + length bs ≤ length bytes = omega arith in
    let front : take (length bs) t ≡ bs = ap (λ (k : ℕ). take k t) (sym z) ∙ text-fits (page bytes 0) bs l in
    let back : drop (length bs) t ≡ drop (length bs) bytes =
    ap (λ (k : ℕ). drop k t) (sym z) ∙ text-past (page bytes 0) bs l ∙ ap (λ (k : ℕ). drop k bytes) z in
    sym (take-append-drop (length bs) t) ∙ ap (λ u. u ++ drop (length bs) t) front ∙ ap (λ u. bs ++ u) back

-- what a buffer holds where a text was written from its start on
pub put_first : (bytes bytes' bs : List ℕ) (end size : ℕ) → page bytes' end ≡ text (page bytes 0) bs → size ≡ length bs → size ≤ length bytes
    → bytes' ≡ bs ++ drop size bytes
put_first bytes bytes' bs end size e n h =
    ap (λ (p : Page). p.bytes) e ∙ text-first bytes bs (omega arith) ∙ ap (λ (k : ℕ). bs ++ drop k bytes) (sym n)
